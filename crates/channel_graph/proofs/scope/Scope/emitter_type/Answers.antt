use Rattle.std.proofs.Common.{map, ap, subst}
use Rattle.tower_types.specs.Ty.{shape_in, table_of}
use Rattle.tower_types.specs.View.{ty_of}
use Rattle.tower_syntax.specs.View.{emitter_of, handler_of}
use Rattle.tower_syntax.specs.Weights.{shape_at, channel_message}
use Rattle.channel_graph.specs.Scoped.{HasShape}
use Rattle.channel_graph.proofs.Looked.{emitter_found, emitter_below}
use Rattle.channel_graph.proofs.scope.Scope.emitter_type.Goals as goal

pub channel-requires : goal.channel-requires
channel-requires c =
    let at = c.in-Some.ensures.lookup.3 in
    emitter_below c.self.inside.arch.now (handler_of c.self.inside.handler.now) c.as_slice.result.now c.args.k c.in-Some.emitter.now (ap (map emitter_of) c.as_slice.ensures) c.self.invariant.handler.emitters at.0 (at.1 c.in-Some.emitter.now)

pub returns-in-Some : goal.returns-in-Some
returns-in-Some c =
    let at = c.in-Some.ensures.lookup.3 in
    let found = emitter_found c.self.inside.arch.now (handler_of c.self.inside.handler.now) c.as_slice.result.now c.args.k c.in-Some.emitter.now c.channel.result.now (ap (map emitter_of) c.as_slice.ensures) at.0 (at.1 c.in-Some.emitter.now) c.channel.ensures.value c.channel.ensures.numbered in
    subst (λ s. HasShape s.arch (shape_at (map (λ y. shape_in (table_of s.arch.records) (channel_message s.arch y.channel)) s.handler.emitters) c.args.k) (ty_of c.channel.result.now.message)) c.self.view_is found
