use Rattle.std.proofs.Common.{◌≡◌, ◌∙◌, length, ap, sym, subst}
use Rattle.tower_types.specs.Ty.{table_of}
use Rattle.tower_types.specs.View.{ty_of, fields_of}
use Rattle.tower_syntax.specs.Weights.{no_shape, shape_at, field_shapes, states_of}
use Rattle.tower_syntax.specs.WellNumbered.{AreNumberedFields}
use Rattle.channel_graph.specs.Scoped.{HasShape}
use Rattle.channel_graph.proofs.Looked.{field_found, field_none, states_read}
use Rattle.channel_graph.proofs.scope.Scope.state_type.Goals as goal

pub returns-in-Some : goal.returns-in-Some
returns-in-Some c =
    let inner = states_read c.self.inside.arch.now c.self.inside.handler.now.monitor c.monitor-monitor.result.now c.monitor-monitor.ensures.value in
    let numbered = subst (AreNumberedFields (length c.self.inside.arch.now.records)) (sym inner) c.monitor-monitor.ensures.numbered in
    let same = ap fields_of c.as_slice.ensures ∙ sym inner in
    let at = c.in-Some.ensures.lookup.3 in
    let found = field_found c.self.inside.arch.now (states_of c.self.inside.arch.now c.self.inside.handler.now.monitor) c.as_slice.result.now c.args.k c.in-Some.field-0.now numbered same at.0 (at.1 c.in-Some.field-0.now) in
    subst (λ s. HasShape s.arch (shape_at (field_shapes (table_of s.arch.records) (states_of s.arch s.handler.monitor)) c.args.k) (ty_of c.in-Some.field-0.now.1)) c.self.view_is found

pub returns-in-None : goal.returns-in-None
returns-in-None c =
    let inner = states_read c.self.inside.arch.now c.self.inside.handler.now.monitor c.monitor-monitor.result.now c.monitor-monitor.ensures.value in
    let same = ap fields_of c.as_slice.ensures ∙ sym inner in
    let none = field_none c.self.inside.arch.now (states_of c.self.inside.arch.now c.self.inside.handler.now.monitor) c.as_slice.result.now c.args.k same c.in-None.ensures.lookup.3 in
    subst (λ s. shape_at (field_shapes (table_of s.arch.records) (states_of s.arch s.handler.monitor)) c.args.k ≡ no_shape) c.self.view_is none
