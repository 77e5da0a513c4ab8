use Rattle.std.proofs.Common.{length, subst, sym}
use Rattle.tower_syntax.specs.Graph.{handler}
use Rattle.channel_graph.specs.Deep.{IsKnown, IsTop, emitted}
use Rattle.channel_graph.proofs.Sounded.{known_handler}
use Rattle.channel_graph.proofs.depths.Known.settle_handler.Goals as goal

pub returns-in-Some : goal.returns-in-Some
returns-in-Some c =
    let arch = c.args.arch.now in
    let q = c.args.self.now in
    let k = c.args.k in
    let top = subst (λ ms. IsTop ms 1 c.in-Some.most (length (handler arch k).emitters) (emitted arch k)) c.as_slice.ensures c.in-Some.ensures in
    subst (λ ms. IsKnown arch (record q { handlers = ms })) (sym c.set.ensures) (known_handler arch q k c.in-Some.most c.requires.listed c.requires.known c.requires.handler top)
