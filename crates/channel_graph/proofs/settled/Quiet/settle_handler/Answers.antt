use Rattle.std.proofs.Common.{◌≡◌, false, get_or, refl, subst, sym}
use Rattle.tower_syntax.specs.Graph.{handler}
use Rattle.channel_graph.specs.Reaching.{AreOpen}
use Rattle.channel_graph.specs.Settled.{IsQuiet}
use Rattle.channel_graph.proofs.Peeled.{quiet_handler}
use Rattle.channel_graph.proofs.settled.Quiet.settle_handler.Goals as goal

pub returns-then-are_open : goal.returns-then-are_open
returns-then-are_open c =
    let arch = c.args.arch.now in
    let q = c.args.self.now in
    let k = c.args.k in
    let none : get_or q.handlers k false ≡ false = subst (λ ms. get_or ms k false ≡ false) c.as_slice.ensures c.if-not-as_slice-k.true in
    let opened : AreOpen q.channels (handler arch k).emitters = subst (λ ms. AreOpen ms (handler arch k).emitters) c.as_slice-then-not-as_slice-k.ensures (c.if-are_open.ensures refl) in
    subst (λ ms. IsQuiet arch (record q { handlers = ms })) (sym c.set.ensures) (quiet_handler arch q k c.requires.listed c.requires.quiet c.requires.handler none opened)
