use Rattle.std.proofs.Common.{arith, append-nil}
use Rattle.std.proofs.lemmas.List.Elements.{filter_more}
use Rattle.std.proofs.lemmas.Grind.{common_steps}
use Rattle.tower_syntax.specs.Graph.{hears}
use Rattle.channel_graph.proofs.Listed.{listener_exists, hears-attached}
use Rattle.channel_graph.proofs.listening.subscribers.Goals as goal

pub attachment-requires : goal.attachment-requires
attachment-requires c =
    rw c.listeners-listener-items.ensures.value
    (listener_exists c.args.arch.now c.listeners-listener-items.ensures.numbered.listeners c.loop-listener.listener-index _ (rw c.listeners-listener-items.ensures.value at c.loop-listener-test.true))

pub loop-listener-preserved : goal.loop-listener-preserved
loop-listener-preserved c =
    grind (arith, common_steps, filter_more (hears c.args.arch.now c.args.on), append-nil, hears-attached)
