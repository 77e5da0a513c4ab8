use Rattle.channel_graph.proofs.Listed.{listener_exists}
use Rattle.emit_code.proofs.Joined.{within_on, heard_next, all_heard}
use Rattle.emit_code.proofs.subscribers.channel_subscribers.Goals as goal

pub attachment-requires : goal.attachment-requires
attachment-requires c =
    rw c.listeners-listener-items.ensures.value
    (listener_exists c.args.arch.now c.listeners-listener-items.ensures.numbered.listeners c.loop-listener.listener-index _ (rw c.listeners-listener-items.ensures.value at c.loop-listener-test.true))

pub join-requires : goal.join-requires
join-requires c = within_on c.args.arch.now _ c.attachment.result c.loop-listener.invariant.each c.attachment.ensures.numbered

pub loop-listener-preserved : goal.loop-listener-preserved
loop-listener-preserved c =
    heard_next c.args.arch.now c.listeners-listener-items.result.now c.loop-listener.listener-index _ c.attachment.result c.loop-listener.heard.items c.join.new.heard.items c.loop-listener-test.true c.loop-listener.invariant c.attachment.ensures.on c.in_ok-join.ensures

pub returns-clause-heard : goal.returns-clause-heard
returns-clause-heard c =
    all_heard c.args.arch.now c.listeners-listener-items.result.now c.args.arch.now.listeners c.loop-listener.listener-index c.loop-listener.heard.items c.loop-listener-test.false c.listeners-listener-items.ensures.value c.loop-listener.invariant
