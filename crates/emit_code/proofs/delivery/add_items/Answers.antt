use Rattle.emit_code.specs.Delivery.{item_code}
use Rattle.emit_code.specs.Framed.{entries_in}
use Rattle.emit_code.proofs.Added.{joined-more}
use Rattle.emit_code.proofs.delivery.add_items.Goals as goal

pub loop-listener-preserved : goal.loop-listener-preserved
loop-listener-preserved c =
    let out = c.args.out in
    joined-more (item_code (entries_in c.args.frames.now) out.counter out.buffer out.scratch out.width) c.args.listeners.now c.loop-listener.listener-index _ c.args.code.now c.loop-listener.code c.add_item.new.code c.loop-listener-test.true c.loop-listener.invariant c.in_ok-add_item.ensures.ok
