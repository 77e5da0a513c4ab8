use Rattle.emit_code.specs.Framed.{entries_in}
use Rattle.emit_code.proofs.Added.{joined-more}
use Rattle.task_build.specs.CodeOf.{call_code}
use Rattle.task_build.proofs.heads.add_calls.Goals as goal

pub loop-listener-preserved : goal.loop-listener-preserved
loop-listener-preserved c =
    joined-more (call_code (entries_in c.args.table.now) c.args.taken c.args.width) c.args.listeners.now c.loop-listener.listener-index _ c.args.code.now c.loop-listener.code c.add_call.new.code c.loop-listener-test.true c.loop-listener.invariant c.in_ok-add_call.ensures
