use Rattle.std.proofs.Common.{refl}
use Rattle.tower_syntax.specs.View.{events_of}
use Rattle.task_machine.proofs.Starting.{kept_start, waiting_start, lost_start}
use Rattle.task_machine.proofs.running.Running.new.Goals as goal

pub invariant_of-result : goal.invariant_of-result
invariant_of-result c =
    let count = rw c.as_slice-2.ensures at c.in_ok-queues.ensures.count in
    let each = rw (c.as_slice-2.ensures, c.as_slice-3.ensures, c.as_slice-4.ensures) at c.in_ok-queues.ensures.queues in
    record {
      kept = rw (c.in_ok-tasks.ensures, c.tasks.ensures.tasks, c.in_ok-locks.ensures, c.monitors.ensures, c.in_ok-messages.ensures, c.as_slice.ensures, c.in_ok-holds.ensures, c.tasks-2.ensures.tasks)
          (kept_start c.args.program (events_of c.args.events) c.in_ok-queues.queues.items count each c.requires);
      known = tt;
    }

pub returns : goal.returns
returns c =
    let count = rw c.as_slice-2.ensures at c.in_ok-queues.ensures.count in
    let each = rw (c.as_slice-2.ensures, c.as_slice-3.ensures, c.as_slice-4.ensures) at c.in_ok-queues.ensures.queues in
    let waits = waiting_start c.args.program (events_of c.args.events) c.in_ok-queues.queues.items count each in
    let drops = lost_start c.args.program (events_of c.args.events) c.in_ok-queues.queues.items count each in
    rw (c.in_ok-tasks.ensures, c.tasks.ensures.tasks, c.in_ok-locks.ensures, c.monitors.ensures, waits, drops) refl
