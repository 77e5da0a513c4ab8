use Rattle.std.proofs.Common.{◌≡◌, ℕ, Some, map, length, slice_get}
use Rattle.tower_syntax.specs.View.{entry_of}
use Rattle.task_machine.specs.Queue.{Queue}
use Rattle.task_machine.specs.Brought.{kind_in, depth_at}
use Rattle.task_machine.specs.Kept.{coming}
use Rattle.task_machine.specs.Start.{Starts}
use Rattle.task_machine.proofs.start.first_queues.Given as goal

abbrev pub invariant-loop-x : goal.invariant-loop-x
invariant-loop-x l = record {
  count : length l.queues.items ≡ l.x;
  each : (y : ℕ) (q : Queue) → slice_get l.queues.items y ≡ Some q → Starts (kind_in l.kinds y) (depth_at l.depths y) (coming (kind_in l.kinds y) y 0 (map entry_of l.entries)) q;
}
