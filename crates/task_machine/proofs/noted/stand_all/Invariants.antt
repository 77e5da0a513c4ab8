use Rattle.std.proofs.Common.{◌≡◌, ℕ, ◌<◌, length, Some, slice_get}
use Rattle.task_machine.specs.Noted.{ready_by}
use Rattle.task_machine.proofs.noted.stand_all.Given as goal

abbrev pub invariant-loop-x : goal.invariant-loop-x
invariant-loop-x l = record {
  each : (y : ℕ) → y < l.x → slice_get l.ready.items y ≡ Some (ready_by l.clear l.running y);
  count : length l.ready.items ≡ length l.initial.ready.items;
}
