use Rattle.std.proofs.Common.{◌≡◌, ℕ, ◌<◌, length, true, false, Some, slice_get}
use Rattle.task_machine.specs.Arriving.{reaches}
use Rattle.task_machine.specs.Noted.{ready_by}
use Rattle.task_machine.proofs.noted.stand_reached.Given as goal

abbrev pub invariant-loop-x : goal.invariant-loop-x
invariant-loop-x l = record {
  reached : (y : ℕ) → y < l.x → reaches (Some l.arrival) l.running y ≡ true → slice_get l.ready.items y ≡ Some (ready_by l.clear l.running y);
  others : (y : ℕ) → reaches (Some l.arrival) l.running y ≡ false → slice_get l.ready.items y ≡ slice_get l.initial.ready.items y;
  count : length l.ready.items ≡ length l.initial.ready.items;
}
