use Rattle.std.proofs.Common.{◌≡◌, ℕ, ◌/◌, ◌<◌, length, Some, slice_get}
use Rattle.task_machine.specs.Bits.{bit}
use Rattle.task_machine.proofs.bits.mark.Given as goal

abbrev pub invariant-loop-k : goal.invariant-loop-k
invariant-loop-k l = record {
  done : (y : ℕ) → y / 64 < l.k → bit l.bits y ≡ 1 → slice_get l.ready.items y ≡ Some l.flag;
  others : (y : ℕ) → bit l.bits y ≡ 0 → slice_get l.ready.items y ≡ slice_get l.initial.ready.items y;
  count : length l.ready.items ≡ length l.initial.ready.items;
}
