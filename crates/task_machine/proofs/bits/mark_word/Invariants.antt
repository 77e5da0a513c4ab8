use Rattle.std.proofs.Common.{◌≡◌, ℕ, ◌+◌, ◌*◌, ◌<◌, length, Some, slice_get}
use Rattle.std.specs.Int.{bit_at}
use Rattle.task_machine.proofs.bits.mark_word.Given as goal

abbrev pub invariant-loop : goal.invariant-loop
invariant-loop l = record {
  low : (i : ℕ) → i < l.counter → bit_at l.left i ≡ 0;
  among : (i : ℕ) → i < 64 → bit_at l.left i ≡ 1 → bit_at l.word i ≡ 1;
  done : (i : ℕ) → i < 64 → bit_at l.word i ≡ 1 → bit_at l.left i ≡ 0 → slice_get l.ready.items (64 * l.k + i) ≡ Some l.flag;
  others : (y : ℕ) → ((i : ℕ) → i < 64 → bit_at l.word i ≡ 1 → y ≡ 64 * l.k + i → ⊥) → slice_get l.ready.items y ≡ slice_get l.initial.ready.items y;
  count : length l.ready.items ≡ length l.initial.ready.items;
}
