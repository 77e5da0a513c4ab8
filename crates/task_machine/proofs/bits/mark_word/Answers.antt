use Rattle.std.proofs.Common.{◌≡◌, ℕ, ◌+◌, ◌*◌, ◌<◌, ◌≤◌, ◌^◌, length, Some, slice_get, slice_set, arith, sym, ap, ◌∙◌, refl, inl, inr}
use Rattle.std.specs.Int.{bit_at, w64, trailing_zeros}
use Rattle.std.proofs.Math.ListN.{length-set}
use Rattle.std.proofs.lemmas.Bool.{cases_eq, cases_lt}
use Rattle.std.proofs.lemmas.Nat.Bits.{bit_at-trailing_zeros, bit_at_clear_same, bit_at_clear_other}
use Rattle.task_machine.proofs.Kept.{get_set_same, get_set_other}
use Rattle.task_machine.proofs.bits.mark_word.Goals as goal

-- the lowest bit of a word that is not 0
lowest : (n : ℕ) → (n ≡ 0 → ⊥) → n < 2 ^ 64 → (trailing_zeros w64 n < 64) × (bit_at n (trailing_zeros w64 n) ≡ 1) × ((i : ℕ) → i < trailing_zeros w64 n → bit_at n i ≡ 0)
lowest n h s = bit_at-trailing_zeros w64 n (omega arith) s

pub loop-init : goal.loop-init
loop-init c = record {
  low = λ i h. absurd (omega arith);
  among = λ i h e. e;
  done = λ i h e f. absurd (let g : 1 ≡ 0 = sym e ∙ f in omega arith);
  others = λ y h. refl;
  count = refl;
}

pub overflow_mul-k : goal.overflow_mul-k
overflow_mul-k c =
    let small : c.loop.left < 2 ^ 64 = omega arith in
    let t = lowest c.loop.left c.if-left-eq0.false small in
    let b = c.requires (trailing_zeros w64 c.loop.left) t.0 (c.loop.invariant.among _ t.0 t.1) in
    let n = c.loop.invariant.count in
    omega (arith, b, n, c.loop.ready.ok.0)

pub overflow_add-k : goal.overflow_add-k
overflow_add-k c =
    let small : c.loop.left < 2 ^ 64 = omega arith in
    let t = lowest c.loop.left c.if-left-eq0.false small in
    let b = c.requires (trailing_zeros w64 c.loop.left) t.0 (c.loop.invariant.among _ t.0 t.1) in
    let n = c.loop.invariant.count in
    omega (arith, b, n, c.loop.ready.ok.0)

pub index_mut-requires : goal.index_mut-requires
index_mut-requires c =
    let small : c.loop.left < 2 ^ 64 = omega arith in
    let t = lowest c.loop.left c.if-left-eq0.false small in
    let b = c.requires (trailing_zeros w64 c.loop.left) t.0 (c.loop.invariant.among _ t.0 t.1) in
    let n = c.loop.invariant.count in
    omega (arith, b, n, c.loop.ready.ok.0)

pub loop-preserved : goal.loop-preserved
loop-preserved c =
    let left = c.loop.left in
    let i = trailing_zeros w64 left in
    let flags = c.loop.ready.items in
    let at = 64 * c.args.k + i in
    let inv = c.loop.invariant in
    let small : left < 2 ^ 64 = omega arith in
    let t = lowest left c.if-left-eq0.false small in
    let set = inv.among i t.0 t.1 in
    let within : at < length flags = let b = c.requires i t.0 set in let n = inv.count in omega (arith, b, n) in
    let past : c.loop.counter ≤ i = elim (cases_lt i c.loop.counter) [
      | inl l ↦ absurd (let g : 1 ≡ 0 = sym t.1 ∙ inv.low i l in omega arith)
      | inr l ↦ l
    ] in
    let gone = bit_at_clear_same w64 left i t.0 in
    let kept = bit_at_clear_other w64 left i t.0 in
    record {
      low = λ j h. elim (cases_eq j i) [
        | inl same ↦ rw same gone
        | inr o ↦ kept j (omega (arith, h, past, t.0)) o ∙ elim (cases_lt j c.loop.counter) [
          | inl l ↦ inv.low j l
          | inr l ↦ t.2 j (omega (arith, h, l, past, o))
        ]
      ];
      among = λ j h e. elim (cases_eq j i) [
        | inl same ↦ absurd (let g : 1 ≡ 0 = sym e ∙ rw same gone in omega arith)
        | inr o ↦ inv.among j h (sym (kept j h o) ∙ e)
      ];
      done = λ j h e f. elim (cases_eq j i) [
        | inl same ↦ rw same (get_set_same flags at c.args.flag within)
        | inr o ↦ get_set_other flags at (64 * c.args.k + j) c.args.flag (λ d. o (omega arith)) ∙ inv.done j h e (sym (kept j h o) ∙ f)
      ];
      others = λ y h. get_set_other flags at y c.args.flag (λ e. h i t.0 set e) ∙ inv.others y h;
      count = length-set flags at c.args.flag ∙ inv.count;
    }
