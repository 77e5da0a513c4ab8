-- The test for the same type tells exactly that.
use Rattle.std.proofs.Common.{◌≡◌, ◌↔◌, ℕ, List, Bool, true, false, IsTrue, ◌&&◌, nat_eq, Some, None, refl, ap, sym, arith}
use Rattle.std.proofs.lemmas.Bool.{false≢true}
use Rattle.tower_types.specs.declared.scalar.Scalar.{Scalar}
use Rattle.tower_types.specs.declared.scalar.Scalar.TheVariants as is
use Rattle.tower_types.specs.Ty.{Ty, Name, scalar, array, rec}
use Rattle.arch_types.specs.Wanted.{same_scalar, same, misfit, exactly, type_text}
use Rattle.arch_types.specs.declared.fault.Want.TheVariants as want
use Rattle.arch_types.specs.declared.fault.TypeFault.{TypeFault}
use Rattle.arch_types.specs.declared.fault.TypeFault.TheVariants as fault

pub nat_eq_refl : (n : ℕ) → nat_eq n n ≡ true
nat_eq_refl n = grind arith

pub nat_eq_true : (n m : ℕ) → nat_eq n m ≡ true → n ≡ m
nat_eq_true n m h = grind arith

pub both : (a b : Bool) → a && b ≡ true → (a ≡ true) × (b ≡ true)
both a b h = grind arith

pub not_true : (b : Bool) → (b ≡ true → ⊥) → b ≡ false
not_true true h = absurd (h refl)
not_true false h = refl

pub same_scalar_refl : (s : Scalar) → same_scalar s s ≡ true
same_scalar_refl is.Bool = refl
same_scalar_refl is.U8 = refl
same_scalar_refl is.U16 = refl
same_scalar_refl is.U32 = refl
same_scalar_refl is.U64 = refl
same_scalar_refl is.I8 = refl
same_scalar_refl is.I16 = refl
same_scalar_refl is.I32 = refl
same_scalar_refl is.I64 = refl
same_scalar_refl (is.Ix n) = nat_eq_refl n

pub same_refl : (t : Ty) → same t t ≡ true
same_refl (scalar s) = same_scalar_refl s
same_refl (array n t) = rw (nat_eq_refl n, same_refl t) refl
same_refl (rec r) = nat_eq_refl r

pub same_scalar_true : (s t : Scalar) → same_scalar s t ≡ true → s ≡ t
same_scalar_true is.Bool is.Bool h = refl
same_scalar_true is.Bool is.U8 h = absurd (false≢true h)
same_scalar_true is.Bool is.U16 h = absurd (false≢true h)
same_scalar_true is.Bool is.U32 h = absurd (false≢true h)
same_scalar_true is.Bool is.U64 h = absurd (false≢true h)
same_scalar_true is.Bool is.I8 h = absurd (false≢true h)
same_scalar_true is.Bool is.I16 h = absurd (false≢true h)
same_scalar_true is.Bool is.I32 h = absurd (false≢true h)
same_scalar_true is.Bool is.I64 h = absurd (false≢true h)
same_scalar_true is.Bool (is.Ix m) h = absurd (false≢true h)
same_scalar_true is.U8 is.Bool h = absurd (false≢true h)
same_scalar_true is.U8 is.U8 h = refl
same_scalar_true is.U8 is.U16 h = absurd (false≢true h)
same_scalar_true is.U8 is.U32 h = absurd (false≢true h)
same_scalar_true is.U8 is.U64 h = absurd (false≢true h)
same_scalar_true is.U8 is.I8 h = absurd (false≢true h)
same_scalar_true is.U8 is.I16 h = absurd (false≢true h)
same_scalar_true is.U8 is.I32 h = absurd (false≢true h)
same_scalar_true is.U8 is.I64 h = absurd (false≢true h)
same_scalar_true is.U8 (is.Ix m) h = absurd (false≢true h)
same_scalar_true is.U16 is.Bool h = absurd (false≢true h)
same_scalar_true is.U16 is.U8 h = absurd (false≢true h)
same_scalar_true is.U16 is.U16 h = refl
same_scalar_true is.U16 is.U32 h = absurd (false≢true h)
same_scalar_true is.U16 is.U64 h = absurd (false≢true h)
same_scalar_true is.U16 is.I8 h = absurd (false≢true h)
same_scalar_true is.U16 is.I16 h = absurd (false≢true h)
same_scalar_true is.U16 is.I32 h = absurd (false≢true h)
same_scalar_true is.U16 is.I64 h = absurd (false≢true h)
same_scalar_true is.U16 (is.Ix m) h = absurd (false≢true h)
same_scalar_true is.U32 is.Bool h = absurd (false≢true h)
same_scalar_true is.U32 is.U8 h = absurd (false≢true h)
same_scalar_true is.U32 is.U16 h = absurd (false≢true h)
same_scalar_true is.U32 is.U32 h = refl
same_scalar_true is.U32 is.U64 h = absurd (false≢true h)
same_scalar_true is.U32 is.I8 h = absurd (false≢true h)
same_scalar_true is.U32 is.I16 h = absurd (false≢true h)
same_scalar_true is.U32 is.I32 h = absurd (false≢true h)
same_scalar_true is.U32 is.I64 h = absurd (false≢true h)
same_scalar_true is.U32 (is.Ix m) h = absurd (false≢true h)
same_scalar_true is.U64 is.Bool h = absurd (false≢true h)
same_scalar_true is.U64 is.U8 h = absurd (false≢true h)
same_scalar_true is.U64 is.U16 h = absurd (false≢true h)
same_scalar_true is.U64 is.U32 h = absurd (false≢true h)
same_scalar_true is.U64 is.U64 h = refl
same_scalar_true is.U64 is.I8 h = absurd (false≢true h)
same_scalar_true is.U64 is.I16 h = absurd (false≢true h)
same_scalar_true is.U64 is.I32 h = absurd (false≢true h)
same_scalar_true is.U64 is.I64 h = absurd (false≢true h)
same_scalar_true is.U64 (is.Ix m) h = absurd (false≢true h)
same_scalar_true is.I8 is.Bool h = absurd (false≢true h)
same_scalar_true is.I8 is.U8 h = absurd (false≢true h)
same_scalar_true is.I8 is.U16 h = absurd (false≢true h)
same_scalar_true is.I8 is.U32 h = absurd (false≢true h)
same_scalar_true is.I8 is.U64 h = absurd (false≢true h)
same_scalar_true is.I8 is.I8 h = refl
same_scalar_true is.I8 is.I16 h = absurd (false≢true h)
same_scalar_true is.I8 is.I32 h = absurd (false≢true h)
same_scalar_true is.I8 is.I64 h = absurd (false≢true h)
same_scalar_true is.I8 (is.Ix m) h = absurd (false≢true h)
same_scalar_true is.I16 is.Bool h = absurd (false≢true h)
same_scalar_true is.I16 is.U8 h = absurd (false≢true h)
same_scalar_true is.I16 is.U16 h = absurd (false≢true h)
same_scalar_true is.I16 is.U32 h = absurd (false≢true h)
same_scalar_true is.I16 is.U64 h = absurd (false≢true h)
same_scalar_true is.I16 is.I8 h = absurd (false≢true h)
same_scalar_true is.I16 is.I16 h = refl
same_scalar_true is.I16 is.I32 h = absurd (false≢true h)
same_scalar_true is.I16 is.I64 h = absurd (false≢true h)
same_scalar_true is.I16 (is.Ix m) h = absurd (false≢true h)
same_scalar_true is.I32 is.Bool h = absurd (false≢true h)
same_scalar_true is.I32 is.U8 h = absurd (false≢true h)
same_scalar_true is.I32 is.U16 h = absurd (false≢true h)
same_scalar_true is.I32 is.U32 h = absurd (false≢true h)
same_scalar_true is.I32 is.U64 h = absurd (false≢true h)
same_scalar_true is.I32 is.I8 h = absurd (false≢true h)
same_scalar_true is.I32 is.I16 h = absurd (false≢true h)
same_scalar_true is.I32 is.I32 h = refl
same_scalar_true is.I32 is.I64 h = absurd (false≢true h)
same_scalar_true is.I32 (is.Ix m) h = absurd (false≢true h)
same_scalar_true is.I64 is.Bool h = absurd (false≢true h)
same_scalar_true is.I64 is.U8 h = absurd (false≢true h)
same_scalar_true is.I64 is.U16 h = absurd (false≢true h)
same_scalar_true is.I64 is.U32 h = absurd (false≢true h)
same_scalar_true is.I64 is.U64 h = absurd (false≢true h)
same_scalar_true is.I64 is.I8 h = absurd (false≢true h)
same_scalar_true is.I64 is.I16 h = absurd (false≢true h)
same_scalar_true is.I64 is.I32 h = absurd (false≢true h)
same_scalar_true is.I64 is.I64 h = refl
same_scalar_true is.I64 (is.Ix m) h = absurd (false≢true h)
same_scalar_true (is.Ix n) is.Bool h = absurd (false≢true h)
same_scalar_true (is.Ix n) is.U8 h = absurd (false≢true h)
same_scalar_true (is.Ix n) is.U16 h = absurd (false≢true h)
same_scalar_true (is.Ix n) is.U32 h = absurd (false≢true h)
same_scalar_true (is.Ix n) is.U64 h = absurd (false≢true h)
same_scalar_true (is.Ix n) is.I8 h = absurd (false≢true h)
same_scalar_true (is.Ix n) is.I16 h = absurd (false≢true h)
same_scalar_true (is.Ix n) is.I32 h = absurd (false≢true h)
same_scalar_true (is.Ix n) is.I64 h = absurd (false≢true h)
same_scalar_true (is.Ix n) (is.Ix m) h = ap is.Ix (nat_eq_true n m h)

pub same_true : (t u : Ty) → same t u ≡ true → t ≡ u
same_true (scalar s) (scalar t) h = ap scalar (same_scalar_true s t h)
same_true (scalar s) (array m u) h = absurd (false≢true h)
same_true (scalar s) (rec q) h = absurd (false≢true h)
same_true (array n t) (scalar s) h = absurd (false≢true h)
same_true (array n t) (array m u) h = let p = both _ _ h in (λ i. array (nat_eq_true n m p.0 i) (same_true t u p.1 i))
same_true (array n t) (rec q) h = absurd (false≢true h)
same_true (rec r) (scalar s) h = absurd (false≢true h)
same_true (rec r) (array m u) h = absurd (false≢true h)
same_true (rec r) (rec q) h = ap rec (nat_eq_true r q h)

pub same_is : (t u : Ty) (b : Bool) → IsTrue b ↔ (t ≡ u) → same t u ≡ b
same_is t u true h = rw (sym (h.0 refl)) (same_refl t)
same_is t u false h = not_true (same t u) (λ k. false≢true (h.1 (same_true t u k)))

module _ (names : List Name) (at : ℕ) (t u : Ty) (b : Bool) (h : IsTrue b ↔ (t ≡ u)) where
  pub is_same : b ≡ true → misfit names at (exactly t) u ≡ None
  is_same k = rw (same_is t u b h, k) refl

  pub is_other : (v w : List ℕ) (f : TypeFault) → b ≡ false → v ≡ type_text names t → w ≡ type_text names u → f ≡ fault.Mismatch at (want.Exactly v) w → misfit names at (exactly t) u ≡ Some f
  is_other v w f k p q e = rw (same_is t u b h, k, e, p, q) refl
