-- The codes of the trees of types and values, by which a struct may have them in its model.
use Rattle.std.proofs.Common.{◌≡◌, ◌≢◌, ℕ, refl, ap, arith}
use Rattle.std.specs.Coded.{Coded, coded_ℕ, coded_ℤ}
use base.Stored.{Gv, gnil, gnum, gcons}
use Rattle.tower_types.specs.contracts.scalar.Scalar as scalars
use Rattle.tower_types.specs.Ty.{Ty, scalar, array, rec}
use Rattle.tower_types.specs.Value.{Value, word, parts, Values, no_values, value}

abbrev head : Gv → Gv
head gnil = gnil
head (gnum n) = gnil
head (gcons a b) = a

abbrev tail : Gv → Gv
tail gnil = gnil
tail (gnum n) = gnil
tail (gcons a b) = b

-- the number of the constructor
abbrev tag : Gv → ℕ
tag gnil = 0
tag (gnum n) = n
tag (gcons gnil b) = 0
tag (gcons (gnum n) b) = n
tag (gcons (gcons a c) b) = 0

differ : (m n : ℕ) → m ≡ n → m ≢ n → ⊥
differ m n p other = other p

abbrev pub code_ty : Ty → Gv
code_ty (scalar a0) = gcons (gnum 0) (scalars.the_row.coded.code a0)
code_ty (array a0 a1) = gcons (gnum 1) (gcons (coded_ℕ.code a0) (code_ty a1))
code_ty (rec a0) = gcons (gnum 2) (coded_ℕ.code a0)

pub inj_ty : (x y : Ty) → code_ty x ≡ code_ty y → x ≡ y
inj_ty (scalar a0) (scalar b0) p = λ i. scalar (scalars.the_row.coded.inj a0 b0 (ap (λ g. tail g) p) i)
inj_ty (scalar a0) (array b0 b1) p = absurd (differ 0 1 (ap tag p) (omega arith))
inj_ty (scalar a0) (rec b0) p = absurd (differ 0 2 (ap tag p) (omega arith))
inj_ty (array a0 a1) (scalar b0) p = absurd (differ 1 0 (ap tag p) (omega arith))
inj_ty (array a0 a1) (array b0 b1) p = λ i. array (coded_ℕ.inj a0 b0 (ap (λ g. head (tail g)) p) i) (inj_ty a1 b1 (ap (λ g. tail (tail g)) p) i)
inj_ty (array a0 a1) (rec b0) p = absurd (differ 1 2 (ap tag p) (omega arith))
inj_ty (rec a0) (scalar b0) p = absurd (differ 2 0 (ap tag p) (omega arith))
inj_ty (rec a0) (array b0 b1) p = absurd (differ 2 1 (ap tag p) (omega arith))
inj_ty (rec a0) (rec b0) p = λ i. rec (coded_ℕ.inj a0 b0 (ap (λ g. tail g) p) i)

abbrev pub coded_ty : Coded Ty
coded_ty = record { code = code_ty; inj = inj_ty }

abbrev mutual
  pub code_value : Value → Gv
  code_value (word a0) = gcons (gnum 0) (coded_ℤ.code a0)
  code_value (parts a0) = gcons (gnum 1) (code_values a0)

  pub code_values : Values → Gv
  code_values no_values = gnum 0
  code_values (value a0 a1) = gcons (gnum 1) (gcons (code_value a0) (code_values a1))

mutual
  pub inj_value : (x y : Value) → code_value x ≡ code_value y → x ≡ y
  inj_value (word a0) (word b0) p = λ i. word (coded_ℤ.inj a0 b0 (ap (λ g. tail g) p) i)
  inj_value (word a0) (parts b0) p = absurd (differ 0 1 (ap tag p) (omega arith))
  inj_value (parts a0) (word b0) p = absurd (differ 1 0 (ap tag p) (omega arith))
  inj_value (parts a0) (parts b0) p = λ i. parts (inj_values a0 b0 (ap (λ g. tail g) p) i)

  pub inj_values : (x y : Values) → code_values x ≡ code_values y → x ≡ y
  inj_values no_values no_values p = refl
  inj_values no_values (value b0 b1) p = absurd (differ 0 1 (ap tag p) (omega arith))
  inj_values (value a0 a1) no_values p = absurd (differ 1 0 (ap tag p) (omega arith))
  inj_values (value a0 a1) (value b0 b1) p = λ i. value (inj_value a0 b0 (ap (λ g. head (tail g)) p) i) (inj_values a1 b1 (ap (λ g. tail (tail g)) p) i)

abbrev pub coded_value : Coded Value
coded_value = record { code = code_value; inj = inj_value }

abbrev pub coded_values : Coded Values
coded_values = record { code = code_values; inj = inj_values }
