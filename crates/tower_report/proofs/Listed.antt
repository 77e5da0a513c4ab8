-- The texts of a list of values.
use Rattle.std.proofs.Common.{◌≡◌, ℕ, zero, suc, ◌<◌, min, List, [], ◌∷◌, length, get_or, refl, sym, ap, ◌∙◌, arith}
use Rattle.tower_types.specs.Ty.{Shape, shapes_of}
use Rattle.tower_types.specs.View.{value_of, all_values_of}
use Rattle.tower_types.specs.declared.value.Value.{Value as ValueValue}
use Rattle.tower_report.specs.Bytes.{Bytes}
use Rattle.tower_report.specs.ValueText.{value_text, texts_of_values, each_text}

-- ---- of an array

pub each_length : (s : Shape) (vs : List ValueValue) → length (each_text (value_text s) (all_values_of vs)) ≡ length vs
each_length s [] = refl
each_length s (v ∷ vs) = omega (arith, each_length s vs)

pub each_at : (s : Shape) (vs : List ValueValue) (i : ℕ) (v : ValueValue) → i < length vs → v ≡ get_or vs i v → get_or (each_text (value_text s) (all_values_of vs)) i [] ≡ value_text s (value_of v)
each_at s [] i v h at = absurd (omega arith)
each_at s (x ∷ xs) zero v h at = ap (λ y. value_text s (value_of y)) (sym at)
each_at s (x ∷ xs) (suc i) v h at = each_at s xs i v (omega arith) at

-- ---- of a record

pub values_length : (ss : List Shape) (vs : List ValueValue) → length (texts_of_values (shapes_of ss) (all_values_of vs)) ≡ min (length ss) (length vs)
values_length [] vs = omega arith
values_length (s ∷ ss) [] = omega arith
values_length (s ∷ ss) (v ∷ vs) = omega (arith, values_length ss vs)

pub value_at : (ss : List Shape) (vs : List ValueValue) (i : ℕ) (s : Shape) (v : ValueValue) (e : Bytes) → i < length ss → i < length vs → get_or ss i s ≡ s → v ≡ get_or vs i v → get_or (texts_of_values (shapes_of ss) (all_values_of vs)) i e ≡ value_text s (value_of v)
value_at [] vs i s v e h k here at = absurd (omega arith)
value_at (t ∷ ts) [] i s v e h k here at = absurd (omega arith)
value_at (t ∷ ts) (x ∷ xs) zero s v e h k here at = ap (λ y. value_text y (value_of x)) here ∙ ap (λ y. value_text s (value_of y)) (sym at)
value_at (t ∷ ts) (x ∷ xs) (suc i) s v e h k here at = value_at ts xs i s v e (omega arith) (omega arith) here at
