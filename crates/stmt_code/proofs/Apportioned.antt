-- Parts that are laid out one behind the other.
use Rattle.std.proofs.Common.{ℕ, zero, suc, ◌+◌, ◌<◌, ◌≤◌, List, [], ◌∷◌, length, map, arith, slice_index_or}
use Rattle.std.specs.Prelude.{sum}
use Rattle.task_code.proofs.Lists.{cons_sum}
use Rattle.tower_types.specs.Ty.{Shape, words}
use Rattle.tower_syntax.specs.Weights.{shape_at}
use Rattle.stmt_code.specs.FrameOf.{laid}

module _ {X : Type 0} (g : X → Shape) where
  abbrev widths : List X → List ℕ
  widths xs = map (λ x. words (g x)) xs

  abbrev pub place_of : ℕ → List X → ℕ → ℕ
  place_of a xs b = slice_index_or (laid a (widths xs)) b 0

  abbrev pub shape_of : List X → ℕ → Shape
  shape_of xs b = shape_at (map g xs) b

  pub behind : (xs : List X) (a b : ℕ) → b < length xs → a ≤ place_of a xs b
  behind [] a b lt = absurd (omega arith)
  behind (x ∷ xs) a zero lt = omega arith
  behind (x ∷ xs) a (suc b) lt = let q = behind xs (a + words (g x)) b (omega arith) in omega (arith, q)

  pub ends_before : (xs : List X) (a b : ℕ) → b < length xs → place_of a xs b + words (shape_of xs b) ≤ a + sum (widths xs)
  ends_before [] a b lt = absurd (omega arith)
  ends_before (x ∷ xs) a zero lt = let s = cons_sum (words (g x)) (widths xs) in omega (arith, s)
  ends_before (x ∷ xs) a (suc b) lt = let s = cons_sum (words (g x)) (widths xs) in let q = ends_before xs (a + words (g x)) b (omega arith) in omega (arith, q, s)

  pub in_order : (xs : List X) (a b c : ℕ) → b < c → c < length xs → place_of a xs b + words (shape_of xs b) ≤ place_of a xs c
  in_order [] a b c lt le = absurd (omega arith)
  in_order (x ∷ xs) a b zero lt le = absurd (omega arith)
  in_order (x ∷ xs) a zero (suc c) lt le = behind xs (a + words (g x)) c (omega arith)
  in_order (x ∷ xs) a (suc b) (suc c) lt le = in_order xs (a + words (g x)) b c (omega arith) (omega arith)
