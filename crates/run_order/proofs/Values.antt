-- The texts of values have no LF.
use Rattle.std.proofs.Common.{◌≡◌, List, map, Bool, true, false, ℤ, pos, refl, take, drop}
use Rattle.std.specs.Prelude.{slice_index_or}
use Rattle.tower_types.specs.declared.scalar.Scalar.{Scalar}
use Rattle.tower_types.specs.declared.scalar.Scalar.TheVariants as scalar
use Rattle.tower_types.specs.Arithmetic.{is_true}
use Rattle.tower_types.specs.Ty.{Shape, one, many, all, Shapes, no_shapes, shape, words}
use Rattle.tower_report.specs.ValueText.{truth_text, number_text, cut, words_text, texts_of_words}
use Rattle.run_order.proofs.Above.{above, are_above, and_true, bracketed_above, each_above}
use Rattle.run_order.proofs.Digits.{signed_above}

truth_above : (b : Bool) → above 10 (truth_text b) ≡ true
truth_above true = refl
truth_above false = refl

number_above : (s : Scalar) (n : ℤ) → above 10 (number_text s n) ≡ true
number_above scalar.Bool n = truth_above (is_true n)
number_above _ n = signed_above n

mutual
  pub words_above : (s : Shape) (ws : List ℤ) → above 10 (words_text s ws) ≡ true
  words_above (one s) ws = number_above s (slice_index_or ws 0 (pos 0))
  words_above (many n s) ws = bracketed_above (map (words_text s) (cut n (words s) ws)) (each_above (words_text s) (words_above s) (cut n (words s) ws))
  words_above (all ss) ws = bracketed_above (texts_of_words ss ws) (texts_above ss ws)

  pub texts_above : (ss : Shapes) (ws : List ℤ) → are_above (texts_of_words ss ws) ≡ true
  texts_above no_shapes ws = refl
  texts_above (shape s ss) ws =
      and_true (above 10 (words_text s (take (words s) ws))) (are_above (texts_of_words ss (drop (words s) ws))) (words_above s (take (words s) ws)) (texts_above ss (drop (words s) ws))
