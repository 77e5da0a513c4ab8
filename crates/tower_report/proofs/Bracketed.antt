-- Texts in brackets, as they are put.
use Rattle.std.proofs.Common.{ℕ, List, Option}
use Rattle.std.specs.Prelude.{codes}
use Rattle.tower_io.specs.declared.answers.Put.TheVariants.{Done, Failed}
use Rattle.tower_report.specs.Bytes.{Bytes, spaced, in_brackets}
use Rattle.tower_report.specs.Puts.{Puts}
use Rattle.tower_report.proofs.Puts.{Puts-then, Puts-fail, Puts-stop}

module _ {S : Type 0} {w : S → Option (List ℕ)} {f : S → ℕ} where
  -- the opening bracket failed
  pub Puts-unopened : {a b : S} (texts : List Bytes) → Puts w f a b (codes "(") Failed → Puts w f a b (in_brackets texts) Failed
  Puts-unopened texts opened = Puts-stop (codes ")") (Puts-stop (spaced texts) opened)

  -- what stands in the brackets failed
  pub Puts-unfilled : {a b c : S} (texts : List Bytes) → Puts w f a b (codes "(") Done → Puts w f b c (spaced texts) Failed → Puts w f a c (in_brackets texts) Failed
  Puts-unfilled texts opened inside = Puts-stop (codes ")") (Puts-fail opened inside)

  -- the closing bracket failed
  pub Puts-unclosed : {a b c d : S} (texts : List Bytes) → Puts w f a b (codes "(") Done → Puts w f b c (spaced texts) Done → Puts w f c d (codes ")") Failed → Puts w f a d (in_brackets texts) Failed
  Puts-unclosed texts opened inside closed = Puts-fail (Puts-then opened inside) closed

  pub Puts-brackets : {a b c d : S} (texts : List Bytes) → Puts w f a b (codes "(") Done → Puts w f b c (spaced texts) Done → Puts w f c d (codes ")") Done → Puts w f a d (in_brackets texts) Done
  Puts-brackets texts opened inside closed = Puts-then (Puts-then opened inside) closed
