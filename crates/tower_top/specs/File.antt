-- FILE, read in pieces.
use Rattle.std.specs.Prelude.{◌≡◌, ℕ, List, length, Option, IfSome}
use Rattle.tower_reader.specs.Standing.{StandsFor}
use Rattle.tower_top.specs.declared.file.Pieces.{Pieces}

-- the text is what a shelf tells, if it tells it
abbrev pub IsTold : Option (List ℕ) → List ℕ → Type 0
IsTold told text = IfSome told (λ t. t ≡ text)

-- the pieces that came make this text
pub record HasTaken (pieces : Pieces) (text : List ℕ) : Type 0 where
  pub stands : StandsFor pieces.reader text
  pub counts : pieces.taken ≡ length text
