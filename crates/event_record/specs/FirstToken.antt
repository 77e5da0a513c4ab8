-- The first token of a text.
use Rattle.std.specs.Prelude.{◌≡◌, ◌<◌, ℕ, List, [], ◌∷◌, length}
use Rattle.event_record.specs.declared.token.Ahead.{Ahead}
use Rattle.event_record.specs.declared.token.Ahead.TheVariants as first
use Rattle.event_record.specs.Tokens.{Token, left, right, atom, stray, tokens}

-- these tokens begin so
abbrev pub Comes : List Token → Ahead → Type 0
Comes ts first.End = ts ≡ []
Comes ts (first.Left behind) = ts ≡ left ∷ tokens behind.now
Comes ts (first.Right behind) = ts ≡ right ∷ tokens behind.now
Comes ts (first.Atom text behind) = ts ≡ atom text.now ∷ tokens behind.now
Comes ts first.Stray = (rest : List Token) × (ts ≡ stray ∷ rest)

-- what stands behind is shorter than that
abbrev pub IsShorter : ℕ → Ahead → Type 0
IsShorter n first.End = Unit {0}
IsShorter n (first.Left behind) = length behind.now < n
IsShorter n (first.Right behind) = length behind.now < n
IsShorter n (first.Atom text behind) = length behind.now < n
IsShorter n first.Stray = Unit {0}
