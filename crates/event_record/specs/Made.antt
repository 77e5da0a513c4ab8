-- Values that were made, as definitions see them.
use Rattle.std.specs.Prelude.{◌≡◌, ℕ, List, ◌∷◌, Option, Some, None}
use Rattle.std.specs.Borrow.{Bor}
use Rattle.tower_types.specs.declared.value.Value.{Value as ValueMade}
use Rattle.tower_types.specs.Value.{Value, Values}
use Rattle.tower_types.specs.View.{value_of}
use Rattle.event_record.specs.declared.value.Taken.{Taken as TakenMade}
use Rattle.event_record.specs.Tokens.{Token, left, tokens}
use Rattle.event_record.specs.Scanned.{Taken, within_list}

-- a value with the text behind it
abbrev pub IsTaken : Taken Value → Option TakenMade → Type 0
IsTaken wanted None = wanted ≡ None
IsTaken wanted (Some made) = wanted ≡ Some (value_of made.value, tokens made.rest.now)

abbrev pub IsMade : Option Value → Option ValueMade → Type 0
IsMade wanted None = wanted ≡ None
IsMade wanted (Some made) = wanted ≡ Some (value_of made)

-- a list opens here, with the text behind its bracket; or none does
abbrev pub Opens : List Token → Option (Bor (List ℕ)) → Type 0
Opens ts (Some inside) = ts ≡ left ∷ tokens inside.now
Opens ts None = (f : List Token → Taken Values) → within_list f ts ≡ None
