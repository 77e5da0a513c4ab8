-- What came of reading an input.
use Rattle.std.specs.Prelude.{List, ℕ}
use Rattle.tower_top.specs.declared.fetched.Fetched.{Fetched}
use Rattle.tower_top.specs.declared.fetched.Fetched.TheVariants.{Valid, Wrong, Unread, NoMemory}
use Rattle.tower_top.specs.Calls.{Held, IsHeld, ShelfTold, Change, IsSame, FailsAt}

-- the text that a shelf holds of a name has this property
pub record HoldsOf (held : Held) (name : List ℕ) (P : List ℕ → Type 0) : Type 0 where
  pub text : List ℕ
  pub is_held : IsHeld held name text
  pub is : P text

-- it was read as what the text is, or with the fault that the text has
abbrev pub IsFetched : {T W : Type 0} → Change ShelfTold → List ℕ → (List ℕ → T → Type 0) → (List ℕ → W → Type 0) → Fetched T W → Type 0
IsFetched shelf name IsValid IsWrong (Valid x) = HoldsOf shelf.before.held name (λ text. IsValid text x) × IsSame shelf
IsFetched shelf name IsValid IsWrong (Wrong why) = HoldsOf shelf.before.held name (λ text. IsWrong text why) × IsSame shelf
IsFetched shelf name IsValid IsWrong Unread = FailsAt shelf name
IsFetched shelf name IsValid IsWrong NoMemory = IsSame shelf
