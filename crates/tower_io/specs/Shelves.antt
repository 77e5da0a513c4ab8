-- What a shelf's calls say, by their answers, and how a text is taken from the front.
use Rattle.std.specs.Prelude.{◌≡◌, ℕ, Option, List, ◌++◌, Some, ⊤}
use Rattle.tower_io.specs.declared.answers.Begin.{Begin}
use Rattle.tower_io.specs.declared.answers.Begin.TheVariants.{Begun, Failed, NoMemory}
use Rattle.tower_io.specs.declared.answers.Next.{Next}
use Rattle.tower_io.specs.declared.answers.Next.TheVariants.{Got, End, Failed as NextFailed}

-- where the old text is told, it is the bytes and then the new text, which is told
pub record Takes (old new : Option (List ℕ)) (bytes : List ℕ) : Type 0 where
  pub taken : (text : List ℕ) → old ≡ Some text → (rest : List ℕ) × (new ≡ Some rest) × (text ≡ bytes ++ rest)

abbrev pub OnBegun : Begin → Type 0 → Type 0
OnBegun Begun P = P
OnBegun Failed P = ⊤
OnBegun NoMemory P = ⊤

abbrev pub OnNotBegun : Begin → Type 0 → Type 0
OnNotBegun Begun P = ⊤
OnNotBegun Failed P = P
OnNotBegun NoMemory P = P

abbrev pub OnBeginFailed : Begin → Type 0 → Type 0
OnBeginFailed Begun P = ⊤
OnBeginFailed Failed P = P
OnBeginFailed NoMemory P = ⊤

abbrev pub UnlessBeginFailed : Begin → Type 0 → Type 0
UnlessBeginFailed Begun P = P
UnlessBeginFailed Failed P = ⊤
UnlessBeginFailed NoMemory P = P

abbrev pub OnGot : Next → (ℕ → Type 0) → Type 0
OnGot (Got n) P = P n
OnGot End P = ⊤
OnGot NextFailed P = ⊤

abbrev pub OnNotGot : Next → Type 0 → Type 0
OnNotGot (Got n) P = ⊤
OnNotGot End P = P
OnNotGot NextFailed P = P

abbrev pub OnEnd : Next → Type 0 → Type 0
OnEnd (Got n) P = ⊤
OnEnd End P = P
OnEnd NextFailed P = ⊤

abbrev pub OnNextFailed : Next → Type 0 → Type 0
OnNextFailed (Got n) P = ⊤
OnNextFailed End P = ⊤
OnNextFailed NextFailed P = P

abbrev pub UnlessNextFailed : Next → Type 0 → Type 0
UnlessNextFailed (Got n) P = P
UnlessNextFailed End P = P
UnlessNextFailed NextFailed P = ⊤

abbrev pub OnBeginNoMemory : Begin → Type 0 → Type 0
OnBeginNoMemory Begun P = ⊤
OnBeginNoMemory Failed P = ⊤
OnBeginNoMemory NoMemory P = P

abbrev pub UnlessBeginNoMemory : Begin → Type 0 → Type 0
UnlessBeginNoMemory Begun P = P
UnlessBeginNoMemory Failed P = P
UnlessBeginNoMemory NoMemory P = ⊤
