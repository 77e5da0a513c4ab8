-- What a rule for turns keeps.
use Rattle.std.specs.Prelude.{◌≡◌, ◌==◌, ℕ, ◌<◌, List, filter, All, Bool, true, Option, Some, None, slice_get, slice_index}

abbrev pub IsBelow : ℕ → Option ℕ → Type 0
IsBelow n None = Unit {0}
IsBelow n (Some m) = m < n

-- where the rule was made for a number of monitors, each that is held is below it
abbrev pub AreMonitors : Option ℕ → List (Option ℕ) → Type 0
AreMonitors None holds = Unit {0}
AreMonitors (Some n) holds = All (IsBelow n) holds

-- a named task is ready, and none is named exactly where none is ready
abbrev pub IsLawful : List Bool → Option ℕ → Type 0
IsLawful ready None = (x : ℕ) → slice_get ready x ≡ Some true → ⊥
IsLawful ready (Some x) = slice_get ready x ≡ Some true

-- of these tasks those of a priority
abbrev pub of_priority : List ℕ → ℕ → List ℕ → List ℕ
of_priority priorities top xs = filter (λ x. slice_index priorities x == top) xs
