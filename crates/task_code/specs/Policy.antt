-- Which ready task goes next.
use Rattle.std.specs.Prelude.{ℕ, suc, ◌%◌, max, List, [], ◌∷◌, map, filter, fold, length, Bool, true, false, ◌==◌, Option, slice_get, slice_index}
use Rattle.task_code.specs.Program.{Program}

-- A rule for turns. `names` has the tasks that are ready, the locks that are held and the number of a `go`; it
-- names a task, or none. `otherwise` has the number of instructions so far, and gives the number of the `go` that
-- is done where no choice is left.
pub record Policy : Type 0 where
  pub names : List Bool → List (Option ℕ) → ℕ → Option ℕ
  pub otherwise : ℕ → ℕ

-- the places, counted from n on, at which the list has true
abbrev pub places_from : ℕ → List Bool → List ℕ
places_from n [] = []
places_from n (true ∷ bs) = n ∷ places_from (suc n) bs
places_from n (false ∷ bs) = places_from (suc n) bs

-- the one at position k modulo their number
abbrev pub at_turn : ℕ → List ℕ → Option ℕ
at_turn k [] = slice_get [] 0
at_turn k xs = slice_get xs (k % length xs)

abbrev pub greatest : List ℕ → ℕ
greatest ns = fold max 0 ns

-- of these tasks those of the greatest priority
abbrev pub most_urgent : List ℕ → List ℕ → List ℕ
most_urgent priorities xs = filter (λ x. slice_index priorities x == greatest (map (slice_index priorities) xs)) xs

-- of the ready tasks of the greatest priority, in task order, the one at position k modulo their number
abbrev pub fixed_names : List ℕ → List Bool → List (Option ℕ) → ℕ → Option ℕ
fixed_names priorities ready holds k = at_turn k (most_urgent priorities (places_from 0 ready))

-- the same among all ready tasks
abbrev pub any_names : List Bool → List (Option ℕ) → ℕ → Option ℕ
any_names ready holds k = at_turn k (places_from 0 ready)

abbrev pub priorities : Program → List ℕ
priorities p = map (λ t. t.priority) p.tasks

abbrev pub fixed : Program → Policy
fixed p = record { names = fixed_names (priorities p); otherwise = λ n. 0 }
