-- The rule of several cores. The most urgent ready tasks are on the cores, one on each, and a number names a core.
use Rattle.std.specs.Prelude.{ℕ, ◌%◌, nat_le, List, [], ◌∷◌, length, take, cond, Bool, Option, slice_index}
use Rattle.task_code.specs.Program.{Program}
use Rattle.task_code.specs.Policy.{Policy, places_from, at_turn, priorities}

-- task x before the first of these that is not more urgent
abbrev pub put_before : List ℕ → ℕ → List ℕ → List ℕ
put_before priorities x [] = x ∷ []
put_before priorities x (y ∷ ys) =
    cond (nat_le (slice_index priorities y) (slice_index priorities x)) (x ∷ y ∷ ys) (y ∷ put_before priorities x ys)

-- these tasks in the order of falling priority, equal ones as they stood
abbrev pub by_urgency : List ℕ → List ℕ → List ℕ
by_urgency priorities [] = []
by_urgency priorities (x ∷ xs) = put_before priorities x (by_urgency priorities xs)

-- the tasks on so many cores: the first of the ready ones, or all where they are fewer
abbrev pub on_cores : List ℕ → ℕ → List Bool → List ℕ
on_cores priorities cores ready = take cores (by_urgency priorities (places_from 0 ready))

-- of the tasks on the cores the one at position k modulo their number
abbrev pub cores_names : List ℕ → ℕ → List Bool → List (Option ℕ) → ℕ → Option ℕ
cores_names priorities cores ready holds k = at_turn k (on_cores priorities cores ready)

-- the position, and so the core
abbrev pub core_at : List ℕ → ℕ → List Bool → ℕ → ℕ
core_at priorities cores ready k = k % length (on_cores priorities cores ready)

-- where no choice is left, the cores take turns
abbrev pub cores : ℕ → Program → Policy
cores n p = record { names = cores_names (priorities p) n; otherwise = λ done. done % n }
