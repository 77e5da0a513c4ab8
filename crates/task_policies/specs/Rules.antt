-- The rules, as contracts see them, and the tests by which they find a task.
use Rattle.std.specs.Prelude.{ℕ, suc, nat_lt, ◌==◌, max, List, [], ◌∷◌, length, map, filter, Bool, ◌&&◌, ◌||◌, not, Option, None, Some, slice_index}
use Rattle.task_code.specs.Ceiling.{active_priority, is_holder}
use Rattle.task_code.specs.Cores.{on_cores, core_at}

pub record CeilingRule : Type 0 where
  pub priorities : List ℕ
  pub ceilings : List ℕ

pub record CoresRule : Type 0 where
  pub priorities : List ℕ
  pub cores : ℕ

-- never none
abbrev pub core_count : CoresRule → ℕ
core_count r = max 1 r.cores

-- how many tasks are on the cores, and on which core the one is that is named for k
abbrev pub busy_cores : CoresRule → List Bool → ℕ
busy_cores r ready = length (on_cores r.priorities (core_count r) ready)

abbrev pub core_of : CoresRule → List Bool → ℕ → ℕ
core_of r ready k = core_at r.priorities (core_count r) ready k

abbrev pub active_in : CeilingRule → List (Option ℕ) → ℕ → ℕ
active_in r holds x = active_priority r.priorities r.ceilings holds x

-- has task x this active priority, and is it a holder where only these are wanted
abbrev pub is_wanted : CeilingRule → List (Option ℕ) → ℕ → Bool → ℕ → Bool
is_wanted r holds active only_holders x = (active_in r holds x == active) && (not only_holders || is_holder holds x)

-- has task x a priority below this
abbrev pub is_below : List ℕ → ℕ → ℕ → Bool
is_below priorities limit x = nat_lt (slice_index priorities x) limit

-- the greatest of these numbers and of one before them, if there is one
abbrev pub greatest_from : Option ℕ → List ℕ → Option ℕ
greatest_from o [] = o
greatest_from None (n ∷ ns) = greatest_from (Some n) ns
greatest_from (Some m) (n ∷ ns) = greatest_from (Some (max m n)) ns

abbrev pub greater_of : Option ℕ → ℕ → Option ℕ
greater_of o n = greatest_from o (n ∷ [])

-- the greatest priority below this of these tasks
abbrev pub level_below : List ℕ → ℕ → List ℕ → Option ℕ
level_below priorities limit xs = greatest_from None (map (slice_index priorities) (filter (is_below priorities limit) xs))
