-- The ceiling rule: while a task holds a monitor it is as urgent as the most urgent task that touches it.
use Rattle.std.specs.Prelude.{ℕ, ◌==◌, max, List, [], map, filter, length, cond, Bool, Option, Some, None, is_some, slice_index, slice_index_or}
use Rattle.std.specs.List.{list_any}
use Rattle.tower_syntax.specs.Arch.{Arch}
use Rattle.tower_syntax.specs.Graph.{handler, numbers_before, reached_by}
use Rattle.tower_syntax.specs.Weights.{source_numbers}
use Rattle.task_code.specs.Program.{Program}
use Rattle.task_code.specs.Policy.{Policy, places_from, at_turn, greatest, priorities}

-- ---- whom the rule names

-- this priority, or the ceiling of the monitor that is held where that is greater
abbrev pub raised : List ℕ → ℕ → Option ℕ → ℕ
raised ceilings priority None = priority
raised ceilings priority (Some m) = max priority (slice_index ceilings m)

-- the active priority of task x
abbrev pub active_priority : List ℕ → List ℕ → List (Option ℕ) → ℕ → ℕ
active_priority priorities ceilings holds x = raised ceilings (slice_index priorities x) (slice_index_or holds x None)

-- does task x hold a monitor
abbrev pub is_holder : List (Option ℕ) → ℕ → Bool
is_holder holds x = is_some (slice_index_or holds x None)

-- of these tasks those of which this number is the greatest
abbrev pub greatest_by : (ℕ → ℕ) → List ℕ → List ℕ
greatest_by f xs = filter (λ x. f x == greatest (map f xs)) xs

-- of these tasks only those that pass the test, where one does
abbrev pub preferred : (ℕ → Bool) → List ℕ → List ℕ
preferred test xs = cond (list_any test xs) (filter test xs) xs

-- of these tasks those of the greatest active priority, and of them only the holders, where there is one
abbrev pub foremost : List ℕ → List ℕ → List (Option ℕ) → List ℕ → List ℕ
foremost priorities ceilings holds xs = preferred (is_holder holds) (greatest_by (active_priority priorities ceilings holds) xs)

-- of the foremost of the given tasks, in task order, the one at position k modulo their number
abbrev pub ceiling_names : List ℕ → List ℕ → List Bool → List (Option ℕ) → ℕ → Option ℕ
ceiling_names priorities ceilings given holds k = at_turn k (foremost priorities ceilings holds (places_from 0 given))

-- ---- the ceilings of a system

-- does the source reach a handler of the monitor
abbrev pub touches : Arch → ℕ → ℕ → Bool
touches arch s m = list_any (λ h. (handler arch h).monitor == m) (reached_by arch s)

abbrev pub source_priority : Arch → ℕ → ℕ
source_priority arch s = slice_index (map (λ x. x.priority) arch.sources) s

-- the greatest priority of the sources that touch the monitor, `init` ones too; 0 where none does
abbrev pub ceiling_of : Arch → ℕ → ℕ
ceiling_of arch m = greatest (map (source_priority arch) (filter (λ s. touches arch s m) (source_numbers arch)))

-- of each monitor
abbrev pub ceilings : Arch → List ℕ
ceilings arch = map (ceiling_of arch) (numbers_before (length arch.monitors) [])

abbrev pub ceiling : Arch → Program → Policy
ceiling arch p = record { names = ceiling_names (priorities p) (ceilings arch); otherwise = λ n. 0 }
