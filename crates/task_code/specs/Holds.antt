-- What the buffers of a task hold.
use Rattle.std.specs.Prelude.{◌≡◌, ℕ, List, [], ◌∷◌, length, map, take, Option, Some, slice_get}
use Rattle.tower_types.specs.Value.{Value, flat}
use Rattle.task_code.specs.Own.{Filled, Own}

-- each buffer holds exactly the messages of its list
abbrev pub HoldLists : List (Option Filled) → List (List Value) → Type 0
HoldLists [] [] = Unit {0}
HoldLists (Some f ∷ fs) (vs ∷ lists) = (f.count ≡ length vs) × (take f.count f.slots ≡ map flat vs) × HoldLists fs lists
HoldLists _ _ = ⊥

abbrev pub buffers_at : Own → List ℕ → List (Option Filled)
buffers_at own places = map (slice_get own.buffers) places
