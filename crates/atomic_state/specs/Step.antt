-- What came of a mark.
use Rattle.std.specs.Prelude.{◌≡◌, List, [], ◌∷◌, Bool, true, false, Option, Some, None}
use Rattle.tower_types.specs.Value.{Value}
use Rattle.tower_syntax.specs.declared.arch.Listener.{Listener}
use Rattle.tower_meaning.specs.Atomic.{Atomic}
use Rattle.tower_meaning.specs.System.{Item}
use Rattle.atomic_state.specs.declared.parts.AtomicStep.{AtomicStep}
use Rattle.atomic_state.specs.declared.parts.AtomicStep.TheVariants as step

-- of a state: what its mark leads to, the answer, and the state after it
abbrev pub Steps : Atomic → Option Atomic → AtomicStep → Atomic → Type 0
Steps old next step.Done new = next ≡ Some new
Steps old next step.Misfit new = (next ≡ None) × (new ≡ old)
Steps old next step.NoMemory new = new ≡ old

-- nothing is pending, and a message waits
abbrev pub can_take : Option (List Item) → Option (List Value) → Bool
can_take (Some []) (Some (v ∷ rest)) = true
can_take pending queue = false

abbrev pub first_listener : Option (List Item) → Option Listener
first_listener (Some (i ∷ rest)) = Some i.0
first_listener items = None
