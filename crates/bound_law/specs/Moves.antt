-- The steps of a run as moves: an instruction, a tick, or an entry of a signal.
use Rattle.std.specs.Prelude.{ℕ, suc, List, [], ◌∷◌, Option, Some, slice_get}
use Rattle.tower_syntax.specs.Arch.{Entry, signal, Events}
use Rattle.task_code.specs.Run.{Step, Turn, Event}
use Rattle.stretch_law.specs.Machine.{Move, Tick, Sent}
use Rattle.stretch_law.specs.Machine as bounds

abbrev pub move_of : Option Entry → Move
move_of (Some (signal x v)) = Sent x
move_of _ = Tick

-- the steps as moves, where the next entry has this place
abbrev pub moves_from : Events → ℕ → List Step → List Move
moves_from events n [] = []
moves_from events n (Turn x ∷ ss) = bounds.Turn x ∷ moves_from events n ss
moves_from events n (Event ∷ ss) = move_of (slice_get events.entries n) ∷ moves_from events (suc n) ss
