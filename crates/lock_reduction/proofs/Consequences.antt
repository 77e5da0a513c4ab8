-- What follows from the agreement of a run with its replay.
use Rattle.std.proofs.Common.{◌≡◌, ◌∙◌, ℕ, ◌<◌, List, length, map, Some, sym, slice_get}
use Rattle.std.specs.Prelude.{◌≢◌}
use Rattle.tower_syntax.specs.Arch.{Arch, Events}
use Rattle.tower_meaning.specs.Atomic.{Fit}
use Rattle.task_code.specs.Program.{Program}
use Rattle.task_code.specs.Standing.{IsIdle, IsWaiting, IsReady}
use Rattle.task_code.specs.Run.{Run, Step, reached}
use Rattle.lock_reduction.specs.Reduce.{Sound}
use Rattle.lock_reduction.specs.Consequences.{GivesOutputs, NoneWaitsForItself, NoDeadlock, RestsIdle}

pub outputs : (arch : Arch) (p : Program) → Sound arch p → (events : Events) (steps : List Step) (r : Run) → Fit arch events → reached p events steps ≡ Some r → GivesOutputs arch events r
outputs arch p sound events steps r fit e = let g = sound.agrees events steps r fit e in (g.0, g.1.replayed, g.1.outputs)

waiting_is_not_ready : (m : ℕ) → IsWaiting m ≡ IsReady → ⊥
waiting_is_not_ready m e = absurd (cc e)

pub apart : (arch : Arch) (p : Program) → Sound arch p → (events : Events) (steps : List Step) (r : Run) → Fit arch events → reached p events steps ≡ Some r → NoneWaitsForItself p events r
apart arch p sound events steps r fit e x m k waits holds =
    waiting_is_not_ready m (sym waits ∙ (sound.agrees events steps r fit e).1.holder_ready x k holds)

pub rests : (arch : Arch) (p : Program) → Sound arch p → (events : Events) (steps : List Step) (r : Run) → Fit arch events → reached p events steps ≡ Some r → RestsIdle p events r
rests arch p sound events steps r fit e none x there =
    let g = sound.agrees events steps r fit e in
    (g.1.all_idle none x there, g.1.none_waits (g.1.all_idle none) x there)

waiting_is_not_idle : (m : ℕ) → IsWaiting m ≡ IsIdle → ⊥
waiting_is_not_idle m e = absurd (cc e)

pub no_deadlock : (arch : Arch) (p : Program) → Sound arch p → (events : Events) (steps : List Step) (r : Run) → Fit arch events → reached p events steps ≡ Some r → NoDeadlock p events r
no_deadlock arch p sound events steps r fit e x m there waits none =
    waiting_is_not_idle m (sym waits ∙ (sound.agrees events steps r fit e).1.all_idle none x there)
