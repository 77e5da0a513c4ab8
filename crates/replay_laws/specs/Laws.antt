-- The marks of a run, tried against the atomic meaning.
use Rattle.std.specs.Prelude.{◌≡◌, ℕ, ℤ, List, map, Some, None, slice_get}
use Rattle.tower_types.specs.Value.{flat}
use Rattle.tower_syntax.specs.Arch.{Arch, Events}
use Rattle.tower_meaning.specs.Atomic.{Atomic, Fit}
use Rattle.tower_meaning.specs.Replayed.{replayed, first_misfit}
use Rattle.tower_meaning.specs.System.{system_of}
use Rattle.task_code.specs.Program.{Program}
use Rattle.task_code.specs.Machine.{Free}
use Rattle.task_code.specs.Run.{Run, Step, reached}
use Rattle.arch_checks.specs.Offences.{IsAccepted}
use Rattle.lock_reduction.specs.Reduce.{Sound}
use Rattle.lock_reduction.specs.Consequences.{InEachRun}
use Rattle.task_build.specs.CodeOf.{code_of}

-- all marks of the run fit, and the state that they come to is what the run shows
pub record IsConfirmed (arch : Arch) (events : Events) (r : Run) : Type 0 where
  pub state : Atomic
  pub comes_to : replayed (system_of arch) events r.marks ≡ record { state = state; misfit = None }
  pub outputs : r.written ≡ map (λ o. (o.0, flat o.1)) state.outputs
  pub monitors : (m : ℕ) (words : List ℤ) → slice_get r.machine.locks m ≡ Some (Free words) → slice_get (map flat state.monitors) m ≡ Some words
  pub queues : r.machine.queues ≡ map (map flat) state.queues
  pub lost : r.machine.lost ≡ state.lost

abbrev pub ReplayConfirms : Type 0
ReplayConfirms = (arch : Arch) (p : Program) → Sound arch p → InEachRun arch p (IsConfirmed arch)

-- a run over a record that fits, and the first of its marks that does not fit
pub record MisfitsIn (arch : Arch) (p : Program) : Type 0 where
  pub events : Events
  pub steps : List Step
  pub run : Run
  pub number : ℕ
  pub fit : Fit arch events
  pub runs : reached p events steps ≡ Some run
  pub misfits : first_misfit (system_of arch) events run.marks ≡ Some number

abbrev pub MisfitRefutes : Type 0
MisfitRefutes = (arch : Arch) (p : Program) → MisfitsIn arch p → Sound arch p → ⊥

-- each run of the program of an accepted system is confirmed
abbrev pub ReplayConfirmsPrograms : Type 0
ReplayConfirmsPrograms = (bs : List ℕ) (arch : Arch) → IsAccepted bs arch → InEachRun arch (code_of arch) (IsConfirmed arch)
