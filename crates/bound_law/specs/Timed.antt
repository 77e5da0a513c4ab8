-- Runs of a program that are paced, sampled, spaced and by ceiling.
use Rattle.std.specs.Prelude.{◌≡◌, ℕ, List, Some}
use Rattle.tower_syntax.specs.Arch.{Arch, Events}
use Rattle.task_code.specs.Program.{Program}
use Rattle.task_code.specs.Run.{Run, Step, first_run}
use Rattle.task_code.specs.Ceiling.{ceiling}
use Rattle.ceiling_law.specs.ByPolicy.{named_ready}
use Rattle.stretch_law.specs.Machine.{Move, Turn, Tick, Sent}
use Rattle.stretch_law.specs.Rules.{Clock, first_clock, Each, IsPaced, IsSampled, IsSpaced, IsMiddle, IsMet}
use Rattle.bound_law.specs.Seen.{tasks_of, machine_of}
use Rattle.bound_law.specs.Moves.{moves_from}

module _ (arch : Arch) (p : Program) (events : Events) (n : ℕ) where
  -- each instruction is that of a task that the ceiling rule names of the ready ones, for some number
  abbrev pub IsByRule : Run → Move → Type 0
  IsByRule r (Turn x) = (k : ℕ) × (named_ready (ceiling arch p) p events r.machine k ≡ Some x)
  IsByRule r Tick = Unit {0}
  IsByRule r (Sent x) = Unit {0}

  -- paced at this rate, sampled, spaced by this gap, and by ceiling
  abbrev pub IsTimed : ℕ → ℕ → Clock → Run → Move → Type 0
  IsTimed rate gap k r m =
      IsPaced (tasks_of arch) n Run (machine_of p events) rate k r m
      × IsSampled (tasks_of arch) n Run (machine_of p events) k m
      × IsSpaced (tasks_of arch) n Run (machine_of p events) gap k r m
      × IsByRule r m

  -- the same, but that it may not be paced
  abbrev pub IsOrdered : ℕ → Clock → Run → Move → Type 0
  IsOrdered gap k r m =
      IsSampled (tasks_of arch) n Run (machine_of p events) k m
      × IsSpaced (tasks_of arch) n Run (machine_of p events) gap k r m
      × IsByRule r m

  -- P is so before each of the steps of a run, and each of them is defined
  abbrev pub Throughout : (Clock → Run → Move → Type 0) → List Step → Type 0
  Throughout P steps = Each (tasks_of arch) n Run (machine_of p events) P first_clock (first_run p events) (moves_from events 0 steps)

  abbrev pub Meets : ℕ → ℕ → Clock → Run → Move → Type 0
  Meets i ms = IsMet (tasks_of arch) n Run (machine_of p events) i ms

  -- in a stretch of n the instructions so far are at most the demand of its intervals so far, and fewer where it goes on
  abbrev pub IsBetween : ℕ → Clock → Run → Move → Type 0
  IsBetween gap = IsMiddle (tasks_of arch) n Run (machine_of p events) gap
