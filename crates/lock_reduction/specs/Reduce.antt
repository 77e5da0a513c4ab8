-- A program that is right alone, and one that is sound, for a system.
use Rattle.std.specs.Prelude.{◌≡◌, ℕ, ◌<◌, ◌≤◌, List, length, Some, slice_index}
use Rattle.tower_syntax.specs.Arch.{Arch, Events}
use Rattle.tower_syntax.specs.Weights.{cost}
use Rattle.tower_meaning.specs.Atomic.{Atomic, Fit}
use Rattle.task_code.specs.Program.{Program}
use Rattle.task_code.specs.Run.{Run, Step, reached}
use Rattle.task_alone.specs.SettingOf.{setting_of}
use Rattle.task_alone.specs.Alone.{RunsAlone}
use Rattle.lock_reduction.specs.Sound.{Agrees}
use Rattle.lock_reduction.specs.Shaped.{Shaped}

-- in every alone run of every task nothing that is asked is missing
abbrev pub Alone : Arch → Program → Type 0
Alone arch p = RunsAlone (setting_of arch) p

-- the program has the shape, each of its runs agrees with the replay of its marks, and from one TAKE of a task,
-- that one included, to its next at most the source's cost is executed
pub record Sound (arch : Arch) (p : Program) : Type 0 where
  pub shaped : Shaped arch p
  pub agrees : (events : Events) (steps : List Step) (r : Run) → Fit arch events → reached p events steps ≡ Some r → (a : Atomic) × Agrees (setting_of arch) p events r a
  pub counts : (events : Events) (steps : List Step) (r : Run) → Fit arch events → reached p events steps ≡ Some r → (x : ℕ) → x < length p.tasks → slice_index r.since x ≤ cost arch x
