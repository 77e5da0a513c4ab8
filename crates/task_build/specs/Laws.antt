-- What is known of the program of each accepted system.
use Rattle.std.specs.Prelude.{◌≡◌, ◌+◌, ◌≤◌, ℕ, List, length, Some, slice_get}
use Rattle.tower_syntax.specs.Arch.{Arch, Source, Events}
use Rattle.tower_syntax.specs.Weights.{deliver}
use Rattle.tower_syntax.specs.Graph.{Reaches}
use Rattle.tower_meaning.specs.Atomic.{Fit}
use Rattle.task_code.specs.Fits.{Fits}
use Rattle.task_code.specs.Rules.{KeepsRules}
use Rattle.task_code.specs.declared.program.Task.{Task}
use Rattle.lock_reduction.specs.Shaped.{Shaped}
use Rattle.lock_reduction.specs.Reduce.{Alone, Sound}
use Rattle.arch_checks.specs.Offences.{IsAccepted}
use Rattle.emit_code.specs.Entries.{Touched, TouchedBuffers, Carries}
use Rattle.task_build.specs.CodeOf.{task_of, code_of}
use Rattle.task_build.specs.TaskEntries.{entries_of, Headed, Planned}

-- The headline: for each text that is accepted, the program of its system is sound. In every run over every event record
-- that fits, whatever order of steps, the marks replay as the system's meaning says.
abbrev pub ProgramsAreSound : Type 0
ProgramsAreSound = (bs : List ℕ) (arch : Arch) → IsAccepted bs arch → Sound arch (code_of arch)

-- each of its tasks is right alone
abbrev pub ProgramsAreAlone : Type 0
ProgramsAreAlone = (bs : List ℕ) (arch : Arch) → IsAccepted bs arch → Alone arch (code_of arch)

-- in each of its tasks the head stands first, and the code of each handler that the source reaches at its entry, with a
-- frame and buffers of its own
abbrev pub TasksArePlanned : Type 0
TasksArePlanned =
    (bs : List ℕ) (arch : Arch) → IsAccepted bs arch → (x : ℕ) (source : Source) → slice_get arch.sources x ≡ Some source
    → Headed arch (task_of arch x source) x (entries_of arch x) × Planned arch (code_of arch) (task_of arch x source) x (entries_of arch x)

-- and each entry carries out its item, with all that follows, within the weight `deliver`, where 100 more calls have room
abbrev pub EntriesCarry : Type 0
EntriesCarry =
    (bs : List ℕ) (arch : Arch) → IsAccepted bs arch → (x : ℕ) (source : Source) → slice_get arch.sources x ≡ Some source → (h : ℕ) → Reaches arch x h
    → (calls : ℕ) → calls + 100 ≤ 256
    → Carries arch (code_of arch) (task_of arch x source) x (entries_of arch x) calls
    (Touched arch x (entries_of arch x) h) (TouchedBuffers arch x (entries_of arch x) h) (deliver arch h) h

-- it keeps the rules of programs
abbrev pub ProgramsKeepRules : Type 0
ProgramsKeepRules = (bs : List ℕ) (arch : Arch) → IsAccepted bs arch → KeepsRules (code_of arch)

-- no place in the code of a task is above the limit on instructions
abbrev pub PlacesAreSmall : Type 0
PlacesAreSmall =
    (bs : List ℕ) (arch : Arch) → IsAccepted bs arch → (x : ℕ) (t : Task) → slice_get (code_of arch).tasks x ≡ Some t → length t.code ≤ 1000000

-- an event record that fits the system fits its program
abbrev pub EventsFit : Type 0
EventsFit = (bs : List ℕ) (arch : Arch) → IsAccepted bs arch → (events : Events) → Fit arch events → Fits (code_of arch) events

-- the program of any system has its shape, and its words and instructions are within the weights
abbrev pub ProgramsAreShaped : Type 0
ProgramsAreShaped = (arch : Arch) → Shaped arch (code_of arch)
