-- The plan of a run: the steps that a list of choices stands for, and what comes where none is left.
use Rattle.std.specs.Prelude.{ℕ, zero, suc, ◌+◌, ◌-◌, List, [], ◌∷◌, ◌++◌, map, length, Bool, true, false, ◌||◌, not, Option, Some, None}
use Rattle.std.specs.List.{list_any}
use Rattle.tower_syntax.specs.declared.event.Choice.{Choice}
use Rattle.tower_syntax.specs.declared.event.Choice.TheVariants as choice
use Rattle.tower_syntax.specs.Arch.{Events}
use Rattle.task_code.specs.Program.{Program}
use Rattle.task_code.specs.Own.{held_monitor}
use Rattle.task_code.specs.Machine.{Machine, next_does}
use Rattle.task_code.specs.Standing.{is_ready, standing, standings, is_finished}
use Rattle.task_code.specs.Run.{Run, Step, Turn, Event, step, first_run, is_visible}
use Rattle.task_code.specs.Policy.{Policy}

pub data Planned : Type 0 where
  goes : (k x : ℕ) → Planned  -- an instruction of task x, by a `go` with the number k
  comes : Planned  -- the next entry of the record

abbrev pub step_of : Planned → Step
step_of (goes k x) = Turn x
step_of comes = Event

-- how many of the steps are instructions
abbrev pub instructions : List Planned → ℕ
instructions [] = 0
instructions (goes k x ∷ zs) = suc (instructions zs)
instructions (comes ∷ zs) = instructions zs

-- a run with its plan so far. It has stopped where an instruction is due and none is left.
pub record Planning : Type 0 where
  pub run : Run
  pub steps : List Planned
  pub left : ℕ  -- so many instructions may still be executed
  pub stopped : Bool

-- n times the same
abbrev pub repeated : ℕ → (Planning → Planning) → Planning → Planning
repeated zero f s = s
repeated (suc n) f s = repeated n f (f s)

module _ (policy : Policy) (p : Program) (events : Events) (limit : ℕ) where
  abbrev pub ready : Machine → List Bool
  ready m = map is_ready (standings p events m)

  -- the task that a `go` with the number k steps
  abbrev pub picked : Machine → ℕ → Option ℕ
  picked m k = policy.names (ready m) (map held_monitor m.tasks) k

  abbrev pub stepped : ℕ → ℕ → Planning → ℕ → Option Run → Planning
  stepped k x s left None = s
  stepped k x s left (Some r) = record { run = r; steps = s.steps ++ goes k x ∷ []; left = left; stopped = false }

  -- an instruction of task x, by a `go` with the number k
  abbrev pub instruct : ℕ → ℕ → Planning → ℕ → Planning
  instruct k x s zero = record s { stopped = true }
  instruct k x s (suc left) = stepped k x s left (step p events s.run (Turn x))

  abbrev pub entered : Planning → Option Run → Planning
  entered s None = s
  entered s (Some r) = record s { run = r; steps = s.steps ++ comes ∷ [] }

  -- the next entry of the record, if there is one
  abbrev pub enter : Planning → Planning
  enter s = entered s (step p events s.run Event)

  abbrev pub go_with : ℕ → Planning → Option ℕ → Planning
  go_with k s None = s
  go_with k s (Some x) = instruct k x s s.left

  abbrev pub go : ℕ → Planning → Planning
  go k s = go_with k s (picked s.run.machine k)

  -- does a `see` of task x end with the step from s to t
  abbrev pub is_seen : ℕ → Planning → Planning → Bool
  is_seen x s t = t.stopped || (is_visible (next_does p s.run.machine x) || not (is_ready (standing p events t.run.machine x)))

  -- task x goes on until it has executed a visible instruction or is not ready
  abbrev pub look : ℕ → ℕ → ℕ → Planning → Planning
  look zero k x s = s
  look (suc n) k x s =
      let t = instruct k x s s.left in
      elim (is_seen x s t) [ true ↦ t | false ↦ look n k x t ]

  abbrev pub see_with : ℕ → Planning → Option ℕ → Planning
  see_with k s None = s
  see_with k s (Some x) = look (suc s.left) k x s

  abbrev pub see : ℕ → Planning → Planning
  see k s = see_with k s (picked s.run.machine k)

  abbrev pub any_ready : Planning → Bool
  any_ready s = list_any (λ b. b) (ready s.run.machine)

  -- `go 0` until no task is ready
  abbrev pub idle : ℕ → Planning → Planning
  idle zero s = s
  idle (suc n) s = elim (s.stopped || not (any_ready s)) [ true ↦ s | false ↦ idle n (go 0 s) ]

  abbrev pub apply : Choice → Planning → Planning
  apply (choice.Go k n) s = repeated n (go k) s
  apply (choice.See k n) s = repeated n (see k) s
  apply (choice.Ev n) s = repeated n enter s
  apply choice.Idle s = idle (suc s.left) s

  abbrev pub has_ended : Planning → Bool
  has_ended s = s.stopped || is_finished p events s.run.machine

  -- where no choice is left, a task goes where one is ready, and otherwise an entry comes
  abbrev pub unchosen : Planning → Planning
  unchosen s = elim (any_ready s) [ true ↦ go (policy.otherwise (limit - s.left)) s | false ↦ enter s ]

  abbrev pub to_end : ℕ → Planning → Planning
  to_end zero s = s
  to_end (suc n) s = elim (has_ended s) [ true ↦ s | false ↦ to_end n (unchosen s) ]

  -- each turn has an instruction or an entry, or stops
  abbrev pub turns_left : Planning → ℕ
  turns_left s = suc (s.left + (length events.entries - s.run.machine.place))

  abbrev pub choose : List Choice → Planning → Planning
  choose [] s = to_end (turns_left s) s
  choose (c ∷ cs) s = elim (has_ended s) [ true ↦ s | false ↦ choose cs (apply c s) ]

-- with at most so many instructions; `stopped` says how it ends
abbrev pub plan : Policy → Program → Events → List Choice → ℕ → Planning
plan policy p events choices limit =
    choose policy p events limit choices (record { run = first_run p events; steps = []; left = limit; stopped = false })
