-- A worked case of the machine: a counter's program of ten instructions.
use Rattle.std.specs.Prelude.{◌≡◌, ℕ, pos, List, [], ◌∷◌, ◌++◌, replicate, Option, Some, None, true, false}
use Rattle.std.specs.Option.{option_map}
use Rattle.tower_types.specs.declared.scalar.Scalar.TheVariants.{U32}
use Rattle.tower_types.specs.declared.scalar.BinOp.TheVariants as op
use Rattle.tower_syntax.specs.declared.arch.SourceKind.TheVariants.{Period}
use Rattle.tower_syntax.specs.declared.event.Mark.{Mark}
use Rattle.tower_syntax.specs.declared.event.Mark.TheVariants.{Arrive, Start, Run}
use Rattle.tower_syntax.specs.declared.event.Choice.{Choice}
use Rattle.tower_syntax.specs.declared.event.Choice.TheVariants.{Go, See, Ev, Idle}
use Rattle.tower_syntax.specs.Arch.{tick, Events}
use Rattle.task_code.specs.declared.program.Task.{Task}
use Rattle.task_code.specs.declared.program.Instr.{Instr}
use Rattle.task_code.specs.declared.program.Instr.TheVariants.{Push, Ldm, Stm, Bin, Jmp, Take, Lock, Unlock}
use Rattle.task_code.specs.Program.{Program}
use Rattle.task_code.specs.Machine.{Lock as MonitorLock, Free, HeldBy}
use Rattle.task_code.specs.Standing.{Standing, IsIdle, standing}
use Rattle.task_code.specs.Run.{Step, Turn, Event, reached}
use Rattle.task_code.specs.Policy.{fixed}
use Rattle.task_code.specs.Plan.{goes, comes, Planning, plan}

abbrev pub instructions : List Instr
instructions = Take 0 ∷ Lock 0 ∷ Push (pos 0) ∷ Push (pos 0) ∷ Ldm 0 0 1 ∷ Push (pos 1) ∷ Bin op.Add U32 ∷ Stm 0 0 1 ∷ Unlock 0 ∷ Jmp 0 ∷ []

abbrev pub counter_task : Task
counter_task = record { priority = 5; message = 1; room = 1; buffers = []; code = instructions }

abbrev pub counter : Program
counter = record { monitors = 1 ∷ []; outputs = []; tasks = counter_task ∷ [] }

-- one period of 10 ms, and 25 ticks
abbrev pub ticking : Events
ticking = record { kinds = Period 10 ∷ []; depths = None ∷ []; entries = replicate 25 tick }

-- ten ticks, and then n instructions
abbrev pub after_ten : ℕ → List Step
after_ten n = replicate 10 Event ++ replicate n (Turn 0)

abbrev pub marks_after : ℕ → Option (List Mark)
marks_after n = option_map (λ r. r.marks) (reached counter ticking (after_ten n))

abbrev pub locks_after : ℕ → Option (List MonitorLock)
locks_after n = option_map (λ r. r.machine.locks) (reached counter ticking (after_ten n))

abbrev pub stands_after : ℕ → Option Standing
stands_after n = option_map (λ r. standing counter ticking r.machine 0) (reached counter ticking (after_ten n))

abbrev pub planned_by : List Choice → ℕ → Planning
planned_by choices limit = plan (fixed counter) counter ticking choices limit

abbrev pub planned : ℕ → Planning
planned limit = planned_by [] limit

pub record WorkedListing : Type 0 where
  -- the first instruction makes the mark of a start, the next seven none, the ninth ends the section, the tenth makes none
  pub first_mark : marks_after 1 ≡ Some (replicate 10 Arrive ++ Start 0 ∷ [])
  pub no_more_to_eight : marks_after 8 ≡ Some (replicate 10 Arrive ++ Start 0 ∷ [])
  pub ninth_mark : marks_after 9 ≡ Some (replicate 10 Arrive ++ Start 0 ∷ Run 0 ∷ [])
  pub no_tenth_mark : marks_after 10 ≡ Some (replicate 10 Arrive ++ Start 0 ∷ Run 0 ∷ [])
  pub no_eleventh : reached counter ticking (after_ten 11) ≡ None
  pub idle_then : stands_after 10 ≡ Some IsIdle
  -- the monitor is locked from the second instruction to before the ninth
  pub free_first : locks_after 1 ≡ Some (Free (pos 0 ∷ []) ∷ [])
  pub locked_second : locks_after 2 ≡ Some (HeldBy 0 ∷ [])
  pub locked_eighth : locks_after 8 ≡ Some (HeldBy 0 ∷ [])
  pub counted : locks_after 10 ≡ Some (Free (pos 1 ∷ []) ∷ [])
  -- without choices the run has twenty instructions, and stops with fewer
  pub whole_marks : (planned 10000000).run.marks ≡ replicate 10 Arrive ++ Start 0 ∷ Run 0 ∷ replicate 10 Arrive ++ Start 0 ∷ Run 0 ∷ replicate 5 Arrive
  pub whole_count : (planned 10000000).left ≡ 9999980
  pub whole_locks : (planned 10000000).run.machine.locks ≡ Free (pos 2 ∷ []) ∷ []
  pub is_done : (planned 10000000).stopped ≡ false
  pub done_at_twenty : (planned 20).stopped ≡ false
  pub stops_at_nineteen : (planned 19).stopped ≡ true
  -- a `go` where no task is ready is passed over, a `see` ends with a visible instruction, and `idle` where no task is ready
  pub by_choices : (planned_by (Go 7 2 ∷ Ev 10 ∷ See 0 2 ∷ Ev 1 ∷ Go 3 1 ∷ Idle ∷ []) 10000000).steps
      ≡ replicate 10 comes ++ goes 0 0 ∷ goes 0 0 ∷ comes ∷ goes 3 0 ∷ replicate 7 (goes 0 0) ++ replicate 9 comes ++ replicate 10 (goes 0 0) ++ replicate 5 comes
  -- an entry past the end of the record is passed over, and a `see` stops where an instruction is due and none is left
  pub see_stops : (planned_by (Ev 30 ∷ See 0 1 ∷ See 0 2 ∷ Ev 1 ∷ []) 5).steps ≡ replicate 25 comes ++ replicate 5 (goes 0 0)
  pub see_has_stopped : (planned_by (Ev 30 ∷ See 0 1 ∷ See 0 2 ∷ Ev 1 ∷ []) 5).stopped ≡ true
