-- Worked texts of runs and replays.
use Rattle.std.specs.Prelude.{◌≡◌, ℕ, pos, List, [], ◌∷◌, ◌++◌, replicate, Some, None, codes}
use Rattle.tower_types.specs.declared.scalar.Scalar.TheVariants.{U32, I64}
use Rattle.tower_types.specs.declared.scalar.BinOp.TheVariants as op
use Rattle.tower_types.specs.Ty.{scalar}
use Rattle.tower_syntax.specs.declared.event.Choice.TheVariants.{See, Ev}
use Rattle.tower_syntax.specs.declared.event.Mark.{Mark}
use Rattle.tower_syntax.specs.declared.event.Mark.TheVariants.{Arrive, Start, Run, Out}
use Rattle.tower_syntax.specs.declared.arch.SourceKind.TheVariants.{Period}
use Rattle.tower_syntax.specs.Arch.{Arch, tick, Entry}
use Rattle.tower_syntax.specs.Examples.{clock, inv, signal}
use Rattle.tower_meaning.specs.WorkedRuns.{events_of, sig, inv_entries, inv_waits, inv_output_early}
use Rattle.task_code.specs.declared.program.Instr.{Instr}
use Rattle.task_code.specs.declared.program.Instr.TheVariants.{Push, Ld, St, Ldm, Stm, Bin, Jmp, Take, Lock, Unlock}
use Rattle.task_code.specs.declared.program.Instr.TheVariants.{Out as Write}
use Rattle.task_code.specs.Program.{Program}
use Rattle.task_code.specs.WorkedListing.{counter}
use Rattle.tower_report.specs.declared.rule.Rule.TheVariants.{Fixed, Ceiling, Cores}
use Rattle.tower_report.specs.RunText.{run_text}
use Rattle.tower_report.specs.ReplayText.{replay_text}
use Rattle.tower_report.specs.WorkedTexts.{lines}

-- ---- a period and a signal that add to one state, and put it out

-- of version 2, where one message may wait at each source
abbrev pub shallow : Arch
shallow = record inv {
  version = 2;
  sources =
      record { name = codes "low"; kind = Period 10; priority = 1; message = scalar I64; depth = Some 1 }
      ∷ signal (codes "high") (scalar U32) 9 (Some 1) ∷ [];
}

-- it pushes what is added, so a task has 14 instructions: 12 up to the end of its section, one output, one jump
abbrev adding : Instr → List Instr
adding added =
    Take 0 ∷ Lock 0 ∷ Push (pos 0) ∷ Push (pos 0) ∷ Ldm 0 0 1 ∷ added ∷ Bin op.Add U32 ∷ Stm 0 0 1
    ∷ Push (pos 0) ∷ Ldm 0 0 1 ∷ St 1 ∷ Unlock 0 ∷ Write 0 1 ∷ Jmp 0 ∷ []

abbrev pub adders : Program
adders = record {
  monitors = 1 ∷ [];
  outputs = 1 ∷ [];
  tasks =
      record { priority = 1; message = 1; room = 2; buffers = []; code = adding (Push (pos 1)) }
      ∷ record { priority = 9; message = 1; room = 2; buffers = []; code = adding (Ld 0) } ∷ [];
}

-- the second signal finds the queue full
abbrev pub entries : List Entry
entries = replicate 10 tick ++ sig 1 5 ∷ sig 1 7 ∷ []

pub record WorkedRuns : Type 0 where
  -- ten entries, the start at the first instruction, the end of the section at the ninth, and a jump
  pub plain : run_text clock counter (events_of clock (replicate 10 tick)) [] 100 None
      ≡ lines (replicate 10 (codes "0 a") ++ codes "1 s beat" ∷ codes "9 r beat" ∷ codes "state count n 1" ∷ codes "count 10" ∷ codes "done" ∷ [])
  -- stopped in the section, by a rule that names no waiting task
  pub stopped : run_text clock counter (events_of clock (replicate 10 tick)) [] 5 (Some Fixed)
      ≡ lines (replicate 10 (codes "0 a") ++ codes "1 s beat" ∷ codes "held count" ∷ codes "count 5" ∷ codes "waits 0" ∷ codes "stopped" ∷ [])
  -- low has taken and locked when the signals come, and high waits while low executes ten instructions
  pub waits : run_text shallow adders (events_of shallow entries) (Ev 10 ∷ See 0 2 ∷ Ev 2 ∷ []) 100 (Some Fixed)
      ≡ lines (replicate 10 (codes "0 a")
      ++ codes "1 s low" ∷ codes "2 a" ∷ codes "2 a" ∷ codes "3 s high" ∷ codes "13 r low" ∷ codes "24 r high"
      ∷ codes "25 o high" ∷ codes "out seen 6" ∷ codes "27 o low" ∷ codes "out seen 1"
      ∷ codes "state m x 6" ∷ codes "lost low 0" ∷ codes "lost high 1" ∷ codes "count 28" ∷ codes "waits 10" ∷ codes "done" ∷ [])
  -- the same by the ceiling rule: low, which holds the lock, goes first, and none waits
  pub ceiling : run_text shallow adders (events_of shallow entries) (Ev 10 ∷ See 0 2 ∷ Ev 2 ∷ []) 100 (Some Ceiling)
      ≡ lines (replicate 10 (codes "0 a")
      ++ codes "1 s low" ∷ codes "2 a" ∷ codes "2 a" ∷ codes "12 r low" ∷ codes "13 s high" ∷ codes "24 r high"
      ∷ codes "25 o high" ∷ codes "out seen 6" ∷ codes "27 o low" ∷ codes "out seen 1"
      ∷ codes "state m x 6" ∷ codes "lost low 0" ∷ codes "lost high 1" ∷ codes "count 28" ∷ codes "waits 0" ∷ codes "done" ∷ [])
  -- the same on two cores: low runs alone until it unlocks, and then the cores take turns, high on the first
  pub two_cores : run_text shallow adders (events_of shallow entries) (Ev 10 ∷ See 0 2 ∷ Ev 2 ∷ []) 100 (Some (Cores 2))
      ≡ lines (replicate 10 (codes "0 a")
      ++ codes "1 s low" ∷ codes "2 a" ∷ codes "2 a" ∷ codes "3 s high" ∷ codes "13 r low" ∷ codes "14 o low" ∷ codes "out seen 1"
      ∷ codes "26 r high" ∷ codes "27 o high" ∷ codes "out seen 6"
      ∷ codes "state m x 6" ∷ codes "lost low 0" ∷ codes "lost high 1" ∷ codes "count 28" ∷ codes "core 0 26" ∷ codes "core 1 2" ∷ codes "done" ∷ [])

-- ---- replays

abbrev beats : ℕ → List Mark
beats n = replicate n Arrive

-- the marks of the run above
abbrev pub marks : List Mark
marks = beats 10 ++ Start 0 ∷ Arrive ∷ Arrive ∷ Start 1 ∷ Run 0 ∷ Run 1 ∷ Out 1 ∷ Out 0 ∷ []

-- with the handler of high after its output
abbrev pub marks_exchanged : List Mark
marks_exchanged = beats 10 ++ Start 0 ∷ Arrive ∷ Arrive ∷ Start 1 ∷ Run 0 ∷ Out 1 ∷ Run 1 ∷ Out 0 ∷ []

pub record WorkedReplays : Type 0 where
  pub nothing_done : replay_text clock (events_of clock (replicate 10 tick)) (beats 2)
      ≡ lines (codes "state count n 0" ∷ codes "waiting beat 0" ∷ codes "pending beat 0" ∷ codes "done" ∷ [])
  -- ten ticks bring a message, which can't start twice
  pub start_twice : replay_text clock (events_of clock (replicate 10 tick)) (beats 10 ++ Start 0 ∷ Start 0 ∷ Arrive ∷ [])
      ≡ lines (codes "state count n 0" ∷ codes "waiting beat 0" ∷ codes "pending beat 1" ∷ codes "misfit 12" ∷ [])
  pub outputs : replay_text inv (events_of inv inv_entries) inv_waits
      ≡ lines (codes "out seen 6" ∷ codes "out seen 1" ∷ codes "state m x 6"
      ∷ codes "waiting low 0" ∷ codes "pending low 0" ∷ codes "waiting high 0" ∷ codes "pending high 0" ∷ codes "done" ∷ [])
  pub output_early : replay_text inv (events_of inv inv_entries) inv_output_early
      ≡ lines (codes "state m x 1"
      ∷ codes "waiting low 0" ∷ codes "pending low 1" ∷ codes "waiting high 0" ∷ codes "pending high 1" ∷ codes "misfit 15" ∷ [])
  pub lost : replay_text shallow (events_of shallow entries) marks
      ≡ lines (codes "out seen 6" ∷ codes "out seen 1" ∷ codes "state m x 6"
      ∷ codes "waiting low 0" ∷ codes "pending low 0" ∷ codes "waiting high 0" ∷ codes "pending high 0"
      ∷ codes "lost low 0" ∷ codes "lost high 1" ∷ codes "done" ∷ [])
  pub lost_and_misfit : replay_text shallow (events_of shallow entries) marks_exchanged
      ≡ lines (codes "state m x 1"
      ∷ codes "waiting low 0" ∷ codes "pending low 1" ∷ codes "waiting high 0" ∷ codes "pending high 1"
      ∷ codes "lost low 0" ∷ codes "lost high 1" ∷ codes "misfit 16" ∷ [])
