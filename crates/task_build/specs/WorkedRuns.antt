-- Small systems whose programs are worked out by hand, and what a run of each puts out.
use Rattle.std.specs.Prelude.{◌≡◌, ℕ, ℤ, List, [], ◌∷◌, ◌++◌, replicate, pos, None, codes}
use Rattle.tower_types.specs.declared.scalar.Scalar.TheVariants.{U8, U64}
use Rattle.tower_types.specs.declared.scalar.BinOp.TheVariants.{Add, Mul, Less}
use Rattle.tower_syntax.specs.declared.body.Root.TheVariants.{Param}
use Rattle.tower_syntax.specs.declared.arch.On.TheVariants as on
use Rattle.tower_syntax.specs.declared.event.Mark.{Mark}
use Rattle.tower_syntax.specs.declared.event.Mark.TheVariants as mark
use Rattle.tower_syntax.specs.Tree.{Expr, bin, cast, emit}
use Rattle.tower_syntax.specs.Arch.{Arch, Entry, tick}
use Rattle.tower_syntax.specs.Examples.{order, value_at, number, period, channel, emitter, callback, handler, dia}
use Rattle.tower_meaning.specs.WorkedRuns.{events_of, sig}
use Rattle.task_code.specs.declared.program.Instr.TheVariants.{Push, Ld, St, Ldm, Stm, Bin, Cast, Jmp, Jz, Call, Ret, Take, Lock, Unlock, Out, Bclr, Bput, Badd, Bget, Bcnt}
use Rattle.task_code.specs.Program.{Program}
use Rattle.task_code.specs.Machine.{Lock as MonitorLock, Free}
use Rattle.task_code.specs.Run.{Run}
use Rattle.task_code.specs.Policy.{fixed}
use Rattle.task_code.specs.Plan.{plan}
use Rattle.thread_split.specs.Worked.{walks}
use Rattle.task_build.specs.CodeOf.{code_of}
use Rattle.task_build.specs.WorkedPrograms.{order_program}

-- the message of a period, as a byte
abbrev byte : Expr
byte = cast U8 (value_at Param)

-- (tower diap (period start 5 1) (channel c1 u8) (channel c2 u8) (output screen c2)
--  (monitor m
--   (handler top start (emitter e c1 2) (callback v (emit e (cast u8 v)) (emit e (+ (cast u8 v) (u8 1)))))
--   (handler left c1 (emitter f c2 1) (callback v (emit f (* v (u8 2)))))
--   (handler right c1 (emitter g c2 1) (callback v (emit g (* v (u8 3)))))))
abbrev pub diap : Arch
diap = record dia {
  name = codes "diap";
  sources = period (codes "start") 5 1 ∷ [];
  handlers =
      handler (codes "top") 0 (on.Source 0) (emitter (codes "e") 0 2 ∷ []) (callback (codes "v") []
      (emit 0 byte ∷ emit 0 (bin Add U8 byte (number U8 1)) ∷ []))
      ∷ handler (codes "left") 0 (on.Channel 0) (emitter (codes "f") 1 1 ∷ []) (callback (codes "v") []
      (emit 0 (bin Mul U8 (value_at Param) (number U8 2)) ∷ []))
      ∷ handler (codes "right") 0 (on.Channel 0) (emitter (codes "g") 1 1 ∷ []) (callback (codes "v") []
      (emit 0 (bin Mul U8 (value_at Param) (number U8 3)) ∷ []))
      ∷ [];
}

-- what is no place goes through the scratch word of its emitter
abbrev pub diap_program : Program
diap_program = record {
  monitors = 0 ∷ [];
  outputs = 1 ∷ [];
  tasks = record {
    priority = 1;
    message = 1;
    room = 15;
    buffers = record { width = 1; bound = 2 } ∷ record { width = 1; bound = 1 } ∷ record { width = 1; bound = 1 } ∷ [];
    code = Take 0 ∷ Call 3 ∷ Jmp 0
        ∷ Lock 0 ∷ Bclr 0 ∷ Ld 0 ∷ Cast U8 ∷ St 4 ∷ Push (pos 0) ∷ Ld 4 ∷ Bput 0 ∷ Badd 0
        ∷ Ld 0 ∷ Cast U8 ∷ Push (pos 1) ∷ Bin Add U8 ∷ St 4 ∷ Push (pos 0) ∷ Ld 4 ∷ Bput 0 ∷ Badd 0 ∷ Unlock 0
        ∷ Push (pos 0) ∷ St 3 ∷ Ld 3 ∷ Bcnt 0 ∷ Bin Less U64 ∷ Jz 43
        ∷ Ld 3 ∷ Push (pos 0) ∷ Bget 0 ∷ St 5 ∷ Call 44 ∷ Ld 3 ∷ Push (pos 0) ∷ Bget 0 ∷ St 10 ∷ Call 72
        ∷ Ld 3 ∷ Push (pos 1) ∷ Bin Add U64 ∷ St 3 ∷ Jmp 24 ∷ Ret
        ∷ Lock 0 ∷ Bclr 1 ∷ Ld 5 ∷ Push (pos 2) ∷ Bin Mul U8 ∷ St 9 ∷ Push (pos 0) ∷ Ld 9 ∷ Bput 1 ∷ Badd 1 ∷ Unlock 0
        ∷ Push (pos 0) ∷ St 8 ∷ Ld 8 ∷ Bcnt 1 ∷ Bin Less U64 ∷ Jz 71
        ∷ Ld 8 ∷ Push (pos 0) ∷ Bget 1 ∷ St 9 ∷ Out 0 9 ∷ Ld 8 ∷ Push (pos 1) ∷ Bin Add U64 ∷ St 8 ∷ Jmp 57 ∷ Ret
        ∷ Lock 0 ∷ Bclr 2 ∷ Ld 10 ∷ Push (pos 3) ∷ Bin Mul U8 ∷ St 14 ∷ Push (pos 0) ∷ Ld 14 ∷ Bput 2 ∷ Badd 2 ∷ Unlock 0
        ∷ Push (pos 0) ∷ St 13 ∷ Ld 13 ∷ Bcnt 2 ∷ Bin Less U64 ∷ Jz 99
        ∷ Ld 13 ∷ Push (pos 0) ∷ Bget 2 ∷ St 14 ∷ Out 0 14 ∷ Ld 13 ∷ Push (pos 1) ∷ Bin Add U64 ∷ St 13 ∷ Jmp 85 ∷ Ret ∷ [];
  } ∷ [];
}

-- a handler to which two walks lead stands once, and is called from two places; the output stands behind it
abbrev pub walks_program : Program
walks_program = record {
  monitors = 1 ∷ [];
  outputs = 1 ∷ [];
  tasks = record {
    priority = 1;
    message = 1;
    room = 15;
    buffers = record { width = 1; bound = 1 } ∷ record { width = 1; bound = 1 } ∷ record { width = 1; bound = 1 } ∷ [];
    code = Take 0 ∷ Call 3 ∷ Jmp 0
        ∷ Lock 0 ∷ Bclr 0 ∷ Bclr 1
        ∷ Push (pos 0) ∷ Ld 0 ∷ Bput 0 ∷ Badd 0 ∷ Push (pos 0) ∷ Ld 0 ∷ Bput 1 ∷ Badd 1 ∷ Unlock 0
        ∷ Push (pos 0) ∷ St 3 ∷ Ld 3 ∷ Bcnt 0 ∷ Bin Less U64 ∷ Jz 31
        ∷ Ld 3 ∷ Push (pos 0) ∷ Bget 0 ∷ St 6 ∷ Call 53 ∷ Ld 3 ∷ Push (pos 1) ∷ Bin Add U64 ∷ St 3 ∷ Jmp 17
        ∷ Push (pos 0) ∷ St 3 ∷ Ld 3 ∷ Bcnt 1 ∷ Bin Less U64 ∷ Jz 52
        ∷ Ld 3 ∷ Push (pos 0) ∷ Bget 1 ∷ St 11 ∷ Call 86 ∷ Ld 3 ∷ Push (pos 0) ∷ Bget 1 ∷ St 5 ∷ Out 0 5
        ∷ Ld 3 ∷ Push (pos 1) ∷ Bin Add U64 ∷ St 3 ∷ Jmp 33 ∷ Ret
        ∷ Lock 0 ∷ Bclr 2 ∷ Ld 6 ∷ Push (pos 1) ∷ Bin Add U8 ∷ St 10 ∷ Push (pos 0) ∷ Ld 10 ∷ Bput 2 ∷ Badd 2 ∷ Unlock 0
        ∷ Push (pos 0) ∷ St 9 ∷ Ld 9 ∷ Bcnt 2 ∷ Bin Less U64 ∷ Jz 85
        ∷ Ld 9 ∷ Push (pos 0) ∷ Bget 2 ∷ St 11 ∷ Call 86 ∷ Ld 9 ∷ Push (pos 0) ∷ Bget 2 ∷ St 10 ∷ Out 0 10
        ∷ Ld 9 ∷ Push (pos 1) ∷ Bin Add U64 ∷ St 9 ∷ Jmp 66 ∷ Ret
        ∷ Lock 0 ∷ Push (pos 0) ∷ Push (pos 0) ∷ Ldm 0 0 1 ∷ Ld 11 ∷ Bin Add U8 ∷ Stm 0 0 1 ∷ Unlock 0 ∷ Ret ∷ [];
  } ∷ [];
}

-- the run by the fixed priorities
abbrev pub run_of : Program → Arch → List Entry → Run
run_of p arch entries = (plan (fixed p) p (events_of arch entries) [] 1000).run

-- the marks of the run, what OUT wrote, and the locks at its end
abbrev pub Runs : Program → Arch → List Entry → List Mark → List (ℕ × List ℤ) → List MonitorLock → Type 0
Runs p arch entries marks written locks =
    let shown : Run → List Mark × List (ℕ × List ℤ) × List MonitorLock = λ r. (r.marks, r.written, r.machine.locks) in
    shown (run_of p arch entries) ≡ (marks, written, locks)

-- one number for an output
abbrev pub told : ℕ → ℕ × List ℤ
told n = (0, pos n ∷ [])

abbrev start : Mark
start = mark.Start 0

abbrev handled : Mark
handled = mark.Run 0

abbrev out : Mark
out = mark.Out 0

pub record WorkedRuns : Type 0 where
  pub diap_is : code_of diap ≡ diap_program
  pub walks_is : code_of walks ≡ walks_program
  -- depth first: all that follows from the first message comes before the second
  pub diap_runs : Runs diap_program diap (replicate 5 tick)
      (replicate 5 mark.Arrive ++ start ∷ handled ∷ handled ∷ out ∷ handled ∷ out ∷ handled ∷ out ∷ handled ∷ out ∷ [])
      (told 10 ∷ told 15 ∷ told 12 ∷ told 18 ∷ [])
      (Free [] ∷ [])
  -- emitter by emitter, although the second was emitted on before the first was the second time
  pub order_runs : Runs order_program order (sig 0 0 ∷ [])
      (mark.Arrive ∷ start ∷ handled ∷ out ∷ out ∷ out ∷ [])
      (told 1 ∷ told 3 ∷ told 2 ∷ [])
      (Free [] ∷ [])
  -- by the longer walk first, whose emitter is the first; and each time the handler before the output
  pub walks_runs : Runs walks_program walks (sig 0 5 ∷ [])
      (mark.Arrive ∷ start ∷ handled ∷ handled ∷ handled ∷ out ∷ handled ∷ out ∷ [])
      (told 6 ∷ told 5 ∷ [])
      (Free (pos 11 ∷ []) ∷ [])
