-- The programs of small systems, worked out by hand.
use Rattle.std.specs.Prelude.{◌≡◌, [], ◌∷◌, pos}
use Rattle.tower_types.specs.declared.scalar.Scalar.TheVariants.{U8, U32, U64}
use Rattle.tower_types.specs.declared.scalar.BinOp.TheVariants.{Add, Mul, Less}
use Rattle.tower_syntax.specs.Examples.{clock, order, dia}
use Rattle.task_code.specs.declared.program.Instr.TheVariants.{Push, Ld, St, Ldm, Stm, Bin, Jmp, Jz, Call, Ret, Take, Lock, Unlock, Out, Bclr, Bput, Badd, Bget, Bcnt}
use Rattle.task_code.specs.Program.{Program}
use Rattle.lock_reduction.specs.Wrong.{tell}
use Rattle.task_build.specs.CodeOf.{code_of}

-- emitter by emitter: all that the first holds goes before what the second holds
abbrev pub order_program : Program
order_program = record {
  monitors = 0 ∷ [];
  outputs = 1 ∷ [];
  tasks = record {
    priority = 1;
    message = 1;
    room = 6;
    buffers = record { width = 1; bound = 2 } ∷ record { width = 1; bound = 1 } ∷ [];
    code = Take 0 ∷ Call 3 ∷ Jmp 0
        ∷ Lock 0 ∷ Bclr 0 ∷ Bclr 1
        ∷ Push (pos 1) ∷ St 4 ∷ Push (pos 0) ∷ Ld 4 ∷ Bput 0 ∷ Badd 0
        ∷ Push (pos 2) ∷ St 5 ∷ Push (pos 0) ∷ Ld 5 ∷ Bput 1 ∷ Badd 1
        ∷ Push (pos 3) ∷ St 4 ∷ Push (pos 0) ∷ Ld 4 ∷ Bput 0 ∷ Badd 0 ∷ Unlock 0
        ∷ Push (pos 0) ∷ St 3 ∷ Ld 3 ∷ Bcnt 0 ∷ Bin Less U64 ∷ Jz 41
        ∷ Ld 3 ∷ Push (pos 0) ∷ Bget 0 ∷ St 4 ∷ Out 0 4 ∷ Ld 3 ∷ Push (pos 1) ∷ Bin Add U64 ∷ St 3 ∷ Jmp 27
        ∷ Push (pos 0) ∷ St 3 ∷ Ld 3 ∷ Bcnt 1 ∷ Bin Less U64 ∷ Jz 57
        ∷ Ld 3 ∷ Push (pos 0) ∷ Bget 1 ∷ St 5 ∷ Out 0 5 ∷ Ld 3 ∷ Push (pos 1) ∷ Bin Add U64 ∷ St 3 ∷ Jmp 43 ∷ Ret ∷ [];
  } ∷ [];
}

pub record WorkedPrograms : Type 0 where
  -- from TAKE back to TAKE the clock executes twelve instructions
  pub clock_is : code_of clock ≡ record {
    monitors = 1 ∷ [];
    outputs = [];
    tasks = record {
      priority = 5;
      message = 1;
      room = 4;
      buffers = [];
      code = Take 0 ∷ Call 3 ∷ Jmp 0
          ∷ Lock 0 ∷ Push (pos 0) ∷ Push (pos 0) ∷ Ldm 0 0 1 ∷ Push (pos 1) ∷ Bin Add U32 ∷ Stm 0 0 1 ∷ Unlock 0 ∷ Ret ∷ [];
    } ∷ [];
  }
  -- a message goes from the frame into the buffer, and behind UNLOCK to one output after the other
  pub tell_is : code_of tell ≡ record {
    monitors = 0 ∷ [];
    outputs = 1 ∷ 1 ∷ [];
    tasks = record {
      priority = 1;
      message = 1;
      room = 5;
      buffers = record { width = 1; bound = 1 } ∷ [];
      code = Take 0 ∷ Call 3 ∷ Jmp 0
          ∷ Lock 0 ∷ Bclr 0 ∷ Push (pos 0) ∷ Ld 0 ∷ Bput 0 ∷ Badd 0 ∷ Unlock 0
          ∷ Push (pos 0) ∷ St 3 ∷ Ld 3 ∷ Bcnt 0 ∷ Bin Less U64 ∷ Jz 31
          ∷ Ld 3 ∷ Push (pos 0) ∷ Bget 0 ∷ St 4 ∷ Out 0 4
          ∷ Ld 3 ∷ Push (pos 0) ∷ Bget 0 ∷ St 4 ∷ Out 1 4
          ∷ Ld 3 ∷ Push (pos 1) ∷ Bin Add U64 ∷ St 3 ∷ Jmp 12 ∷ Ret ∷ [];
    } ∷ [];
  }
  pub order_is : code_of order ≡ order_program
  -- the message is copied to the frame of each subscriber, which is then called: it delivers what it sends before the next is called
  pub dia_is : code_of dia ≡ record {
    monitors = 0 ∷ [];
    outputs = 1 ∷ [];
    tasks = record {
      priority = 1;
      message = 1;
      room = 15;
      buffers = record { width = 1; bound = 2 } ∷ record { width = 1; bound = 1 } ∷ record { width = 1; bound = 1 } ∷ [];
      code = Take 0 ∷ Call 3 ∷ Jmp 0
          ∷ Lock 0 ∷ Bclr 0 ∷ Push (pos 0) ∷ Ld 0 ∷ Bput 0 ∷ Badd 0
          ∷ Ld 0 ∷ Push (pos 1) ∷ Bin Add U8 ∷ St 4 ∷ Push (pos 0) ∷ Ld 4 ∷ Bput 0 ∷ Badd 0 ∷ Unlock 0
          ∷ Push (pos 0) ∷ St 3 ∷ Ld 3 ∷ Bcnt 0 ∷ Bin Less U64 ∷ Jz 39
          ∷ Ld 3 ∷ Push (pos 0) ∷ Bget 0 ∷ St 5 ∷ Call 40 ∷ Ld 3 ∷ Push (pos 0) ∷ Bget 0 ∷ St 10 ∷ Call 68
          ∷ Ld 3 ∷ Push (pos 1) ∷ Bin Add U64 ∷ St 3 ∷ Jmp 20 ∷ Ret
          ∷ Lock 0 ∷ Bclr 1 ∷ Ld 5 ∷ Push (pos 2) ∷ Bin Mul U8 ∷ St 9 ∷ Push (pos 0) ∷ Ld 9 ∷ Bput 1 ∷ Badd 1 ∷ Unlock 0
          ∷ Push (pos 0) ∷ St 8 ∷ Ld 8 ∷ Bcnt 1 ∷ Bin Less U64 ∷ Jz 67
          ∷ Ld 8 ∷ Push (pos 0) ∷ Bget 1 ∷ St 9 ∷ Out 0 9 ∷ Ld 8 ∷ Push (pos 1) ∷ Bin Add U64 ∷ St 8 ∷ Jmp 53 ∷ Ret
          ∷ Lock 0 ∷ Bclr 2 ∷ Ld 10 ∷ Push (pos 3) ∷ Bin Mul U8 ∷ St 14 ∷ Push (pos 0) ∷ Ld 14 ∷ Bput 2 ∷ Badd 2 ∷ Unlock 0
          ∷ Push (pos 0) ∷ St 13 ∷ Ld 13 ∷ Bcnt 2 ∷ Bin Less U64 ∷ Jz 95
          ∷ Ld 13 ∷ Push (pos 0) ∷ Bget 2 ∷ St 14 ∷ Out 0 14 ∷ Ld 13 ∷ Push (pos 1) ∷ Bin Add U64 ∷ St 13 ∷ Jmp 81 ∷ Ret ∷ [];
    } ∷ [];
  }
