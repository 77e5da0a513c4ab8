-- A worked listing with each instruction once. No two operands of a line are the same.
use Rattle.std.specs.Prelude.{◌≡◌, List, [], ◌∷◌, ◌++◌, codes, pos, neg_ℤ}
use Rattle.tower_types.specs.declared.scalar.Scalar.TheVariants as scalar
use Rattle.tower_types.specs.declared.scalar.BinOp.TheVariants as op
use Rattle.tower_types.specs.declared.scalar.UnOp.TheVariants as un
use Rattle.task_code.specs.declared.program.Buffer.{Buffer}
use Rattle.task_code.specs.declared.program.Instr.{Instr}
use Rattle.task_code.specs.declared.program.Instr.TheVariants.{Push, Drop, Dup, Ld, St, Ldx, Stx, Ldm, Stm, Un, Bin, Cast, Jmp, Jz, Call, Ret, Take, Lock, Unlock, Out, Bclr, Bput, Badd, Bget, Bcnt}
use Rattle.task_code.specs.Program.{Program}
use Rattle.task_listing.specs.Lines.{Bytes}
use Rattle.task_listing.specs.Listing.{listing}
use Rattle.task_listing.specs.Laws.{IsProgram}

abbrev pub each_instruction : List Instr
each_instruction =
    Push (neg_ℤ (pos 12)) ∷ Drop ∷ Dup ∷ Ld 10 ∷ St 11 ∷ Ldx 12 13 ∷ Stx 14 15 ∷ Ldm 1 2 6 ∷ Stm 2 1 4
    ∷ Un un.Neg scalar.I16 ∷ Bin op.LessEq (scalar.Ix 300) ∷ Cast scalar.U64 ∷ Jmp 21 ∷ Jz 22 ∷ Call 23 ∷ Ret
    ∷ Take 16 ∷ Lock 0 ∷ Unlock 2 ∷ Out 2 17 ∷ Bclr 1 ∷ Bput 2 ∷ Badd 3 ∷ Bget 4 ∷ Bcnt 5 ∷ []

abbrev pub six_buffers : List Buffer
six_buffers =
    record { width = 1; bound = 8 } ∷ record { width = 2; bound = 7 } ∷ record { width = 3; bound = 6 }
    ∷ record { width = 4; bound = 5 } ∷ record { width = 5; bound = 4 } ∷ record { width = 6; bound = 3 } ∷ []

abbrev pub every : Program
every = record {
  monitors = 4 ∷ 9 ∷ 5 ∷ [];
  outputs = 3 ∷ 1 ∷ 2 ∷ [];
  tasks = record { priority = 200; message = 3; room = 40; buffers = six_buffers; code = each_instruction } ∷ [];
}

abbrev pub every_text : Bytes
every_text =
    codes "tower-listing 1\nmonitors 3\nmonitor 4\nmonitor 9\nmonitor 5\noutputs 3\noutput 3\noutput 1\noutput 2\ntasks 1\n"
    ++ codes "task 200 3 40 6 25\nbuffer 1 8\nbuffer 2 7\nbuffer 3 6\nbuffer 4 5\nbuffer 5 4\nbuffer 6 3\n"
    ++ codes "PUSH -12\nDROP\nDUP\nLD 10\nST 11\nLDX 12 13\nSTX 14 15\nLDM 1 2 6\nSTM 2 1 4\n"
    ++ codes "UN neg i16\nBIN <= ix:300\nCAST u64\nJMP 21\nJZ 22\nCALL 23\nRET\n"
    ++ codes "TAKE 16\nLOCK 0\nUNLOCK 2\nOUT 2 17\nBCLR 1\nBPUT 2\nBADD 3\nBGET 4\nBCNT 5\nend\n"

pub record WorkedTable : Type 0 where
  pub is_program : IsProgram every
  pub same : listing every ≡ every_text
