-- What stands before and behind the body of a loop.
use Rattle.std.specs.Prelude.{ℕ, List, [], ◌∷◌, pos}
use Rattle.tower_types.specs.declared.scalar.Scalar.TheVariants.{U64}
use Rattle.tower_types.specs.declared.scalar.BinOp.TheVariants.{Add, Less}
use Rattle.task_code.specs.declared.program.Instr.{Instr}
use Rattle.task_code.specs.declared.program.Instr.TheVariants.{Push, Ld, St, Bin, Jmp}

-- n turns are counted in the word at a, and here a turn is tested
abbrev pub loop_head : ℕ → ℕ → List Instr
loop_head a n = Push (pos 0) ∷ St a ∷ Ld a ∷ Push (pos n) ∷ Bin Less U64 ∷ []

-- a turn more, and back to its test
abbrev pub loop_end : ℕ → ℕ → List Instr
loop_end a turn = Ld a ∷ Push (pos 1) ∷ Bin Add U64 ∷ St a ∷ Jmp turn ∷ []
