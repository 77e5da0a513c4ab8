-- The instructions by which a message goes into a buffer.
use Rattle.std.specs.Prelude.{ℕ, zero, suc, ◌+◌, pos}
use Rattle.task_code.specs.declared.program.Instr.TheVariants.{Push, Ld, Bput, Badd}
use Rattle.task_code.specs.Piece.{Piece, nil, ins, ◌▸◌}

-- n words of a message, from its j-th on, which stand in private words from a on, go into the next message of a buffer
abbrev pub words_put : ℕ → ℕ → ℕ → ℕ → Piece
words_put a buffer j zero = nil
words_put a buffer j (suc n) = ins (Push (pos j)) ▸ ins (Ld (a + j)) ▸ ins (Bput buffer) ▸ words_put a buffer (suc j) n

-- the message whose words stand in private words from scratch on goes into a buffer
abbrev pub emission : ℕ → ℕ → ℕ → Piece
emission scratch buffer width = words_put scratch buffer 0 width ▸ ins (Badd buffer)
