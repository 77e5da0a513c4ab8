-- Code as a tree of pieces: it is flattened once, so that no proof cuts a list.
use Rattle.std.specs.Prelude.{◌≡◌, ℕ, suc, List, [], ◌∷◌, ◌++◌, Some, slice_get}
use Rattle.task_code.specs.declared.program.Instr.{Instr}

infixr 40 ◌▸◌
pub data Piece : Type 0 where
  nil : Piece
  ins : Instr → Piece
  ◌▸◌ : Piece → Piece → Piece

-- the place behind a piece that begins at a
abbrev pub end : ℕ → Piece → ℕ
end a nil = a
end a (ins i) = suc a
end a (x ▸ y) = end (end a x) y

abbrev pub listed : Piece → List Instr
listed nil = []
listed (ins i) = i ∷ []
listed (x ▸ y) = listed x ++ listed y

-- the piece stands in the code from a on
abbrev pub Stands : List Instr → ℕ → Piece → Type 0
Stands code a nil = Unit {0}
Stands code a (ins i) = slice_get code a ≡ Some i
Stands code a (x ▸ y) = Stands code a x × Stands code (end a x) y

abbrev pub joined : List Piece → Piece
joined [] = nil
joined (x ∷ xs) = x ▸ joined xs
