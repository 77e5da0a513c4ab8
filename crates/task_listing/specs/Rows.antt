-- The operands of an instruction, as words.
use Rattle.std.specs.Prelude.{List, [], ◌∷◌}
use Rattle.task_listing.specs.declared.row.Operands.{Operands}
use Rattle.task_listing.specs.declared.row.Operands.TheVariants as operands
use Rattle.task_listing.specs.Spelling.{Word, natural, integer, unary, binary, scalar}

abbrev pub operand_words : Operands → List Word
operand_words operands.None = []
operand_words (operands.Literal n) = integer n ∷ []
operand_words (operands.One a) = natural a ∷ []
operand_words (operands.Two a b) = natural a ∷ natural b ∷ []
operand_words (operands.Three a b c) = natural a ∷ natural b ∷ natural c ∷ []
operand_words (operands.Unary op t) = unary op ∷ scalar t ∷ []
operand_words (operands.Binary op t) = binary op ∷ scalar t ∷ []
operand_words (operands.Type t) = scalar t ∷ []
