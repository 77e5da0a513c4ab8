-- The words of a message that waits.
use Rattle.std.specs.Prelude.{ℤ, pos, List, [], ◌∷◌, Bool, true, false}
use Rattle.task_machine.specs.declared.message.Message.{Message}
use Rattle.task_machine.specs.declared.message.Message.TheVariants.{Number, Words}

abbrev pub said_words : Message → List ℤ
said_words (Number n) = pos n ∷ []
said_words (Words ws) = ws

abbrev pub is_number : Message → Bool
is_number (Number n) = true
is_number (Words ws) = false
