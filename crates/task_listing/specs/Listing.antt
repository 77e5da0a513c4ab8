-- The listing of a program: its one spelling.
use Rattle.std.specs.Prelude.{ℕ, List, [], ◌∷◌, ◌++◌, length, codes}
use Rattle.task_code.specs.declared.program.Buffer.{Buffer}
use Rattle.task_code.specs.declared.program.Task.{Task}
use Rattle.task_code.specs.declared.program.Instr.{Instr}
use Rattle.task_code.specs.Program.{Program}
use Rattle.task_listing.specs.Lines.{Bytes, texts}
use Rattle.task_listing.specs.Spelling.{Word, with_numbers, words_of, written}

-- a line with the number of items, and the text of each
abbrev pub counted : {A : Type 0} → Bytes → (A → Bytes) → List A → Bytes
counted head f xs = written (with_numbers head (length xs ∷ [])) ++ texts f xs

-- a line with a number
abbrev pub number_text : Bytes → ℕ → Bytes
number_text head n = written (with_numbers head (n ∷ []))

abbrev pub buffer_text : Buffer → Bytes
buffer_text b = written (with_numbers (codes "buffer") (b.width ∷ b.bound ∷ []))

abbrev pub instr_text : Instr → Bytes
instr_text i = written (words_of i)

abbrev pub task_line : Task → List Word
task_line t = with_numbers (codes "task") (t.priority ∷ t.message ∷ t.room ∷ length t.buffers ∷ length t.code ∷ [])

abbrev pub task_text : Task → Bytes
task_text t = written (task_line t) ++ texts buffer_text t.buffers ++ texts instr_text t.code

abbrev pub listing : Program → Bytes
listing p =
    codes "tower-listing 1\n"
    ++ counted (codes "monitors") (number_text (codes "monitor")) p.monitors
    ++ counted (codes "outputs") (number_text (codes "output")) p.outputs
    ++ counted (codes "tasks") task_text p.tasks
    ++ codes "end\n"
