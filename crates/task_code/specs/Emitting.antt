-- What the code of an emission does.
use Rattle.std.specs.Prelude.{◌≡◌, ℕ, suc, ◌+◌, ◌*◌, ◌<◌, ◌≤◌, ℤ, List, length, take, drop, Some, slice_get, slice_set}
use Rattle.task_code.specs.declared.program.Buffer.{Buffer}
use Rattle.task_code.specs.declared.program.Task.{Task}
use Rattle.task_code.specs.Program.{Program}
use Rattle.task_code.specs.Own.{Filled, Own}
use Rattle.task_code.specs.Leads.{Leads}
use Rattle.task_code.specs.Formed.{IsFormedBuffer}
use Rattle.task_code.specs.Piece.{end, listed, Stands}
use Rattle.task_code.specs.Emission.{emission}

-- a buffer with these words as one message more
abbrev pub with_message : Filled → List ℤ → Filled
with_message f words = record { count = suc f.count; slots = slice_set f.slots f.count words }

-- behind the emission: the words from scratch on are the next message of the buffer, and all else is as before
abbrev pub emitted : (scratch buffer width : ℕ) → Own → Filled → Own
emitted scratch buffer width o f = record o {
  place = end o.place (emission scratch buffer width);
  buffers = slice_set o.buffers buffer (with_message f (take width (drop scratch o.words)));
}

-- Where the code of an emission stands, the buffer has that width and is not full, and the operand stack has room for
-- 8 words, 3 w + 1 instructions lead behind it.
abbrev pub EmissionEmits : Type 0
EmissionEmits =
    (p : Program) (t : Task) (scratch buffer width : ℕ) (s : Buffer) (f : Filled) (o : Own)
    → slice_get t.buffers buffer ≡ Some s → s.width ≡ width → slice_get o.buffers buffer ≡ Some f → IsFormedBuffer s f → f.count < s.bound
    → scratch + width ≤ length o.words → length o.stack + 8 ≤ 64 → Stands t.code o.place (emission scratch buffer width)
    → Leads p t (3 * width + 1) o (emitted scratch buffer width o f)

abbrev pub EmissionIsShort : Type 0
EmissionIsShort = (scratch buffer width : ℕ) → length (listed (emission scratch buffer width)) ≡ 3 * width + 1
