-- The messages of an emitter, as they stand in a task.
use Rattle.std.specs.Prelude.{ℕ, ◌+◌, slice_index_or}
use Rattle.tower_syntax.specs.Arch.{Arch, Emitter}
use Rattle.tower_syntax.specs.Weights.{emitter_words}
use Rattle.task_code.specs.declared.frame.Frame.{Frame}
use Rattle.emit_code.specs.declared.delivery.Outgoing.{Outgoing}

-- the word that counts the messages, the buffer, the words of a message, and how many these are
abbrev pub outgoing_of : Arch → Frame → ℕ → Emitter → Outgoing
outgoing_of arch f k e = record {
  counter = f.temps + 2;
  buffer = f.first_buffer + k;
  scratch = slice_index_or f.scratch k 0;
  width = emitter_words arch e;
}
