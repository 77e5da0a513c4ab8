-- A message that goes into the buffer of an emitter.
use Rattle.std.specs.Prelude.{ℕ, ◌+◌, ◌<◌, length, slice_index_or}
use Rattle.tower_syntax.specs.Arch.{Arch}
use Rattle.tower_syntax.specs.Graph.{handler}
use Rattle.tower_syntax.specs.Weights.{emitter_words}
use Rattle.channel_graph.specs.Over.{no_emitter}
use Rattle.task_code.specs.declared.frame.Frame.{Frame}
use Rattle.task_code.specs.Piece.{Piece}
use Rattle.task_code.specs.Emission.{emission}

-- the handler has an emitter of this number
abbrev pub HasEmitter : Arch → ℕ → ℕ → Type 0
HasEmitter arch h k = k < length (handler arch h).emitters

-- what moves the message in the words of the handler's k-th emitter into its buffer
abbrev pub emission_of : Arch → ℕ → ℕ → Frame → Piece
emission_of arch h k f = emission (slice_index_or f.scratch k 0) (f.first_buffer + k) (emitter_words arch (slice_index_or (handler arch h).emitters k no_emitter))
