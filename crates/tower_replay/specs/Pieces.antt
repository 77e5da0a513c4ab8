-- The pieces of a replay's text.
use Rattle.std.specs.Prelude.{◌≡◌, ℕ, ◌<◌, ◌≤◌, List, [], ◌++◌, flat_map, length, All, Option, slice_index_or}
use Rattle.tower_types.specs.Ty.{depth}
use Rattle.tower_types.specs.Value.{Value, parts, no_values}
use Rattle.tower_types.specs.View.{value_of}
use Rattle.tower_syntax.specs.Arch.{Arch}
use Rattle.tower_syntax.specs.Graph.{numbers_before}
use Rattle.tower_syntax.specs.Weights.{states_of}
use Rattle.tower_meaning.specs.Atomic.{Atomic}
use Rattle.arch_checks.specs.Offences.{source_name}
use Rattle.atomic_state.specs.declared.trial.Verdict.{Verdict}
use Rattle.tower_report.specs.Bytes.{Bytes}
use Rattle.tower_report.specs.MarkText.{output_shape}
use Rattle.tower_report.specs.EndText.{lost_text}
use Rattle.tower_report.specs.ReplayText.{message_line, monitor_value_text, waiting_line, pending_line, source_text, state_text, replay_end}
use Rattle.tower_report.specs.ValueText.{shapes_in, shapes_depth}
use Rattle.tower_replay.specs.declared.piece.Piece.{Piece}
use Rattle.tower_replay.specs.declared.piece.Piece.TheVariants as piece

abbrev pub piece_text : Arch → Piece → Bytes
piece_text arch (piece.Message o v) = message_line arch (o, value_of v.now)
piece_text arch (piece.Monitor m v) = monitor_value_text arch m (value_of v.now)
piece_text arch (piece.Waiting x n) = waiting_line (source_name arch x) n
piece_text arch (piece.Pending x n) = pending_line (source_name arch x) n
piece_text arch (piece.Lost x n) = lost_text arch x n
piece_text arch (piece.End misfit) = replay_end misfit

-- ---- which of them can be put

pub record IsFitOutput (arch : Arch) (o : ℕ) : Type 0 where
  pub exists : o < length arch.outputs
  pub shallow : depth (output_shape arch o) ≤ 32

pub record IsFitMonitor (arch : Arch) (m : ℕ) : Type 0 where
  pub exists : m < length arch.monitors
  pub shallow : shapes_depth (shapes_in arch.records (states_of arch m)) ≤ 32

abbrev pub IsFitPiece : Arch → Piece → Type 0
IsFitPiece arch (piece.Message o v) = IsFitOutput arch o
IsFitPiece arch (piece.Monitor m v) = IsFitMonitor arch m
IsFitPiece arch (piece.Waiting x n) = x < length arch.sources
IsFitPiece arch (piece.Pending x n) = x < length arch.sources
IsFitPiece arch (piece.Lost x n) = x < length arch.sources
IsFitPiece arch (piece.End misfit) = Unit {0}

-- each output exists
abbrev pub AreOutputs : Arch → List (ℕ × Value) → Type 0
AreOutputs arch outputs = All (λ o. o.0 < length arch.outputs) outputs

-- ---- what they make

abbrev pub messages_text : Arch → List (ℕ × Value) → Bytes
messages_text arch outputs = flat_map (message_line arch) outputs

-- the states of all monitors, which have these values
abbrev pub monitors_text : Arch → List Value → Bytes
monitors_text arch values = flat_map (λ m. monitor_value_text arch m (slice_index_or values m (parts no_values))) (numbers_before (length arch.monitors) [])

-- what waits and what is pending at a source
abbrev pub source_line : Arch → Atomic → ℕ → Bytes
source_line arch s x = source_text arch x (length (slice_index_or s.queues x [])) (length (slice_index_or s.pending x []))

abbrev pub sources_text : Arch → Atomic → Bytes
sources_text arch s = flat_map (source_line arch s) (numbers_before (length arch.sources) [])

-- the whole text
abbrev pub verdict_text : Arch → Verdict → Bytes
verdict_text arch v = state_text arch v.state.state ++ replay_end v.misfit
