-- The pieces of a run's text.
use Rattle.std.specs.Prelude.{◌≡◌, ℕ, ◌<◌, ◌≤◌, ℤ, List, [], ◌++◌, length, Option, Some, None, slice_get, slice_index}
use Rattle.tower_types.specs.Ty.{depth, words}
use Rattle.tower_syntax.specs.declared.event.Mark.{Mark}
use Rattle.tower_syntax.specs.Arch.{Arch}
use Rattle.tower_syntax.specs.Weights.{states_of}
use Rattle.task_machine.specs.State.{State, wrote_last}
use Rattle.tower_report.specs.Bytes.{Bytes}
use Rattle.tower_report.specs.MarkText.{IsMarkOf, mark_line, out_line, output_shape}
use Rattle.tower_report.specs.EndText.{monitor_text, shown_by, lost_text, count_line, waits_line, core_line, last_line}
use Rattle.tower_report.specs.ValueText.{shapes_in, shapes_depth, shapes_words}
use Rattle.tower_run.specs.declared.piece.Piece.{Piece}
use Rattle.tower_run.specs.declared.piece.Piece.TheVariants as piece

-- the line of a mark, as instruction number n, if there is one
abbrev pub marked_text : Arch → ℕ → Option Mark → Bytes
marked_text arch n None = []
marked_text arch n (Some mark) = mark_line arch n mark

-- the line of what was written on an output, if something was
abbrev pub wrote_text : Arch → Option (ℕ × List ℤ) → Bytes
wrote_text arch None = []
wrote_text arch (Some w) = out_line arch w

abbrev pub lines_text : Arch → ℕ → Option Mark → Option (ℕ × List ℤ) → Bytes
lines_text arch n mark wrote = marked_text arch n mark ++ wrote_text arch wrote

abbrev pub piece_text : Arch → State → Piece → Bytes
piece_text arch s (piece.Lines n mark) = lines_text arch n mark (wrote_last s)
piece_text arch s (piece.Monitor m) = monitor_text arch m (shown_by (slice_get s.machine.locks m))
piece_text arch s (piece.Lost x) = lost_text arch x (slice_index s.machine.lost x)
piece_text arch s (piece.Count n) = count_line n
piece_text arch s (piece.Waits n) = waits_line n
piece_text arch s (piece.Core i n) = core_line i n
piece_text arch s (piece.End stopped) = last_line stopped

-- ---- which of them can be put

abbrev pub IfMark : Arch → Option Mark → Type 0
IfMark arch None = Unit {0}
IfMark arch (Some mark) = IsMarkOf arch mark

-- an output with the words of a message of its
pub record IsMessage (arch : Arch) (w : ℕ × List ℤ) : Type 0 where
  pub exists : w.0 < length arch.outputs
  pub shallow : depth (output_shape arch w.0) ≤ 32
  pub whole : length w.1 ≡ words (output_shape arch w.0)

abbrev pub IfWrote : Arch → Option (ℕ × List ℤ) → Type 0
IfWrote arch None = Unit {0}
IfWrote arch (Some w) = IsMessage arch w

-- the monitor is there, and its words are those of its states
pub record IsFitMonitor (arch : Arch) (s : State) (m : ℕ) : Type 0 where
  pub exists : m < length arch.monitors
  pub monitors : length arch.monitors ≡ length s.program.monitors
  pub shallow : shapes_depth (shapes_in arch.records (states_of arch m)) ≤ 32
  pub whole : slice_index s.program.monitors m ≡ shapes_words (shapes_in arch.records (states_of arch m))

pub record IsFitSource (arch : Arch) (s : State) (x : ℕ) : Type 0 where
  pub exists : x < length arch.sources
  pub sources : length arch.sources ≡ length s.program.tasks

pub record AreFitLines (arch : Arch) (s : State) (mark : Option Mark) : Type 0 where
  pub marks : IfMark arch mark
  pub wrote : IfWrote arch (wrote_last s)

abbrev pub IsFitPiece : Arch → State → Piece → Type 0
IsFitPiece arch s (piece.Lines n mark) = AreFitLines arch s mark
IsFitPiece arch s (piece.Monitor m) = IsFitMonitor arch s m
IsFitPiece arch s (piece.Lost x) = IsFitSource arch s x
IsFitPiece arch s (piece.Count n) = Unit {0}
IsFitPiece arch s (piece.Waits n) = Unit {0}
IsFitPiece arch s (piece.Core i n) = Unit {0}
IsFitPiece arch s (piece.End stopped) = Unit {0}
