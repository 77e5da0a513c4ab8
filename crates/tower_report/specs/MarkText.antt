-- The lines of a step: its mark, and what it wrote on an output.
use Rattle.std.specs.Prelude.{ℕ, ◌<◌, length, ℤ, List, [], ◌∷◌, codes, decimal}
use Rattle.tower_types.specs.Ty.{Shape, shape_of}
use Rattle.tower_syntax.specs.declared.event.Mark.{Mark}
use Rattle.tower_syntax.specs.declared.event.Mark.TheVariants as mark
use Rattle.tower_syntax.specs.Arch.{Arch}
use Rattle.tower_syntax.specs.Graph.{output}
use Rattle.tower_syntax.specs.Weights.{channel_message}
use Rattle.arch_checks.specs.Offences.{source_name}
use Rattle.tower_report.specs.Bytes.{Bytes, line}
use Rattle.tower_report.specs.ValueText.{words_text}

abbrev pub output_name : Arch → ℕ → Bytes
output_name arch o = (output arch o).name

-- the shape of an output's messages
abbrev pub output_shape : Arch → ℕ → Shape
output_shape arch o = shape_of arch.records (channel_message arch (output arch o).channel)

-- the mark names a source that exists
abbrev pub IsMarkOf : Arch → Mark → Type 0
IsMarkOf arch mark.Arrive = Unit {0}
IsMarkOf arch (mark.Start x) = x < length arch.sources
IsMarkOf arch (mark.Run x) = x < length arch.sources
IsMarkOf arch (mark.Out x) = x < length arch.sources

abbrev pub mark_words : Arch → Mark → List Bytes
mark_words arch mark.Arrive = codes "a" ∷ []
mark_words arch (mark.Start x) = codes "s" ∷ source_name arch x ∷ []
mark_words arch (mark.Run x) = codes "r" ∷ source_name arch x ∷ []
mark_words arch (mark.Out x) = codes "o" ∷ source_name arch x ∷ []

-- n is the number of instructions so far
abbrev pub mark_line : Arch → ℕ → Mark → Bytes
mark_line arch n m = line (decimal n ∷ mark_words arch m)

-- an output with the words of its message
abbrev pub out_line : Arch → ℕ × List ℤ → Bytes
out_line arch w = line (codes "out" ∷ output_name arch w.0 ∷ words_text (output_shape arch w.0) w.1 ∷ [])
