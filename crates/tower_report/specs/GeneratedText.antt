-- The text that tells of a generated system and of its run.
use Rattle.std.specs.Prelude.{ℕ, false, [], ◌∷◌, ◌++◌, codes, decimal}
use Rattle.tower_report.specs.declared.generated.Generated.{Generated}
use Rattle.tower_report.specs.Bytes.{Bytes, line}
use Rattle.tower_report.specs.EndText.{count_line, last_line}

-- a word and a number
abbrev pub number_line : Bytes → ℕ → Bytes
number_line word n = line (word ∷ decimal n ∷ [])

-- the number of the system, the cost of each of its sources, and its other weights
abbrev pub weights_text : Generated → Bytes
weights_text g =
    number_line (codes "gen") g.number ++ number_line (codes "cost") g.cost ++ number_line (codes "memory") g.memory ++ number_line (codes "code") g.code

-- the numbers of marks
abbrev pub marks_text : Generated → Bytes
marks_text g = number_line (codes "starts") g.starts ++ number_line (codes "runs") g.runs ++ number_line (codes "outs") g.outs

abbrev pub numbers_text : Generated → Bytes
numbers_text g = weights_text g ++ marks_text g ++ count_line g.count

abbrev pub generated_text : Generated → Bytes
generated_text g = numbers_text g ++ last_line false
