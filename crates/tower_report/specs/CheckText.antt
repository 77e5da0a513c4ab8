-- The text that tells of an accepted file. Sources are numbers here.
use Rattle.std.specs.Prelude.{ℕ, [], ◌∷◌, ◌++◌, flat_map, length, codes, decimal}
use Rattle.tower_syntax.specs.Arch.{Arch}
use Rattle.tower_syntax.specs.Weights.{cost, memory, code, source_numbers}
use Rattle.arch_checks.specs.Offences.{source_name}
use Rattle.tower_report.specs.Bytes.{Bytes, line}

abbrev pub tower_line : Arch → Bytes
tower_line arch = line (codes "tower" ∷ arch.name ∷ [])

-- how many there are of each part
abbrev pub counts_line : Arch → Bytes
counts_line arch =
    line (
    codes "records" ∷ decimal (length arch.records)
    ∷ codes "sources" ∷ decimal (length arch.sources)
    ∷ codes "channels" ∷ decimal (length arch.channels)
    ∷ codes "outputs" ∷ decimal (length arch.outputs)
    ∷ codes "monitors" ∷ decimal (length arch.monitors)
    ∷ codes "handlers" ∷ decimal (length arch.handlers) ∷ [])

abbrev pub cost_line : Arch → ℕ → Bytes
cost_line arch s = line (codes "cost" ∷ source_name arch s ∷ decimal (cost arch s) ∷ [])

abbrev pub costs_text : Arch → Bytes
costs_text arch = flat_map (cost_line arch) (source_numbers arch)

abbrev pub memory_line : Arch → Bytes
memory_line arch = line (codes "memory" ∷ decimal (memory arch) ∷ [])

abbrev pub code_line : Arch → Bytes
code_line arch = line (codes "code" ∷ decimal (code arch) ∷ [])

abbrev pub ok_line : Bytes
ok_line = line (codes "ok" ∷ [])

abbrev pub check_text : Arch → Bytes
check_text arch = tower_line arch ++ counts_line arch ++ costs_text arch ++ memory_line arch ++ code_line arch ++ ok_line
