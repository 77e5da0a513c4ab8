-- The last lines of a run.
use Rattle.std.specs.Prelude.{◌++◌}
use Rattle.tower_report.specs.Bytes.{Bytes}
use Rattle.tower_report.specs.EndText.{Tally, tally_text, last_line}
use Rattle.tower_run.specs.declared.ending.End.{End}

abbrev pub tally_in : End → Tally
tally_in end = record { count = end.count; waits = end.waits; cores = end.cores.now }

-- what was counted, and whether the run stopped
abbrev pub last_text : End → Bytes
last_text end = tally_text (tally_in end) ++ last_line end.stopped
