use Rattle.std.proofs.Common.{◌≡◌, ◌+◌, drop}
use Rattle.std.specs.List.{prefix_len}
use Rattle.event_record.specs.Runs.{is_of}
use Rattle.event_record.proofs.run.run_len.Given as goal

abbrev pub invariant-loop-i : goal.invariant-loop-i
invariant-loop-i l = prefix_len (is_of l.sort) l.text ≡ l.i + prefix_len (is_of l.sort) (drop l.i l.text)
