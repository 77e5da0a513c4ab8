use Rattle.std.proofs.Common.{◌≡◌, ◌+◌, ◌≤◌, [], length, map}
use Rattle.tower_syntax.specs.View.{entry_of}
use Rattle.event_record.specs.Lines.{lines}
use Rattle.event_record.specs.Judged.{walk}
use Rattle.event_record.specs.RecordLine.{judge_entry, over_entries}
use Rattle.event_record.proofs.record.entries_of.Given as goal

abbrev pub invariant-loop-rest : goal.invariant-loop-rest
invariant-loop-rest l = record {
  walked : walk (judge_entry l.arch) over_entries l.number (map entry_of l.entries) (lines l.rest) ≡ walk (judge_entry l.arch) over_entries 1 [] (lines l.fn.bytes);
  few : length l.entries ≤ 1000000;
  counted : l.number + length l.rest ≤ length l.fn.bytes + 1;
}

abbrev pub decreases-loop-rest : goal.decreases-loop-rest
decreases-loop-rest l = length l.rest
