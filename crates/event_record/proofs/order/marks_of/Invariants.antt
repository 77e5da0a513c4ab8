use Rattle.std.proofs.Common.{◌≡◌, ◌+◌, ◌≤◌, [], length}
use Rattle.event_record.specs.Lines.{lines}
use Rattle.event_record.specs.Judged.{walk}
use Rattle.event_record.specs.OrderLine.{judge_mark, over_marks}
use Rattle.event_record.proofs.order.marks_of.Given as goal

abbrev pub invariant-loop-rest : goal.invariant-loop-rest
invariant-loop-rest l = record {
  walked : walk (judge_mark l.arch) over_marks l.number l.marks.items (lines l.rest) ≡ walk (judge_mark l.arch) over_marks 1 [] (lines l.fn.bytes);
  counted : l.number + length l.rest ≤ length l.fn.bytes + 1;
}

abbrev pub decreases-loop-rest : goal.decreases-loop-rest
decreases-loop-rest l = length l.rest
