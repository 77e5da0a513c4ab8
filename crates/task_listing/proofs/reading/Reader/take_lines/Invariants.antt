use Rattle.std.proofs.Common.{◌≡◌, ◌+◌, ◌≤◌, length}
use Rattle.task_listing.specs.Lines.{whole_lines, behind_lines}
use Rattle.task_listing.specs.Judging.{walk}
use Rattle.task_listing.specs.Reading.{state_of}
use Rattle.task_listing.proofs.reading.Reader.take_lines.Given as goal

abbrev pub invariant-loop-line : goal.invariant-loop-line
invariant-loop-line l = record {
  walked : walk (state_of l.self) (l.lines + 1) (whole_lines l.rest) ≡ walk (state_of l.initial.self) 1 (whole_lines l.text);
  counted : l.lines + length (whole_lines l.rest) ≡ length (whole_lines l.text);
  behind : behind_lines l.rest ≡ behind_lines l.text;
  few : l.lines + length l.rest ≤ length l.text;
}

abbrev pub decreases-loop-line : goal.decreases-loop-line
decreases-loop-line l = length l.rest
