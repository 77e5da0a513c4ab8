use Rattle.std.proofs.Common.{◌≡◌, ◌+◌, ◌≤◌, [], length, vec_len}
use Rattle.event_record.specs.Lines.{lines}
use Rattle.event_record.specs.Judged.{walk}
use Rattle.event_record.specs.ChoiceLine.{judge_choice, over_choices}
use Rattle.event_record.proofs.choices.choices_of.Given as goal

abbrev pub invariant-loop-rest : goal.invariant-loop-rest
invariant-loop-rest l = record {
  walked : walk judge_choice over_choices l.number l.choices.items (lines l.rest) ≡ walk judge_choice over_choices 1 [] (lines l.fn.bytes);
  few : vec_len l.choices ≤ 1000000;
  counted : l.number + length l.rest ≤ length l.fn.bytes + 1;
}

abbrev pub decreases-loop-rest : goal.decreases-loop-rest
decreases-loop-rest l = length l.rest
