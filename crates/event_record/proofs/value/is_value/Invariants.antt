use Rattle.std.proofs.Common.{◌≡◌, ◌≤◌, length, false}
use Rattle.event_record.specs.Tokens.{tokens}
use Rattle.event_record.specs.Scanned.{makes_value}
use Rattle.event_record.proofs.value.is_value.Given as goal

abbrev pub invariant-loop-behind : goal.invariant-loop-behind
invariant-loop-behind l = record {
  same : makes_value l.depth l.whole (tokens l.rest) ≡ makes_value 0 false (tokens l.fn.text);
  few : l.depth ≤ 32;
}

abbrev pub decreases-loop-behind : goal.decreases-loop-behind
decreases-loop-behind l = length l.rest
