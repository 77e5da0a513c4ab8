use Rattle.std.proofs.Common.{◌≡◌, ◌+◌, ◌≤◌, map, drop}
use Rattle.tower_syntax.specs.View.{entry_of}
use Rattle.task_machine.specs.Kept.{coming}
use Rattle.task_machine.proofs.start.count_coming.Given as goal

abbrev pub invariant-loop-entry : goal.invariant-loop-entry
invariant-loop-entry l = record {
  counted : l.count + coming l.kind l.x l.ticks (map entry_of (drop l.entry-index l.entries)) ≡ coming l.kind l.x 0 (map entry_of l.entries);
  few_ticks : l.ticks ≤ l.entry-index;
  few : l.count ≤ l.entry-index;
}
