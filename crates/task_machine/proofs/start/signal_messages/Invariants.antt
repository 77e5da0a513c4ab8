use Rattle.std.proofs.Common.{◌≡◌, ◌++◌, map, drop}
use Rattle.tower_syntax.specs.View.{entry_of}
use Rattle.task_machine.specs.Kept.{signals}
use Rattle.task_machine.proofs.start.signal_messages.Given as goal

abbrev pub invariant-loop-entry : goal.invariant-loop-entry
invariant-loop-entry l = l.messages.items ++ signals (map entry_of (drop l.entry-index l.entries)) ≡ signals (map entry_of l.entries)
