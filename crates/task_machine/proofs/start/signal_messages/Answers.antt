use Rattle.std.proofs.Common.{subst}
use Rattle.tower_syntax.specs.declared.event.Entry.{Entry}
use Rattle.tower_syntax.specs.View.{entry_of}
use Rattle.task_machine.specs.Start.{IsShallow}
use Rattle.task_machine.proofs.Starting.{shallow_at}
use Rattle.task_machine.proofs.start.signal_messages.Goals as goal

pub flatten-requires : goal.flatten-requires
flatten-requires c =
    subst (λ (e : Entry). IsShallow (entry_of e)) c.in-Signal.is
    (shallow_at c.args.entries.now c.loop-entry.entry-index c.entry-item.result c.loop-entry-test.true c.entry-item.is c.requires)
