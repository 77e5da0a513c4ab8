use Rattle.std.proofs.Common.{map, subst}
use Rattle.std.specs.Prelude.{All}
use Rattle.std.proofs.lemmas.List.{take_all}
use Rattle.tower_syntax.specs.View.{entry_of}
use Rattle.task_code.specs.Fits.{FitsEntry}
use Rattle.task_code.proofs.Fitted.{denies, affirms, mapped_at}
use Rattle.task_code.proofs.fitting.entries_fit.Goals as goal

pub returns-then-not-entry_fits : goal.returns-then-not-entry_fits
returns-then-not-entry_fits c =
    denies (λ all. c.if-not-entry_fits.ensures.1 (mapped_at (FitsEntry c.args.kinds.now c.args.tasks.now) entry_of c.args.entries.now c.loop-entry.entry-index c.entry-item.result c.loop-entry-test.true c.entry-item.is all))

pub returns : goal.returns
returns c =
    affirms (subst (λ l. All (FitsEntry c.args.kinds.now c.args.tasks.now) (map entry_of l)) (take_all c.loop-entry.entry-index c.args.entries.now c.loop-entry-test.false) c.loop-entry.invariant)
