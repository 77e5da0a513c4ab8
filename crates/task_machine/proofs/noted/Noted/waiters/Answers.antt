use Rattle.std.proofs.Common.{◌≡◌, ℕ, ◌+◌, ◌<◌, ◌/◌, List, Bool, false, true, length, Some, None, slice_get, slice_set, arith, sym, ap, ◌∙◌, subst}
use Rattle.task_code.specs.Standing.{is_ready, at_lock}
use Rattle.task_machine.proofs.Kept.{get_read}
use Rattle.task_machine.proofs.Noting.{row_waits, blank_waits}
use Rattle.task_machine.proofs.noted.Noted.waiters.Goals as goal

pub returns-else-is_free-clause-bits : goal.returns-else-is_free-clause-bits
returns-else-is_free-clause-bits c =
    let noted = rw (← c.self.view_is) at c.requires.noted in
    let rows = c.self.inside.at_lock.items in
    let within : c.args.m < length rows = let e = noted.places.rows in omega (arith, e, c.requires.monitor) in
    let at : slice_get rows c.args.m ≡ Some c.index.result.now = get_read rows c.args.m c.index.result.now within c.index.ensures in
    rw c.words-else-is_free.ensures (row_waits c.args.running.now _ noted c.args.m c.index.result.now at (sym c.if-is_free.ensures))

pub returns-then-is_free-clause-bits : goal.returns-then-is_free-clause-bits
returns-then-is_free-clause-bits c =
    let noted = rw (← c.self.view_is) at c.requires.noted in
    rw c.words.ensures (blank_waits c.args.running.now _ noted c.args.m (sym c.if-is_free.ensures))
