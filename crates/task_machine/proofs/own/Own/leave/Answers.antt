-- The call stack is kept with its topmost place at the end.
use Rattle.std.proofs.Common.{refl}
use Rattle.task_machine.proofs.Lists.{drop_reverse}
use Rattle.task_machine.proofs.own.Own.leave.Goals as goal

pub returns : goal.returns
returns c =
    let e = drop_reverse 1 c.self.inside.calls.items in
    rw (c.truncate.ensures.items, c.saturating_sub-left.ensures, c.len.ensures.value, ← c.self.view_is, e) refl
