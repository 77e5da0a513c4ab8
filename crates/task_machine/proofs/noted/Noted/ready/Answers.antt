use Rattle.std.proofs.Common.{◌≡◌, ℕ, ◌+◌, ◌<◌, ◌/◌, List, Bool, false, true, length, Some, None, slice_get, slice_set, arith, sym, ap, ◌∙◌, subst}
use Rattle.task_machine.proofs.Noting.{flags_are}
use Rattle.task_machine.proofs.noted.Noted.ready.Goals as goal

pub returns : goal.returns
returns c = λ s is.
    let noted = rw (← c.self.view_is) at is in
    c.as_slice.ensures.value ∙ flags_are s _ noted
