use Rattle.std.proofs.Common.{◌≡◌, ℕ, ◌+◌, ◌<◌, ◌/◌, List, Bool, false, true, length, Some, None, slice_get, slice_set, arith, sym, ap, ◌∙◌, subst}
use Rattle.task_machine.specs.Bits.{words_for}
use Rattle.task_machine.proofs.Settling.{none_in}
use Rattle.task_machine.proofs.noted.Noted.new.Goals as goal

pub note_all-requires-clause-none : goal.note_all-requires-clause-none
note_all-requires-clause-none c = λ x m row at.
    none_in c.monitors.result (words_for c.sources-tasks.result) x m row (rw c.in_ok-no_rows.ensures at at)
