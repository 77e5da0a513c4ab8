use Rattle.std.proofs.Common.{◌≡◌, ℕ, ◌+◌, ◌<◌, ◌/◌, List, Bool, false, true, length, Some, None, slice_get, slice_set, arith, sym, ap, ◌∙◌, subst}
use Rattle.task_machine.specs.Noted.{IsNoted}
use Rattle.task_machine.proofs.Settling.{all_noted}
use Rattle.task_machine.proofs.noted.Noted.note_all.Goals as goal

pub stand_all-requires-clause-next : goal.stand_all-requires-clause-next
stand_all-requires-clause-next c = λ x a at.
    let each = rw (← c.self.view_is) at c.note_actions.ensures.each in
    (each x).action a (rw c.as_slice.ensures.value at at)

pub returns : goal.returns
returns c =
    let places = rw (← c.self.view_is) at c.note_actions.ensures.places in
    let each = rw (← c.self.view_is) at c.note_actions.ensures.each in
    let clear = rw (← c.self.view_is) at (c.note_actions.ensures.clear ∙ c.requires.clear) in
    all_noted c.args.running.now _ c.stand_all.new.ready.items c.self.inside.clear places each clear c.stand_all.ensures.count c.stand_all.ensures.each
