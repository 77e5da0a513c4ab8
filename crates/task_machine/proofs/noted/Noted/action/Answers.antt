use Rattle.std.proofs.Common.{◌≡◌, ℕ, ◌+◌, ◌<◌, ◌/◌, List, Bool, false, true, length, Some, None, slice_get, slice_set, arith, sym, ap, ◌∙◌, subst}
use Rattle.task_machine.proofs.Kept.{get_read}
use Rattle.task_machine.proofs.noted.Noted.action.Goals as goal

pub returns : goal.returns
returns c =
    let noted = rw (← c.self.view_is) at c.requires.noted in
    let actions = c.self.inside.actions.items in
    let within : c.args.x < length actions = let e = noted.places.actions in omega (arith, e, c.requires.task) in
    (noted.each c.args.x).action c.index.result.now (get_read actions c.args.x c.index.result.now within c.index.ensures)
