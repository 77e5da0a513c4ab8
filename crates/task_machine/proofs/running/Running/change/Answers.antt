use Rattle.std.proofs.Common.{◌≡◌, refl, slice_get, length, ◌<◌, Some}
use Rattle.task_machine.specs.Action.{changed}
use Rattle.task_machine.proofs.Kept.{kept_own, length_changed, held_changed, held_words_changed, read_is, get_read}
use Rattle.task_machine.proofs.running.Running.change.Goals as goal

pub invariant_of-self : goal.invariant_of-self
invariant_of-self c =
    let part = c.index_mut.result.now in
    let r : c.args.x < length c.self.inside.program.tasks = rw (← c.self.view_is) at c.requires.task in
    let l : c.args.x < length c.self.inside.tasks.items = rw c.self.invariant.kept.owns_count r in
    let g = get_read c.self.inside.tasks.items c.args.x part l c.index_mut.ensures.value in
    record { kept = rw c.change.ensures (kept_own c.self.invariant.kept c.args.x part (changed c.args.change part) g l (length_changed c.args.change part) (held_changed c.args.change part) (held_words_changed c.self.inside.program c.args.change part)); known = (r, tt) }

pub returns : goal.returns
returns c = λ own e.
    let part = c.index_mut.result.now in
    let r : c.args.x < length c.self.inside.program.tasks = rw (← c.self.view_is) at c.requires.task in
    let l : c.args.x < length c.self.inside.tasks.items = rw c.self.invariant.kept.owns_count r in
    let g : slice_get c.self.inside.tasks.items c.args.x ≡ Some own = rw (← c.self.view_is) at e in
    let o : part ≡ own = read_is c.self.inside.tasks.items c.args.x part own l c.index_mut.ensures.value g in
    rw (c.change.ensures, o, ← c.self.view_is) refl
