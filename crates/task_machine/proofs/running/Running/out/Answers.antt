use Rattle.std.proofs.Common.{◌≡◌, refl, slice_get, length, ◌<◌, Some}
use Rattle.task_code.specs.Does.{on}
use Rattle.task_machine.proofs.Kept.{kept_own, read_is, get_read, get_set_same}
use Rattle.task_machine.proofs.running.Running.out.Goals as goal

pub invariant_of-self : goal.invariant_of-self
invariant_of-self c =
    let part = c.index_mut.result.now in
    let r : c.args.x < length c.self.inside.program.tasks = rw (← c.self.view_is) at c.requires.task in
    let l : c.args.x < length c.self.inside.tasks.items = rw c.self.invariant.kept.owns_count r in
    let g = get_read c.self.inside.tasks.items c.args.x part l c.index_mut.ensures.value in
    record { kept = rw c.go_on.ensures (kept_own c.self.invariant.kept c.args.x part (on part) g l refl refl (λ h. h)); known = (r, rw (← c.self.view_is) at c.requires.output) }

pub returns : goal.returns
returns c = λ own e.
    let part = c.index_mut.result.now in
    let r : c.args.x < length c.self.inside.program.tasks = rw (← c.self.view_is) at c.requires.task in
    let l : c.args.x < length c.self.inside.tasks.items = rw c.self.invariant.kept.owns_count r in
    let g : slice_get c.self.inside.tasks.items c.args.x ≡ Some own = rw (← c.self.view_is) at e in
    let o : part ≡ own = read_is c.self.inside.tasks.items c.args.x part own l c.index_mut.ensures.value g in
    let s = get_set_same c.self.inside.tasks.items c.args.x (on own) l in
    rw (c.go_on.ensures, o, s, ← c.self.view_is) refl
