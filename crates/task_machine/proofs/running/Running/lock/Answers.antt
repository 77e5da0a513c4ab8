use Rattle.std.proofs.Common.{◌≡◌, refl, arith, slice_get, length, ◌<◌, Some}
use Rattle.std.specs.Prelude.{slice_index}
use Rattle.std.proofs.Math.ListN.{length-set}
use Rattle.task_machine.specs.Action.{with_lock_of}
use Rattle.task_machine.proofs.Kept.{kept_held, read_is, get_read, words_free, ready_within, have_words, free_words_has}
use Rattle.task_machine.proofs.running.Running.lock.Goals as goal

pub invariant_of-self : goal.invariant_of-self
invariant_of-self c =
    let part = c.index_mut-in-Some.result.now in
    let r : c.args.x < length c.self.inside.program.tasks = rw (← c.self.view_is) at c.requires.task in
    let l : c.args.x < length c.self.inside.tasks.items = rw c.self.invariant.kept.owns_count r in
    let g = get_read c.self.inside.tasks.items c.args.x part l c.index_mut-in-Some.ensures.value in
    let free = rw (← c.self.view_is) at c.requires.free in
    let m : c.args.monitor < length c.self.inside.locks.items = ready_within c.self.inside.locks.items _ _ free in
    let b : c.args.monitor < length c.self.inside.program.monitors = omega (arith, m, c.self.invariant.kept.locks_count) in
    let lock = c.index_mut.result.now in
    let is = c.self.invariant.kept.free c.args.monitor lock (get_read c.self.inside.locks.items c.args.monitor lock m c.index_mut.ensures.value) in
    let words = free_words_has (slice_index c.self.inside.program.monitors c.args.monitor) lock c.in-Some.words is c.in-Some.ensures.words in
    let locks = have_words c.self.inside.program c.self.inside.locks.items c.args.monitor c.seize.new.self m (rw c.in-Some.ensures.held tt) c.self.invariant.kept.free in
    record { kept = rw c.lock.ensures (kept_held c.self.invariant.kept c.args.x part (with_lock_of c.args.monitor part c.in-Some.words) (Some c.args.monitor) _ g l refl refl b words (length-set c.self.inside.locks.items c.args.monitor _) locks); known = (r, tt) }

pub returns : goal.returns
returns c = λ own e.
    let part = c.index_mut-in-Some.result.now in
    let r : c.args.x < length c.self.inside.program.tasks = rw (← c.self.view_is) at c.requires.task in
    let l : c.args.x < length c.self.inside.tasks.items = rw c.self.invariant.kept.owns_count r in
    let g : slice_get c.self.inside.tasks.items c.args.x ≡ Some own = rw (← c.self.view_is) at e in
    let o : part ≡ own = read_is c.self.inside.tasks.items c.args.x part own l c.index_mut-in-Some.ensures.value g in
    let free = rw (← c.self.view_is) at c.requires.free in
    let m : c.args.monitor < length c.self.inside.locks.items = ready_within c.self.inside.locks.items _ _ free in
    let ws = words_free c.self.inside.locks.items c.args.monitor c.index_mut.result.now c.in-Some.words m c.index_mut.ensures.value c.in-Some.ensures.words in
    rw (c.lock.ensures, c.in-Some.ensures.held, o, ← c.self.view_is, ws) refl
