use Rattle.std.proofs.Common.{◌≡◌, refl, arith, subst, slice_get, length, ◌<◌, Some, None, Option}
use Rattle.std.specs.Option.{option_map}
use Rattle.std.specs.Prelude.{IsSomeAnd}
use Rattle.std.proofs.Math.ListN.{length-set}
use Rattle.task_code.specs.Own.{Held}
use Rattle.task_machine.specs.Kept.{HoldsWords}
use Rattle.task_machine.specs.Action.{without_held}
use Rattle.task_machine.proofs.Kept.{kept_held, read_is, get_read, held_is, none_held, have_words}
use Rattle.task_machine.proofs.running.Running.unlock.Goals as goal

pub index_mut-requires-in-Some : goal.index_mut-requires-in-Some
index_mut-requires-in-Some c =
    let part = c.index_mut.result.now in
    let r : c.args.x < length c.self.inside.program.tasks = rw (← c.self.view_is) at c.requires.task in
    let l : c.args.x < length c.self.inside.tasks.items = rw c.self.invariant.kept.owns_count r in
    let g = get_read c.self.inside.tasks.items c.args.x part l c.index_mut.ensures.value in
    let have = rw (← c.self.view_is) at c.requires.held in
    let h = held_is part.held (c.in-Some.monitor, c.in-Some.words) c.in-Some.ensures.held in
    let P : Option Held → Type 0 = λ o. IsSomeAnd (option_map (λ h. h.monitor) o) (λ m. m < length c.self.inside.program.monitors) in
    let b : c.in-Some.monitor < length c.self.inside.program.monitors = subst P h (have part g) in
    omega (arith, b, c.self.invariant.kept.locks_count)

pub unreachable-requires : goal.unreachable-requires
unreachable-requires c =
    let part = c.index_mut.result.now in
    let r : c.args.x < length c.self.inside.program.tasks = rw (← c.self.view_is) at c.requires.task in
    let l : c.args.x < length c.self.inside.tasks.items = rw c.self.invariant.kept.owns_count r in
    let g = get_read c.self.inside.tasks.items c.args.x part l c.index_mut.ensures.value in
    let have = rw (← c.self.view_is) at c.requires.held in
    none_held part.held _ c.in-None.ensures.held (have part g)

pub invariant_of-self : goal.invariant_of-self
invariant_of-self c =
    let part = c.index_mut.result.now in
    let r : c.args.x < length c.self.inside.program.tasks = rw (← c.self.view_is) at c.requires.task in
    let l : c.args.x < length c.self.inside.tasks.items = rw c.self.invariant.kept.owns_count r in
    let g = get_read c.self.inside.tasks.items c.args.x part l c.index_mut.ensures.value in
    let have = rw (← c.self.view_is) at c.requires.held in
    let h = held_is part.held (c.in-Some.monitor, c.in-Some.words) c.in-Some.ensures.held in
    let P : Option Held → Type 0 = λ o. IsSomeAnd (option_map (λ h. h.monitor) o) (λ m. m < length c.self.inside.program.monitors) in
    let b : c.in-Some.monitor < length c.self.inside.program.monitors = subst P h (have part g) in
    let m : c.in-Some.monitor < length c.self.inside.locks.items = omega (arith, b, c.self.invariant.kept.locks_count) in
    let words = subst (λ (o : Option Held). HoldsWords c.self.inside.program o) h (c.self.invariant.kept.held_words c.args.x part g) in
    let locks = have_words c.self.inside.program c.self.inside.locks.items c.in-Some.monitor c.free.result m (rw c.free.ensures words) c.self.invariant.kept.free in
    record { kept = rw c.unlock.ensures.part (kept_held c.self.invariant.kept c.args.x part (without_held part) None _ g l refl refl tt tt (length-set c.self.inside.locks.items c.in-Some.monitor _) locks); known = (r, tt) }

pub returns : goal.returns
returns c = λ own e.
    let part = c.index_mut.result.now in
    let r : c.args.x < length c.self.inside.program.tasks = rw (← c.self.view_is) at c.requires.task in
    let l : c.args.x < length c.self.inside.tasks.items = rw c.self.invariant.kept.owns_count r in
    let g : slice_get c.self.inside.tasks.items c.args.x ≡ Some own = rw (← c.self.view_is) at e in
    let o : part ≡ own = read_is c.self.inside.tasks.items c.args.x part own l c.index_mut.ensures.value g in
    let k = held_is part.held (c.in-Some.monitor, c.in-Some.words) c.in-Some.ensures.held in
    let h : own.held ≡ Some (record { monitor = c.in-Some.monitor; words = c.in-Some.words }) = rw o at k in
    rw (c.unlock.ensures.part, c.free.ensures, o, h, ← c.self.view_is) refl
