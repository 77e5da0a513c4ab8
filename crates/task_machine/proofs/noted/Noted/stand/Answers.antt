use Rattle.std.proofs.Common.{◌≡◌, ℕ, ◌+◌, ◌<◌, ◌/◌, List, Bool, false, true, length, refl, Some, None, slice_get, slice_set, arith, sym, ap, ◌∙◌, subst}
use Rattle.task_machine.proofs.Settling.{one_noted, all_noted}
use Rattle.task_machine.proofs.noted.Noted.stand.Goals as goal
use mathlib.Core.Bool.{beq}

same_truth : (a b : Bool) → beq a b ≡ true → b ≡ a
same_truth true true e = refl
same_truth true false e = cc
same_truth false true e = cc
same_truth false false e = refl

pub stand-requires-clause-next : goal.stand-requires-clause-next
stand-requires-clause-next c = λ a at.
    let stale = rw (← c.self.view_is) at c.requires.stale in
    (stale.each c.args.x).action a (rw c.as_slice.ensures.value at at)

pub stand_all-requires-clause-next : goal.stand_all-requires-clause-next
stand_all-requires-clause-next c = λ x a at.
    let stale = rw (← c.self.view_is) at c.requires.stale in
    (stale.each x).action a (rw c.as_slice-else-clear-self.ensures.value at at)

pub returns-then-clear-self : goal.returns-then-clear-self
returns-then-clear-self c =
    let stale = rw (← c.self.view_is) at c.requires.stale in
    rw c.stand.ensures (one_noted c.args.running.now c.args.x _ c.is_clear_after-clear.result stale c.is_clear_after-clear.ensures
    (same_truth c.is_clear_after-clear.result c.self.inside.clear c.if-clear-self.true))

pub returns-else-clear-self : goal.returns-else-clear-self
returns-else-clear-self c =
    let stale = rw (← c.self.view_is) at c.requires.stale in
    all_noted c.args.running.now _ c.stand_all.new.ready.items c.is_clear_after-clear.result stale.places stale.each c.is_clear_after-clear.ensures c.stand_all.ensures.count c.stand_all.ensures.each
