use Rattle.std.proofs.Common.{◌≡◌, ◌-◌, length, slice_get, Some, None, subst, sym, arith}
use Rattle.atomic_state.proofs.Pending.{first_is, first_none}
use Rattle.atomic_state.proofs.parts.first_listener.Goals as goal

pub returns-in-Some : goal.returns-in-Some
returns-in-Some c =
    first_is c.args.parts.now.pending.items c.args.x c.index.result.now c.in-Some.field-0.now (omega arith) c.index.ensures
    (subst (λ l. slice_get l (length l - 1) ≡ Some c.in-Some.field-0.now) c.as_slice.ensures.value (sym c.in-Some.ensures.value))

pub returns-in-None : goal.returns-in-None
returns-in-None c =
    first_none c.args.parts.now.pending.items c.args.x c.index.result.now (omega arith) c.index.ensures
    (subst (λ l. slice_get l (length l - 1) ≡ None) c.as_slice.ensures.value (sym c.in-None.ensures.value))
