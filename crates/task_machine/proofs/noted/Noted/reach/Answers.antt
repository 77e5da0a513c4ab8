use Rattle.std.proofs.Common.{◌≡◌, ℕ, ◌+◌, ◌<◌, ◌/◌, List, Bool, false, true, length, Some, None, slice_get, slice_set, arith, sym, ap, ◌∙◌, subst}
use Rattle.task_machine.specs.Arriving.{reaches}
use Rattle.task_machine.proofs.Settling.{reached_noted}
use Rattle.task_machine.proofs.noted.Noted.reach.Goals as goal

pub stand_reached-requires-clause-next : goal.stand_reached-requires-clause-next
stand_reached-requires-clause-next c = λ x a at.
    let is = rw (← c.self.view_is) at c.requires in
    (is.each x).action a (rw c.as_slice.ensures.value at at)

pub returns : goal.returns
returns c =
    let is = rw (← c.self.view_is) at c.requires in
    reached_noted (reaches (Some c.args.arrival) c.args.running.now) c.args.running.now _ c.stand_reached.new.ready.items is c.stand_reached.ensures.count c.stand_reached.ensures.reached c.stand_reached.ensures.others
