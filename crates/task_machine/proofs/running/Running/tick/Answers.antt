use Rattle.std.proofs.Common.{◌≡◌, ◌+◌, ◌<◌, ◌^◌, refl, slice_get, Some, arith}
use Rattle.tower_syntax.specs.Arch.{tick}
use Rattle.tower_syntax.specs.View.{events_of}
use Rattle.task_machine.proofs.Arriving.{tick_room, kept_tick, received_tick, ticks_few, tick_stays}
use Rattle.task_machine.proofs.running.Running.tick.Goals as goal

pub overflow_add-self : goal.overflow_add-self
overflow_add-self c =
    let few = ticks_few (events_of c.self.inside.events).entries c.self.inside.place in
    omega (arith, few, c.self.invariant.kept.count, c.if-prove.false, c.len.type_inv)

pub bring_tick-requires-clause-room : goal.bring_tick-requires-clause-room
bring_tick-requires-clause-room c =
    let here : slice_get (events_of c.self.inside.events).entries c.self.inside.place ≡ Some tick = rw (← c.self.view_is) at c.requires in
    let small : c.self.inside.place + 1 < 2 ^ 64 = omega (arith, c.if-prove.false, c.len.type_inv) in
    rw (c.as_slice.ensures, c.as_slice-2.ensures) (tick_room c.self.invariant.kept here small)

pub invariant_of-self : goal.invariant_of-self
invariant_of-self c =
    let here : slice_get (events_of c.self.inside.events).entries c.self.inside.place ≡ Some tick = rw (← c.self.view_is) at c.requires in
    let comes = rw (c.as_slice.ensures, c.as_slice-2.ensures) at c.bring_tick.ensures.brought in
    let stays = rw c.as_slice.ensures at c.bring_tick.ensures.others in
    record { kept = kept_tick c.self.invariant.kept c.bring_tick.new.queues.items here c.bring_tick.ensures.count comes stays; known = tt }

pub returns-clause-step : goal.returns-clause-step
returns-clause-step c =
    let here : slice_get (events_of c.self.inside.events).entries c.self.inside.place ≡ Some tick = rw (← c.self.view_is) at c.requires in
    let is = rw (c.as_slice.ensures, c.as_slice-2.ensures) at c.bring_tick.ensures.machine in
    let e = received_tick (events_of c.self.inside.events) c.self.inside.tasks.items c.self.inside.locks.items c.self.inside.queues.items c.bring_tick.new.queues.items c.self.inside.place
    c.self.inside.ticks here c.self.invariant.kept.count is in
    rw (← c.self.view_is, ← e) refl

pub returns-clause-stays : goal.returns-clause-stays
returns-clause-stays c =
    let here : slice_get (events_of c.self.inside.events).entries c.self.inside.place ≡ Some tick = rw (← c.self.view_is) at c.requires in
    let comes = rw (c.as_slice.ensures, c.as_slice-2.ensures) at c.bring_tick.ensures.brought in
    let stays = rw c.as_slice.ensures at c.bring_tick.ensures.others in
    let kept = kept_tick c.self.invariant.kept c.bring_tick.new.queues.items here c.bring_tick.ensures.count comes stays in
    rw (← c.self.view_is) (tick_stays c.self.invariant.kept c.bring_tick.new.queues.items c.self.inside.last c.bring_tick.ensures.count kept.count stays)
