use Rattle.std.proofs.Common.{◌≡◌, ◌+◌, ◌<◌, ◌^◌, ◌∷◌, ap, sym, ◌∙◌, refl, slice_get, Some, arith, length, drop, suc}
use Rattle.tower_types.specs.Value.{flat}
use Rattle.tower_syntax.specs.Arch.{signal}
use Rattle.tower_syntax.specs.View.{events_of}
use Rattle.task_machine.specs.Kept.{signals}
use Rattle.task_machine.proofs.Arriving.{is_signal, next_messages, signal_room, kept_signal, received_signal, signal_stays}
use Rattle.task_machine.proofs.running.Running.signal.Goals as goal

pub bring-requires-clause-room : goal.bring-requires-clause-room
bring-requires-clause-room c =
    let is = is_signal c.args.x (slice_get (events_of c.self.inside.events).entries c.self.inside.place) (rw (← c.self.view_is) at c.requires) in
    let next = next_messages c.self.invariant.kept c.args.x is.0 is.1 in
    let small : c.self.inside.place + 1 < 2 ^ 64 = omega (arith, c.if-prove.false, c.len.type_inv) in
    rw c.as_slice.ensures (signal_room c.self.invariant.kept c.args.x is.0 is.1 small)

pub unreachable-requires : goal.unreachable-requires
unreachable-requires c =
    let is = is_signal c.args.x (slice_get (events_of c.self.inside.events).entries c.self.inside.place) (rw (← c.self.view_is) at c.requires) in
    let next = next_messages c.self.invariant.kept c.args.x is.0 is.1 in
    let empty = c.in-None.ensures.cases in
    let n = ap length next in
    omega (arith, empty, n)

pub invariant_of-self : goal.invariant_of-self
invariant_of-self c =
    let is = is_signal c.args.x (slice_get (events_of c.self.inside.events).entries c.self.inside.place) (rw (← c.self.view_is) at c.requires) in
    let next = next_messages c.self.invariant.kept c.args.x is.0 is.1 in
    let both : c.in-Some.words ∷ c.pop_front.new.self.items ≡ flat is.0 ∷ signals (drop (suc c.self.inside.place) (events_of c.self.inside.events).entries) = sym c.in-Some.ensures.items ∙ next in
    let message : c.in-Some.words ≡ flat is.0 = cc in
    let rest : c.pop_front.new.self.items ≡ signals (drop (suc c.self.inside.place) (events_of c.self.inside.events).entries) = cc in
    let comes = rw (c.as_slice.ensures, message) at c.bring.ensures.brought in
    record { kept = kept_signal c.self.invariant.kept c.args.x is.0 c.bring.new.queues.items c.pop_front.new.self.items is.1 rest c.bring.ensures.count comes c.bring.ensures.others; known = tt }

pub returns-clause-step : goal.returns-clause-step
returns-clause-step c = λ v e.
    let here : slice_get (events_of c.self.inside.events).entries c.self.inside.place ≡ Some (signal c.args.x v) = rw (← c.self.view_is) at e in
    let next = next_messages c.self.invariant.kept c.args.x v here in
    let both : c.in-Some.words ∷ c.pop_front.new.self.items ≡ flat v ∷ signals (drop (suc c.self.inside.place) (events_of c.self.inside.events).entries) = sym c.in-Some.ensures.items ∙ next in
    let message : c.in-Some.words ≡ flat v = cc in
    let machine = rw (c.as_slice.ensures, message) at c.bring.ensures.machine in
    let e' = received_signal (events_of c.self.inside.events) c.self.inside.tasks.items c.self.inside.locks.items c.self.inside.queues.items c.bring.new.queues.items c.self.inside.place
    c.args.x v machine in
    rw (← c.self.view_is, ← e') refl

pub returns-clause-stays : goal.returns-clause-stays
returns-clause-stays c =
    let is = is_signal c.args.x (slice_get (events_of c.self.inside.events).entries c.self.inside.place) (rw (← c.self.view_is) at c.requires) in
    rw (← c.self.view_is) (signal_stays c.self.invariant.kept c.bring.new.queues.items c.self.inside.last c.bring.ensures.count c.args.x is.0 is.1 c.bring.ensures.others)
