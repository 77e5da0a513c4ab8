use Rattle.std.proofs.Common.{◌≡◌, ℕ, ◌+◌, ◌<◌, ◌/◌, List, Bool, false, true, length, Some, None, slice_get, slice_set, arith, sym, ap, ◌∙◌, subst}
use Rattle.std.specs.Option.{option_map}
use Rattle.task_code.specs.Own.{held_monitor}
use Rattle.task_machine.specs.State.{State}
use Rattle.task_machine.specs.Noted.{touched_by}
use Rattle.task_machine.proofs.Kept.{read_is}
use Rattle.task_machine.proofs.Lists.{get_map, get_within}
use Rattle.task_machine.proofs.Noting.{next_is}
use Rattle.task_machine.proofs.Settling.{unlock_touches}
use Rattle.task_machine.proofs.Stands.{get_exists}
use Rattle.task_machine.proofs.running.Running.touched.Goals as goal

pub returns-in-Lock-clause-monitor : goal.returns-in-Lock-clause-monitor
returns-in-Lock-clause-monitor c =
    let next = next_is c.in-Lock.is c.requires.next in
    let own = get_exists c.args.self.now.machine.tasks c.args.x next.part in
    ap touched_by (next.effect own.0 own.1)

pub returns-in-Lock-clause-below : goal.returns-in-Lock-clause-below
returns-in-Lock-clause-below c =
    let next = next_is c.in-Lock.is c.requires.next in
    let own = get_exists c.args.self.now.machine.tasks c.args.x next.part in
    let t = get_exists c.args.self.now.program.tasks c.args.x c.requires.task in
    next.within own.0 t.0 t.1 own.1

pub returns-in-Unlock-clause-monitor : goal.returns-in-Unlock-clause-monitor
returns-in-Unlock-clause-monitor c =
    let next = next_is c.in-Unlock.is c.requires.next in
    let tasks = c.self.inside.tasks.items in
    let within : c.args.x < length tasks = rw (← c.self.view_is) at next.part in
    let own = get_exists tasks c.args.x within in
    let there_too : slice_get c.args.self.now.machine.tasks c.args.x ≡ Some own.0 =
    subst (λ (z : State). slice_get z.machine.tasks c.args.x ≡ Some own.0) c.self.view_is own.1 in
    let holds = c.self.inside.holds.items in
    let there : slice_get holds c.args.x ≡ Some (held_monitor own.0) =
    ap (λ hs. slice_get hs c.args.x) c.self.invariant.kept.holds ∙ get_map held_monitor tasks c.args.x ∙ ap (option_map held_monitor) own.1 in
    let is = read_is holds c.args.x c.index.result.now (held_monitor own.0) (get_within holds c.args.x _ there) c.index.ensures there in
    is ∙ sym (unlock_touches own.0.held own.0) ∙ ap touched_by (next.effect own.0 there_too)

pub returns-in-Stuck-clause-monitor : goal.returns-in-Stuck-clause-monitor
returns-in-Stuck-clause-monitor c =
    let next = next_is c.in-Stuck.is c.requires.next in
    let own = get_exists c.args.self.now.machine.tasks c.args.x next.part in
    ap touched_by (next.effect own.0 own.1)

pub returns-in-Private-clause-monitor : goal.returns-in-Private-clause-monitor
returns-in-Private-clause-monitor c =
    let next = next_is c.in-Private.is c.requires.next in
    let own = get_exists c.args.self.now.machine.tasks c.args.x next.part in
    ap touched_by (next.effect own.0 own.1)

pub returns-in-Take-clause-monitor : goal.returns-in-Take-clause-monitor
returns-in-Take-clause-monitor c =
    let next = next_is c.in-Take.is c.requires.next in
    let own = get_exists c.args.self.now.machine.tasks c.args.x next.part in
    ap touched_by (next.effect own.0 own.1)

pub returns-in-Out-clause-monitor : goal.returns-in-Out-clause-monitor
returns-in-Out-clause-monitor c =
    let next = next_is c.in-Out.is c.requires.next in
    let own = get_exists c.args.self.now.machine.tasks c.args.x next.part in
    ap touched_by (next.effect own.0 own.1)
