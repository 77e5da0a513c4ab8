use Rattle.std.proofs.Common.{◌≡◌, ℕ, ◌<◌, ℤ, Bool, true, false, List, [], ◌∷◌, length, Option, Some, None, ap, sym, ◌∙◌, refl, arith}
use Rattle.std.specs.Prelude.{IsSomeAnd}
use Rattle.std.specs.Option.{option_map}
use Rattle.tower_syntax.specs.declared.event.Mark.{Mark}
use Rattle.tower_syntax.specs.declared.event.Mark.TheVariants as mark
use Rattle.tower_syntax.specs.View.{events_of}
use Rattle.task_code.specs.Own.{Own, Held}
use Rattle.task_code.specs.Does.{Does}
use Rattle.task_code.specs.Machine.{queue}
use Rattle.task_code.specs.Run.{mark_of}
use Rattle.task_code.specs.Standing.{Standing, IsStuck, IsReady, at_queue, standing_of}
use Rattle.task_machine.specs.Action.{unlocks}
use Rattle.task_machine.specs.State.{State, turned, first_of}
use Rattle.task_machine.proofs.Lists.{get_some}
use Rattle.task_machine.proofs.Noting.{next_is}
use Rattle.task_machine.proofs.Stands.{get_exists}
use Rattle.task_machine.proofs.running.Running.turn.Goals as goal

abbrev made : ℕ → Does → Option Mark
made x d = first_of (mark_of x d)

unlock_made : (x : ℕ) (held : Option Held) (own : Own) (P : ℕ → Type 0) → IsSomeAnd (option_map (λ h. h.monitor) held) P → made x (unlocks held own) ≡ Some (mark.Run x)
unlock_made x None own P h = absurd h
unlock_made x (Some l) own P h = refl

abbrev stands : State → ℕ → Does → Standing
stands s x d = standing_of s.program (events_of s.events) s.machine x d

stuck_is : IsStuck ≡ IsReady → ⊥
stuck_is e = cc

queue_ready : (b : Bool) (q : List (List ℤ)) → at_queue b q ≡ IsReady → 0 < length q
queue_ready true q e = cc
queue_ready false [] e = cc
queue_ready false (message ∷ rest) e = omega arith

pub unreachable-requires : goal.unreachable-requires
unreachable-requires c =
    let next = next_is c.in-Stuck.is c.requires.next in
    let own = get_exists c.args.self.now.machine.tasks c.args.x next.part in
    stuck_is (ap (stands c.args.self.now c.args.x) (next.effect own.0 own.1) ∙ c.requires.ready)

pub take-requires-clause-waiting : goal.take-requires-clause-waiting
take-requires-clause-waiting c = λ q at.
    let next = next_is c.in-Take.is c.requires.next in
    let own = get_exists c.args.self.now.machine.tasks c.args.x next.part in
    let e = ap (stands c.args.self.now c.args.x) (next.effect own.0 own.1) ∙ c.requires.ready in
    let h = queue_ready _ (queue c.args.self.now.machine c.args.x) e in
    let same : queue c.args.self.now.machine c.args.x ≡ q = get_some c.args.self.now.machine.queues c.args.x [] q at in
    rw same at h

pub lock-requires-clause-free : goal.lock-requires-clause-free
lock-requires-clause-free c =
    let next = next_is c.in-Lock.is c.requires.next in
    let own = get_exists c.args.self.now.machine.tasks c.args.x next.part in
    ap (stands c.args.self.now c.args.x) (next.effect own.0 own.1) ∙ c.requires.ready

pub returns-in-Take-clause-state : goal.returns-in-Take-clause-state
returns-in-Take-clause-state c =
    let next = next_is c.in-Take.is c.requires.next in
    let own = get_exists c.args.self.now.machine.tasks c.args.x next.part in
    c.take.ensures own.0 own.1 ∙ ap (turned c.args.self.now c.args.x) (next.effect own.0 own.1)

pub returns-in-Take-clause-mark : goal.returns-in-Take-clause-mark
returns-in-Take-clause-mark c =
    let next = next_is c.in-Take.is c.requires.next in
    let own = get_exists c.args.self.now.machine.tasks c.args.x next.part in
    ap (made c.args.x) (next.effect own.0 own.1)

pub returns-in-Lock-clause-state : goal.returns-in-Lock-clause-state
returns-in-Lock-clause-state c =
    let next = next_is c.in-Lock.is c.requires.next in
    let own = get_exists c.args.self.now.machine.tasks c.args.x next.part in
    c.lock.ensures own.0 own.1 ∙ ap (turned c.args.self.now c.args.x) (next.effect own.0 own.1)

pub returns-in-Lock-clause-mark : goal.returns-in-Lock-clause-mark
returns-in-Lock-clause-mark c =
    let next = next_is c.in-Lock.is c.requires.next in
    let own = get_exists c.args.self.now.machine.tasks c.args.x next.part in
    ap (made c.args.x) (next.effect own.0 own.1)

pub returns-in-Private-clause-state : goal.returns-in-Private-clause-state
returns-in-Private-clause-state c =
    let next = next_is c.in-Private.is c.requires.next in
    let own = get_exists c.args.self.now.machine.tasks c.args.x next.part in
    c.change.ensures own.0 own.1 ∙ ap (turned c.args.self.now c.args.x) (next.effect own.0 own.1)

pub returns-in-Private-clause-mark : goal.returns-in-Private-clause-mark
returns-in-Private-clause-mark c =
    let next = next_is c.in-Private.is c.requires.next in
    let own = get_exists c.args.self.now.machine.tasks c.args.x next.part in
    ap (made c.args.x) (next.effect own.0 own.1)

pub returns-in-Unlock-clause-state : goal.returns-in-Unlock-clause-state
returns-in-Unlock-clause-state c =
    let next = next_is c.in-Unlock.is c.requires.next in
    let own = get_exists c.args.self.now.machine.tasks c.args.x next.part in
    c.unlock.ensures own.0 own.1 ∙ ap (turned c.args.self.now c.args.x) (next.effect own.0 own.1)

pub returns-in-Unlock-clause-mark : goal.returns-in-Unlock-clause-mark
returns-in-Unlock-clause-mark c =
    let next = next_is c.in-Unlock.is c.requires.next in
    let own = get_exists c.args.self.now.machine.tasks c.args.x next.part in
    let t = get_exists c.args.self.now.program.tasks c.args.x c.requires.task in
    let held = next.within own.0 t.0 t.1 own.1 in
    sym (unlock_made c.args.x own.0.held own.0 _ held) ∙ ap (made c.args.x) (next.effect own.0 own.1)

pub returns-in-Out-clause-state : goal.returns-in-Out-clause-state
returns-in-Out-clause-state c =
    let next = next_is c.in-Out.is c.requires.next in
    let own = get_exists c.args.self.now.machine.tasks c.args.x next.part in
    c.out.ensures own.0 own.1 ∙ ap (turned c.args.self.now c.args.x) (next.effect own.0 own.1)

pub returns-in-Out-clause-mark : goal.returns-in-Out-clause-mark
returns-in-Out-clause-mark c =
    let next = next_is c.in-Out.is c.requires.next in
    let own = get_exists c.args.self.now.machine.tasks c.args.x next.part in
    ap (made c.args.x) (next.effect own.0 own.1)
