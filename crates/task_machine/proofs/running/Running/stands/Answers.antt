use Rattle.std.proofs.Common.{ℕ, ap, sym, ◌∙◌}
use Rattle.task_code.specs.Does.{Does}
use Rattle.task_code.specs.Standing.{Standing}
use Rattle.task_machine.specs.Noted.{stands_by}
use Rattle.task_machine.proofs.Noting.{next_is}
use Rattle.task_machine.proofs.Stands.{get_exists, unlocks_ready}
use Rattle.task_machine.proofs.running.Running.stands.Goals as goal

pub returns-in-Stuck : goal.returns-in-Stuck
returns-in-Stuck c =
    let next = next_is c.in-Stuck.is c.requires.next in
    let own = get_exists c.args.self.now.machine.tasks c.args.x next.part in
    ap (stands_by c.args.clear c.args.self.now c.args.x) (next.effect own.0 own.1)

pub returns-in-Private : goal.returns-in-Private
returns-in-Private c =
    let next = next_is c.in-Private.is c.requires.next in
    let own = get_exists c.args.self.now.machine.tasks c.args.x next.part in
    ap (stands_by c.args.clear c.args.self.now c.args.x) (next.effect own.0 own.1)

pub returns-in-Take : goal.returns-in-Take
returns-in-Take c =
    let next = next_is c.in-Take.is c.requires.next in
    let own = get_exists c.args.self.now.machine.tasks c.args.x next.part in
    c.stands_at_take.ensures ∙ ap (stands_by c.args.clear c.args.self.now c.args.x) (next.effect own.0 own.1)

pub returns-in-Lock : goal.returns-in-Lock
returns-in-Lock c =
    let next = next_is c.in-Lock.is c.requires.next in
    let own = get_exists c.args.self.now.machine.tasks c.args.x next.part in
    c.stands_at_lock.ensures ∙ ap (stands_by c.args.clear c.args.self.now c.args.x) (next.effect own.0 own.1)

pub returns-in-Out : goal.returns-in-Out
returns-in-Out c =
    let next = next_is c.in-Out.is c.requires.next in
    let own = get_exists c.args.self.now.machine.tasks c.args.x next.part in
    ap (stands_by c.args.clear c.args.self.now c.args.x) (next.effect own.0 own.1)

pub returns-in-Unlock : goal.returns-in-Unlock
returns-in-Unlock c =
    let next = next_is c.in-Unlock.is c.requires.next in
    let own = get_exists c.args.self.now.machine.tasks c.args.x next.part in
    let t = get_exists c.args.self.now.program.tasks c.args.x c.requires.task in
    let held = next.within own.0 t.0 t.1 own.1 in
    sym (unlocks_ready c.args.clear c.args.self.now c.args.x own.0.held own.0 _ held) ∙ ap (stands_by c.args.clear c.args.self.now c.args.x) (next.effect own.0 own.1)
