use Rattle.std.proofs.Common.{sym, ◌∙◌, length, ◌<◌, ◌≤◌}
use Rattle.task_machine.proofs.Combinators.{does_at, does_past}
use Rattle.task_machine.proofs.execute.next.Goals as goal

pub returns-then-place-code-clause-effect : goal.returns-then-place-code-clause-effect
returns-then-place-code-clause-effect c =
    let h : c.args.own.now.place < length c.args.task.now.code = rw (← c.as_slice-code.ensures, ← c.place-place.ensures) c.if-place-code.true in
    let e = rw (c.as_slice-code.ensures, c.place-place.ensures) at c.execute.ensures.effect in
    e ∙ sym (does_at c.args.program.now c.args.task.now c.args.own.now _ h)

pub returns-else-place-code-clause-effect : goal.returns-else-place-code-clause-effect
returns-else-place-code-clause-effect c =
    let h : length c.args.task.now.code ≤ c.args.own.now.place = rw (← c.as_slice-code.ensures, ← c.place-place.ensures) c.if-place-code.false in
    sym (does_past c.args.program.now c.args.task.now c.args.own.now h)
