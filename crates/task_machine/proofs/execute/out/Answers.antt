use Rattle.std.proofs.Common.{◌≡◌, sym, ◌∙◌, arith}
use Rattle.task_machine.proofs.Combinators.{some_held, none_held}
use Rattle.task_machine.proofs.execute.out.Goals as goal
use Rattle.std.proofs.Common.{slice_index}
use Rattle.task_machine.proofs.Lists.{past}
use Rattle.task_machine.proofs.execute.out.Goals.{then-output-outputs, else-output-outputs}

pub returns-then-is_lock_held-clause-effect : goal.returns-then-is_lock_held-clause-effect
returns-then-is_lock_held-clause-effect c =
    sym (some_held _ _ c.if-is_lock_held.ensures)

pub returns-clause-effect : goal.returns-clause-effect
returns-clause-effect c =
    let e : c.if-output-outputs.words ≡ slice_index c.args.outputs.now c.args.output = elim c.if-output-outputs.branch [ then-output-outputs w ↦ w.words-is | else-output-outputs w ↦ w.words-is ∙ sym (past c.args.outputs.now c.args.output 0 (omega arith)) ] in
    rw e (sym (none_held _ _ c.if-is_lock_held.ensures))
