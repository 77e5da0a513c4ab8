use Rattle.std.proofs.Common.{arith, FitsSigned, inl, inr}
use Rattle.std.specs.Int.{w128}
use Rattle.std.proofs.lemmas.Int.{to_z-of_z, ints}
use Rattle.task_machine.proofs.Combinators.{index_is, index_is_not}
use Rattle.task_machine.proofs.execute.index.Goals as goal
use Rattle.task_machine.proofs.execute.index.Goals.{else-i-ge0-via-then-i-ge0+else-i-from, else-i-ge0-via-else-i-ge0}

pub returns-then-i-from-clause-place : goal.returns-then-i-from-clause-place
returns-then-i-from-clause-place c =
    let fit : FitsSigned w128 c.args.i = c.ranges.i in
    simp to_z-of_z (index_is c.args.i c.args.n (omega (arith, ints)) (omega (arith, ints)))

pub returns-else-i-ge0-clause-place : goal.returns-else-i-ge0-clause-place
returns-else-i-ge0-clause-place c =
    index_is_not c.args.i c.args.n (elim c.else-i-ge0.branch [
      | else-i-ge0-via-then-i-ge0+else-i-from w ↦ inr (omega (arith, ints))
      | else-i-ge0-via-else-i-ge0 w ↦ inl (omega (arith, ints))
    ])
