use Rattle.std.proofs.Common.{sym}
use Rattle.task_machine.proofs.Combinators.{no_buffer_shape, no_buffer_filled, buffer_is, count_is}
use Rattle.task_machine.proofs.execute.buffer.Goals as goal

pub returns-in_err-shape-clause-none : goal.returns-in_err-shape-clause-none
returns-in_err-shape-clause-none c =
    rw c.from_residual.ensures (λ go. no_buffer_shape _ _ go (sym c.in_err-shape.ensures))

pub returns-in_err-count-clause-none : goal.returns-in_err-count-clause-none
returns-in_err-count-clause-none c =
    rw c.from_residual-in_err-count.ensures (λ go. no_buffer_filled _ _ go (sym c.in_err-count.ensures))

pub returns-clause-some : goal.returns-clause-some
returns-clause-some c =
    λ go. buffer_is _ _ c.args.own.now.buffers c.args.at _ go (sym c.in_ok-shape.ensures) (sym c.in_ok-count.ensures)

pub returns-clause-count : goal.returns-clause-count
returns-clause-count c =
    count_is c.args.own.now.buffers c.args.at _ (sym c.in_ok-count.ensures)
