use Rattle.std.proofs.Common.{◌≡◌, ap, arith}
use Rattle.tower_meaning.specs.Body.{Execution}
use Rattle.atomic_state.specs.FrameView.{env_of}
use Rattle.atomic_state.proofs.Executed.{emit_done}
use Rattle.atomic_state.proofs.execute.emit.Goals as goal

pub returns-in_ok-push-clause-execution : goal.returns-in_ok-push-clause-execution
returns-in_ok-push-clause-execution c = λ h.
    ap (λ ls. record { env = env_of c.args.frame.now; lists = ls })
    (emit_done c.args.frame.now.lists.items c.args.k c.index_mut.result.now c.push.new.self c.in_ok-value.value _ (omega arith) c.index_mut.ensures.value c.in_ok-push.ensures.ok (c.in_ok-value.ensures h))
