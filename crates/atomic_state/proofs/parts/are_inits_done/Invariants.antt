use Rattle.atomic_state.proofs.Pending.{AreDone}
use Rattle.atomic_state.proofs.parts.are_inits_done.Given as goal

abbrev pub invariant-loop-x : goal.invariant-loop-x
invariant-loop-x l = AreDone l.kinds l.parts.queues.items l.parts.pending.items l.x
