use Rattle.std.proofs.Common.{◌≡◌, length, min, arith}
use Rattle.atomic_state.proofs.Pending.{all_done}
use Rattle.atomic_state.proofs.parts.are_inits_done.Goals as goal

pub returns : goal.returns
returns c =
    let end : c.loop-x.x ≡ min (min (length c.args.kinds.now) (length c.args.parts.now.queues.items)) (length c.args.parts.now.pending.items) = omega arith in
    all_done c.args.kinds.now c.args.parts.now.queues.items c.args.parts.now.pending.items c.loop-x.x end c.loop-x.invariant
