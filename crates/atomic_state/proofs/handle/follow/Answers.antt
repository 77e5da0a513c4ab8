use Rattle.std.proofs.Common.{◌≡◌, length, min, map, arith}
use Rattle.atomic_state.specs.Items.{item_of}
use Rattle.atomic_state.proofs.Followed.{all_followed}
use Rattle.atomic_state.proofs.handle.follow.Goals as goal

pub returns : goal.returns
returns c =
    let end : c.loop-i.i ≡ min (length c.args.emitters.now) (length c.args.lists.now) = omega arith in
    all_followed c.args.arch.now c.args.emitters.now c.args.lists.now c.loop-i.i (map item_of c.loop-i.items.items) end c.loop-i.invariant
