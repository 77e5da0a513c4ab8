use Rattle.std.proofs.Common.{map}
use Rattle.atomic_state.specs.Items.{item_of}
use Rattle.atomic_state.proofs.Followed.{IsFollowed}
use Rattle.atomic_state.proofs.handle.follow.Given as goal

abbrev pub invariant-loop-i : goal.invariant-loop-i
invariant-loop-i l = IsFollowed l.arch l.emitters l.lists l.i (map item_of l.items.items)
