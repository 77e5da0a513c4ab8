use Rattle.std.proofs.Common.{[], ap}
use Rattle.atomic_state.specs.StateView.{pending_of}
use Rattle.atomic_state.proofs.Lists.{one_same}
use Rattle.atomic_state.proofs.Pending.{items_of}
use Rattle.atomic_state.proofs.start.no_items.Goals as goal

pub loop-kind-preserved : goal.loop-kind-preserved
loop-kind-preserved c =
    one_same items_of c.args.kinds.now c.loop-kind.pending.items c.push.new.self.items c.loop-kind._kind-index c.new.result [] c.loop-kind-test.true c.in_ok-push.ensures.items (ap pending_of c.new.ensures.items) c.loop-kind.invariant
