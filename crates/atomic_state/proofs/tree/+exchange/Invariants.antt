use Rattle.std.proofs.Common.{◌+◌, ◌*◌, length}
use Rattle.atomic_state.proofs.tree.+exchange.Given as goal

abbrev pub decreases-exchange : goal.decreases-exchange
decreases-exchange l = 2 * length l.path.now

abbrev pub decreases-exchange_part : goal.decreases-exchange_part
decreases-exchange_part l = 2 * length l.path.now + 1
