use Rattle.std.proofs.Common.{◌≡◌, slice_get}
use Rattle.std.specs.Prelude.{filter}
use Rattle.task_code.specs.Policy.{places_from}
use Rattle.task_code.specs.Cores.{by_urgency}
use Rattle.task_policies.specs.Rules.{is_below}
use Rattle.task_policies.proofs.cores.at_rank.Given as goal

abbrev pub invariant-levels : goal.invariant-levels
invariant-levels l =
    slice_get (by_urgency l.priorities (filter (is_below l.priorities l.limit) (places_from 0 l.given))) l.left
    ≡ slice_get (by_urgency l.priorities (places_from 0 l.given)) l.position

abbrev pub decreases-levels : goal.decreases-levels
decreases-levels l = l.limit
