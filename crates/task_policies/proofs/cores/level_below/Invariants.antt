use Rattle.std.proofs.Common.{◌≡◌, map, drop, filter, slice_index}
use Rattle.task_code.specs.Policy.{places_from}
use Rattle.task_policies.specs.Rules.{is_below, greatest_from, level_below}
use Rattle.task_policies.proofs.cores.level_below.Given as goal

abbrev pub invariant-loop-x : goal.invariant-loop-x
invariant-loop-x l =
    greatest_from l.level (map (slice_index l.priorities) (filter (is_below l.priorities l.limit) (places_from l.x (drop l.x l.given))))
    ≡ level_below l.priorities l.limit (places_from 0 l.given)
