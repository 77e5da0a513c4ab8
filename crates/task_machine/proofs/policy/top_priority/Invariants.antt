use Rattle.std.proofs.Common.{◌≡◌, map, drop, max, fold}
use Rattle.std.specs.Prelude.{slice_index}
use Rattle.task_code.specs.Policy.{places_from, greatest}
use Rattle.task_machine.proofs.policy.top_priority.Given as goal

abbrev pub invariant-loop-x : goal.invariant-loop-x
invariant-loop-x l =
    fold max l.top (map (slice_index l.priorities) (places_from l.x (drop l.x l.ready)))
    ≡ greatest (map (slice_index l.priorities) (places_from 0 l.ready))
