use Rattle.std.proofs.Common.{◌≡◌, drop, slice_get}
use Rattle.task_code.specs.Policy.{places_from}
use Rattle.task_machine.specs.Policy.{of_priority}
use Rattle.task_machine.proofs.policy.at_position.Given as goal

abbrev pub invariant-loop-x : goal.invariant-loop-x
invariant-loop-x l =
    slice_get (of_priority l.priorities l.top (places_from l.x (drop l.x l.ready))) l.left
    ≡ slice_get (of_priority l.priorities l.top (places_from 0 l.ready)) l.position
