use Rattle.std.proofs.Common.{◌≡◌, ◌+◌, ◌≤◌, drop, length}
use Rattle.task_code.specs.Policy.{places_from}
use Rattle.task_machine.specs.Policy.{of_priority}
use Rattle.task_machine.proofs.policy.count_of_priority.Given as goal

abbrev pub invariant-loop-x : goal.invariant-loop-x
invariant-loop-x l =
    (l.count + length (of_priority l.priorities l.top (places_from l.x (drop l.x l.ready)))
    ≡ length (of_priority l.priorities l.top (places_from 0 l.ready)))
    × (l.count ≤ l.x)
