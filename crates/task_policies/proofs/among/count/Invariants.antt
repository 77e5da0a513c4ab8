use Rattle.std.proofs.Common.{◌≡◌, ◌+◌, ◌≤◌, drop, length}
use Rattle.std.specs.Prelude.{filter}
use Rattle.task_code.specs.Policy.{places_from}
use Rattle.task_policies.proofs.among.count.Given as goal

abbrev pub invariant-loop-x : goal.invariant-loop-x
invariant-loop-x g l =
    (l.count + length (filter (g.T.Test.passes l.test) (places_from l.x (drop l.x l.given)))
    ≡ length (filter (g.T.Test.passes l.test) (places_from 0 l.given)))
    × (l.count ≤ l.x)
