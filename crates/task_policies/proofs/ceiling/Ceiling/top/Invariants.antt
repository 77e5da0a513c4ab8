use Rattle.std.proofs.Common.{◌≡◌, map, drop, max, fold}
use Rattle.task_code.specs.Policy.{places_from, greatest}
use Rattle.task_policies.specs.Rules.{active_in}
use Rattle.task_policies.proofs.ceiling.Ceiling.top.Given as goal

abbrev pub invariant-loop-x : goal.invariant-loop-x
invariant-loop-x l =
    fold max l.top (map (active_in l.self l.holds) (places_from l.x (drop l.x l.given)))
    ≡ greatest (map (active_in l.self l.holds) (places_from 0 l.given))
