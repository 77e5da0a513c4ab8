use Rattle.std.proofs.Common.{◌≡◌, [], map}
use Rattle.tower_syntax.specs.Graph.{numbers_before}
use Rattle.thread_split.specs.Plans.{plan_of}
use Rattle.thread_split.proofs.plan.split.Given as goal

abbrev pub invariant-loop-s : goal.invariant-loop-s
invariant-loop-s l = l.plans.items ≡ map (plan_of l.arch) (numbers_before l.s [])
