use Rattle.std.proofs.Common.{◌≡◌, [], filter, get_or, false}
use Rattle.tower_syntax.specs.Graph.{numbers_before}
use Rattle.thread_split.proofs.plan.marked_numbers.Given as goal

abbrev pub invariant-loop-k : goal.invariant-loop-k
invariant-loop-k l = l.found ≡ filter (λ k. get_or l.marks k false) (numbers_before l.k [])
