use Rattle.arch_checks.specs.Firsts.{AreCheap}
use Rattle.arch_checks.proofs.graph.check_work.Given as goal

abbrev pub invariant-loop-s : goal.invariant-loop-s
invariant-loop-s l = AreCheap l.arch l.s
