use Rattle.arch_checks.specs.Firsts.{AreWithin}
use Rattle.arch_checks.proofs.sizes.check_sizes.Given as goal

abbrev pub invariant-loop-what : goal.invariant-loop-what
invariant-loop-what l = AreWithin l.arch l.what-index
