use Rattle.arch_names.proofs.Whole.{clean_is, linked_is, least_is}
use Rattle.arch_names.specs.Linked.{linked}
use Rattle.arch_names.specs.Walk.{meant}
use Rattle.std.proofs.Common.{refl}
use Rattle.arch_names.proofs.laws.walk_is_right.Goals as goal

pub returns-clause-clean : goal.returns-clause-clean
returns-clause-clean c raw h = (clean_is raw h, linked_is raw (linked meant raw) h refl)

pub returns-clause-first : goal.returns-clause-first
returns-clause-first c raw f h o = least_is raw f h o
