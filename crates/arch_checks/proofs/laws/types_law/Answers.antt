use Rattle.arch_checks.proofs.Facts.{types_wide, types_shallow}
use Rattle.arch_checks.proofs.Goods.{wide_words}
use Rattle.arch_checks.proofs.Values.{low_value}
use Rattle.arch_checks.proofs.laws.types_law.Goals as goal

pub returns-clause-wide : goal.returns-clause-wide
returns-clause-wide c = types_wide

pub returns-clause-words : goal.returns-clause-words
returns-clause-words c = wide_words

pub returns-clause-shallow : goal.returns-clause-shallow
returns-clause-shallow c = types_shallow

pub returns-clause-values : goal.returns-clause-values
returns-clause-values c = low_value
