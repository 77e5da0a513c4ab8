use Rattle.arch_checks.proofs.Ranged.{keeps_numbers}
use Rattle.arch_checks.proofs.laws.numbers_law.Goals as goal

pub returns : goal.returns
returns c = keeps_numbers
