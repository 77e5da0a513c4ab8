use Rattle.arch_checks.proofs.Accepted.{safe}
use Rattle.arch_checks.proofs.laws.accepted_files_are_safe.Goals as goal

pub returns : goal.returns
returns c = safe
