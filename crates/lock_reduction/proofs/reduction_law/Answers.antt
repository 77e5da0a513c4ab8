use Rattle.lock_reduction.proofs.reduction_law.Goals as goal
use Rattle.lock_reduction.proofs.Start.{reached_keeps}
use Rattle.lock_reduction.proofs.Agree.{agrees, counts_fit}

pub returns : goal.returns
returns c s p keeps_types for alone events steps r fits e =
    let kept = reached_keeps s p events keeps_types for alone fits steps r e in
    ((kept.0, agrees s p events keeps_types for fits r kept.0 kept.1), counts_fit s p events keeps_types for fits r kept.0 kept.1)
