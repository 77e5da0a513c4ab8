use Rattle.task_code.proofs.laws.emissions_emit.Goals as goal
use Rattle.task_code.proofs.Emissions.{emits, is_short}

pub returns-clause-emits : goal.returns-clause-emits
returns-clause-emits c = emits

pub returns-clause-short : goal.returns-clause-short
returns-clause-short c = is_short
