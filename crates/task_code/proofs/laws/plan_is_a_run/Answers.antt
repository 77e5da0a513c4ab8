use Rattle.task_code.proofs.laws.plan_is_a_run.Goals as goal
use Rattle.task_code.proofs.Planned.{planned}

pub returns : goal.returns
returns c = record {
  reaches = λ policy p events choices limit. (planned policy p events choices limit).reaches;
  counts = λ policy p events choices limit. (planned policy p events choices limit).counts;
}
