-- The worked texts of runs and replays, computed.
use Rattle.std.proofs.Common.{refl}
use Rattle.std.specs.Fmt.{digits}
use Rattle.task_code.specs.Does.{does, need, popped, indexed, with_lock, without_lock}
use Rattle.tower_report.specs.WorkedRuns.{WorkedRuns, WorkedReplays}

pub worked_runs : WorkedRuns
unfolding digits does need popped indexed with_lock without_lock
worked_runs = record {
  plain = refl;
  stopped = refl;
  waits = refl;
  ceiling = refl;
  two_cores = refl;
}

pub worked_replays : WorkedReplays
unfolding digits
worked_replays = record {
  nothing_done = refl;
  start_twice = refl;
  outputs = refl;
  output_early = refl;
  lost = refl;
  lost_and_misfit = refl;
}
