-- The programs of small systems and their runs, computed.
use Rattle.std.proofs.Common.{refl}
use Rattle.task_code.specs.Does.{does, need, popped, indexed, with_lock, without_lock, with_buffer, at_zero, returned}
use Rattle.task_build.specs.WorkedPrograms.{WorkedPrograms}
use Rattle.task_build.specs.WorkedRuns.{WorkedRuns}

pub worked : WorkedPrograms
worked = record { clock_is = refl; tell_is = refl; order_is = refl; dia_is = refl }

pub run : WorkedRuns
unfolding does need popped indexed with_lock without_lock with_buffer at_zero returned
run = record { diap_is = refl; walks_is = refl; diap_runs = refl; order_runs = refl; walks_runs = refl }
