use Rattle.std.proofs.Common.{◌≡◌, take}
use Rattle.task_build.specs.CodeOf.{tasks_from}
use Rattle.task_build.proofs.building.tasks.Given as goal

abbrev pub invariant-loop-plan : goal.invariant-loop-plan
invariant-loop-plan l = l.tasks ≡ tasks_from l.arch 0 (take l.plan-index l.arch.sources)
