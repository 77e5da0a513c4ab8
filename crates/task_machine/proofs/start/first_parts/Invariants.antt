use Rattle.std.proofs.Common.{◌≡◌, map, take}
use Rattle.task_code.specs.Own.{first_own}
use Rattle.task_machine.proofs.start.first_parts.Given as goal

abbrev pub invariant-loop-task : goal.invariant-loop-task
invariant-loop-task l = l.parts.items ≡ map first_own (take l.task-index l.tasks)
