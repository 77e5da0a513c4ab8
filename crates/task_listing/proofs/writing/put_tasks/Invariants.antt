use Rattle.std.proofs.Common.{◌≡◌, ◌++◌, drop}
use Rattle.task_listing.specs.Lines.{texts}
use Rattle.task_listing.specs.Listing.{task_text}
use Rattle.task_listing.proofs.writing.put_tasks.Given as goal

abbrev pub invariant-loop-task : goal.invariant-loop-task
invariant-loop-task l = l.out.items ++ texts task_text (drop l.task-index l.tasks) ≡ l.initial.out.items ++ texts task_text l.tasks
