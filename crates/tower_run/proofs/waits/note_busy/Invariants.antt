use Rattle.std.proofs.Common.{◌≡◌, length, map, take, not}
use Rattle.task_code.specs.Standing.{is_idle}
use Rattle.task_machine.specs.State.{standing_in}
use Rattle.task_machine.proofs.Numbers.{over}
use Rattle.tower_run.proofs.waits.note_busy.Given as goal

abbrev pub invariant-loop-x : goal.invariant-loop-x
invariant-loop-x l = record {
  noted : take l.x l.busy.items ≡ map (λ st. not (is_idle st)) (over (standing_in l.machine) l.x);
  count : length l.busy.items ≡ length l.machine.program.tasks;
}
