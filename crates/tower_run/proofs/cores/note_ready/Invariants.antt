use Rattle.std.proofs.Common.{◌≡◌, length, map, take}
use Rattle.task_code.specs.Standing.{is_ready}
use Rattle.task_machine.specs.State.{standing_in}
use Rattle.task_machine.proofs.Numbers.{over}
use Rattle.tower_run.proofs.cores.note_ready.Given as goal

abbrev pub invariant-loop-x : goal.invariant-loop-x
invariant-loop-x l = record {
  noted : take l.x l.flags.items ≡ map is_ready (over (standing_in l.machine) l.x);
  count : length l.flags.items ≡ length l.machine.program.tasks;
}
