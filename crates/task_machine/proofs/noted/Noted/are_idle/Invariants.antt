use Rattle.std.proofs.Common.{◌≡◌, true}
use Rattle.std.specs.List.{list_all}
use Rattle.task_code.specs.Standing.{is_idle}
use Rattle.task_machine.specs.State.{standing_in}
use Rattle.task_machine.proofs.Numbers.{over}
use Rattle.task_machine.proofs.noted.Noted.are_idle.Given as goal

abbrev pub invariant-loop-x : goal.invariant-loop-x
invariant-loop-x l = list_all is_idle (over (standing_in l.running) l.x) ≡ true
