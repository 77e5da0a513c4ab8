-- How a standing of the program is seen.
use Rattle.task_code.specs.Standing.{Standing as TaskStanding, IsStuck, IsIdle, IsWaiting, IsReady}
use Rattle.task_machine.specs.declared.standing.Standing.{Standing}
use Rattle.task_machine.specs.declared.standing.Standing.TheVariants.{Ready, Idle, Waiting, Stuck}

abbrev pub standing_of : Standing → TaskStanding
standing_of Ready = IsReady
standing_of Idle = IsIdle
standing_of (Waiting m) = IsWaiting m
standing_of Stuck = IsStuck
