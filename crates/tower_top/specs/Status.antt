-- The exit statuses.
use Rattle.std.specs.Prelude.{ℕ}
use Rattle.tower_top.specs.declared.status.Status.{Status}
use Rattle.tower_top.specs.declared.status.Status.TheVariants.{Done, Refused, Usage, ReadFault, WriteFault, NoMemory, BadInput, Stopped, No}

abbrev pub code_of : Status → ℕ
code_of Done = 0
code_of Refused = 1
code_of Usage = 2
code_of ReadFault = 3
code_of WriteFault = 4
code_of NoMemory = 5
code_of BadInput = 6
code_of Stopped = 7
code_of No = 8
