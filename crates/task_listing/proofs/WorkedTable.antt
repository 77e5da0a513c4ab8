-- The worked listing of each instruction, computed.
use Rattle.std.proofs.Common.{[], refl, subst}
use Rattle.std.specs.Fmt.{digits}
use Rattle.task_listing.specs.Laws.{IsProgram}
use Rattle.task_listing.specs.WorkedTable.{every, every_text, WorkedTable}
use Rattle.task_listing.proofs.Runs.{at}
use Rattle.task_listing.proofs.Programs.{final}
use Rattle.task_listing.proofs.Readings.{is_read, program_is}

-- the text has no fault, and so it is the listing of what is read of it
every_is_program : IsProgram every
unfolding digits
every_is_program = subst IsProgram (program_is every) (is_read every_text (at [] (final every)) refl).is_program

pub worked_table : WorkedTable
unfolding digits
worked_table = record { is_program = every_is_program; same = refl }
