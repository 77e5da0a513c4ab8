-- A program of one task that gives an output each message of its source.
use Rattle.std.specs.Prelude.{[], ◌∷◌}
use Rattle.task_code.specs.declared.program.Task.{Task}
use Rattle.task_code.specs.declared.program.Instr.TheVariants.{Take, Out, Jmp}
use Rattle.task_code.specs.Program.{Program}

abbrev pub relay_task : Task
relay_task = record { priority = 1; message = 1; room = 1; buffers = []; code = Take 0 ∷ Out 0 0 ∷ Jmp 0 ∷ [] }

abbrev pub relay : Program
relay = record { monitors = []; outputs = 1 ∷ []; tasks = relay_task ∷ [] }
