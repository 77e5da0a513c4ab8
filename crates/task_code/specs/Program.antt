-- A program, as definitions speak of it.
use Rattle.std.specs.Prelude.{ℕ, List}
use Rattle.task_code.specs.declared.program.Task.{Task}

pub record Program : Type 0 where
  pub monitors : List ℕ  -- the words of each
  pub outputs : List ℕ  -- the words of each
  pub tasks : List Task
