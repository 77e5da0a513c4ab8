-- Code that grows: what stood before still stands in front.
use Rattle.std.specs.Prelude.{◌≡◌, List, ◌++◌}
use Rattle.task_code.specs.declared.program.Instr.{Instr}

-- the code begins with these instructions
pub record Extends (start code : List Instr) : Type 0 where
  pub rest : List Instr
  pub whole : code ≡ start ++ rest

-- whatever the code begins with before, it begins with after
abbrev pub Keeps : List Instr → List Instr → Type 0
Keeps before after = (start : List Instr) → Extends start before → Extends start after
