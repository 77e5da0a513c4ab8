-- A shelf over the file system.
use Rattle.std.specs.Prelude.{ℕ, Option, List}
use Rattle.tower_io.specs.Faults.{one_more}

pub record FileState : Type 0 where
  -- the name with which the open file was begun, or none where no file is open
  pub opened : Option (List ℕ)
  pub blamed : List ℕ
  pub faults : ℕ

-- the shelf after one more fault, at this name
abbrev pub faulted : FileState → List ℕ → FileState
faulted s name = record s { blamed = name; faults = one_more s.faults }
