-- What a running machine starts with.
use Rattle.std.specs.Prelude.{◌≡◌, ℕ, ◌+◌, ◌≤◌, length, Option}
use Rattle.tower_types.specs.Value.{value_depth}
use Rattle.tower_syntax.specs.declared.arch.SourceKind.{SourceKind}
use Rattle.tower_syntax.specs.Arch.{Entry, tick, signal}
use Rattle.task_code.specs.Machine.{first_queue}
use Rattle.task_machine.specs.Queue.{Queue, waiting, lost, capped, is_numbered}

-- a value is at most 32 deep
abbrev pub IsShallow : Entry → Type 0
IsShallow tick = Unit {0}
IsShallow (signal x v) = value_depth v ≤ 32

-- a queue at the start, to which so many messages will come
pub record Starts (kind : SourceKind) (depth : Option ℕ) (coming : ℕ) (q : Queue) : Type 0 where
  pub waits : waiting q ≡ first_queue kind
  pub none_lost : lost q ≡ 0
  pub room : capped depth (length (waiting q) + coming) ≤ q.room
  pub numbered : q.numbered ≡ is_numbered kind
