-- A task's own part.
use Rattle.std.specs.Prelude.{ℕ, ℤ, pos, List, [], map, replicate, Option, None}
use Rattle.std.specs.Option.{option_map}
use Rattle.task_code.specs.declared.program.Buffer.{Buffer}
use Rattle.task_code.specs.declared.program.Task.{Task}

-- a buffer: how many messages it holds, and the words of each of its slots
pub record Filled : Type 0 where
  pub count : ℕ
  pub slots : List (List ℤ)

-- a lock that a task holds. While it does, the words of the monitor are with it.
pub record Held : Type 0 where
  pub monitor : ℕ
  pub words : List ℤ

pub record Own : Type 0 where
  pub place : ℕ
  pub words : List ℤ
  pub stack : List ℤ  -- the topmost first
  pub calls : List ℕ  -- the topmost first
  pub buffers : List Filled
  pub held : Option Held

-- the monitor whose lock the task holds
abbrev pub held_monitor : Own → Option ℕ
held_monitor own = option_map (λ h. h.monitor) own.held

-- at the start all words and counts are 0
abbrev pub empty_buffer : Buffer → Filled
empty_buffer b = record { count = 0; slots = replicate b.bound (replicate b.width (pos 0)) }

abbrev pub first_own : Task → Own
first_own t = record { place = 0; words = replicate t.room (pos 0); stack = []; calls = []; buffers = map empty_buffer t.buffers; held = None }
