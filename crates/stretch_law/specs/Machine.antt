-- What the bounds see of a system and of its machine.
use Rattle.std.specs.Prelude.{◌≡◌, ℕ, max, Bool, true, Option, Some, None}

pub data Kind : Type 0 where
  Init : Kind
  Period : (ms : ℕ) → Kind
  Signal : Kind

-- the tasks and the monitors, by number; which monitors a task touches; and the ceiling of each monitor
pub record Tasks : Type 0 where
  pub count : ℕ
  pub kind : ℕ → Kind
  pub priority : ℕ → ℕ
  pub cost : ℕ → ℕ
  pub monitors : ℕ
  pub touches : ℕ → ℕ → Bool
  pub ceiling : ℕ → ℕ

-- how one task is: at TAKE or not, its waiting messages, the monitor that it holds, its instructions since TAKE
pub record Seen : Type 0 where
  pub rests : Bool
  pub queued : ℕ
  pub holds : Option ℕ
  pub since : ℕ

pub data Standing : Type 0 where
  IsStuck : Standing
  IsIdle : Standing
  IsWaiting : (m : ℕ) → Standing
  IsReady : Standing

pub data Move : Type 0 where
  Turn : (x : ℕ) → Move  -- an instruction of task x
  Tick : Move
  Sent : (x : ℕ) → Move  -- an entry of signal x

-- a machine with the states S
pub record Machine (S : Type 0) : Type 0 where
  pub start : S
  pub next : S → Move → Option S
  pub see : S → ℕ → Seen
  pub stands : S → ℕ → Standing
  pub ticks : S → ℕ  -- that have arrived

abbrev pub active_of : Tasks → ℕ → Option ℕ → ℕ
active_of t n None = n
active_of t n (Some m) = max n (t.ceiling m)

-- the active priority of task x
abbrev pub active : Tasks → ℕ → Seen → ℕ
active t x o = active_of t (t.priority x) o.holds

abbrev pub Clear : Seen → Type 0
Clear o = (o.rests ≡ true) × (o.queued ≡ 0)
