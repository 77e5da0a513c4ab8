-- What is known of each plan.
use Rattle.std.specs.Prelude.{ℕ, ◌≡◌, ◌↔◌, Contains}
use Rattle.std.specs.List.Sorted.{IsStrictlyIncreasing}
use Rattle.tower_syntax.specs.Arch.{Arch}
use Rattle.tower_syntax.specs.Graph.{handler, Reaches}
use Rattle.tower_syntax.specs.WellNumbered.{IsWellNumbered}
use Rattle.thread_split.specs.Plans.{plan_of}

-- a handler that the source reaches works on the monitor
pub record Works (arch : Arch) (s m : ℕ) : Type 0 where
  pub number : ℕ
  pub reached : Reaches arch s number
  pub on : (handler arch number).monitor ≡ m

pub record IsPlan (arch : Arch) (s : ℕ) : Type 0 where
  pub handlers : (h : ℕ) → Contains (plan_of arch s).handlers h ↔ Reaches arch s h
  pub monitors : (m : ℕ) → Contains (plan_of arch s).monitors m ↔ Works arch s m
  pub handlers_ascend : IsStrictlyIncreasing (plan_of arch s).handlers
  pub monitors_ascend : IsStrictlyIncreasing (plan_of arch s).monitors

abbrev pub PlansHold : Type 0
PlansHold = (arch : Arch) (s : ℕ) → IsWellNumbered arch → IsPlan arch s
