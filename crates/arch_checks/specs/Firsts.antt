-- The first offence of each kind that speaks of a system.
use Rattle.std.specs.Prelude.{◌≡◌, ℕ, ◌<◌, ◌≤◌, length, Some}
use Rattle.tower_syntax.specs.Arch.{Arch}
use Rattle.tower_syntax.specs.Weights.{cost}
use Rattle.channel_graph.specs.declared.bounds.Over.{Over}
use Rattle.channel_graph.specs.declared.circuit.CycleFound.{CycleFound}
use Rattle.channel_graph.specs.Circuit.{shown}
use Rattle.channel_graph.specs.Over.{IsFirstOver}
use Rattle.arch_checks.specs.declared.fault.What.{What}
use Rattle.arch_checks.specs.declared.fault.Fault.{Fault}
use Rattle.arch_checks.specs.Limits.{limit, work_limit, order}
use Rattle.arch_checks.specs.Sizes.{Counts}
use Rattle.arch_checks.specs.Offences.{bound_fault, cycle_fault, size_fault, work_fault}

-- it tells the first emitter that is over its bound
pub record IsBoundFault (arch : Arch) (f : Fault) : Type 0 where
  pub over : Over
  pub first : IsFirstOver arch over
  pub told : f ≡ bound_fault arch over.handler over.emitter

pub record IsCycleFault (arch : Arch) (f : Fault) : Type 0 where
  pub found : CycleFound
  pub shown : shown arch ≡ Some found
  pub told : f ≡ cycle_fault arch found

-- what stands before the n-th limit is within its own
abbrev pub AreWithin : Arch → ℕ → Type 0
AreWithin arch n = (what : What) (count : ℕ) → order what < n → Counts arch what count → count ≤ limit what

pub record IsSizeFault (arch : Arch) (f : Fault) : Type 0 where
  pub what : What
  pub count : ℕ
  pub counts : Counts arch what count
  pub more : limit what < count
  pub before : AreWithin arch (order what)
  pub told : f ≡ size_fault what count

-- the first n sources cost no more than they may
abbrev pub AreCheap : Arch → ℕ → Type 0
AreCheap arch n = (s : ℕ) → s < n → cost arch s ≤ work_limit

pub record IsWorkFault (arch : Arch) (f : Fault) : Type 0 where
  pub source : ℕ
  pub exists : source < length arch.sources
  pub more : work_limit < cost arch source
  pub before : AreCheap arch source
  pub told : f ≡ work_fault arch source
