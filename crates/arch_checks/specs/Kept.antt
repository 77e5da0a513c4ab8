-- What each accepted system keeps of the numbers of its text, and of the fields of its records.
use Rattle.std.specs.Prelude.{◌<◌, All, length}
use Rattle.tower_syntax.specs.Arch.{Arch}
use Rattle.tower_syntax.specs.Words.{IsBound}
pub use Rattle.arch_types.specs.Ranged.{IsKind, IsSomeDepth}

-- each record has a field, each period 1 to 1,000,000 milliseconds, each depth is 1 to 64, and each emitter's bound at most 65,536
pub record KeepsNumbers (arch : Arch) : Type 0 where
  pub records : All (λ fields. 0 < length fields) arch.records
  pub kinds : All (λ s. IsKind s.kind) arch.sources
  pub depths : All (λ s. IsSomeDepth s.depth) arch.sources
  pub bounds : All (λ h. All (λ e. IsBound e.bound) h.emitters) arch.handlers
