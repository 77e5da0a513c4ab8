-- Emitters on which a message may put more than their bound.
use Rattle.std.specs.Prelude.{◌≡◌, ◌<◌, ◌⊎◌, ℕ, [], length, slice_index_or}
use Rattle.tower_types.specs.Records.{saturated}
use Rattle.tower_syntax.specs.Arch.{Arch, Emitter, Handler}
use Rattle.tower_syntax.specs.Graph.{handler}
use Rattle.tower_syntax.specs.Weights.{most}
use Rattle.channel_graph.specs.declared.bounds.Over.{Over}

-- one where no emitter stands
abbrev pub no_emitter : Emitter
no_emitter = record { name = []; channel = 0; bound = 0 }

abbrev pub bound_of : Handler → ℕ → ℕ
bound_of h e = (slice_index_or h.emitters e no_emitter).bound

-- one message of handler h may put more on its emitter e than the bound of e
pub record IsOver (arch : Arch) (h e : ℕ) : Type 0 where
  pub of : h < length arch.handlers
  pub at : e < length (handler arch h).emitters
  pub more : bound_of (handler arch h) e < most (handler arch h) e

-- emitter e of handler h stands before emitter f of handler k
abbrev pub StandsBefore : ℕ → ℕ → ℕ → ℕ → Type 0
StandsBefore h e k f = (h < k) ⊎ ((h ≡ k) × (e < f))

-- no emitter is over its bound
abbrev pub NoneOver : Arch → Type 0
NoneOver arch = (h e : ℕ) → IsOver arch h e → ⊥

-- the first emitter of handler h that is over its bound, with how many messages it may be given
pub record IsFirstOverOf (arch : Arch) (h : ℕ) (o : Over) : Type 0 where
  pub of : o.handler ≡ h
  pub over : IsOver arch h o.emitter
  pub count : o.most ≡ saturated (most (handler arch h) o.emitter)
  pub first : (e : ℕ) → e < o.emitter → IsOver arch h e → ⊥

-- the first emitter in file order that is over its bound, with how many messages it may be given
pub record IsFirstOver (arch : Arch) (o : Over) : Type 0 where
  pub over : IsOver arch o.handler o.emitter
  pub count : o.most ≡ saturated (most (handler arch o.handler) o.emitter)
  pub first : (h e : ℕ) → StandsBefore h e o.handler o.emitter → IsOver arch h e → ⊥
