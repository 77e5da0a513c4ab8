-- What a callback knows at its beginning is what the relations see there.
use Rattle.std.proofs.Common.{◌≡◌, ℕ, zero, suc, ◌<◌, [], ◌∷◌, length, slice_get, Some, refl, sym, ◌∙◌, arith}
use Rattle.std.specs.Option.{option_map}
use Rattle.std.proofs.lemmas.Option.{same_Some}
use Rattle.tower_types.specs.Ty.{Ty, Fields}
use Rattle.tower_syntax.specs.declared.named.Target.{Target}
use Rattle.tower_syntax.specs.declared.named.Target.TheVariants as target
use Rattle.tower_syntax.specs.Typed.{no_names}
use Rattle.tower_syntax.specs.Arch.{Arch}
use Rattle.tower_syntax.specs.Weights.{states_of}
use Rattle.arch_types.specs.Typing.{Env}
use Rattle.arch_types.specs.Outline.{each, Written, emitter_of}
use Rattle.arch_types.specs.File.{entry, writable_at_entry}
use Rattle.arch_types.specs.Numbered.{Counts}
use Rattle.arch_types.specs.Walk.{Known, type_at, known_type, may_write_among}
use Rattle.arch_types.proofs.Right.{IsKnown, Agrees, IsWithin}
use Rattle.arch_types.specs.Turns.{known_in}

state_at : (fs : Fields) (k : ℕ) → k < length fs → option_map (λ f. f.1) (slice_get fs k) ≡ Some (type_at fs k)
state_at [] k l = absurd (omega arith)
state_at (f ∷ fs) zero l = refl
state_at (f ∷ fs) (suc k) l = state_at fs k (omega arith)

module _ (arch : Arch) (w : Written) where
  abbrev Γ : Env
  Γ = entry arch w

  abbrev γ : Known
  γ = known_in arch w

  one : (x : Target) (t u : Ty) → Γ.has x t → Γ.has x u → t ≡ u
  one target.Param t u h k = h ∙ sym k
  one (target.State b) t u h k = same_Some t u (sym h ∙ k)
  one (target.Binder b) t u h k = absurd h
  one (target.Record b) t u h k = absurd h
  one (target.Source b) t u h k = absurd h
  one (target.Channel b) t u h k = absurd h
  one (target.Emitter b) t u h k = absurd h

  known : (x : Target) → IsKnown γ x → Γ.has x (known_type γ x)
  known target.Param l = refl
  known (target.State b) l = state_at (states_of arch w.monitor) b l
  known (target.Binder b) l = absurd (omega arith)
  known (target.Record b) l = absurd l
  known (target.Source b) l = absurd l
  known (target.Channel b) l = absurd l
  known (target.Emitter b) l = absurd l

  written : (x : Target) → writable_at_entry x ≡ may_write_among γ.writable x
  written target.Param = refl
  written (target.State b) = refl
  written (target.Binder b) = refl
  written (target.Record b) = refl
  written (target.Source b) = refl
  written (target.Channel b) = refl
  written (target.Emitter b) = refl

  pub entry_agrees : Agrees Γ γ
  entry_agrees = record {
    names = refl;
    records = refl;
    emitters = refl;
    writable = written;
    bound = refl;
    has = record { even = refl; one = one; knows = known };
  }

  abbrev pub counts_in : Counts
  counts_in = record { records = length arch.records; states = length (states_of arch w.monitor); emitters = length (each emitter_of w.parts); names = no_names; bound = 0 }

  pub entry_within : IsWithin counts_in γ
  entry_within = record { states = omega arith; bound = refl; in_scope = λ b h. absurd h }
