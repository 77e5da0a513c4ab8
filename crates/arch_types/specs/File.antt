-- A whole file: what it becomes, its faults, and the order of its text.
use Rattle.std.specs.Prelude.{◌≡◌, ℕ, ◌<◌, List, [], ◌∷◌, map, slice_get, slice_index_or, Bool, true, false, Some, Contains}
use Rattle.std.specs.Option.{option_map}
use Rattle.tower_types.specs.Ty.{Ty, Fields}
use Rattle.tower_syntax.specs.declared.named.Target.{Target}
use Rattle.tower_syntax.specs.declared.named.Target.TheVariants as target
use Rattle.tower_syntax.specs.declared.arch.On.{On}
use Rattle.tower_syntax.specs.declared.arch.On.TheVariants as on
use Rattle.tower_syntax.specs.RawTree.{Id, Link, Raw, RawStmts}
use Rattle.tower_syntax.specs.Arch.{Arch, Emitter, Body, Handler}
use Rattle.tower_syntax.specs.Weights.{states_of}
use Rattle.arch_types.specs.declared.fault.TypeFault.{TypeFault}
use Rattle.arch_types.specs.Typing.{Env, no_type}
use Rattle.arch_types.specs.Body as body
use Rattle.arch_types.specs.Order.{AscendsAll, start_in}
use Rattle.arch_types.specs.Outline.{each, outline, with_handlers, Written, handlers_of, on_of, emitter_of, callback_of}

-- ---- what a callback sees at its beginning

abbrev pub message_on : Arch → On → Ty
message_on arch (on.Source s) = slice_index_or (map (λ x. x.message) arch.sources) s no_type
message_on arch (on.Channel c) = slice_index_or (map (λ x. x.message) arch.channels) c no_type

abbrev pub messages : Arch → List Emitter → List Ty
messages arch es = map (λ e. message_on arch (on.Channel e.channel)) es

abbrev pub has_at_entry : Ty → Fields → Target → Ty → Type 0
has_at_entry message states target.Param t = t ≡ message
has_at_entry message states (target.State k) t = option_map (λ f. f.1) (slice_get states k) ≡ Some t
has_at_entry message states x t = ⊥

abbrev pub writable_at_entry : Target → Bool
writable_at_entry (target.State k) = true
writable_at_entry _ = false

abbrev pub entry : Arch → Written → Env
entry arch h = record {
  names = arch.record_names;
  records = arch.records;
  emitters = messages arch (each emitter_of h.parts);
  has = has_at_entry (message_on arch (on_of h.on.target)) (states_of arch h.monitor);
  writable = writable_at_entry;
  bound = 0;
}

-- ---- what a file becomes

abbrev pub IsBody : Env → Id × RawStmts Link → Body → Type 0
IsBody Γ c b = (b.param ≡ c.0.name) × body.BecomesAll Γ c.1 b.binders b.stmts

abbrev pub AreBodies : Env → List (Id × RawStmts Link) → List Body → Type 0
AreBodies Γ [] [] = Unit {0}
AreBodies Γ [] (b ∷ bs) = ⊥
AreBodies Γ (c ∷ cs) [] = ⊥
AreBodies Γ (c ∷ cs) (b ∷ bs) = IsBody Γ c b × AreBodies Γ cs bs

pub record IsHandler (arch : Arch) (written : Written) (h : Handler) : Type 0 where
  pub name : h.name ≡ written.name.name
  pub monitor : h.monitor ≡ written.monitor
  pub on : h.on ≡ on_of written.on.target
  pub emitters : h.emitters ≡ each emitter_of written.parts
  pub callbacks : AreBodies (entry arch written) (each callback_of written.parts) h.callbacks

abbrev pub AreHandlers : Arch → List Written → List Handler → Type 0
AreHandlers arch [] [] = Unit {0}
AreHandlers arch [] (h ∷ hs) = ⊥
AreHandlers arch (w ∷ ws) [] = ⊥
AreHandlers arch (w ∷ ws) (h ∷ hs) = IsHandler arch w h × AreHandlers arch ws hs

-- the checked tree of a file: what it declares, with handlers whose bodies are typed
pub record IsChecked (raw : Raw Link) (arch : Arch) : Type 0 where
  pub outlined : arch ≡ with_handlers (outline raw) arch.handlers
  pub handlers : AreHandlers (outline raw) (handlers_of raw) arch.handlers

-- ---- its faults

pub record Offence (raw : Raw Link) (f : TypeFault) : Type 0 where
  pub handler : Written
  pub in_file : Contains (handlers_of raw) handler
  pub callback : Id × RawStmts Link
  pub in_handler : Contains (each callback_of handler.parts) callback
  pub offends : body.Offends (entry (outline raw) handler) callback.1 f

-- ---- the order of its text

abbrev pub start_of : List (Id × RawStmts Link) → ℕ → ℕ
start_of [] end = end
start_of (c ∷ cs) end = c.0.at

abbrev pub AscendCallbacks : List (Id × RawStmts Link) → ℕ → Type 0
AscendCallbacks [] end = Unit {0}
AscendCallbacks (c ∷ cs) end = (c.0.at < start_in c.1 (start_of cs end)) × AscendsAll c.1 (start_of cs end) × AscendCallbacks cs end

abbrev pub AscendsFile : Raw Link → ℕ → Type 0
AscendsFile raw end = AscendCallbacks (each (λ h. each callback_of h.parts) (handlers_of raw)) end
