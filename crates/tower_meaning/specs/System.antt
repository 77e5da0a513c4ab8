-- What the atomic meaning takes from a file.
use Rattle.std.specs.Prelude.{ℕ, List, [], ◌∷◌, ◌++◌, map, flat_map, Option}
use Rattle.tower_types.specs.Ty.{shape_of_fields, table_of}
use Rattle.tower_types.specs.Value.{Value, zero_of}
use Rattle.tower_syntax.specs.declared.arch.SourceKind.{SourceKind}
use Rattle.tower_syntax.specs.declared.arch.On.{On}
use Rattle.tower_syntax.specs.declared.arch.On.TheVariants as on
use Rattle.tower_syntax.specs.declared.arch.Listener.{Listener}
use Rattle.tower_syntax.specs.Arch.{Arch, Emitter, Monitor}
use Rattle.tower_syntax.specs.Graph.{handler, subs}
use Rattle.tower_meaning.specs.Body.{Effect, effect}

-- a message, and the handler or output that is to get it
abbrev pub Item : Type 0
Item = Listener × Value

-- one for each subscriber of a source or channel, in file order
abbrev pub items : Arch → On → Value → List Item
items arch c v = map (λ l. (l, v)) (subs arch c)

-- by emitter in declared order, within an emitter by message in emission order, within a message by subscriber in file order
abbrev pub follow_from : Arch → List Emitter → List (List Value) → List Item
follow_from arch [] lists = []
follow_from arch (e ∷ es) [] = []
follow_from arch (e ∷ es) (vs ∷ lists) = flat_map (items arch (on.Channel e.channel)) vs ++ follow_from arch es lists

abbrev pub follow : Arch → ℕ → List (List Value) → List Item
follow arch h lists = follow_from arch (handler arch h).emitters lists

-- Handlers, sources and outputs are numbers here.
pub record System : Type 0 where
  pub kinds : List SourceKind
  pub depths : List (Option ℕ)
  pub zeros : List Value  -- of each monitor
  pub subscribers : ℕ → Value → List Item  -- of a source, with a message
  pub monitor : ℕ → ℕ  -- of a handler
  pub effect : ℕ → Value → Value → Effect  -- of a handler, on its monitor's value and a message
  pub follow : ℕ → List (List Value) → List Item  -- what a handler's lists lead to

-- a monitor's value is the list of its states' values
abbrev pub zero_monitor : Arch → Monitor → Value
zero_monitor arch m = zero_of (shape_of_fields (table_of arch.records) m.states)

abbrev pub system_of : Arch → System
system_of arch = record {
  kinds = map (λ s. s.kind) arch.sources;
  depths = map (λ s. s.depth) arch.sources;
  zeros = map (zero_monitor arch) arch.monitors;
  subscribers = λ s. items arch (on.Source s);
  monitor = λ h. (handler arch h).monitor;
  effect = effect arch;
  follow = follow arch;
}
