-- The names of a file that can be printed are names.
use Rattle.std.proofs.Common.{ℕ, List, map, All}
use Rattle.tower_syntax.specs.declared.named.Target.{Target}
use Rattle.tower_syntax.specs.RawTree.{Id, RawPart, state, handler, RawItem, init, period, signal, channel, output, monitor}
use Rattle.tower_syntax.specs.Words.{IsName}
use Rattle.tower_syntax.specs.Printable.{IsPrintablePart, IsPrintableItem}
use Rattle.arch_names.specs.declared.names.Thing.{Thing}
use Rattle.arch_names.specs.Names.{Find, find}
use Rattle.arch_names.specs.Sets.{states_of}
use Rattle.arch_names.specs.Site.{Site}
use Rattle.arch_names.specs.Linked.{linked_part, linked_item}
use Rattle.arch_types.specs.Outline.{each, source_of, channel_of, output_of, monitor_of, state_of}
use Rattle.arch_types.proofs.Lists.{AllOf, each_element, each_of}
use Rattle.declared_names.proofs.Lists.{each_gives}

module _ (m : Site → Target) (file : Find Thing) (version : ℕ) where
  source_named : (it : RawItem Id) → IsPrintableItem version it → AllOf (λ s. IsName s.name) (source_of (linked_item m file it))
  source_named (init at x p) h = (h.0, tt)
  source_named (period at x ms p d) h = (h.0, tt)
  source_named (signal at x t p d) h = (h.0, tt)
  source_named _ h = tt

  channel_named : (it : RawItem Id) → IsPrintableItem version it → AllOf (λ c. IsName c.name) (channel_of (linked_item m file it))
  channel_named (channel at x t) h = (h.0, tt)
  channel_named _ h = tt

  output_named : (it : RawItem Id) → IsPrintableItem version it → AllOf (λ o. IsName o.name) (output_of (linked_item m file it))
  output_named (output at x u) h = (h.0, tt)
  output_named _ h = tt

  monitor_named : (it : RawItem Id) → IsPrintableItem version it → AllOf (λ m. IsName m.name) (monitor_of (linked_item m file it))
  monitor_named (monitor at x ps) h = (h.0, tt)
  monitor_named _ h = tt

  part_named : (states : Find Target) (p : RawPart Id) → IsPrintablePart p → AllOf (λ s. IsName s.0) (state_of (linked_part m file states p))
  part_named states (state at x t) h = (h.0, tt)
  part_named states (handler at x u hs) h = tt

  states_named : (it : RawItem Id) → IsPrintableItem version it → AllOf (λ m. All (λ s. IsName s.0) m.states) (monitor_of (linked_item m file it))
  states_named (monitor at x ps) h =
      let states = find (states_of ps) in
      (each_element (λ s. IsName s.0) _ (each_gives IsPrintablePart (λ s. IsName s.0) (linked_part m file states) state_of (part_named states) ps (each_of IsPrintablePart ps h.1)), tt)
  states_named _ h = tt

  module _ (items : List (RawItem Id)) (every : AllOf (IsPrintableItem version) items) where
    pub sources_named : AllOf (λ s. IsName s.name) (each source_of (map (linked_item m file) items))
    sources_named = each_gives (IsPrintableItem version) (λ s. IsName s.name) (linked_item m file) source_of source_named items every

    pub channels_named : AllOf (λ c. IsName c.name) (each channel_of (map (linked_item m file) items))
    channels_named = each_gives (IsPrintableItem version) (λ c. IsName c.name) (linked_item m file) channel_of channel_named items every

    pub outputs_named : AllOf (λ o. IsName o.name) (each output_of (map (linked_item m file) items))
    outputs_named = each_gives (IsPrintableItem version) (λ o. IsName o.name) (linked_item m file) output_of output_named items every

    pub monitors_named : AllOf (λ m. IsName m.name) (each monitor_of (map (linked_item m file) items))
    monitors_named = each_gives (IsPrintableItem version) (λ m. IsName m.name) (linked_item m file) monitor_of monitor_named items every

    pub all_states_named : AllOf (λ m. All (λ s. IsName s.0) m.states) (each monitor_of (map (linked_item m file) items))
    all_states_named = each_gives (IsPrintableItem version) (λ m. All (λ s. IsName s.0) m.states) (linked_item m file) monitor_of states_named items every
