-- An accepted file has names.
use Rattle.std.proofs.Common.{◌≡◌, ◌≢◌, List, ap, sym, ◌∙◌, subst}
use Rattle.std.specs.List.{AllPairs}
use Rattle.tower_syntax.specs.declared.named.Target.{Target}
use Rattle.tower_syntax.specs.RawTree.{Id, Raw}
use Rattle.tower_syntax.specs.Arch.{Arch, Handler}
use Rattle.tower_syntax.specs.Words.{IsName}
use Rattle.tower_syntax.specs.Printable.{IsPrintable, IsPrintableItem}
use Rattle.tower_reader.proofs.SpelledPrints.{spelled_is_printable}
use Rattle.arch_names.specs.declared.fault.NameFault.{NameFault}
use Rattle.arch_names.specs.Names.{find}
use Rattle.arch_names.specs.Sets.{declared_in}
use Rattle.arch_names.specs.Site.{Site}
use Rattle.arch_names.specs.Linked.{linked}
use Rattle.arch_names.specs.Written.{Ascends}
use Rattle.arch_names.specs.Resolved.{Offences}
use Rattle.arch_names.specs.Resolved as naming
use Rattle.arch_types.specs.Outline.{outline, with_handlers, each}
use Rattle.arch_types.proofs.Lists.{AllOf, each_of, each_element}
use Rattle.arch_order.proofs.InOrder.{names_ascend}
use Rattle.arch_checks.specs.Faults.{of_name}
use Rattle.arch_checks.specs.Offences.{names, standing, names_kind}
use Rattle.declared_names.specs.Laws.{source_names, HasNames, AcceptedFilesHaveNames}
use Rattle.declared_names.proofs.Lists.{Pairwise, each_pair, all_mapped}
use Rattle.declared_names.proofs.Printable.{sources_named, channels_named, outputs_named, monitors_named, all_states_named}
use Rattle.declared_names.proofs.Own.{source_id, all_own}
use Rattle.declared_names.proofs.Apart.{rising, apart, names_apart, sources_are}

module _ (m : Site → Target) (raw : Raw Id) (handlers : List Handler) where
  abbrev system : Arch
  system = with_handlers (outline (linked m raw)) handlers

  names_differ : Ascends raw → ((f : NameFault) → Offences raw f → ⊥) → AllPairs (λ a b. a ≢ b) (source_names system)
  names_differ order clean =
      let file = find (declared_in raw.items) in
      let ids = each source_id raw.items in
      let differ = names_apart ids (apart file ids (rising raw.items order) (all_own raw clean)) in
      each_pair (λ a b. a ≢ b) (source_names system) (subst (Pairwise (λ a b. a ≢ b)) (sym (sources_are m file raw.items)) differ)

  has_names : IsPrintable raw → Ascends raw → ((f : NameFault) → Offences raw f → ⊥) → HasNames system
  has_names printable order clean =
      let file = find (declared_in raw.items) in
      let every : AllOf (IsPrintableItem raw.version) raw.items = each_of (IsPrintableItem raw.version) raw.items printable.items in
      record {
        sources = each_element IsName (source_names system) (all_mapped (λ s. s.name) IsName system.sources (sources_named m file raw.version raw.items every));
        apart = names_differ order clean;
        channels = each_element _ system.channels (channels_named m file raw.version raw.items every);
        outputs = each_element _ system.outputs (outputs_named m file raw.version raw.items every);
        monitors = each_element _ system.monitors (monitors_named m file raw.version raw.items every);
        states = each_element _ system.monitors (all_states_named m file raw.version raw.items every);
      }

pub accepted_has_names : AcceptedFilesHaveNames
accepted_has_names bs arch h =
    let s = h.system in
    let raw = s.is.raw in
    let m = s.is.linked.0 in
    let e : arch ≡ with_handlers (outline (linked m raw)) arch.handlers = s.checked.outlined ∙ ap (λ t. with_handlers (outline t) arch.handlers) s.is.linked.2 in
    subst HasNames (sym e)
    (has_names m raw arch.handlers (spelled_is_printable bs raw s.is.spelled) (names_ascend bs raw s.is.spelled)
    (λ f o. h.clean (standing names_kind (naming.offset f) 0) (of_name f) (names raw f s.is.spelled o)))
