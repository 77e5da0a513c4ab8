-- A linked file that lies in a text is numbered.
use Rattle.std.proofs.Common.{◌≡◌, ℕ, suc, ◌+◌, ◌≤◌, ◌^◌, ◌==◌, List, [], ◌∷◌, ◌++◌, map, length, slice_index_or, Bool, refl, sym, ap, ◌∙◌, subst, append_assoc, arith, length-append}
use Rattle.tower_syntax.specs.declared.named.Target.{Target}
use Rattle.tower_syntax.specs.RawTree.{Id, Link, RawHpart, emitter, callback, RawPart, state, handler, RawItem, fields, init, period, signal, channel, output, monitor, Raw}
use Rattle.tower_syntax.specs.Arch.{Arch, Monitor}
use Rattle.tower_syntax.specs.Typed.{no_names}
use Rattle.tower_syntax.specs.Weights.{states_of}
use Rattle.tower_reader.specs.Spelled.{Spells}
use Rattle.arch_names.specs.declared.names.Thing.{Thing}
use Rattle.arch_names.specs.Names.{Find, find, same}
use Rattle.arch_names.specs.Sets.{each, counting, none_before, declared_in, state_of, next_state, emitter_of, next_emitter, emitters_of}
use Rattle.arch_names.specs.Sets.{states_of as state_names}
use Rattle.arch_names.specs.Site.{Site}
use Rattle.arch_names.specs.Sites.{Around, around, entry, hpart_sites, part_sites, item_sites, sites}
use Rattle.arch_names.specs.Linked.{linked_hpart, linked_part, linked_item, linked}
use Rattle.arch_names.specs.Resolved.{IsLinked}
use Rattle.arch_types.specs.Outline.{outline, written_of, handlers_from, monitor_of}
use Rattle.arch_types.specs.Outline.{each as each_of, state_of as field_of_state, emitter_of as emitter_in}
use Rattle.arch_types.specs.Numbered.{Counts, IsSeen, IsEmitter, IsPartOf, IsHandler, IsNumbered}
use Rattle.arch_order.proofs.Lists.{AllOf, all_both, all_left, all_right, all_contained, each_element, looked_up}
use Rattle.arch_order.proofs.InText.{AllLie, HpartLies, PartLies, ItemLies, TowerLies}
use Rattle.arch_order.proofs.Kept.{file_lies}
use Rattle.arch_order.proofs.Meant.{IsMeant, Exists, channel_use, heard_use, things_exist}
use Rattle.arch_order.proofs.Heights.{stmts_nested, all_bound_linked, bound_between}
use Rattle.arch_order.proofs.Scopes.{Fits, StatesFit, EmittersFit, stmts_see}
use Rattle.arch_order.proofs.Counted.{few, few_emitters, few_handlers}
use Rattle.arch_order.proofs.Items.{ThingsFit, records_fit, items_numbered}

nth_states : (done rest : List Monitor) (x : Monitor) → slice_index_or (map (λ x. x.states) (done ++ x ∷ rest)) (length done) [] ≡ x.states
nth_states [] rest x = refl
nth_states (y ∷ done) rest x = nth_states done rest x

module _ (m : Site → Target) (file : Find Thing) where
  -- the states of a monitor from some parts on, behind so many
  states_exist : (states : Find Target) (c : Counts) (ps : List (RawPart Id)) (k : ℕ) → k + length (each_of field_of_state (map (linked_part m file states) ps)) ≡ c.states → AllOf (λ e. IsSeen c e.1.what) (counting state_of next_state k ps)
  states_exist states c [] k e = tt
  states_exist states c (state at x t ∷ ps) k e = (omega (arith, e), states_exist states c ps (k + 1) (omega (arith, e)))
  states_exist states c (handler at x u hs ∷ ps) k e = states_exist states c ps k e

  emitters_exist : (a : Around) (c : Counts) (hs : List (RawHpart Id)) (k : ℕ) → k + length (each_of emitter_in (map (linked_hpart m a) hs)) ≡ c.emitters → AllOf (λ e. IsEmitter c e.1.what) (counting emitter_of next_emitter k hs)
  emitters_exist a c [] k e = tt
  emitters_exist a c (emitter at x u n ∷ hs) k e = (omega (arith, e), emitters_exist a c hs (k + 1) (omega (arith, e)))
  emitters_exist a c (callback at x ss ∷ hs) k e = emitters_exist a c hs k e

  module _ (arch : Arch) (fits : ThingsFit arch file) (end : ℕ) (short : end ≤ 2 ^ 32) where
    -- the parts of a handler
    hparts_numbered : (a : Around) (c : Counts) → ((x : Id) → Fits a (entry x) c) → a.file ≡ file → (n : ℕ) (hs : List (RawHpart Id)) (from to : ℕ) → to ≤ end → AllLie (HpartLies n) hs from to → AllOf (IsMeant m) (each (hpart_sites a) hs) → AllOf (IsPartOf arch c) (map (linked_hpart m a) hs)
    hparts_numbered a c f same_file n [] from to l h u = tt
    hparts_numbered a c f same_file n (emitter at x v k ∷ hs) from to l h u =
        let q = u.1.0 tt in (
          channel_use arch q.0.what _ (fits v.name q.0 (ap (λ f. f v.name) (sym same_file) ∙ q.1)) q.2,
          hparts_numbered a c f same_file n hs h.0 to l h.3 u.1.1,
        )
    hparts_numbered a c f same_file n (callback at x ss ∷ hs) from to l h u =
        let i = callback at x ss in
        let own = all_left (IsMeant m) (hpart_sites a i) (each (hpart_sites a) hs) u in
        let k = stmts_nested m a ss (entry x) (suc n) h.2.1.0 h.0 h.2.1.2 in
        let b = bound_between ss (suc n) h.2.1.0 h.0 h.2.1.2 in
        let t = few (HpartLies n) (linked_hpart m a) hs h.0 to h.3 in (
          (stmts_see m a ss (entry x) c (suc n) h.2.1.0 h.0 (f x) h.2.1.2 own.1, omega (arith, k), omega (arith, short, l, t, b, all_bound_linked m a ss (entry x))),
          hparts_numbered a c f same_file n hs h.0 to l h.3 (all_right (IsMeant m) (hpart_sites a i) (each (hpart_sites a) hs) u),
        )

    -- the handlers of a monitor with these states
    module _ (states : Find Target) (k : ℕ) (all : List (RawPart Id)) (same_states : states ≡ find (state_names all)) (numbered : states_of arch k ≡ each_of field_of_state (map (linked_part m file states) all)) where
      abbrev counts_with : List (RawHpart Link) → Counts
      counts_with hs = record { records = length arch.records; states = length (states_of arch k); emitters = length (each_of emitter_in hs); names = no_names; bound = 0 }

      states_fit : (c : Counts) → c.states ≡ length (states_of arch k) → StatesFit c states
      states_fit c e name d f = looked_up (λ d. IsSeen c d.what) (same name) (state_names all) d (states_exist states c all 0 (let l = ap length numbered in omega (arith, e, l))) (ap (λ f. f name) (sym same_states) ∙ f)

      emitters_fit : (hs : List (RawHpart Id)) → EmittersFit (counts_with (map (linked_hpart m (around file states hs)) hs)) (find (emitters_of hs))
      emitters_fit hs name d f =
          let c = counts_with (map (linked_hpart m (around file states hs)) hs) in
          looked_up (λ d. IsEmitter c d.what) (same name) (emitters_of hs) d (emitters_exist (around file states hs) c hs 0 (omega arith)) f

      entry_fits : (hs : List (RawHpart Id)) (x : Id) → Fits (around file states hs) (entry x) (counts_with (map (linked_hpart m (around file states hs)) hs))
      entry_fits hs x = record {
        records = records_fit arch file fits;
        states = states_fit (counts_with (map (linked_hpart m (around file states hs)) hs)) refl;
        emitters = emitters_fit hs;
        names = (tt, tt);
        binders = refl;
      }

      handlers_numbered : (n : ℕ) (ps : List (RawPart Id)) (from to : ℕ) → to ≤ end → AllLie (PartLies n) ps from to → AllOf (IsMeant m) (each (part_sites file states) ps) → AllOf (IsHandler arch) (each_of (written_of k) (map (linked_part m file states) ps))
      handlers_numbered n [] from to l h u = tt
      handlers_numbered n (state at x t ∷ ps) from to l h u = handlers_numbered n ps h.0 to l h.3 (all_right (IsMeant m) (part_sites file states (state at x t)) (each (part_sites file states) ps) u)
      handlers_numbered n (handler at x v hs ∷ ps) from to l h u =
          let i = handler at x v hs in
          let a = around file states hs in
          let own = all_left (IsMeant m) (part_sites file states i) (each (part_sites file states) ps) u in
          let q = own.1.0 tt in
          let t = few (PartLies n) (linked_part m file states) ps h.0 to h.3 in
          let near : h.0 ≤ end = omega (arith, l, t) in (
            record {
              on = heard_use arch q.0.what _ (fits v.name q.0 q.1) q.2;
              few = omega (arith, short, near, few_emitters (map (linked_hpart m a) hs), few (HpartLies (suc n)) (linked_hpart m a) hs h.2.1.2.0 h.0 h.2.1.2.2);
              parts = each_element _ _ (hparts_numbered a (counts_with (map (linked_hpart m a) hs)) (entry_fits hs) refl (suc n) hs h.2.1.2.0 h.0 near h.2.1.2.2 own.1.1);
            },
            handlers_numbered n ps h.0 to l h.3 (all_right (IsMeant m) (part_sites file states i) (each (part_sites file states) ps) u),
          )

    states_at : (done rest : List Monitor) (x : Monitor) (k : ℕ) → arch.monitors ≡ done ++ x ∷ rest → length done ≡ k → states_of arch k ≡ x.states
    states_at done rest x k e l = (λ i. slice_index_or (map (λ x. x.states) (e i)) (sym l i) []) ∙ nth_states done rest x

    -- those of the items from one on, behind so many monitors
    module _ (deep : Bool) (n : ℕ) where
      items_handle : (items : List (RawItem Id)) (k : ℕ) (done : List Monitor) (from : ℕ) → arch.monitors ≡ done ++ each_of monitor_of (map (linked_item m file) items) → length done ≡ k → AllLie (ItemLies deep n) items from end → AllOf (IsMeant m) (each (item_sites file) items) → AllOf (IsHandler arch) (handlers_from k (map (linked_item m file) items))
      items_handle [] k done from e l h u = tt
      items_handle (monitor at x ps ∷ items) k done from e l h u =
          let i = monitor at x ps in
          let states = find (state_names ps) in
          let own = all_left (IsMeant m) (item_sites file i) (each (item_sites file) items) u in
          let parts = map (linked_part m file states) ps in
          let mon : Monitor = record { name = x.name; states = each_of field_of_state parts } in
          let t = few (ItemLies deep n) (linked_item m file) items h.0 end h.3 in
          all_both (IsHandler arch) (each_of (written_of k) parts) (handlers_from (k + 1) (map (linked_item m file) items))
          (handlers_numbered states k ps refl (states_at done (each_of monitor_of (map (linked_item m file) items)) mon k e l) (suc n) ps h.2.1.0 h.0 (omega (arith, t)) h.2.1.2 own.1)
          (items_handle items (k + 1) (done ++ mon ∷ []) h.0 (e ∙ sym (append_assoc done (mon ∷ []) (each_of monitor_of (map (linked_item m file) items)))) (omega (arith, l, length-append done (mon ∷ []))) h.3 (all_right (IsMeant m) (item_sites file i) (each (item_sites file) items) u))
      items_handle (fields at x fs ∷ items) k done from e l h u = items_handle items k done h.0 e l h.3 (all_right (IsMeant m) (item_sites file (fields at x fs)) (each (item_sites file) items) u)
      items_handle (init at x p ∷ items) k done from e l h u = items_handle items k done h.0 e l h.3 (all_right (IsMeant m) (item_sites file (init at x p)) (each (item_sites file) items) u)
      items_handle (period at x ms p d ∷ items) k done from e l h u = items_handle items k done h.0 e l h.3 (all_right (IsMeant m) (item_sites file (period at x ms p d)) (each (item_sites file) items) u)
      items_handle (signal at x t p d ∷ items) k done from e l h u = items_handle items k done h.0 e l h.3 (all_right (IsMeant m) (item_sites file (signal at x t p d)) (each (item_sites file) items) u)
      items_handle (channel at x t ∷ items) k done from e l h u = items_handle items k done h.0 e l h.3 (all_right (IsMeant m) (item_sites file (channel at x t)) (each (item_sites file) items) u)
      items_handle (output at x v ∷ items) k done from e l h u = items_handle items k done h.0 e l h.3 (all_right (IsMeant m) (item_sites file (output at x v)) (each (item_sites file) items) u)

things_fit : (m : Site → Target) (raw : Raw Id) → ThingsFit (outline (linked m raw)) (find (declared_in raw.items))
things_fit m raw name d f =
    let arch = outline (linked m raw) in
    looked_up (λ d. Exists (length arch.records) (length arch.sources) (length arch.channels) d.what) (same name) (declared_in raw.items) d
    (things_exist m (find (declared_in raw.items)) raw.items none_before (length arch.records) (length arch.sources) (length arch.channels) (omega arith) (omega arith) (omega arith)) f

file_numbered : (m : Site → Target) (raw : Raw Id) (end : ℕ) → end ≤ 2 ^ 32 → TowerLies 0 raw 0 end → AllOf (IsMeant m) (sites raw) → IsNumbered (linked m raw)
file_numbered m raw end short h u =
    let file = find (declared_in raw.items) in
    let arch = outline (linked m raw) in
    record {
      version = (h.1, h.2);
      few = omega (arith, short, few (ItemLies (raw.version == 2) 1) (linked_item m file) raw.items h.3.0 end h.3.2);
      few_handlers = omega (arith, short, few_handlers m file (raw.version == 2) 1 0 raw.items h.3.0 end h.3.2);
      items = items_numbered m file arch (things_fit m raw) raw.version 1 end short raw.items none_before 0 [] h.3.0 refl refl tt h.3.2 u;
      handlers = each_element _ _ (items_handle m file arch (things_fit m raw) end short (raw.version == 2) 1 raw.items 0 [] h.3.0 refl refl h.3.2 u);
    }

pub numbered : (bs : List ℕ) (raw : Raw Id) (t : Raw Link) → Spells bs raw → IsLinked raw t → IsNumbered t
numbered bs raw t s l = subst IsNumbered (sym l.2) (file_numbered l.0 raw (length bs) (omega (arith, s.within)) (file_lies bs raw s) (all_contained (IsMeant l.0) (sites raw) (λ x k. l.1 x k)))
