-- The greatest depth and width of a system's types are those of its text, where either is above 1.
use Rattle.std.proofs.Common.{◌≡◌, inl, inr, ◌<◌, ◌≤◌, ℕ, suc, max, List, [], ◌∷◌, ◌++◌, map, All, length, slice_get, Some, refl, sym, ap, subst, arith}
use Rattle.std.proofs.lemmas.List.Elements.{All-head, All-tail}
use Rattle.tower_types.specs.declared.scalar.Scalar.TheVariants.{I64}
use Rattle.tower_types.specs.Ty.{Ty, Fields, Records, Shape, all, no_shapes, shapes_of, shape_in, table_of}
use Rattle.tower_types.specs.Records.{AreOrdered}
use Rattle.tower_types.proofs.Shapes.{shape_of-rec}
use Rattle.tower_syntax.specs.RawTree.{Id, Link, RawType, RawStmts, RawField, RawHpart, emitter, callback, RawPart, state, handler, RawItem, fields, init, period, signal, channel, output, monitor, Raw}
use Rattle.tower_syntax.specs.Arch.{Arch, Monitor, Body, Handler}
use Rattle.arch_types.specs.Typing.{Env, type_of}
use Rattle.arch_types.specs.Outline.{each, field, record_of, source_of, channel_of, state_of, monitor_of, outline, with_handlers, Written, handlers_of, callback_of}
use Rattle.arch_types.specs.File.{entry, AreBodies, AreHandlers}
use Rattle.arch_types.specs.Numbered as numbered
use Rattle.channel_graph.proofs.Members.{In, In-get_or}
use Rattle.arch_checks.specs.declared.widths.Measure.{Measure}
use Rattle.arch_checks.specs.declared.widths.Measure.TheVariants as measure
use Rattle.arch_checks.specs.Measured.{measured}
use Rattle.arch_checks.specs.Sizes.{types_of_fields, bound_types, types_of, shapes, greatest}
use Rattle.arch_checks.specs.TypeNodes.{nodes, in_stmts, in_state, in_item, in_handler, type_nodes, written_shapes}
use Rattle.arch_checks.proofs.Greatest.{table_length}
use Rattle.arch_checks.proofs.Lists.{AllOf, all_of, of_all, both, front, back, all_map, map_all, greatest_below, below_greatest}
use Rattle.arch_checks.proofs.TypesCounted.{has_elements, IsSmall, AreSmall, Fit, scalar_small, nodes_fit, node_small, stmts_fit, stmts_small}

flat : {X Y : Type 0} (P : Y → Type 0) (of : X → List Y) (xs : List X) → AllOf (λ x. AllOf P (of x)) xs → AllOf P (each of xs)
flat P of [] h = tt
flat P of (x ∷ xs) h = both P (of x) (each of xs) h.0 (flat P of xs h.1)

unflat : {X Y : Type 0} (P : Y → Type 0) (of : X → List Y) (xs : List X) → AllOf P (each of xs) → AllOf (λ x. AllOf P (of x)) xs
unflat P of [] h = tt
unflat P of (x ∷ xs) h = (front P (of x) (each of xs) h, unflat P of xs (back P (of x) (each of xs) h))

-- ---- the fields of a record

record Found {X : Type 0} (xs : List X) (x : X) : Type 0 where
  at : ℕ
  there : at < length xs
  is : slice_get xs at ≡ Some x

found : {X : Type 0} (xs : List X) (x : X) → In x xs → Found xs x
found [] x i = absurd i
found (y ∷ ys) x (inl e) = record { at = 0; there = omega arith; is = ap Some (sym e) }
found (y ∷ ys) x (inr i) = let r = found ys x i in record { at = suc r.at; there = omega (arith, r.there); is = r.is }

parts_below : (m : Measure) (ss : List Shape) (k : ℕ) → measured m (all (shapes_of ss)) ≤ k → AllOf (λ s. measured m s ≤ k) ss
parts_below m [] k h = tt
parts_below measure.Depth (s ∷ ss) k h = (omega (arith, h), parts_below measure.Depth ss k (omega (arith, h)))
parts_below measure.Words (s ∷ ss) k h = (omega (arith, h), parts_below measure.Words ss k (omega (arith, h)))

module _ (m : Measure) (records : Records) (k : ℕ) (least : 1 ≤ k) where
  abbrev pub Small : Ty → Type 0
  Small t = IsSmall m (table_of records) k least t

  abbrev pub Smalls : Fields → Type 0
  Smalls fs = AreSmall m (table_of records) k least fs

  abbrev pub Fits : List (RawType Link) → Type 0
  Fits ts = Fit m (table_of records) k least ts

  record_small : AreOrdered records → AllOf (λ s. measured m s ≤ k) (table_of records) → (fs : Fields) → In fs records → Smalls fs
  record_small ordered h fs i =
      let r = found records fs i in
      let within : r.at < length (table_of records) = omega (arith, r.there, table_length records) in
      let whole = of_all (λ s. measured m s ≤ k) (table_of records) _ h (In-get_or (table_of records) r.at (all no_shapes) within) in
      let parts = subst (λ s. measured m s ≤ k) (shape_of-rec records r.at fs ordered r.is) whole in
      map_all (λ s. measured m s ≤ k) (λ f. shape_in (table_of records) f.1) fs (parts_below m (map (λ f. shape_in (table_of records) f.1) fs) k parts)

  -- ---- from the types to the nodes

  fields_fit : (n : ℕ) (fs : List (RawField Link)) → All (λ f. numbered.IsDeclaredType n f.ty) fs → Smalls (map field fs) → Fits (each (λ f. nodes f.ty) fs)
  fields_fit n [] d h = tt
  fields_fit n (f ∷ fs) d h =
      both _ (nodes f.ty) (each (λ x. nodes x.ty) fs) (nodes_fit m (table_of records) k least f.ty (has_elements n f.ty (All-head (λ x. numbered.IsDeclaredType n x.ty) f fs d).0) h.0) (fields_fit n fs (All-tail (λ x. numbered.IsDeclaredType n x.ty) f fs d) h.1)

  states_fit : (n : ℕ) (ps : List (RawPart Link)) → All (numbered.IsState n) ps → Smalls (each state_of ps) → Fits (each in_state ps)
  states_fit n [] d h = tt
  states_fit n (state at i t ∷ ps) d h =
      both _ (nodes t) (each in_state ps) (nodes_fit m (table_of records) k least t (has_elements n t (All-head (numbered.IsState n) (state at i t) ps d).0) h.0) (states_fit n ps (All-tail (numbered.IsState n) (state at i t) ps d) h.1)
  states_fit n (handler at i u hs ∷ ps) d h = states_fit n ps (All-tail (numbered.IsState n) (handler at i u hs) ps d) h

  items_fit : (arch : Arch) (version before : ℕ) (items : List (RawItem Link)) → numbered.AreItems arch version before items
      → AllOf Smalls (each record_of items) → AllOf (λ s. Small s.message) (each source_of items) → AllOf (λ c. Small c.message) (each channel_of items) → AllOf (λ x. Smalls x.states) (each monitor_of items)
      → Fits (each in_item items)
  items_fit arch v b [] n rs ss cs ms = tt
  items_fit arch v b (fields at i fs ∷ items) n rs ss cs ms = both _ (each (λ f. nodes f.ty) fs) (each in_item items) (fields_fit b fs n.0 rs.0) (items_fit arch v (suc b) items n.2 rs.1 ss cs ms)
  items_fit arch v b (init at i p ∷ items) n rs ss cs ms = items_fit arch v b items n rs ss.1 cs ms
  items_fit arch v b (period at i t p d ∷ items) n rs ss cs ms = items_fit arch v b items n.2 rs ss.1 cs ms
  items_fit arch v b (signal at i t p d ∷ items) n rs ss cs ms = both _ (nodes t) (each in_item items) (nodes_fit m (table_of records) k least t (has_elements _ t n.0.0) ss.0) (items_fit arch v b items n.2 rs ss.1 cs ms)
  items_fit arch v b (channel at i t ∷ items) n rs ss cs ms = both _ (nodes t) (each in_item items) (nodes_fit m (table_of records) k least t (has_elements _ t n.0.0) cs.0) (items_fit arch v b items n.1 rs ss cs.1 ms)
  items_fit arch v b (output at i u ∷ items) n rs ss cs ms = items_fit arch v b items n.1 rs ss cs ms
  items_fit arch v b (monitor at i ps ∷ items) n rs ss cs ms = both _ (each in_state ps) (each in_item items) (states_fit _ ps n.0 ms.0) (items_fit arch v b items n.2 rs ss cs ms.1)

  callbacks_see : (arch : Arch) (c : numbered.Counts) (ps : List (RawHpart Link)) → All (numbered.IsPartOf arch c) ps → AllOf (λ x. numbered.SeesAll c x.1) (each callback_of ps)
  callbacks_see arch c [] h = tt
  callbacks_see arch c (emitter at i u n ∷ ps) h = callbacks_see arch c ps (All-tail (numbered.IsPartOf arch c) (emitter at i u n) ps h)
  callbacks_see arch c (callback at i ss ∷ ps) h = ((All-head (numbered.IsPartOf arch c) (callback at i ss) ps h).0, callbacks_see arch c ps (All-tail (numbered.IsPartOf arch c) (callback at i ss) ps h))

  bodies_fit : (Γ : Env) (c : numbered.Counts) (cs : List (Id × RawStmts Link)) (bs : List Body) → AreBodies Γ cs bs → AllOf (λ x. numbered.SeesAll c x.1) cs → AllOf Small (each (λ b. types_of_fields b.binders) bs) → Fits (each (λ x. in_stmts x.1) cs)
  bodies_fit Γ c [] bs h n small = tt
  bodies_fit Γ c (x ∷ cs) [] h n small = absurd h
  bodies_fit Γ c (x ∷ cs) (b ∷ bs) h n small =
      let here = map_all Small (λ f. f.1) b.binders (front Small (types_of_fields b.binders) (each (λ y. types_of_fields y.binders) bs) small) in
      both _ (in_stmts x.1) (each (λ y. in_stmts y.1) cs) (stmts_fit m (table_of records) k least Γ c x.1 b.binders b.stmts h.0.1 n.0 here)
      (bodies_fit Γ c cs bs h.1 n.1 (back Small (types_of_fields b.binders) (each (λ y. types_of_fields y.binders) bs) small))

  handlers_fit : (arch : Arch) (ws : List Written) (hs : List Handler) → AreHandlers arch ws hs → All (numbered.IsHandler arch) ws → AllOf Small (each bound_types hs) → Fits (each in_handler ws)
  handlers_fit arch [] hs h n small = tt
  handlers_fit arch (w ∷ ws) [] h n small = absurd h
  handlers_fit arch (w ∷ ws) (x ∷ hs) h n small =
      let p = (All-head (numbered.IsHandler arch) w ws n).parts in
      both _ (in_handler w) (each in_handler ws)
      (bodies_fit (entry arch w) _ (each callback_of w.parts) x.callbacks h.0.callbacks (callbacks_see arch _ w.parts p) (front Small (bound_types x) (each bound_types hs) small))
      (handlers_fit arch ws hs h.1 (All-tail (numbered.IsHandler arch) w ws n) (back Small (bound_types x) (each bound_types hs) small))

  -- ---- from the nodes to the types

  sources_small : (items : List (RawItem Link)) → Fits (each in_item items) → AllOf (λ s. Small s.message) (each source_of items)
  sources_small [] h = tt
  sources_small (fields at i fs ∷ items) h = sources_small items (back _ (each (λ f. nodes f.ty) fs) (each in_item items) h)
  sources_small (init at i p ∷ items) h = (scalar_small m (table_of records) k least I64, sources_small items h)
  sources_small (period at i t p d ∷ items) h = (scalar_small m (table_of records) k least I64, sources_small items h)
  sources_small (signal at i t p d ∷ items) h = (node_small m (table_of records) k least t (front _ (nodes t) (each in_item items) h), sources_small items (back _ (nodes t) (each in_item items) h))
  sources_small (channel at i t ∷ items) h = sources_small items (back _ (nodes t) (each in_item items) h)
  sources_small (output at i u ∷ items) h = sources_small items h
  sources_small (monitor at i ps ∷ items) h = sources_small items (back _ (each in_state ps) (each in_item items) h)

  channels_small : (items : List (RawItem Link)) → Fits (each in_item items) → AllOf (λ c. Small c.message) (each channel_of items)
  channels_small [] h = tt
  channels_small (fields at i fs ∷ items) h = channels_small items (back _ (each (λ f. nodes f.ty) fs) (each in_item items) h)
  channels_small (init at i p ∷ items) h = channels_small items h
  channels_small (period at i t p d ∷ items) h = channels_small items h
  channels_small (signal at i t p d ∷ items) h = channels_small items (back _ (nodes t) (each in_item items) h)
  channels_small (channel at i t ∷ items) h = (node_small m (table_of records) k least t (front _ (nodes t) (each in_item items) h), channels_small items (back _ (nodes t) (each in_item items) h))
  channels_small (output at i u ∷ items) h = channels_small items h
  channels_small (monitor at i ps ∷ items) h = channels_small items (back _ (each in_state ps) (each in_item items) h)

  states_small : (ps : List (RawPart Link)) → Fits (each in_state ps) → Smalls (each state_of ps)
  states_small [] h = tt
  states_small (state at i t ∷ ps) h = (node_small m (table_of records) k least t (front _ (nodes t) (each in_state ps) h), states_small ps (back _ (nodes t) (each in_state ps) h))
  states_small (handler at i u hs ∷ ps) h = states_small ps h

  monitors_small : (items : List (RawItem Link)) → Fits (each in_item items) → AllOf (λ x. Smalls x.states) (each monitor_of items)
  monitors_small [] h = tt
  monitors_small (fields at i fs ∷ items) h = monitors_small items (back _ (each (λ f. nodes f.ty) fs) (each in_item items) h)
  monitors_small (init at i p ∷ items) h = monitors_small items h
  monitors_small (period at i t p d ∷ items) h = monitors_small items h
  monitors_small (signal at i t p d ∷ items) h = monitors_small items (back _ (nodes t) (each in_item items) h)
  monitors_small (channel at i t ∷ items) h = monitors_small items (back _ (nodes t) (each in_item items) h)
  monitors_small (output at i u ∷ items) h = monitors_small items h
  monitors_small (monitor at i ps ∷ items) h = (states_small ps (front _ (each in_state ps) (each in_item items) h), monitors_small items (back _ (each in_state ps) (each in_item items) h))

  bodies_small : (Γ : Env) (cs : List (Id × RawStmts Link)) (bs : List Body) → AreBodies Γ cs bs → Fits (each (λ x. in_stmts x.1) cs) → AllOf Small (each (λ b. types_of_fields b.binders) bs)
  bodies_small Γ [] [] h fit = tt
  bodies_small Γ [] (b ∷ bs) h fit = absurd h
  bodies_small Γ (x ∷ cs) [] h fit = absurd h
  bodies_small Γ (x ∷ cs) (b ∷ bs) h fit =
      both Small (types_of_fields b.binders) (each (λ y. types_of_fields y.binders) bs)
      (all_map Small (λ f. f.1) b.binders (stmts_small m (table_of records) k least Γ x.1 b.binders b.stmts h.0.1 (front _ (in_stmts x.1) (each (λ y. in_stmts y.1) cs) fit)))
      (bodies_small Γ cs bs h.1 (back _ (in_stmts x.1) (each (λ y. in_stmts y.1) cs) fit))

  handlers_small : (arch : Arch) (ws : List Written) (hs : List Handler) → AreHandlers arch ws hs → Fits (each in_handler ws) → AllOf Small (each bound_types hs)
  handlers_small arch [] [] h fit = tt
  handlers_small arch [] (x ∷ hs) h fit = absurd h
  handlers_small arch (w ∷ ws) [] h fit = absurd h
  handlers_small arch (w ∷ ws) (x ∷ hs) h fit =
      both Small (bound_types x) (each bound_types hs)
      (bodies_small (entry arch w) (each callback_of w.parts) x.callbacks h.0.callbacks (front _ (in_handler w) (each in_handler ws) fit))
      (handlers_small arch ws hs h.1 (back _ (in_handler w) (each in_handler ws) fit))

  -- ---- between the two forms of a monitor's states

  monitors_from : (xs : List Monitor) → AllOf (λ x. AllOf Small (types_of_fields x.states)) xs → AllOf (λ x. Smalls x.states) xs
  monitors_from [] h = tt
  monitors_from (x ∷ xs) h = (map_all Small (λ f. f.1) x.states h.0, monitors_from xs h.1)

  monitors_to : (xs : List Monitor) → AllOf (λ x. Smalls x.states) xs → AllOf (λ x. AllOf Small (types_of_fields x.states)) xs
  monitors_to [] h = tt
  monitors_to (x ∷ xs) h = (all_map Small (λ f. f.1) x.states h.0, monitors_to xs h.1)

  -- ---- a file

  module _ (raw : Raw Link) (hs : List Handler) (same : (outline raw).records ≡ records) (handlers : AreHandlers (outline raw) (handlers_of raw) hs) where
    abbrev sources : List Ty
    sources = map (λ s. s.message) (outline raw).sources

    abbrev channels : List Ty
    channels = map (λ c. c.message) (outline raw).channels

    abbrev states : List Ty
    states = each (λ x. types_of_fields x.states) (outline raw).monitors

    abbrev names : List Ty
    names = each bound_types hs

    pub file_fits : numbered.IsNumbered raw → AllOf Smalls records → AllOf Small (types_of (with_handlers (outline raw) hs)) → Fits (type_nodes raw)
    file_fits n rs types =
        let first = front Small (sources ++ channels ++ states) names types in
        let second = front Small (sources ++ channels) states first in
        let ss = map_all Small (λ s. s.message) (outline raw).sources (front Small sources channels second) in
        let cs = map_all Small (λ c. c.message) (outline raw).channels (back Small sources channels second) in
        let ms = monitors_from (outline raw).monitors (unflat Small (λ x. types_of_fields x.states) (outline raw).monitors (back Small (sources ++ channels) states first)) in
        both _ (each in_item raw.items) (each in_handler (handlers_of raw))
        (items_fit (outline raw) raw.version 0 raw.items n.items (subst (AllOf Smalls) (sym same) rs) ss cs ms)
        (handlers_fit (outline raw) (handlers_of raw) hs handlers n.handlers (back Small (sources ++ channels ++ states) names types))

    pub types_small : Fits (type_nodes raw) → AllOf Small (types_of (with_handlers (outline raw) hs))
    types_small fit =
        let items = front _ (each in_item raw.items) (each in_handler (handlers_of raw)) fit in
        both Small (sources ++ channels ++ states) names
        (both Small (sources ++ channels) states
        (both Small sources channels
        (all_map Small (λ s. s.message) (outline raw).sources (sources_small raw.items items))
        (all_map Small (λ c. c.message) (outline raw).channels (channels_small raw.items items)))
        (flat Small (λ x. types_of_fields x.states) (outline raw).monitors (monitors_to (outline raw).monitors (monitors_small raw.items items))))
        (handlers_small (outline raw) (handlers_of raw) hs handlers (back _ (each in_item raw.items) (each in_handler (handlers_of raw)) fit))

-- ---- the greatest of each

module _ (m : Measure) (raw : Raw Link) (hs : List Handler) (handlers : AreHandlers (outline raw) (handlers_of raw) hs) where
  abbrev records : Records
  records = (outline raw).records

  abbrev whole : Arch
  whole = with_handlers (outline raw) hs

  abbrev in_system : ℕ
  in_system = greatest (map (measured m) (shapes whole))

  abbrev in_text : ℕ
  in_text = greatest (map (measured m) (written_shapes raw))

  abbrev Low : ℕ → Shape → Type 0
  Low k s = measured m s ≤ k

  text_below : numbered.IsNumbered raw → AreOrdered records → in_text ≤ max 1 in_system
  text_below n ordered =
      let k : ℕ = max 1 in_system in
      let least : 1 ≤ k = omega arith in
      let low = map_all (λ x. x ≤ k) (measured m) (shapes whole) (below_greatest (map (measured m) (shapes whole)) k (omega arith)) in
      let table = front (Low k) (table_of records) (map (shape_in (table_of records)) (types_of whole)) low in
      let types = map_all (Low k) (shape_in (table_of records)) (types_of whole) (back (Low k) (table_of records) (map (shape_in (table_of records)) (types_of whole)) low) in
      let rs = all_of (Smalls m records k least) records (record_small m records k least ordered table) in
      let fit = file_fits m records k least raw hs refl handlers n rs types in
      greatest_below (map (measured m) (written_shapes raw)) k (all_map (λ x. x ≤ k) (measured m) (written_shapes raw)
      (both (Low k) (table_of records) (map (λ t. shape_in (table_of records) (type_of t)) (type_nodes raw)) table
      (all_map (Low k) (λ t. shape_in (table_of records) (type_of t)) (type_nodes raw) fit)))

  system_below : in_system ≤ max 1 in_text
  system_below =
      let k : ℕ = max 1 in_text in
      let least : 1 ≤ k = omega arith in
      let low = map_all (λ x. x ≤ k) (measured m) (written_shapes raw) (below_greatest (map (measured m) (written_shapes raw)) k (omega arith)) in
      let table = front (Low k) (table_of records) (map (λ t. shape_in (table_of records) (type_of t)) (type_nodes raw)) low in
      let fit = map_all (Low k) (λ t. shape_in (table_of records) (type_of t)) (type_nodes raw) (back (Low k) (table_of records) (map (λ t. shape_in (table_of records) (type_of t)) (type_nodes raw)) low) in
      let types = types_small m records k least raw hs refl handlers fit in
      greatest_below (map (measured m) (shapes whole)) k (all_map (λ x. x ≤ k) (measured m) (shapes whole)
      (both (Low k) (table_of records) (map (shape_in (table_of records)) (types_of whole)) table
      (all_map (Low k) (shape_in (table_of records)) (types_of whole) types)))

  pub same_greatest : numbered.IsNumbered raw → AreOrdered records → max 1 in_system ≡ max 1 in_text
  same_greatest n ordered =
      let p = text_below n ordered in
      let q = system_below in
      omega (arith, p, q)
