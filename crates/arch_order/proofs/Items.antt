-- The items of a linked file that lies in a text are numbered.
use Rattle.std.proofs.Common.{◌≡◌, ℕ, suc, ◌+◌, ◌<◌, ◌≤◌, ◌^◌, ◌==◌, List, [], ◌∷◌, ◌++◌, map, length, Bool, Some, sym, ap, ◌∙◌, subst, append_assoc, arith}
use Rattle.tower_types.specs.Ty.{Name}
use Rattle.tower_syntax.specs.declared.named.Target.{Target}
use Rattle.tower_syntax.specs.declared.named.Target.TheVariants as target
use Rattle.tower_syntax.specs.RawTree.{Id, RawField, RawPart, state, handler, RawItem, fields, init, period, signal, channel, output, monitor}
use Rattle.tower_syntax.specs.Arch.{Arch}
use Rattle.arch_names.specs.declared.names.Declared.{Declared}
use Rattle.arch_names.specs.declared.names.Thing.{Thing}
use Rattle.arch_names.specs.declared.names.Thing.TheVariants as thing
use Rattle.arch_names.specs.declared.names.Counts.{Counts}
use Rattle.arch_names.specs.declared.fault.Sort.TheVariants as sort
use Rattle.arch_names.specs.Names.{Names, Find, find, serves, same}
use Rattle.arch_names.specs.Sets.{each, counting, handler_of, fields_of, states_of, declared_by, counted}
use Rattle.arch_names.specs.Site.{Site}
use Rattle.arch_names.specs.Sites.{field_sites, part_sites, item_sites}
use Rattle.arch_names.specs.Linked.{linked_field, linked_part, linked_item}
use Rattle.arch_types.specs.Numbered.{NamesRecord, IsDeclaredType, IsState, AreItems}
use Rattle.arch_order.proofs.Lists.{AllOf, all_both, all_left, all_right, all_more, each_element, looked_up}
use Rattle.arch_order.proofs.InText.{AllLie, FieldLies, PartLies, ItemLies}
use Rattle.arch_order.proofs.Meant.{IsMeant, Exists, RecordsFit, EarlyRecordsFit, record_use, channel_use, early_type_written, type_nested}
use Rattle.arch_order.proofs.Scopes.{declared}
use Rattle.arch_order.proofs.Counted.{few}

-- what a name of the file is declared as exists
abbrev pub ThingsFit : Arch → Find Thing → Type 0
ThingsFit arch file = (name : Name) (d : Declared Thing) → file name ≡ Some d → Exists (length arch.records) (length arch.sources) (length arch.channels) d.what

pub records_fit : (arch : Arch) (file : Find Thing) → ThingsFit arch file → RecordsFit (length arch.records) file
records_fit arch file f name d t e s = record_use (length arch.records) (length arch.sources) (length arch.channels) d.what t (f name d e) s

-- ---- what is declared behind a place, and before one

handlers_behind : (n : ℕ) (ps : List (RawPart Id)) (a b : ℕ) → AllLie (PartLies n) ps a b → AllOf (λ e. a ≤ e.1.at) (each handler_of ps)
handlers_behind n [] a b h = tt
handlers_behind n (state at x t ∷ ps) a b h = all_more (λ e. h.0 ≤ e.1.at) (λ e. a ≤ e.1.at) (λ e k. omega (arith, h.1, k)) (each handler_of ps) (handlers_behind n ps h.0 b h.3)
handlers_behind n (handler at x u hs ∷ ps) a b h = (omega (arith, h.2.0, h.2.1.1.0), all_more (λ e. h.0 ≤ e.1.at) (λ e. a ≤ e.1.at) (λ e k. omega (arith, h.1, k)) (each handler_of ps) (handlers_behind n ps h.0 b h.3))

behind_more : (a c : ℕ) → a < c → (ns : Names Thing) → AllOf (λ e. c ≤ e.1.at) ns → AllOf (λ e. a ≤ e.1.at) ns
behind_more a c l ns h = all_more (λ e. c ≤ e.1.at) (λ e. a ≤ e.1.at) (λ e k. omega (arith, l, k)) ns h

module _ (deep : Bool) (n : ℕ) where
  declared_behind : (items : List (RawItem Id)) (k : Counts) (a b : ℕ) → AllLie (ItemLies deep n) items a b → AllOf (λ e. a ≤ e.1.at) (counting declared_by counted k items)
  declared_behind [] k a b h = tt
  declared_behind (fields at x fs ∷ items) k a b h = (omega (arith, h.2.0, h.2.1.1.0), behind_more a h.0 h.1 _ (declared_behind items (counted k (fields at x fs)) h.0 b h.3))
  declared_behind (init at x p ∷ items) k a b h = (omega (arith, h.2.0, h.2.1.1.0), behind_more a h.0 h.1 _ (declared_behind items (counted k (init at x p)) h.0 b h.3))
  declared_behind (period at x ms p d ∷ items) k a b h = (omega (arith, h.2.0, h.2.1.1.0), behind_more a h.0 h.1 _ (declared_behind items (counted k (period at x ms p d)) h.0 b h.3))
  declared_behind (signal at x t p d ∷ items) k a b h = (omega (arith, h.2.0, h.2.1.1.0), behind_more a h.0 h.1 _ (declared_behind items (counted k (signal at x t p d)) h.0 b h.3))
  declared_behind (channel at x t ∷ items) k a b h = (omega (arith, h.2.0, h.2.1.1.0), behind_more a h.0 h.1 _ (declared_behind items (counted k (channel at x t)) h.0 b h.3))
  declared_behind (output at x u ∷ items) k a b h = (omega (arith, h.2.0, h.2.1.1.0), behind_more a h.0 h.1 _ (declared_behind items k h.0 b h.3))
  declared_behind (monitor at x ps ∷ items) k a b h = (
    omega (arith, h.2.0, h.2.1.1.0),
    all_both (λ e. a ≤ e.1.at) (each handler_of ps) (counting declared_by counted k items)
        (all_more (λ e. h.2.1.0 ≤ e.1.at) (λ e. a ≤ e.1.at) (λ e k. omega (arith, h.2.0, h.2.1.1.0, h.2.1.1.1, k)) (each handler_of ps) (handlers_behind (suc n) ps h.2.1.0 h.0 h.2.1.2))
        (behind_more a h.0 h.1 (counting declared_by counted k items) (declared_behind items k h.0 b h.3)),
  )

-- no record from a number on
abbrev Before : ℕ → Thing → Type 0
Before r (thing.Record k) = k < r
Before r (thing.Source k) = Unit {0}
Before r (thing.Channel k) = Unit {0}
Before r thing.Output = Unit {0}
Before r thing.Monitor = Unit {0}
Before r thing.Handler = Unit {0}

before_use : (r : ℕ) (w : Thing) (t : Target) → Before r w → serves sort.Record w ≡ Some t → NamesRecord r t
before_use r (thing.Record k) t h e = let i : target.Record k ≡ t = cc in subst (NamesRecord r) i h
before_use r (thing.Source k) t h e = cc
before_use r (thing.Channel k) t h e = cc
before_use r thing.Output t h e = cc
before_use r thing.Monitor t h e = cc
before_use r thing.Handler t h e = cc

before_more : (r s : ℕ) (w : Thing) → r ≤ s → Before r w → Before s w
before_more r s (thing.Record k) l h = omega (arith, l, h)
before_more r s (thing.Source k) l h = tt
before_more r s (thing.Channel k) l h = tt
before_more r s thing.Output l h = tt
before_more r s thing.Monitor l h = tt
before_more r s thing.Handler l h = tt

handlers_before : (r : ℕ) (ps : List (RawPart Id)) → AllOf (λ e. Before r e.1.what) (each handler_of ps)
handlers_before r [] = tt
handlers_before r (state at x t ∷ ps) = handlers_before r ps
handlers_before r (handler at x u hs ∷ ps) = (tt, handlers_before r ps)

abbrev AllBefore : ℕ → Names Thing → Type 0
AllBefore r ns = AllOf (λ e. Before r e.1.what) ns

before_step : (k : Counts) (ns : Names Thing) (item : RawItem Id) → AllBefore k.records ns → AllBefore (counted k item).records (ns ++ declared_by k item)
before_step k ns (fields at x fs) h = all_both (λ e. Before (k.records + 1) e.1.what) ns _ (all_more (λ e. Before k.records e.1.what) (λ e. Before (k.records + 1) e.1.what) (λ e l. before_more k.records (k.records + 1) e.1.what (omega arith) l) ns h) (omega arith, tt)
before_step k ns (init at x p) h = all_both (λ e. Before k.records e.1.what) ns _ h (tt, tt)
before_step k ns (period at x ms p d) h = all_both (λ e. Before k.records e.1.what) ns _ h (tt, tt)
before_step k ns (signal at x t p d) h = all_both (λ e. Before k.records e.1.what) ns _ h (tt, tt)
before_step k ns (channel at x t) h = all_both (λ e. Before k.records e.1.what) ns _ h (tt, tt)
before_step k ns (output at x u) h = all_both (λ e. Before k.records e.1.what) ns _ h (tt, tt)
before_step k ns (monitor at x ps) h = all_both (λ e. Before k.records e.1.what) ns _ h (tt, handlers_before k.records ps)

-- ---- the items

module _ (m : Site → Target) (file : Find Thing) where
  -- a record declared before `at` is one of the first so many
  early : (k : Counts) (ns rest : Names Thing) (x : Id) (w : Thing) (c : ℕ) → x.at < c → AllBefore k.records ns → AllOf (λ e. c ≤ e.1.at) rest → file ≡ find (ns ++ (x.name, record { at = x.at; what = w }) ∷ rest) → EarlyRecordsFit k.records x.at file
  early k ns rest x w c l h r e name d t f s q =
      let P : Declared Thing → Type 0 = λ d. (t : Target) → serves sort.Record d.what ≡ Some t → d.at < x.at → NamesRecord k.records t in
      looked_up P (same name) (ns ++ (x.name, record { at = x.at; what = w }) ∷ rest) d
      (all_both (λ e. P e.1) ns _
      (all_more (λ e. Before k.records e.1.what) (λ e. P e.1) (λ e b t s l. before_use k.records e.1.what t b s) ns h)
      ((λ t s l. absurd (omega (arith, l))), all_more (λ e. c ≤ e.1.at) (λ e. P e.1) (λ e b t s j. absurd (omega (arith, b, j, l))) rest r))
      (sym (ap (λ f. f name) e) ∙ f) t s q

  fields_numbered : (before at : ℕ) → EarlyRecordsFit before at file → (names : Find (Unit {0})) (n : ℕ) (fs : List (RawField Id)) (a b : ℕ) → AllLie (FieldLies n) fs a b → AllOf (IsMeant m) (each (field_sites file at names) fs) → AllOf (λ f. IsDeclaredType before f.ty) (map (linked_field m file at) fs)
  fields_numbered before at f names n [] a b h u = tt
  fields_numbered before at f names n (x ∷ fs) a b h u =
      let own = all_left (IsMeant m) (field_sites file at names x) (each (field_sites file at names) fs) u in
      let t = h.2.1.2.1 in
      let k = type_nested m file (Some at) x.ty (suc n) h.2.1.0 h.2.1.2.0 t in (
        (early_type_written m file before at f x.ty (suc n) h.2.1.0 h.2.1.2.0 t own.1, omega (arith, k)),
        fields_numbered before at f names n fs h.0 b h.3 (all_right (IsMeant m) (field_sites file at names x) (each (field_sites file at names) fs) u),
      )

  states_numbered : (r : ℕ) → RecordsFit r file → (states : Find Target) (n : ℕ) (ps : List (RawPart Id)) (a b : ℕ) → AllLie (PartLies n) ps a b → AllOf (IsMeant m) (each (part_sites file states) ps) → AllOf (IsState r) (map (linked_part m file states) ps)
  states_numbered r f states n [] a b h u = tt
  states_numbered r f states n (state at x t ∷ ps) a b h u = (
    declared m file r f t n h.2.1.0 h.2.1.2.0 h.2.1.2.1 (all_left (IsMeant m) (part_sites file states (state at x t)) (each (part_sites file states) ps) u).1,
    states_numbered r f states n ps h.0 b h.3 (all_right (IsMeant m) (part_sites file states (state at x t)) (each (part_sites file states) ps) u),
  )
  states_numbered r f states n (handler at x v hs ∷ ps) a b h u = (tt, states_numbered r f states n ps h.0 b h.3 (all_right (IsMeant m) (part_sites file states (handler at x v hs)) (each (part_sites file states) ps) u))

  module _ (arch : Arch) (fits : ThingsFit arch file) (version n end : ℕ) (short : end ≤ 2 ^ 32) where
    step : (k : Counts) (ns : Names Thing) (item : RawItem Id) (items : List (RawItem Id)) → file ≡ find (ns ++ counting declared_by counted k (item ∷ items)) → file ≡ find ((ns ++ declared_by k item) ++ counting declared_by counted (counted k item) items)
    step k ns item items e = e ∙ ap find (sym (append_assoc ns (declared_by k item) (counting declared_by counted (counted k item) items)))

    rest : (item : RawItem Id) (items : List (RawItem Id)) → AllOf (IsMeant m) (each (item_sites file) (item ∷ items)) → AllOf (IsMeant m) (each (item_sites file) items)
    rest item items u = all_right (IsMeant m) (item_sites file item) (each (item_sites file) items) u

    own : (item : RawItem Id) (items : List (RawItem Id)) → AllOf (IsMeant m) (each (item_sites file) (item ∷ items)) → AllOf (IsMeant m) (item_sites file item)
    own item items u = all_left (IsMeant m) (item_sites file item) (each (item_sites file) items) u

    pub items_numbered : (items : List (RawItem Id)) (k : Counts) (before : ℕ) (ns : Names Thing) (a : ℕ)
        → before ≡ k.records → file ≡ find (ns ++ counting declared_by counted k items) → AllBefore k.records ns
        → AllLie (ItemLies (version == 2) n) items a end → AllOf (IsMeant m) (each (item_sites file) items)
        → AreItems arch version before (map (linked_item m file) items)
    items_numbered [] k before ns a e f p h u = tt
    items_numbered (fields at x fs ∷ items) k before ns a e f p h u =
        let i = fields at x fs in
        let o = early k ns (counting declared_by counted (counted k i) items) x (thing.Record k.records) h.2.1.0 h.2.1.1.1 p (all_more (λ e. h.0 ≤ e.1.at) (λ e. h.2.1.0 ≤ e.1.at) (λ e l. omega (arith, l, few (FieldLies (suc n)) (linked_field m file x.at) fs h.2.1.0 h.0 h.2.1.2)) _ (declared_behind (version == 2) n items (counted k i) h.0 end h.3)) f in (
          each_element _ _ (fields_numbered before x.at (subst (λ r. EarlyRecordsFit r x.at file) (sym e) o) (find (fields_of fs)) (suc n) fs h.2.1.0 h.0 h.2.1.2 (own i items u).1),
          omega (arith, short, few (FieldLies (suc n)) (linked_field m file x.at) fs h.2.1.0 h.0 h.2.1.2, few (ItemLies (version == 2) n) (linked_item m file) items h.0 end h.3),
          items_numbered items (counted k i) (suc before) (ns ++ declared_by k i) h.0 (omega (arith, e)) (step k ns i items f) (before_step k ns i p) h.3 (rest i items u),
        )
    items_numbered (init at x p0 ∷ items) k before ns a e f p h u = let i = init at x p0 in items_numbered items (counted k i) before (ns ++ declared_by k i) h.0 e (step k ns i items f) (before_step k ns i p) h.3 (rest i items u)
    items_numbered (period at x ms p0 d ∷ items) k before ns a e f p h u =
        let i = period at x ms p0 d in
        (h.2.1.2.1.1, h.2.2, items_numbered items (counted k i) before (ns ++ declared_by k i) h.0 e (step k ns i items f) (before_step k ns i p) h.3 (rest i items u))
    items_numbered (signal at x t p0 d ∷ items) k before ns a e f p h u =
        let i = signal at x t p0 d in (
          declared m file (length arch.records) (records_fit arch file fits) t n h.2.1.0 h.2.1.2.0 h.2.1.2.1 (own i items u).1,
          h.2.2,
          items_numbered items (counted k i) before (ns ++ declared_by k i) h.0 e (step k ns i items f) (before_step k ns i p) h.3 (rest i items u),
        )
    items_numbered (channel at x t ∷ items) k before ns a e f p h u =
        let i = channel at x t in (
          declared m file (length arch.records) (records_fit arch file fits) t n h.2.1.0 h.2.1.2.0 h.2.1.2.1 (own i items u).1,
          items_numbered items (counted k i) before (ns ++ declared_by k i) h.0 e (step k ns i items f) (before_step k ns i p) h.3 (rest i items u),
        )
    items_numbered (output at x v ∷ items) k before ns a e f p h u =
        let i = output at x v in
        let q = (own i items u).1.0 tt in (
          channel_use arch q.0.what _ (fits v.name q.0 q.1) q.2,
          items_numbered items k before (ns ++ declared_by k i) h.0 e (step k ns i items f) (before_step k ns i p) h.3 (rest i items u),
        )
    items_numbered (monitor at x ps ∷ items) k before ns a e f p h u =
        let i = monitor at x ps in (
          each_element _ _ (states_numbered (length arch.records) (records_fit arch file fits) (find (states_of ps)) (suc n) ps h.2.1.0 h.0 h.2.1.2 (own i items u).1),
          omega (arith, short, few (PartLies (suc n)) (linked_part m file (find (states_of ps))) ps h.2.1.0 h.0 h.2.1.2, few (ItemLies (version == 2) n) (linked_item m file) items h.0 end h.3),
          items_numbered items k before (ns ++ declared_by k i) h.0 e (step k ns i items f) (before_step k ns i p) h.3 (rest i items u),
        )
