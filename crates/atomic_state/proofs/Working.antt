-- A handler at work on a state.
use Rattle.std.proofs.Common.{◌≡◌, ◌∙◌, ℕ, zero, suc, ◌+◌, ◌-◌, ◌<◌, ◌≤◌, List, [], ◌∷◌, ◌++◌, length, map, fold, drop, take, replicate, get_or, true, All, Option, Some, None, slice_get, slice_set, slice_index_or, refl, ap, sym, subst, arith}
use Rattle.std.specs.Prelude.{nat_lt}
use Rattle.std.proofs.lemmas.Bool.Decides.{nat_tests}
use Rattle.std.proofs.lemmas.List.{length-map}
use Rattle.std.proofs.lemmas.List.Elements.{All-head, All-get_or}
use Rattle.std.proofs.lemmas.Option.{get_or_from_slice_get}
use Rattle.tower_types.specs.Value.{Value, parts, no_values}
use Rattle.tower_syntax.specs.declared.arch.Listener.TheVariants as to
use Rattle.tower_syntax.specs.Arch.{Arch, Handler}
use Rattle.tower_syntax.specs.Graph.{handler, no_handler}
use Rattle.tower_syntax.specs.Typed.{IsTyped, IsTypedHandler}
use Rattle.tower_syntax.specs.WellNumbered.{IsNumberedHandler}
use Rattle.tower_meaning.specs.Atomic.{Atomic, run}
use Rattle.tower_meaning.specs.Body.{Effect}
use Rattle.tower_meaning.specs.Fits.{fits_monitor, fits_item, fits_on, FitItems}
use Rattle.tower_meaning.specs.System.{Item, system_of}
use Rattle.tower_meaning.proofs.Effects.{empty_lists}
use Rattle.tower_meaning.proofs.Fitting.{both}
use Rattle.tower_meaning.proofs.KeepsTypes.{operations}
use Rattle.atomic_state.specs.Fitting.{FitsState}
use Rattle.atomic_state.specs.Items.{CanHandle}
use Rattle.atomic_state.specs.StateView.{pending_of}
use Rattle.tower_types.specs.Ty.{table_of}
use Rattle.tower_syntax.specs.declared.arch.Handler.{Handler as HandlerValue}
use Rattle.tower_syntax.specs.View.{handler_of, body_of, emitter_of}
use Rattle.tower_meaning.specs.Body.{after_callback}
use Rattle.tower_meaning.specs.System.{follow_from}
use Rattle.atomic_state.specs.declared.tree.Tree.{Tree as TreeValue}
use Rattle.atomic_state.specs.Step.{first_listener}
use Rattle.atomic_state.specs.TreeView.{tree_of}
use Rattle.atomic_state.proofs.Lists.{got_within, got_map, map_set, set_twice, set_self, some_same}
use Rattle.atomic_state.proofs.Pending.{Held, Pending, items_of, pending_last, at_first, slot}

is_less : (m n : ℕ) → nat_lt m n ≡ true → m < n
is_less m n h = grind (arith, nat_tests)

module _ (arch : Arch) (s : Atomic) (f : FitsState arch s) (x h : ℕ) (v : Value) (rest : List Item) (at : slice_get s.pending x ≡ Some ((to.Handler h, v) ∷ rest)) where
  first : fits_item arch (to.Handler h, v) ≡ true
  first = All-head (λ i. fits_item arch i ≡ true) (to.Handler h, v) rest (f.pending x ((to.Handler h, v) ∷ rest) at)

  -- the handler exists
  pub is_there : h < length arch.handlers
  is_there = is_less h (length arch.handlers) (both _ _ first).0

  abbrev monitor : ℕ
  monitor = (system_of arch).monitor h

  abbrev was : Value
  was = slice_index_or s.monitors monitor (parts no_values)

  monitor_fits : IsNumberedHandler arch (handler arch h) → fits_monitor arch monitor was ≡ true
  monitor_fits n =
      let there = got_within s.monitors monitor (omega (arith, n.monitor, f.monitor_count)) in
      ap (fits_monitor arch monitor) (get_or_from_slice_get s.monitors monitor there.0 (parts no_values) there.1) ∙ f.monitors monitor there.0 there.1

  -- and can handle its message
  pub can_handle : IsTyped arch → IsNumberedHandler arch (handler arch h) → CanHandle arch (handler arch h) v (record { states = was; lists = replicate (length (handler arch h).emitters) [] })
  can_handle typed n =
      let m : fits_on arch (handler arch h).on v ≡ true = (both _ _ first).1 in
      record {
        numbered = n;
        typed = All-get_or (IsTypedHandler arch) arch.handlers h no_handler is_there typed.handlers;
        message_fits = m;
        states_fit = monitor_fits n;
        lists_fit = empty_lists operations arch (handler arch h) v m (handler arch h).emitters;
      }

  abbrev made : List Value → List (List Item) → Atomic
  made ms ps = record s { monitors = ms; pending = ps }

  -- it leads to this state
  pub handled : (e : Effect) (ms : List Value) (ps : List (List Item)) (its : List Item) → e ≡ (system_of arch).effect h was v → its ≡ (system_of arch).follow h e.lists
      → ms ≡ slice_set s.monitors monitor e.states → ps ≡ slice_set s.pending x (its ++ rest)
      → run (system_of arch) s x (slice_get s.pending x) ≡ Some (record s { monitors = ms; pending = ps })
  handled e ms ps its is follows monitors pending =
      ap (run (system_of arch) s x) at
      ∙ sym (ap Some (ap (λ a. made a ps) (monitors ∙ ap (λ (g : Effect). slice_set s.monitors monitor g.states) is)
      ∙ ap (made (slice_set s.monitors monitor ((system_of arch).effect h was v).states))
      (pending ∙ ap (λ l. slice_set s.pending x (l ++ rest)) (follows ∙ ap (λ (g : Effect). (system_of arch).follow h g.lists) is))))

-- all but the last of a pending list
pub dropped : (xs : List Held) (k : ℕ) → length xs ≡ suc k → pending_of (take k xs) ≡ drop 1 (pending_of xs)
dropped xs k e =
    let i = got_within xs k (omega (arith, e)) in
    sym (ap (drop 1) (pending_last xs k i.0 e i.1))

-- ---- by the parts of a state

module _ (arch : Arch) (typed : IsTyped arch) (s : Atomic) (f : FitsState arch s) (ps : List Pending) (ms : List TreeValue) (is_ps : s.pending ≡ map items_of ps) (is_ms : s.monitors ≡ map tree_of ms)
    (x h : ℕ) (r : HandlerValue) (found : slice_get arch.handlers h ≡ Some (handler_of r)) (numbered : IsNumberedHandler arch (handler_of r)) (asked : first_listener (slice_get s.pending x) ≡ Some (to.Handler h)) where
  abbrev pub item : (v : Value) × (rest : List Item) × (slice_get s.pending x ≡ Some ((to.Handler h, v) ∷ rest))
  item = at_first (slice_get s.pending x) (to.Handler h) asked

  abbrev pub message : Value
  message = item.0

  abbrev pub others : List Item
  others = item.1

  is_handler : handler arch h ≡ handler_of r
  is_handler = get_or_from_slice_get arch.handlers h (handler_of r) no_handler found

  -- the pending list begins with the item
  pub begins : (p : Pending) → x < length ps → p ≡ get_or ps x p → pending_of p.items ≡ (to.Handler h, message) ∷ others
  begins p lt read = some_same _ _ (sym (ap (λ l. slice_get l x) is_ps ∙ slot items_of ps x p lt read) ∙ item.2)

  is_was : (t : TreeValue) → r.monitor < length ms → t ≡ get_or ms r.monitor t → slice_index_or s.monitors ((system_of arch).monitor h) (parts no_values) ≡ tree_of t
  is_was t lt read =
      ap (λ (g : Handler). slice_index_or s.monitors g.monitor (parts no_values)) is_handler ∙ ap (λ l. slice_index_or l r.monitor (parts no_values)) is_ms
      ∙ sym (got_map tree_of ms r.monitor t (parts no_values) lt read)

  -- a frame that began right can handle the message
  pub can : (t : TreeValue) (a : Value) (b : List (List Value)) → r.monitor < length ms → t ≡ get_or ms r.monitor t → a ≡ tree_of t → b ≡ replicate (length r.emitters) []
      → CanHandle arch (handler_of r) message (record { states = a; lists = b })
  can t a b lt read is_a is_b =
      let n : IsNumberedHandler arch (handler arch h) = subst (IsNumberedHandler arch) (sym is_handler) numbered in
      let c = can_handle arch s f x h message others item.2 typed n in
      let d : CanHandle arch (handler_of r) message (record { states = slice_index_or s.monitors ((system_of arch).monitor h) (parts no_values); lists = replicate (length (handler_of r).emitters) [] }) =
      subst (λ (g : Handler). CanHandle arch g message (record { states = slice_index_or s.monitors ((system_of arch).monitor h) (parts no_values); lists = replicate (length g.emitters) [] })) is_handler c in
      let count : length (handler_of r).emitters ≡ length r.emitters = length-map r.emitters emitter_of in
      subst (λ l. CanHandle arch (handler_of r) message (record { states = a; lists = l })) (ap (λ k. replicate k []) count ∙ sym is_b)
      (subst (λ w. CanHandle arch (handler_of r) message (record { states = w; lists = replicate (length (handler_of r).emitters) [] })) (is_was t lt read ∙ sym is_a) d)

  -- and leads to the state that the handler leads to
  pub leads : (t : TreeValue) (a : Value) (b : List (List Value)) (e : Effect) (ms' : List Value) (ps' : List (List Item)) (its : List Item) → r.monitor < length ms → t ≡ get_or ms r.monitor t
      → a ≡ tree_of t → b ≡ replicate (length r.emitters) []
      → e ≡ fold (after_callback (table_of arch.records) message) (record { states = a; lists = b }) (map body_of r.callbacks)
      → its ≡ follow_from arch (map emitter_of r.emitters) e.lists
      → ms' ≡ slice_set s.monitors r.monitor e.states → ps' ≡ slice_set s.pending x (its ++ others)
      → run (system_of arch) s x (slice_get s.pending x) ≡ Some (record s { monitors = ms'; pending = ps' })
  leads t a b e ms' ps' its lt read is_a is_b is follows monitors pending =
      let was = slice_index_or s.monitors ((system_of arch).monitor h) (parts no_values) in
      let count : length r.emitters ≡ length (handler_of r).emitters = sym (length-map r.emitters emitter_of) in
      let effect_is : e ≡ (system_of arch).effect h was message =
      is ∙ ap (λ w. fold (after_callback (table_of arch.records) message) (record { states = w; lists = b }) (map body_of r.callbacks)) (is_a ∙ sym (is_was t lt read))
      ∙ ap (λ l. fold (after_callback (table_of arch.records) message) (record { states = was; lists = l }) (map body_of r.callbacks)) (is_b ∙ ap (λ k. replicate k []) count)
      ∙ sym (ap (λ (g : Handler). fold (after_callback (table_of arch.records) message) (record { states = was; lists = replicate (length g.emitters) [] }) g.callbacks) is_handler) in
      let follow_is : its ≡ (system_of arch).follow h e.lists = follows ∙ sym (ap (λ (g : Handler). follow_from arch g.emitters e.lists) is_handler) in
      let monitors_are : ms' ≡ slice_set s.monitors ((system_of arch).monitor h) e.states = monitors ∙ sym (ap (λ (g : Handler). slice_set s.monitors g.monitor e.states) is_handler) in
      handled arch s f x h message others item.2 e ms' ps' its effect_is follow_is monitors_are pending

-- ---- writes

pub monitors_back : (ms : List TreeValue) (m : ℕ) (w t was : TreeValue) → m < length ms → was ≡ get_or ms m was → tree_of t ≡ tree_of was → map tree_of (slice_set (slice_set ms m w) m t) ≡ map tree_of ms
monitors_back ms m w t was lt read same =
    ap (map tree_of) (set_twice ms m w t) ∙ map_set tree_of ms m t ∙ ap (slice_set (map tree_of ms) m) (same ∙ got_map tree_of ms m was (parts no_values) lt read) ∙ set_self (map tree_of ms) m (parts no_values)

pub monitors_new : (ms : List TreeValue) (m : ℕ) (w t : TreeValue) (v : Value) → tree_of t ≡ v → map tree_of (slice_set (slice_set ms m w) m t) ≡ slice_set (map tree_of ms) m v
monitors_new ms m w t v is = ap (map tree_of) (set_twice ms m w t) ∙ map_set tree_of ms m t ∙ ap (slice_set (map tree_of ms) m) is

pub pending_back : (ps : List Pending) (x : ℕ) (p q : Pending) → x < length ps → p ≡ get_or ps x p → q.items ≡ p.items → map items_of (slice_set ps x q) ≡ map items_of ps
pending_back ps x p q lt read same =
    map_set items_of ps x q ∙ ap (slice_set (map items_of ps) x) (ap pending_of same ∙ got_map items_of ps x p [] lt read) ∙ set_self (map items_of ps) x []

pub pending_new : (ps : List Pending) (x : ℕ) (p q : Pending) (is : List Item) → pending_of q.items ≡ is → map items_of (slice_set (slice_set ps x p) x q) ≡ slice_set (map items_of ps) x is
pending_new ps x p q is e = ap (map items_of) (set_twice ps x p q) ∙ map_set items_of ps x q ∙ ap (slice_set (map items_of ps) x) e
