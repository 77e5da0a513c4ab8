-- A handler keeps its monitor's value within its type, and what follows from it fits.
use Rattle.std.proofs.Common.{◌≡◌, ℕ, zero, suc, ◌<◌, List, [], ◌∷◌, map, fold, replicate, length, pos, Bool, true, false, refl, ap, sym, ◌∙◌, subst, arith, slice_index_or, cond, filter}
use Rattle.std.specs.Prelude.{All, flat_map}
use Rattle.std.proofs.lemmas.Bool.{eqb-true, lt-ltb}
use Rattle.std.proofs.lemmas.List.{length-map, length-replicate}
use Rattle.std.proofs.lemmas.List.Elements.{All-nil, All-head, All-tail, All-cons, All-append}
use Rattle.tower_types.specs.Ty.{Fields, Shape, shape_in, table_of, shapes_of, all}
use Rattle.tower_types.specs.Value.{Value, word, fits}
use Rattle.tower_syntax.specs.declared.arch.On.{On}
use Rattle.tower_syntax.specs.declared.arch.On.TheVariants as on
use Rattle.tower_syntax.specs.declared.arch.Listener.{Listener}
use Rattle.tower_syntax.specs.declared.arch.Listener.TheVariants as to
use Rattle.tower_syntax.specs.Arch.{Arch, Handler, Emitter, Body}
use Rattle.tower_syntax.specs.Graph.{handler, output, same_on, hears}
use Rattle.tower_syntax.specs.Weights.{shape_at, field_shapes, channel_message, states_of, scope_of}
use Rattle.tower_syntax.specs.Typed.{IsProper, no_names, AreTypedStmts, AreProperFields, IsTypedHandler}
use Rattle.tower_meaning.specs.Body.{Effect, after_callback, at_entry, handler_effect, zeros_of_fields}
use Rattle.tower_meaning.specs.System.{items, follow_from}
use Rattle.tower_meaning.specs.Fitting.{AreFitting, IsFitting, AreFittingLists, IsFittingRun}
use Rattle.tower_meaning.specs.Fits.{fits_on, fits_item, FitItems}
use Rattle.tower_meaning.proofs.Fitting.{false_true, joined, zero_fits}
use Rattle.tower_meaning.proofs.Values.{Operations}
use Rattle.tower_meaning.proofs.Statements.{stmts_fit}

-- ---- callbacks

pub zeros_fit : (table : List Shape) (fields : Fields) → All (λ f. IsProper (shape_in table f.1)) fields → AreFitting (field_shapes table fields) (zeros_of_fields table fields)
zeros_fit table fields h = record {
  count = length-map fields _ ∙ sym (length-map fields _);
  each = λ b lt. each fields b h (omega (arith, length-map fields (λ f. shape_in table f.1)));
}
  where
    each : (fs : Fields) (b : ℕ) → All (λ f. IsProper (shape_in table f.1)) fs → b < length fs → fits (shape_at (field_shapes table fs) b) (slice_index_or (zeros_of_fields table fs) b (word (pos 0))) ≡ true
    each [] b g lt = absurd (omega arith)
    each (f ∷ fs) zero g lt = zero_fits (shape_in table f.1) (All-head (λ x. IsProper (shape_in table x.1)) f fs g)
    each (f ∷ fs) (suc b) g lt = each fs b (All-tail (λ x. IsProper (shape_in table x.1)) f fs g) (omega arith)

-- what a handler leaves is within its types
pub record IsFittingEffect (states emitters : List Shape) (f : Effect) : Type 0 where
  pub states_fit : fits (all (shapes_of states)) f.states ≡ true
  pub lists_fit : AreFittingLists emitters f.lists

module _ (ops : Operations) (arch : Arch) (h : Handler) (message : Value) (m : fits_on arch h.on message ≡ true) where
  abbrev table : List Shape
  table = table_of arch.records

  abbrev states : List Shape
  states = field_shapes table (states_of arch h.monitor)

  abbrev pub emitter_shapes : List Emitter → List Shape
  emitter_shapes es = map (λ e. shape_in table (channel_message arch e.channel)) es

  pub callback_fits : (b : Body) (f : Effect) → AreProperFields arch b.binders → AreTypedStmts (scope_of arch h b) no_names b.stmts
      → IsFittingEffect states (emitter_shapes h.emitters) f → IsFittingEffect states (emitter_shapes h.emitters) (after_callback table message f b)
  callback_fits b f proper typed g =
      let zeros = zeros_of_fields table b.binders in
      let z = zeros_fit table b.binders proper in
      let start : IsFittingRun (scope_of arch h b) (record { env = at_entry message f.states zeros; lists = f.lists }) = record {
        env = record { message = m; binders = z; states = g.states_fit };
        lists = g.lists_fit;
      } in
      let end = stmts_fit ops (scope_of arch h b) zeros z b.stmts no_names _ typed start in
      record { states_fit = end.env.states; lists_fit = end.lists }

  callbacks_fit : (bs : List Body) (f : Effect) → All (λ b. AreProperFields arch b.binders) bs → All (λ b. AreTypedStmts (scope_of arch h b) no_names b.stmts) bs
      → IsFittingEffect states (emitter_shapes h.emitters) f → IsFittingEffect states (emitter_shapes h.emitters) (fold (after_callback table message) f bs)
  callbacks_fit [] f proper typed g = g
  callbacks_fit (b ∷ bs) f proper typed g =
      callbacks_fit bs (after_callback table message f b)
      (All-tail (λ c. AreProperFields arch c.binders) b bs proper) (All-tail (λ c. AreTypedStmts (scope_of arch h c) no_names c.stmts) b bs typed)
      (callback_fits b f (All-head (λ c. AreProperFields arch c.binders) b bs proper) (All-head (λ c. AreTypedStmts (scope_of arch h c) no_names c.stmts) b bs typed) g)

  pub empty_lists : (es : List Emitter) → AreFittingLists (emitter_shapes es) (replicate (length es) [])
  empty_lists es = record {
    count = length-replicate (length es) [] ∙ sym (length-map es _);
    each = λ k lt. each (λ v. fits (shape_at (emitter_shapes es) k) v ≡ true) (length es) k;
  }
    where
      each : (P : Value → Type 0) (n k : ℕ) → All P (slice_index_or (replicate n []) k [])
      each P zero k = All-nil P
      each P (suc n) zero = All-nil P
      each P (suc n) (suc k) = each P n k

  pub effect_fits : IsTypedHandler arch h → (v : Value) → fits (all (shapes_of states)) v ≡ true
      → IsFittingEffect states (emitter_shapes h.emitters) (handler_effect table h v message)
  effect_fits typed v g = callbacks_fit h.callbacks _ typed.names typed.callbacks (record { states_fit = g; lists_fit = empty_lists h.emitters })

-- ---- deliveries

on_is : (a b : On) → same_on a b ≡ true → a ≡ b
on_is (on.Source a) (on.Source b) h = ap on.Source (eqb-true a b h)
on_is (on.Source a) (on.Channel b) h = false_true h
on_is (on.Channel a) (on.Source b) h = false_true h
on_is (on.Channel a) (on.Channel b) h = ap on.Channel (eqb-true a b h)

-- the handler or output exists
abbrev pub Exists : Arch → Listener → Type 0
Exists arch (to.Handler h) = h < length arch.handlers
Exists arch (to.Output o) = o < length arch.outputs

module _ (arch : Arch) (c : On) (v : Value) (m : fits_on arch c v ≡ true) where
  listener_fits : (l : Listener) → Exists arch l → hears arch c l ≡ true → fits_item arch (l, v) ≡ true
  listener_fits (to.Handler h) here e = joined _ _ (lt-ltb h (length arch.handlers) here) (subst (λ d. fits_on arch d v ≡ true) (sym (on_is (handler arch h).on c e)) m)
  listener_fits (to.Output o) here e = joined _ _ (lt-ltb o (length arch.outputs) here) (subst (λ d. fits_on arch d v ≡ true) (sym (on_is (on.Channel (output arch o).channel) c e)) m)

  kept_fits : (ls : List Listener) (l : Listener) (g : Bool) → hears arch c l ≡ g → Exists arch l → FitItems arch (map (λ k. (k, v)) (filter (hears arch c) ls)) → FitItems arch (map (λ k. (k, v)) (cond g (l ∷ filter (hears arch c) ls) (filter (hears arch c) ls)))
  kept_fits ls l true e here rest = All-cons (λ i. fits_item arch i ≡ true) (l, v) (map (λ k. (k, v)) (filter (hears arch c) ls)) (listener_fits l here e) rest
  kept_fits ls l false e here rest = rest

  listed_fit : (ls : List Listener) → All (Exists arch) ls → FitItems arch (map (λ k. (k, v)) (filter (hears arch c) ls))
  listed_fit [] h = All-nil (λ i. fits_item arch i ≡ true)
  listed_fit (l ∷ ls) h = kept_fits ls l (hears arch c l) refl (All-head (Exists arch) l ls h) (listed_fit ls (All-tail (Exists arch) l ls h))

pub items_fit : (arch : Arch) (c : On) (v : Value) → All (Exists arch) arch.listeners → fits_on arch c v ≡ true → FitItems arch (items arch c v)
items_fit arch c v h m = listed_fit arch c v m arch.listeners h

emissions_fit : (arch : Arch) (c : On) → All (Exists arch) arch.listeners → (vs : List Value) → All (λ v. fits_on arch c v ≡ true) vs → FitItems arch (flat_map (items arch c) vs)
emissions_fit arch c ls [] h = All-nil (λ i. fits_item arch i ≡ true)
emissions_fit arch c ls (v ∷ vs) h =
    All-append (λ i. fits_item arch i ≡ true) (items arch c v) (flat_map (items arch c) vs)
    (items_fit arch c v ls (All-head (λ w. fits_on arch c w ≡ true) v vs h)) (emissions_fit arch c ls vs (All-tail (λ w. fits_on arch c w ≡ true) v vs h))

rest_fits : (s : Shape) (ss : List Shape) (vs : List Value) (lists : List (List Value)) → AreFittingLists (s ∷ ss) (vs ∷ lists) → AreFittingLists ss lists
rest_fits s ss vs lists f = record { count = omega (arith, f.count); each = λ k lt. f.each (suc k) (omega arith) }

pub follow_fits : (arch : Arch) (es : List Emitter) (lists : List (List Value)) → All (Exists arch) arch.listeners
    → AreFittingLists (map (λ e. shape_in (table_of arch.records) (channel_message arch e.channel)) es) lists → FitItems arch (follow_from arch es lists)
follow_fits arch [] lists ls f = All-nil (λ i. fits_item arch i ≡ true)
follow_fits arch (e ∷ es) [] ls f = All-nil (λ i. fits_item arch i ≡ true)
follow_fits arch (e ∷ es) (vs ∷ lists) ls f =
    All-append (λ i. fits_item arch i ≡ true) (flat_map (items arch (on.Channel e.channel)) vs) (follow_from arch es lists)
    (emissions_fit arch (on.Channel e.channel) ls vs (f.each 0 (omega arith)))
    (follow_fits arch es lists ls (rest_fits (shape_in (table_of arch.records) (channel_message arch e.channel)) (map (λ d. shape_in (table_of arch.records) (channel_message arch d.channel)) es) vs lists f))
