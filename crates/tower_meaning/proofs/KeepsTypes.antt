-- The meaning of a typed system keeps its types.
use Rattle.std.proofs.Common.{◌≡◌, ℕ, zero, suc, ◌+◌, ◌<◌, ◌≤◌, List, [], ◌∷◌, map, length, take, pos, Bool, true, false, cond, refl, ap, sym, ◌∙◌, subst, arith, slice_index_or, Option, Some, None, slice_get, IsTrue}
use Rattle.std.specs.Prelude.{All, nat_lt}
use Rattle.std.proofs.lemmas.Bool.Decides.{nat_tests}
use Rattle.std.proofs.lemmas.List.{length-map}
use Rattle.std.proofs.lemmas.List.Elements.{All-nil, All-head, All-tail, All-cons, All-append, All-get_or}
use Rattle.std.proofs.lemmas.Option.{same_Some, none-some, slice_get_within, get_or_from_slice_get}
use Rattle.tower_types.specs.declared.scalar.Scalar.{Scalar}
use Rattle.tower_types.specs.declared.scalar.Scalar.TheVariants as scalar
use Rattle.tower_types.specs.Ty.{scalar as scalar_type, Fields, shape_in, shape_of_fields, table_of, shapes_of}
use Rattle.tower_types.specs.Value.{Value, word, fits, has_numbers}
use Rattle.tower_types.proofs.Wrapped.{wrap_to-fits, binary_of-fits, unary_of-fits}
use Rattle.tower_syntax.specs.declared.arch.SourceKind.{SourceKind}
use Rattle.tower_syntax.specs.declared.arch.SourceKind.TheVariants as kind
use Rattle.tower_syntax.specs.declared.arch.On.TheVariants as on
use Rattle.tower_syntax.specs.declared.arch.Listener.{Listener}
use Rattle.tower_syntax.specs.declared.arch.Listener.TheVariants as to
use Rattle.tower_syntax.specs.Arch.{Arch, Source, Monitor, Entry, tick, signal, Events}
use Rattle.tower_syntax.specs.Arrival.{ticks, is_due, divides, brought, brought_by_tick}
use Rattle.tower_syntax.specs.Graph.{no_handler, handler, numbers_before}
use Rattle.tower_syntax.specs.Weights.{source_message}
use Rattle.tower_syntax.specs.Typed.{AreProper, IsProperScalar, IsProperType, AreProperFields, HasItsMessage, IsTyped, IsTypedHandler}
use Rattle.tower_syntax.specs.WellNumbered.{IsWellNumbered, IsNumberedHandler, handlers_among, outputs_among}
use Rattle.tower_meaning.specs.System.{system_of, zero_monitor}
use Rattle.tower_meaning.specs.Atomic.{Fit, FitsEntry, FitsSource}
use Rattle.tower_meaning.specs.Fits.{fits_message, KeepsTypes, FitBrought, BringsFitting}
use Rattle.tower_meaning.proofs.Fitting.{both, zero_fits}
use Rattle.tower_meaning.proofs.Values.{Operations}
use Rattle.tower_meaning.proofs.Effects.{Exists, effect_fits, items_fit, follow_fits}

proper_has_numbers : (t : Scalar) → IsProperScalar t → IsTrue (has_numbers t)
proper_has_numbers (scalar.Ix n) h = grind (arith, nat_tests)
proper_has_numbers scalar.Bool h = refl
proper_has_numbers scalar.U8 h = refl
proper_has_numbers scalar.U16 h = refl
proper_has_numbers scalar.U32 h = refl
proper_has_numbers scalar.U64 h = refl
proper_has_numbers scalar.I8 h = refl
proper_has_numbers scalar.I16 h = refl
proper_has_numbers scalar.I32 h = refl
proper_has_numbers scalar.I64 h = refl

pub operations : Operations
operations = record {
  binaries = λ op t a b h f g. binary_of-fits op t a b h f;
  unaries = λ op t a h f. unary_of-fits op t a h f;
  casts = λ t a number proper. wrap_to-fits t a number (proper_has_numbers t proper);
}

-- ---- what is listed exists

below_before : (n m : ℕ) (ks : List ℕ) → n ≤ m → All (λ k. k < m) ks → All (λ k. k < m) (numbers_before n ks)
below_before zero m ks le h = h
below_before (suc n) m ks le h = below_before n m (n ∷ ks) (omega arith) (All-cons (λ k. k < m) n ks (omega arith) h)

below_all : (n : ℕ) → All (λ k. k < n) (numbers_before n [])
below_all n = below_before n n [] (omega arith) (All-nil (λ k. k < n))

listed : (arch : Arch) (ls : List Listener) → All (λ k. k < length arch.handlers) (handlers_among ls) → All (λ k. k < length arch.outputs) (outputs_among ls) → All (Exists arch) ls
listed arch [] h o = All-nil (Exists arch)
listed arch (to.Output k ∷ ls) h o = All-cons (Exists arch) (to.Output k) ls (All-head (λ j. j < length arch.outputs) k (outputs_among ls) o) (listed arch ls h (All-tail (λ j. j < length arch.outputs) k (outputs_among ls) o))
listed arch (to.Handler k ∷ ls) h o = All-cons (Exists arch) (to.Handler k) ls (All-head (λ j. j < length arch.handlers) k (handlers_among ls) h) (listed arch ls (All-tail (λ j. j < length arch.handlers) k (handlers_among ls) h) o)

pub listeners_exist : (arch : Arch) → IsWellNumbered arch → All (Exists arch) arch.listeners
listeners_exist arch w =
    listed arch arch.listeners
    (subst (All (λ k. k < length arch.handlers)) (sym w.listeners.handlers) (below_all (length arch.handlers)))
    (subst (All (λ k. k < length arch.outputs)) (sym w.listeners.outputs) (below_all (length arch.outputs)))

-- ---- monitors

fields_proper : (arch : Arch) (fields : Fields) → AreProperFields arch fields → AreProper (shapes_of (map (λ f. shape_in (table_of arch.records) f.1) fields))
fields_proper arch [] h = tt
fields_proper arch (f ∷ fs) h = (All-head (λ g. IsProperType arch g.1) f fs h, fields_proper arch fs (All-tail (λ g. IsProperType arch g.1) f fs h))

zero_at : (arch : Arch) (ms : List Monitor) (m : ℕ) (v : Value) → All (λ x. AreProperFields arch x.states) ms → slice_get (map (zero_monitor arch) ms) m ≡ Some v
    → fits (shape_of_fields (table_of arch.records) (slice_index_or (map (λ x. x.states) ms) m [])) v ≡ true
zero_at arch [] m v h e = absurd (none-some v e)
zero_at arch (x ∷ ms) zero v h e =
    subst (λ w. fits (shape_of_fields (table_of arch.records) x.states) w ≡ true) (same_Some _ v e)
    (zero_fits (shape_of_fields (table_of arch.records) x.states) (fields_proper arch x.states (All-head (λ y. AreProperFields arch y.states) x ms h)))
zero_at arch (x ∷ ms) (suc m) v h e = zero_at arch ms m v (All-tail (λ y. AreProperFields arch y.states) x ms h) e

-- ---- messages

-- the message of the source at a place of a list
message_at : (ss : List Source) (x : ℕ) (s : Source) → slice_get ss x ≡ Some s → slice_index_or (map (λ y. y.message) ss) x (scalar_type scalar.I64) ≡ s.message
message_at [] x s e = absurd (none-some s e)
message_at (y ∷ ss) zero s e = ap (λ z. z.message) (same_Some y s e)
message_at (y ∷ ss) (suc x) s e = message_at ss x s e

-- an i64 where no signal stands
i64_at : (arch : Arch) (ss : List Source) (x : ℕ) (k : SourceKind) → All (λ s. HasItsMessage arch s s.kind) ss → slice_get (map (λ s. s.kind) ss) x ≡ Some k → (is_init : (s : Source) → HasItsMessage arch s k → s.message ≡ scalar_type scalar.I64)
    → slice_index_or (map (λ s. s.message) ss) x (scalar_type scalar.I64) ≡ scalar_type scalar.I64
i64_at arch [] x k h e i = refl
i64_at arch (s ∷ ss) zero k h e i = i s (subst (λ j. HasItsMessage arch s j) (same_Some s.kind k e) (All-head (λ y. HasItsMessage arch y y.kind) s ss h))
i64_at arch (s ∷ ss) (suc x) k h e i = i64_at arch ss x k (All-tail (λ y. HasItsMessage arch y y.kind) s ss h) e i

-- ---- handlers

handler_is_typed : (arch : Arch) (h : ℕ) → IsTyped arch → h < length arch.handlers → IsTypedHandler arch (handler arch h)
handler_is_typed arch h typed lt = All-get_or (IsTypedHandler arch) arch.handlers h no_handler lt typed.handlers

exists : (m n : ℕ) → nat_lt m n ≡ true → m < n
exists m n h = grind (arith, nat_tests)

pub keeps_types : (arch : Arch) → IsWellNumbered arch → IsTyped arch → KeepsTypes arch
keeps_types arch w typed = record {
  zeros = λ m v e. zero_at arch arch.monitors m v typed.monitors e;
  first_message = λ x e.
      let is = i64_at arch arch.sources x kind.Init typed.sources e (λ s h. h) in
      subst (λ t. fits (shape_in (table_of arch.records) t) (word (pos 0)) ≡ true) (sym is) refl;
  delivered = λ x v h. items_fit arch (on.Source x) v (listeners_exist arch w) h;
  has_monitor = λ h v f.
      let lt = exists h (length arch.handlers) (both _ _ f).0 in
      let m : IsNumberedHandler arch (handler arch h) = All-get_or (IsNumberedHandler arch) arch.handlers h no_handler lt w.handlers in
      omega (arith, m.monitor, length-map arch.monitors (zero_monitor arch));
  after_fits = λ h v message g f.
      let lt = exists h (length arch.handlers) (both _ _ f).0 in
      (effect_fits operations arch (handler arch h) message (both _ _ f).1 (handler_is_typed arch h typed lt) v g).states_fit;
  sent_fit = λ h v message g f.
      let lt = exists h (length arch.handlers) (both _ _ f).0 in
      follow_fits arch (handler arch h).emitters _ (listeners_exist arch w)
      (effect_fits operations arch (handler arch h) message (both _ _ f).1 (handler_is_typed arch h typed lt) v g).lists_fit;
}

-- ---- what the events bring

ticks_within : (n : ℕ) (es : List Entry) → ticks (take n es) ≤ ticks es
ticks_within zero es = omega arith
ticks_within (suc n) [] = omega arith
ticks_within (suc n) (e ∷ es) = omega (arith, ticks_within n es)

-- the sources from the number x on, whose messages are those of ss
abbrev Follows : Arch → ℕ → List Source → Type 0
Follows arch x ss = (j : ℕ) → source_message arch (x + j) ≡ slice_index_or (map (λ s. s.message) ss) j (scalar_type scalar.I64)

number_brought : (arch : Arch) (k x : ℕ) → k ≤ 9223372036854775807 → source_message arch x ≡ scalar_type scalar.I64 → fits_message arch x (word (pos k)) ≡ true
number_brought arch k x le e = subst (λ t. fits (shape_in (table_of arch.records) t) (word (pos k)) ≡ true) (sym e) (grind (arith, nat_tests))

abbrev FitsItsSource : Arch → ℕ × Value → Type 0
FitsItsSource arch b = fits_message arch b.0 b.1 ≡ true

due_fits : (arch : Arch) (k x : ℕ) (s : Source) (g : SourceKind) → k ≤ 9223372036854775807 → HasItsMessage arch s g → source_message arch x ≡ s.message
    → FitBrought arch (cond (is_due k g) ((x, word (pos k)) ∷ []) [])
due_fits arch k x s kind.Init le h e = All-nil (FitsItsSource arch)
due_fits arch k x s kind.Signal le h e = All-nil (FitsItsSource arch)
due_fits arch k x s (kind.Period ms) le h e = either (divides ms k)
  where
    either : (b : Bool) → FitBrought arch (cond b ((x, word (pos k)) ∷ []) [])
    either true = All-cons (FitsItsSource arch) (x, word (pos k)) [] (number_brought arch k x le (e ∙ h.0)) (All-nil (FitsItsSource arch))
    either false = All-nil (FitsItsSource arch)

tick_fits : (arch : Arch) (k x : ℕ) (ss : List Source) → k ≤ 9223372036854775807 → All (λ s. HasItsMessage arch s s.kind) ss → Follows arch x ss
    → FitBrought arch (brought_by_tick k x (map (λ s. s.kind) ss))
tick_fits arch k x [] le h f = All-nil (FitsItsSource arch)
tick_fits arch k x (s ∷ ss) le h f =
    let first : x + 0 ≡ x = omega arith in
    let next : (j : ℕ) → x + 1 + j ≡ x + suc j = λ j. omega arith in
    All-append (FitsItsSource arch) (cond (is_due k s.kind) ((x, word (pos k)) ∷ []) []) (brought_by_tick k (x + 1) (map (λ y. y.kind) ss))
    (due_fits arch k x s s.kind le (All-head (λ y. HasItsMessage arch y y.kind) s ss h) (ap (source_message arch) (sym first) ∙ f 0))
    (tick_fits arch k (x + 1) ss le (All-tail (λ y. HasItsMessage arch y y.kind) s ss h) (λ j. ap (source_message arch) (next j) ∙ f (suc j)))

signal_fits : (arch : Arch) (x : ℕ) (v : Value) (o : Option Source) → slice_get arch.sources x ≡ o → FitsSource arch v o → fits_message arch x v ≡ true
signal_fits arch x v None e h = absurd h
signal_fits arch x v (Some s) e h = subst (λ t. fits (shape_in (table_of arch.records) t) v ≡ true) (sym (message_at arch.sources x s e)) h.1

entry_fits : (arch : Arch) (k : ℕ) (e : Entry) → IsTyped arch → k ≤ 9223372036854775807 → FitsEntry arch e → FitBrought arch (brought (system_of arch).kinds k e)
entry_fits arch k tick typed le h = tick_fits arch k 0 arch.sources le typed.sources (λ j. let e : 0 + j ≡ j = omega arith in ap (source_message arch) e)
entry_fits arch k (signal x v) typed le h =
    All-cons (FitsItsSource arch) (x, v) [] (signal_fits arch x v (slice_get arch.sources x) refl h) (All-nil (FitsItsSource arch))

pub brings_fitting : (arch : Arch) (events : Events) → IsTyped arch → Fit arch events → BringsFitting arch events
brings_fitting arch events typed fit i e is =
    let within = slice_get_within events.entries i e is in
    let here : FitsEntry arch e = subst (FitsEntry arch) (get_or_from_slice_get events.entries i e e is) (All-get_or (FitsEntry arch) events.entries i e within fit.entries) in
    entry_fits arch (ticks (take (suc i) events.entries)) e typed (omega (arith, fit.few_ticks, ticks_within (suc i) events.entries)) here
