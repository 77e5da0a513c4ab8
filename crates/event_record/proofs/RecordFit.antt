-- What a text spells for a system fits it.
use Rattle.std.proofs.Common.{◌≡◌, ◌⊎◌, inl, inr, ◌<◌, ◌≤◌, ℕ, zero, suc, ◌+◌, List, [], ◌∷◌, ◌++◌, length, get_or, Bool, true, false, cond, ◌&&◌, refl, ap, sym, ◌∙◌, subst, arith, pos, ℤ, Option, Some, None}
use Rattle.std.specs.Prelude.{All, replicate, slice_get, option_and_then, bytes_eq}
use Rattle.std.proofs.lemmas.List.Elements.{All-append, All-push}
use Rattle.std.proofs.lemmas.List.Quantifiers.{position-Some}
use Rattle.std.proofs.lemmas.Bool.Decides.{leb_tells}
use Rattle.tower_types.specs.declared.scalar.Scalar.{Scalar}
use Rattle.tower_types.specs.declared.scalar.Scalar.TheVariants as scalar
use Rattle.tower_types.specs.Ty.{Shape, one, many, all, Shapes, no_shapes, shape, shape_of}
use Rattle.tower_types.specs.Value.{Value, word, Values, no_values, value, parts, fits_scalar, fits, fits_each, fits_all}
use Rattle.tower_syntax.specs.declared.arch.SourceKind.{SourceKind}
use Rattle.tower_syntax.specs.declared.arch.SourceKind.TheVariants as kind
use Rattle.tower_syntax.specs.Arch.{Arch, Source, Entry, tick, signal, Events}
use Rattle.tower_syntax.specs.Arrival.{ticks}
use Rattle.tower_syntax.specs.Words.{truth_word}
use Rattle.tower_reader.specs.Words.{literal_in}
use Rattle.tower_meaning.specs.Atomic.{FitsSource, FitsEntry, Fit}
use Rattle.event_record.specs.declared.record.RecordKind.TheVariants as wrong
use Rattle.event_record.specs.Lines.{Bytes, lines}
use Rattle.event_record.specs.Written.{Written, literal, list, Writtens, no_more, written, fitting, truth_at, literal_at, before, as_parts, each_at, value_at, values_at}
use Rattle.event_record.specs.Format.{Spells}
use Rattle.event_record.specs.Record.{is_signal, names_signal, signal_named, entry_limit, MakesEntries, nothing, so_many_ticks, one_signal, record_format, SpellsRecord}
use Rattle.event_record.proofs.ChoicesRead.{all_hold}

-- ---- values

number_fits : (s : Scalar) (n : ℤ) (v : Value) (b : Bool) → fits_scalar s n ≡ b → cond b (Some (word n)) None ≡ Some v → fits (one s) v ≡ true
number_fits s n v true e h = let p : word n ≡ v = cc in subst (λ v. fits (one s) v ≡ true) p e
number_fits s n v false e h = cc

scalar_fits : (s : Scalar) (o : Option ℤ) (v : Value) → option_and_then (fitting s) o ≡ Some v → fits (one s) v ≡ true
scalar_fits s None v h = cc
scalar_fits s (Some n) v h = number_fits s n v (fits_scalar s n) refl h

truth_fits : (v : Value) (b c : Bool) → cond b (Some (word (pos 1))) (cond c (Some (word (pos 0))) None) ≡ Some v → fits (one scalar.Bool) v ≡ true
truth_fits v true c h = let p : word (pos 1) ≡ v = cc in subst (λ v. fits (one scalar.Bool) v ≡ true) p refl
truth_fits v false true h = let p : word (pos 0) ≡ v = cc in subst (λ v. fits (one scalar.Bool) v ≡ true) p refl
truth_fits v false false h = cc

literal_fits : (s : Scalar) (text : Bytes) (v : Value) → literal_at s text ≡ Some v → fits (one s) v ≡ true
literal_fits scalar.Bool text v h = truth_fits v (bytes_eq text (truth_word true)) (bytes_eq text (truth_word false)) h
literal_fits scalar.U8 text v h = scalar_fits scalar.U8 (literal_in text) v h
literal_fits scalar.U16 text v h = scalar_fits scalar.U16 (literal_in text) v h
literal_fits scalar.U32 text v h = scalar_fits scalar.U32 (literal_in text) v h
literal_fits scalar.U64 text v h = scalar_fits scalar.U64 (literal_in text) v h
literal_fits scalar.I8 text v h = scalar_fits scalar.I8 (literal_in text) v h
literal_fits scalar.I16 text v h = scalar_fits scalar.I16 (literal_in text) v h
literal_fits scalar.I32 text v h = scalar_fits scalar.I32 (literal_in text) v h
literal_fits scalar.I64 text v h = scalar_fits scalar.I64 (literal_in text) v h
literal_fits (scalar.Ix n) text v h = scalar_fits (scalar.Ix n) (literal_in text) v h

both_true : (a b : Bool) → a ≡ true → b ≡ true → a && b ≡ true
both_true true b p q = q
both_true false b p q = cc

-- what a value with more parts behind it is
split_before : (v : Value) (o : Option Values) (vs : Values) → before v o ≡ Some vs → (us : Values) × (o ≡ Some us) × (value v us ≡ vs)
split_before v None vs h = cc
split_before v (Some us) vs h = let p : value v us ≡ vs = cc in (us, refl, p)

split_part : (o : Option Value) (later : Option Values) (vs : Values) → option_and_then (λ v. before v later) o ≡ Some vs → (v : Value) × (us : Values) × (o ≡ Some v) × (later ≡ Some us) × (value v us ≡ vs)
split_part None later vs h = cc
split_part (Some v) later vs h = let r = split_before v later vs h in (v, r.0, refl, r.1, r.2)

split_parts : (o : Option Values) (v : Value) → as_parts o ≡ Some v → (vs : Values) × (o ≡ Some vs) × (parts vs ≡ v)
split_parts None v h = cc
split_parts (Some vs) v h = let p : parts vs ≡ v = cc in (vs, refl, p)

each_fits : (f : Written → Option Value) (p : Value → Bool) → ((w : Written) (v : Value) → f w ≡ Some v → p v ≡ true) → (n : ℕ) (ws : Writtens) (vs : Values) → each_at n f ws ≡ Some vs → fits_each n p vs ≡ true
each_fits f p g zero no_more vs h = let e : no_values ≡ vs = cc in subst (λ vs. fits_each zero p vs ≡ true) e refl
each_fits f p g zero (written w ws) vs h = cc
each_fits f p g (suc n) no_more vs h = cc
each_fits f p g (suc n) (written w ws) vs h =
    let r = split_part (f w) (each_at n f ws) vs h in
    subst (λ vs. fits_each (suc n) p vs ≡ true) r.4 (both_true (p r.0) (fits_each n p r.1) (g w r.0 r.2) (each_fits f p g n ws r.1 r.3))

mutual
  value_fits : (s : Shape) (w : Written) (v : Value) → value_at s w ≡ Some v → fits s v ≡ true
  value_fits (one s) (literal text) v h = literal_fits s text v h
  value_fits (one s) (list ws) v h = cc
  value_fits (many n s) (literal text) v h = cc
  value_fits (many n s) (list ws) v h =
      let r = split_parts (each_at n (value_at s) ws) v h in
      subst (λ v. fits (many n s) v ≡ true) r.2 (each_fits (value_at s) (fits s) (value_fits s) n ws r.0 r.1)
  value_fits (all ss) (literal text) v h = cc
  value_fits (all ss) (list ws) v h =
      let r = split_parts (values_at ss ws) v h in
      subst (λ v. fits (all ss) v ≡ true) r.2 (values_fit ss ws r.0 r.1)

  values_fit : (ss : Shapes) (ws : Writtens) (vs : Values) → values_at ss ws ≡ Some vs → fits_all ss vs ≡ true
  values_fit no_shapes no_more vs h = let e : no_values ≡ vs = cc in subst (λ vs. fits_all no_shapes vs ≡ true) e refl
  values_fit no_shapes (written w ws) vs h = cc
  values_fit (shape s ss) no_more vs h = cc
  values_fit (shape s ss) (written w ws) vs h =
      let r = split_part (value_at s w) (values_at ss ws) vs h in
      subst (λ vs. fits_all (shape s ss) vs ≡ true) r.4 (both_true (fits s r.0) (fits_all ss r.1) (value_fits s w r.0 r.2) (values_fit ss ws r.1 r.3))

-- ---- entries

got : {X : Type 0} (xs : List X) (i : ℕ) (x : X) → slice_get xs i ≡ Some x → get_or xs i x ≡ x
got [] i x h = cc
got (y ∷ xs) zero x h = cc
got (y ∷ xs) (suc i) x h = got xs i x h

kind_is : (k : SourceKind) → is_signal k ≡ true → k ≡ kind.Signal
kind_is kind.Signal h = refl
kind_is kind.Init h = cc
kind_is (kind.Period ms) h = cc

second : (a b : Bool) → a && b ≡ true → b ≡ true
second true b h = h
second false b h = cc

signal_kind : (arch : Arch) (name : Bytes) (x : ℕ) (s : Source) → signal_named arch name ≡ Some x → slice_get arch.sources x ≡ Some s → s.kind ≡ kind.Signal
signal_kind arch name x s g i =
    let p = position-Some (names_signal name) arch.sources x s g in
    let q : names_signal name s ≡ true = ap (names_signal name) (sym (got arch.sources x s i)) ∙ p.1 in
    kind_is s.kind (second (bytes_eq s.name name) (is_signal s.kind) q)

none_at : (arch : Arch) → All (FitsEntry arch) []
none_at arch = λ k d g. absurd (omega (arith, g))

ticks_fit : (arch : Arch) (n : ℕ) → All (FitsEntry arch) (replicate n tick)
ticks_fit arch zero = none_at arch
ticks_fit arch (suc n) = All-append (FitsEntry arch) (tick ∷ []) (replicate n tick) (All-push (FitsEntry arch) [] tick (none_at arch) tt) (ticks_fit arch n)

line_fits : (arch : Arch) (l : Bytes) (new : List Entry) → MakesEntries arch l new → All (FitsEntry arch) new
line_fits arch l new (nothing h) = none_at arch
line_fits arch l new (so_many_ticks {n = n} f) = ticks_fit arch n
line_fits arch l new (one_signal {name = name} {w = w} {x = x} {s = s} {v = v} f g i h) =
    let e : FitsSource arch v (Some s) = (signal_kind arch name x s g i, value_fits (shape_of arch.records s.message) w v h) in
    All-push (FitsEntry arch) [] (signal x v) (none_at arch) (subst (FitsSource arch v) (sym i) e)

few_ticks : (es : List Entry) → ticks es ≤ length es
few_ticks [] = omega arith
few_ticks (tick ∷ es) = omega (arith, few_ticks es)
few_ticks (signal x v ∷ es) = omega (arith, few_ticks es)

few_by : (n : ℕ) → ((entry_limit < n) → ⊥) → n ≤ entry_limit
few_by n h = elim (leb_tells n entry_limit) [ inl p ↦ p.1 | inr p ↦ absurd (h p.1) ]

pub record_fits : (arch : Arch) (text : Bytes) (events : Events) → SpellsRecord arch text events → Fit arch events
record_fits arch text events s = record {
  kinds = s.kinds;
  depths = s.depths;
  few_ticks = omega (arith, few_ticks events.entries, few_by (length events.entries) (λ h. s.entries.few wrong.Many (h, refl)));
  entries = all_hold (record_format arch) (FitsEntry arch) (line_fits arch) (lines text) events.entries s.entries.makes;
}
