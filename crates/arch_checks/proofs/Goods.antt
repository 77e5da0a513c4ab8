-- The shapes of an accepted system are proper, have a field in each record, and are few words wide.
use Rattle.std.proofs.Common.{ℕ, zero, suc, ◌*◌, ◌<◌, ◌≤◌, List, [], ◌∷◌, ◌++◌, length, map, All, refl, sym, subst, arith}
use Rattle.std.proofs.Math.Nat.{mul-le-mul_right}
use Rattle.tower_types.specs.declared.scalar.Scalar.TheVariants.{I64}
use Rattle.tower_types.specs.Ty.{Ty, scalar, array, rec, Fields, NamesBelow, Shape, one, many, all, no_shapes, shape, shapes_of, shape_in, table_of, words, depth}
use Rattle.tower_types.specs.Records.{IsTypeAmong}
use Rattle.tower_types.proofs.Shapes.{shape_of-rec}
use Rattle.tower_syntax.specs.declared.arch.SourceKind.{SourceKind}
use Rattle.tower_syntax.specs.declared.arch.SourceKind.TheVariants as kind
use Rattle.tower_syntax.specs.declared.arch.On.{On}
use Rattle.tower_syntax.specs.declared.arch.On.TheVariants as on
use Rattle.tower_syntax.specs.Arch.{Arch, Source, Body, Handler}
use Rattle.tower_syntax.specs.WellNumbered.{IsNumberedType, IsNumberedSource, IsNumberedBody, IsNumberedHandler, AreNumberedFields}
use Rattle.tower_syntax.specs.Typed.{IsProper, IsProperType, HasItsMessage, IsTypedHandler, AreProperFields}
use Rattle.tower_syntax.specs.Weights.{message_on, states_of}
use Rattle.arch_types.specs.Outline.{each}
use Rattle.arch_types.proofs.Lists.{AllOf, all_left, all_right, each_element, all_at, get_within, zipped, looked}
pub use Rattle.arch_types.proofs.Lists.{each_of}
use Rattle.arch_checks.specs.declared.fault.What.TheVariants as what
use Rattle.arch_checks.specs.Sizes.{types_of, types_of_fields, bound_types, shapes}
use Rattle.arch_checks.specs.Laws.{IsSafe}
use Rattle.arch_checks.proofs.Lists.{map_all, below_greatest}
use Rattle.arch_checks.specs.Kept.{KeepsNumbers}
use Rattle.arch_checks.specs.Wide.{IsSome, IsFull, AreFull, IsWide, IsWideType, AreWideFields, HasWideTypes, HasShallowTypes}

-- ---- words

pub times : (n w m : ℕ) → 0 < n → m ≤ w → m ≤ n * w
times n w m some le =
    let more : 1 * w ≤ n * w = mul-le-mul_right w some in
    omega (arith, more, le)

pub full_words : (s : Shape) → IsProper s → IsFull s → 1 ≤ words s
full_words (one c) proper full = omega arith
full_words (many n s) proper full = times n (words s) 1 proper.0 (full_words s proper.2 full)
full_words (all no_shapes) proper full = absurd full.0
full_words (all (shape s ss)) proper full = let first : 1 ≤ words s = full_words s proper.0 full.1.0 in omega (arith, first)

pub wide_words : (s : Shape) → IsWide s → 1 ≤ words s
wide_words s h = full_words s h.0 h.1

module _ (arch : Arch) (safe : IsSafe arch) (keeps : KeepsNumbers arch) where
  abbrev table : List Shape
  table = table_of arch.records

  full_type : (r : ℕ) → ((q : ℕ) → q < r → IsFull (shape_in table (rec q))) → (t : Ty) → NamesBelow r t → IsFull (shape_in table t)
  full_type r below (scalar s) h = tt
  full_type r below (array n t) h = full_type r below t h
  full_type r below (rec q) h = below q h

  full_fields : (r : ℕ) → ((q : ℕ) → q < r → IsFull (shape_in table (rec q))) → (fs : Fields) → AllOf (λ f. IsTypeAmong r f.1) fs → AreFull (shapes_of (map (λ f. shape_in table f.1) fs))
  full_fields r below [] h = tt
  full_fields r below (f ∷ fs) h = (full_type r below f.1 h.0.0, full_fields r below fs h.1)

  some_field : (fs : Fields) → 0 < length fs → IsSome (shapes_of (map (λ f. shape_in table f.1) fs))
  some_field [] h = absurd (omega (arith, h))
  some_field (f ∷ fs) h = tt

  -- a record names only earlier ones
  full_record : (n r : ℕ) → r < n → r < length arch.records → IsFull (shape_in table (rec r))
  full_record zero r less there = absurd (omega (arith, less))
  full_record (suc n) r less there =
      let fields = get_within arch.records r there in
      let below : (q : ℕ) → q < r → IsFull (shape_in table (rec q)) = λ q l. full_record n q (omega (arith, l, less)) (omega (arith, l, there)) in
      subst IsFull (sym (shape_of-rec arch.records r fields.0 safe.numbered.records.0 fields.1))
      (some_field fields.0 (all_at (λ fs. 0 < length fs) arch.records r fields.0 keeps.records fields.1), full_fields r below fields.0 (each_of (λ f. IsTypeAmong r f.1) fields.0 (safe.numbered.records.0 r fields.0 fields.1)))

  full : (t : Ty) → NamesBelow (length arch.records) t → IsFull (shape_in table t)
  full t h = full_type (length arch.records) (λ q l. full_record (suc q) q (omega arith) l) t h

  -- ---- the types of a system

  abbrev pub IsGood : Ty → Type 0
  IsGood t = IsProper (shape_in table t) × IsFull (shape_in table t) × (words (shape_in table t) ≤ 4096)

  abbrev pub IsLow : Ty → Type 0
  IsLow t = depth (shape_in table t) ≤ 32

  abbrev IsNarrow : Ty → Type 0
  IsNarrow t = words (shape_in table t) ≤ 4096

  narrow : AllOf IsNarrow (types_of arch)
  narrow = map_all (λ s. words s ≤ 4096) (shape_in table) (types_of arch) (all_right (λ s. words s ≤ 4096) table (map (shape_in table) (types_of arch)) (map_all (λ n. n ≤ 4096) words (shapes arch) (below_greatest (map words (shapes arch)) 4096 (safe.within what.Words _ refl))))

  low : AllOf IsLow (types_of arch)
  low = map_all (λ s. depth s ≤ 32) (shape_in table) (types_of arch) (all_right (λ s. depth s ≤ 32) table (map (shape_in table) (types_of arch)) (map_all (λ n. n ≤ 32) depth (shapes arch) (below_greatest (map depth (shapes arch)) 32 (safe.within what.Depth _ refl))))

  abbrev of_sources : List Ty
  of_sources = map (λ s. s.message) arch.sources

  abbrev of_channels : List Ty
  of_channels = map (λ c. c.message) arch.channels

  abbrev of_monitors : List Ty
  of_monitors = each (λ m. types_of_fields m.states) arch.monitors

  abbrev of_handlers : List Ty
  of_handlers = each bound_types arch.handlers

  narrow_sources : AllOf (λ s. IsNarrow s.message) arch.sources
  narrow_sources = map_all IsNarrow (λ s. s.message) arch.sources (all_left IsNarrow of_sources of_channels (all_left IsNarrow (of_sources ++ of_channels) of_monitors (all_left IsNarrow (of_sources ++ of_channels ++ of_monitors) of_handlers narrow)))

  pub low_sources : AllOf (λ s. IsLow s.message) arch.sources
  low_sources = map_all IsLow (λ s. s.message) arch.sources (all_left IsLow of_sources of_channels (all_left IsLow (of_sources ++ of_channels) of_monitors (all_left IsLow (of_sources ++ of_channels ++ of_monitors) of_handlers low)))

  narrow_channels : AllOf (λ c. IsNarrow c.message) arch.channels
  narrow_channels = map_all IsNarrow (λ c. c.message) arch.channels (all_right IsNarrow of_sources of_channels (all_left IsNarrow (of_sources ++ of_channels) of_monitors (all_left IsNarrow (of_sources ++ of_channels ++ of_monitors) of_handlers narrow)))

  narrow_monitors : AllOf IsNarrow of_monitors
  narrow_monitors = all_right IsNarrow (of_sources ++ of_channels) of_monitors (all_left IsNarrow (of_sources ++ of_channels ++ of_monitors) of_handlers narrow)

  narrow_handlers : AllOf IsNarrow of_handlers
  narrow_handlers = all_right IsNarrow (of_sources ++ of_channels ++ of_monitors) of_handlers narrow

  -- the parts of the list that elements give
  parts : {X Y : Type 0} (P : Y → Type 0) (of : X → List Y) (xs : List X) → AllOf P (each of xs) → AllOf (λ x. AllOf P (of x)) xs
  parts P of [] h = tt
  parts P of (x ∷ xs) h = (all_left P (of x) (each of xs) h, parts P of xs (all_right P (of x) (each of xs) h))

  source_proper : (s : Source) (k : SourceKind) → HasItsMessage arch s k → IsProperType arch s.message
  source_proper s kind.Init h = subst (IsProperType arch) (sym h) tt
  source_proper s (kind.Period ms) h = subst (IsProperType arch) (sym h.0) tt
  source_proper s kind.Signal h = h

  good_sources : AllOf (λ s. IsGood s.message) arch.sources
  good_sources = zipped (λ s. HasItsMessage arch s s.kind) (λ s. IsFull (shape_in table s.message) × IsNarrow s.message) (λ s. IsGood s.message) (λ s h k. (source_proper s s.kind h, k.0, k.1)) arch.sources
      (each_of (λ s. HasItsMessage arch s s.kind) arch.sources safe.typed.sources)
      (zipped (IsNumberedSource arch) (λ s. IsNarrow s.message) (λ s. IsFull (shape_in table s.message) × IsNarrow s.message) (λ s n k. (full s.message n.message.0, k)) arch.sources (each_of (IsNumberedSource arch) arch.sources safe.numbered.sources) narrow_sources)

  good_channels : AllOf (λ c. IsGood c.message) arch.channels
  good_channels = zipped (λ c. IsProperType arch c.message) (λ c. IsFull (shape_in table c.message) × IsNarrow c.message) (λ c. IsGood c.message) (λ c h k. (h, k.0, k.1)) arch.channels
      (each_of (λ c. IsProperType arch c.message) arch.channels safe.typed.channels)
      (zipped (λ c. IsNumberedType (length arch.records) c.message) (λ c. IsNarrow c.message) (λ c. IsFull (shape_in table c.message) × IsNarrow c.message) (λ c n k. (full c.message n.0, k)) arch.channels (each_of (λ c. IsNumberedType (length arch.records) c.message) arch.channels safe.numbered.channels) narrow_channels)

  -- ---- what a message, a state and a name of a callback have

  pub good_message : (o : On) → IsGood (message_on arch o)
  good_message (on.Source s) = looked IsGood (λ x. x.message) arch.sources s (scalar I64) good_sources (tt, tt, omega arith)
  good_message (on.Channel c) = looked IsGood (λ x. x.message) arch.channels c (scalar I64) good_channels (tt, tt, omega arith)

  abbrev pub AreGood : Fields → Type 0
  AreGood fs = AllOf (λ f. IsGood f.1) fs

  good_fields : (fs : Fields) → AreProperFields arch fs → AreNumberedFields (length arch.records) fs → AllOf IsNarrow (types_of_fields fs) → AreGood fs
  good_fields fs proper numbered thin =
      zipped (λ f. IsProperType arch f.1) (λ f. IsFull (shape_in table f.1) × IsNarrow f.1) (λ f. IsGood f.1) (λ f h k. (h, k.0, k.1)) fs
      (each_of (λ f. IsProperType arch f.1) fs proper)
      (zipped (λ f. IsNumberedType (length arch.records) f.1) (λ f. IsNarrow f.1) (λ f. IsFull (shape_in table f.1) × IsNarrow f.1) (λ f n k. (full f.1 n.0, k)) fs (each_of (λ f. IsNumberedType (length arch.records) f.1) fs numbered.1) (map_all IsNarrow (λ f. f.1) fs thin))

  pub good_states : (m : ℕ) → AreGood (states_of arch m)
  good_states m = looked AreGood (λ x. x.states) arch.monitors m []
      (zipped (λ x. AreProperFields arch x.states) (λ x. AreNumberedFields (length arch.records) x.states × AllOf IsNarrow (types_of_fields x.states)) (λ x. AreGood x.states) (λ x p k. good_fields x.states p k.0 k.1) arch.monitors
      (each_of (λ x. AreProperFields arch x.states) arch.monitors safe.typed.monitors)
      (zipped (λ x. AreNumberedFields (length arch.records) x.states) (λ x. AllOf IsNarrow (types_of_fields x.states)) (λ x. AreNumberedFields (length arch.records) x.states × AllOf IsNarrow (types_of_fields x.states)) (λ x n k. (n, k)) arch.monitors
      (each_of (λ x. AreNumberedFields (length arch.records) x.states) arch.monitors safe.numbered.monitors)
      (parts IsNarrow (λ x. types_of_fields x.states) arch.monitors narrow_monitors)))
      tt

  good_bodies : (h : Handler) (bs : List Body) → AllOf (λ b. AreProperFields arch b.binders) bs → AllOf (IsNumberedBody arch h) bs → AllOf IsNarrow (each (λ b. types_of_fields b.binders) bs) → AllOf (λ b. AreGood b.binders) bs
  good_bodies h [] proper numbered thin = tt
  good_bodies h (b ∷ bs) proper numbered thin = (
    good_fields b.binders proper.0 numbered.0.binders (all_left IsNarrow (types_of_fields b.binders) (each (λ b. types_of_fields b.binders) bs) thin),
    good_bodies h bs proper.1 numbered.1 (all_right IsNarrow (types_of_fields b.binders) (each (λ b. types_of_fields b.binders) bs) thin),
  )

  abbrev pub HasGoodNames : Handler → Type 0
  HasGoodNames h = AllOf (λ b. AreGood b.binders) h.callbacks

  pub good_handlers : AllOf HasGoodNames arch.handlers
  good_handlers = zipped (IsTypedHandler arch) (λ h. IsNumberedHandler arch h × AllOf IsNarrow (bound_types h)) HasGoodNames
      (λ h t k. good_bodies h h.callbacks (each_of (λ b. AreProperFields arch b.binders) h.callbacks t.names) (each_of (IsNumberedBody arch h) h.callbacks k.0.callbacks) k.1) arch.handlers
      (each_of (IsTypedHandler arch) arch.handlers safe.typed.handlers)
      (zipped (IsNumberedHandler arch) (λ h. AllOf IsNarrow (bound_types h)) (λ h. IsNumberedHandler arch h × AllOf IsNarrow (bound_types h)) (λ h n k. (n, k)) arch.handlers
      (each_of (IsNumberedHandler arch) arch.handlers safe.numbered.handlers)
      (parts IsNarrow bound_types arch.handlers narrow_handlers))

  -- ---- no message is deep

  low_channels : AllOf (λ c. IsLow c.message) arch.channels
  low_channels = map_all IsLow (λ c. c.message) arch.channels (all_right IsLow of_sources of_channels (all_left IsLow (of_sources ++ of_channels) of_monitors (all_left IsLow (of_sources ++ of_channels ++ of_monitors) of_handlers low)))

  low_message : (o : On) → IsLow (message_on arch o)
  low_message (on.Source s) = looked IsLow (λ x. x.message) arch.sources s (scalar I64) low_sources (omega arith)
  low_message (on.Channel c) = looked IsLow (λ x. x.message) arch.channels c (scalar I64) low_channels (omega arith)

  names_wide : (bs : List Body) → AllOf (λ b. AreGood b.binders) bs → AllOf (λ b. AreWideFields arch b.binders) bs
  names_wide [] h = tt
  names_wide (b ∷ bs) h = (each_element (λ f. IsWideType arch f.1) b.binders h.0, names_wide bs h.1)

  handlers_wide : (hs : List Handler) → AllOf HasGoodNames hs → AllOf (λ h. All (λ b. AreWideFields arch b.binders) h.callbacks) hs
  handlers_wide [] h = tt
  handlers_wide (q ∷ hs) h = (each_element (λ b. AreWideFields arch b.binders) q.callbacks (names_wide q.callbacks h.0), handlers_wide hs h.1)

  pub wide_types : HasWideTypes arch
  wide_types = record {
    messages = good_message;
    states = λ m. each_element (λ f. IsWideType arch f.1) (states_of arch m) (good_states m);
    names = each_element (λ h. All (λ b. AreWideFields arch b.binders) h.callbacks) arch.handlers (handlers_wide arch.handlers good_handlers);
    shallow = low_message;
  }

  pub shallow_types : HasShallowTypes arch
  shallow_types = each_element (λ s. depth s ≤ 32) (shapes arch) (map_all (λ n. n ≤ 32) depth (shapes arch) (below_greatest (map depth (shapes arch)) 32 (safe.within what.Depth _ refl)))
