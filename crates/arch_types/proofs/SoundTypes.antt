-- A type that a file declares, in the checked tree: what it names and how deep it is, and that its shape is proper.
use Rattle.std.proofs.Common.{◌≡◌, ℕ, zero, suc, ◌+◌, ◌^◌, ◌<◌, ◌≤◌, [], ◌∷◌, length, map, get_or, slice_get, Some, All, refl, ap, sym, subst, arith}
use Rattle.std.proofs.lemmas.List.Elements.{All-head, All-tail, All-weaker}
use Rattle.std.proofs.lemmas.Option.{slice_get-get_or}
use Rattle.tower_types.specs.declared.scalar.Scalar.{Scalar}
use Rattle.tower_types.specs.declared.scalar.Scalar.TheVariants as is
use Rattle.tower_types.specs.Ty.{Ty, Fields, Records, scalar, array, rec, NamesBelow, nesting, Shape, shape_in, shapes_of, table_of}
use Rattle.tower_types.specs.Records.{IsTypeAmong, AreOrdered}
use Rattle.tower_types.proofs.Shapes.{shape_of-rec}
use Rattle.tower_syntax.specs.declared.named.Target.{Target}
use Rattle.tower_syntax.specs.declared.named.Target.TheVariants as target
use Rattle.tower_syntax.specs.RawTree.{Link, RawType, word, rec as rec_form, array as array_form}
use Rattle.tower_syntax.specs.WellNumbered.{type_height, IsNumberedType, AreNumberedFields}
use Rattle.tower_syntax.specs.Typed.{IsProperScalar, IsProper, AreProper}
use Rattle.arch_types.specs.Typing.{record_number, type_of}
use Rattle.arch_types.specs.Numbered.{IsIndexRange, NamesRecord, IsWrittenType, type_nesting, IsDeclaredType}

pub range_proper : (s : Scalar) → IsIndexRange s → IsProperScalar s
range_proper (is.Ix n) h = h
range_proper is.Bool h = tt
range_proper is.U8 h = tt
range_proper is.U16 h = tt
range_proper is.U32 h = tt
range_proper is.U64 h = tt
range_proper is.I8 h = tt
range_proper is.I16 h = tt
range_proper is.I32 h = tt
range_proper is.I64 h = tt

-- it names records below n, and its numbers are in their ranges
abbrev pub Written : ℕ → Ty → Type 0
Written n (scalar s) = IsProperScalar s
Written n (array len t) = (0 < len) × (len ≤ 4096) × Written n t
Written n (rec r) = r < n

pub record Declared (n : ℕ) (t : Ty) : Type 0 where
  pub written : Written n t
  pub low : type_height t ≤ 256

record_below : (n : ℕ) (x : Target) → NamesRecord n x → record_number x < n
record_below n (target.Record r) h = h
record_below n target.Param h = absurd h
record_below n (target.Binder b) h = absurd h
record_below n (target.State k) h = absurd h
record_below n (target.Source s) h = absurd h
record_below n (target.Channel c) h = absurd h
record_below n (target.Emitter k) h = absurd h

written : (n : ℕ) (u : RawType Link) → IsWrittenType n u → Written n (type_of u)
written n (word at s) h = range_proper s h
written n (rec_form u) h = record_below n u.target h
written n (array_form at len u) h = (h.0, h.1, written n u h.2)

high : (u : RawType Link) → type_height (type_of u) ≡ type_nesting u
high (word at s) = refl
high (rec_form u) = refl
high (array_form at len u) = ap (λ n. n + 1) (high u)

pub declared : (n : ℕ) (u : RawType Link) → IsDeclaredType n u → Declared n (type_of u)
declared n u h = record { written = written n u h.0; low = let e = high u in omega (arith, h.1) }

named : (n : ℕ) (t : Ty) → Written n t → NamesBelow n t
named n (scalar s) h = tt
named n (array len t) h = named n t h.2
named n (rec r) h = h

nested : (t : Ty) → type_height t ≡ nesting t + 1
nested (scalar s) = omega arith
nested (array len t) = ap (λ n. n + 1) (nested t)
nested (rec r) = omega arith

more : (m n : ℕ) (t : Ty) → m ≤ n → Written m t → Written n t
more m n (scalar s) le h = h
more m n (array len t) le h = (h.0, h.1, more m n t le h.2)
more m n (rec r) le h = omega arith

pub declared_more : (m n : ℕ) (t : Ty) → m ≤ n → Declared m t → Declared n t
declared_more m n t le h = record { written = more m n t le h.written; low = h.low }

pub element_declared : (n len : ℕ) (t : Ty) → Declared n (array len t) → Declared n t
element_declared n len t h = record { written = h.written.2; low = let l = h.low in omega arith }

pub numbered_type : (n : ℕ) (t : Ty) → Declared n t → IsNumberedType n t
numbered_type n t h = (named n t h.written, h.low)

pub among : (n : ℕ) (t : Ty) → Declared n t → IsTypeAmong n t
among n t h = (named n t h.written, let e = nested t in let l = h.low in omega arith)

abbrev pub AreDeclared : ℕ → Fields → Type 0
AreDeclared n fields = All (λ f. Declared n f.1) fields

pub numbered_fields : (n : ℕ) (fields : Fields) → length fields ≤ 2 ^ 32 → AreDeclared n fields → AreNumberedFields n fields
numbered_fields n fields few h = (few, All-weaker (λ f. Declared n f.1) (λ f. IsNumberedType n f.1) (λ f. numbered_type n f.1) fields h)

-- each record names earlier ones only
pub record AreFormed (records : Records) : Type 0 where
  pub declared : (r : ℕ) (fields : Fields) → slice_get records r ≡ Some fields → AreDeclared r fields
  pub few : (r : ℕ) (fields : Fields) → slice_get records r ≡ Some fields → length fields ≤ 2 ^ 32

pub ordered : (records : Records) → AreFormed records → AreOrdered records
ordered records h r fields e = All-weaker (λ f. Declared r f.1) (λ f. IsTypeAmong r f.1) (λ f. among r f.1) fields (h.declared r fields e)

pub records_numbered : (records : Records) → AreFormed records → All (AreNumberedFields (length records)) records
records_numbered records h r d within =
    let e = slice_get-get_or records r d within in
    let fields = get_or records r d in
    numbered_fields (length records) fields (h.few r fields e)
    (All-weaker (λ f. Declared r f.1) (λ f. Declared (length records) f.1) (λ f. declared_more r (length records) f.1 (omega arith)) fields (h.declared r fields e))

module _ (records : Records) where
  abbrev pub shaped : Ty → Shape
  shaped t = shape_in (table_of records) t

  abbrev ProperBelow : ℕ → Type 0
  ProperBelow n = (r : ℕ) → r < n → IsProper (shaped (rec r))

  proper_below : (n : ℕ) (t : Ty) → ProperBelow n → Written n t → IsProper (shaped t)
  proper_below n (scalar s) below h = h
  proper_below n (array len t) below h = (h.0, h.1, proper_below n t below h.2)
  proper_below n (rec r) below h = below r h

  all_proper : (n : ℕ) (fields : Fields) → ProperBelow n → AreDeclared n fields → AreProper (shapes_of (map (λ f. shaped f.1) fields))
  all_proper n [] below h = tt
  all_proper n (f ∷ fs) below h =
      (proper_below n f.1 below (All-head (λ g. Declared n g.1) f fs h).written, all_proper n fs below (All-tail (λ g. Declared n g.1) f fs h))

  -- the records below n of those that there are
  records_proper : (n : ℕ) → AreFormed records → n ≤ length records → ProperBelow n
  records_proper zero h le r lt = absurd (omega arith)
  records_proper (suc n) h le r lt =
      let fields = get_or records r [] in
      let e = slice_get-get_or records r [] (omega arith) in
      let before : ProperBelow r = λ q below. records_proper n h (omega arith) q (omega arith) in
      subst IsProper (sym (shape_of-rec records r fields (ordered records h) e)) (all_proper r fields before (h.declared r fields e))

  pub proper : AreFormed records → (t : Ty) → Declared (length records) t → IsProper (shaped t)
  proper h t d = proper_below (length records) t (records_proper (length records) h (omega arith)) d.written
