-- The shape of a record is that of its fields, over all records.
use Rattle.std.proofs.Common.{◌≡◌, ℕ, zero, suc, ◌+◌, ◌<◌, ◌≤◌, List, [], ◌∷◌, ◌++◌, length, map, fold, take, drop, get_or, slice_get, Some, All, refl, ap, sym, ◌∙◌, arith}
use Rattle.std.proofs.lemmas.List.{length-append, get_or_append_left, take-append-drop, length-take-le}
use Rattle.std.proofs.Math.Seq.{get_or-append_seam}
use Rattle.std.proofs.lemmas.List.Sums.{fold-append}
use Rattle.std.proofs.lemmas.Option.{same_Some, none-some, slice_get_within}
use Rattle.tower_types.specs.Ty.{Ty, scalar, array, rec, Fields, Records, Shape, all, many, no_shapes, shape, shapes_of, shape_in, shape_of, shape_of_fields, table_of, NamesBelow}
use Rattle.tower_types.specs.Records.{IsTypeAmong, AreOrdered}

-- a type that names records below m names records below n
pub among_more : (m n : ℕ) (t : Ty) → m ≤ n → IsTypeAmong m t → IsTypeAmong n t
among_more m n t le h = (named m n t le h.0, h.1)
  where
    named : (m n : ℕ) (t : Ty) → m ≤ n → NamesBelow m t → NamesBelow n t
    named m n (scalar s) le h = tt
    named m n (array k t) le h = named m n t le h
    named m n (rec r) le h = omega arith

pub all_among_more : (m n : ℕ) (fields : Fields) → m ≤ n → All (λ f. IsTypeAmong m f.1) fields → All (λ f. IsTypeAmong n f.1) fields
all_among_more m n fields le h k d within = among_more m n (get_or fields k d).1 le (h k d within)

-- the table with the shape of one more record
abbrev grown : List Shape → Fields → List Shape
grown table fields = table ++ shape_of_fields table fields ∷ []

grown_keeps : (records : Records) (table : List Shape) (r : ℕ) (d : Shape) → r < length table → get_or (fold grown table records) r d ≡ get_or table r d
grown_keeps [] table r d h = refl
grown_keeps (x ∷ xs) table r d h =
    let more : r < length (grown table x) = omega (arith, length-append table (shape_of_fields table x ∷ [])) in
    grown_keeps xs (grown table x) r d more ∙ get_or_append_left table (shape_of_fields table x ∷ []) d r h

grown_length : (records : Records) (table : List Shape) → length (fold grown table records) ≡ length table + length records
grown_length [] table = omega arith
grown_length (x ∷ xs) table =
    omega (arith, grown_length xs (grown table x), length-append table (shape_of_fields table x ∷ []))

grown_at : (records : Records) (table : List Shape) (r : ℕ) (fields : Fields) (d : Shape) → slice_get records r ≡ Some fields → get_or (fold grown table records) (length table + r) d ≡ shape_of_fields (fold grown table (take r records)) fields
grown_at [] table r fields d e = absurd (none-some fields e)
grown_at (x ∷ xs) table zero fields d e =
    let here : length table + 0 ≡ length table = omega arith in
    let more : length table < length (grown table x) = omega (arith, length-append table (shape_of_fields table x ∷ [])) in
    ap (λ n. get_or (fold grown (grown table x) xs) n d) here ∙ grown_keeps xs (grown table x) (length table) d more ∙ get_or-append_seam table (shape_of_fields table x) [] d ∙ ap (shape_of_fields table) (same_Some x fields e)
grown_at (x ∷ xs) table (suc r) fields d e =
    let there : length table + suc r ≡ length (grown table x) + r = omega (arith, length-append table (shape_of_fields table x ∷ [])) in
    ap (λ n. get_or (fold grown (grown table x) xs) n d) there ∙ grown_at xs (grown table x) r fields d e

-- a type that names records below r has the same shape over the first r records as over all
shape_early : (records : Records) (r : ℕ) (t : Ty) → r ≤ length records → NamesBelow r t → shape_in (table_of (take r records)) t ≡ shape_in (table_of records) t
shape_early records r (scalar s) le h = refl
shape_early records r (array n t) le h = ap (many n) (shape_early records r t le h)
shape_early records r (rec q) le h =
    let early = take r records in
    let inside : q < length (table_of early) = omega (arith, grown_length early [], length-take-le r records le) in
    let whole : table_of records ≡ fold grown (table_of early) (drop r records) = ap table_of (sym (take-append-drop r records)) ∙ fold-append grown [] early (drop r records) in
    sym (ap (λ t. get_or t q (all no_shapes)) whole ∙ grown_keeps (drop r records) (table_of early) q (all no_shapes) inside)

-- the fields, one after the other
abbrev AllHere : ℕ → Fields → Type 0
AllHere r [] = Unit {0}
AllHere r (f ∷ fs) = NamesBelow r f.1 × AllHere r fs

all_here : (r : ℕ) (fields : Fields) → All (λ f. IsTypeAmong r f.1) fields → AllHere r fields
all_here r [] h = tt
all_here r (f ∷ fs) h =
    ((h 0 f (omega arith)).0, all_here r fs (λ k d le. h (suc k) d (omega arith)))

fields_early : (records : Records) (r : ℕ) (fields : Fields) → r ≤ length records → AllHere r fields → shapes_of (map (λ f. shape_in (table_of (take r records)) f.1) fields) ≡ shapes_of (map (λ f. shape_in (table_of records) f.1) fields)
fields_early records r [] le h = refl
fields_early records r (f ∷ fs) le h =
    ap (λ s. shape s (shapes_of (map (λ g. shape_in (table_of (take r records)) g.1) fs))) (shape_early records r f.1 le h.0) ∙ ap (shape (shape_in (table_of records) f.1)) (fields_early records r fs le h.1)

pub shape_of-rec : (records : Records) (r : ℕ) (fields : Fields) → AreOrdered records → slice_get records r ≡ Some fields → shape_of records (rec r) ≡ shape_of_fields (table_of records) fields
shape_of-rec records r fields ordered e =
    let le : r ≤ length records = omega (arith, slice_get_within records r fields e) in
    let here : r ≡ 0 + r = omega arith in
    ap (λ n. get_or (table_of records) n (all no_shapes)) here ∙ grown_at records [] r fields (all no_shapes) e ∙ ap all (fields_early records r fields le (all_here r fields (ordered r fields e)))
