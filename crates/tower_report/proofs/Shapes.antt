-- The shapes of a record's fields, read over all records.
use Rattle.std.proofs.Common.{◌≡◌, ℕ, zero, suc, ◌+◌, ◌<◌, ◌≤◌, ℤ, List, [], ◌∷◌, ◌++◌, length, map, take, get_or, Some, slice_get, refl, ap, sym, subst, ◌∙◌, arith, append_assoc, append-nil}
use Rattle.std.specs.Prelude.{fold, All}
use Rattle.std.proofs.lemmas.List.{length-map, get_or-map, take_more, length-append, get_or_append_left, get_or_at}
use Rattle.std.proofs.lemmas.List.Elements.{All-get_or, All-head, All-tail, All-weaker}
use Rattle.std.proofs.lemmas.Option.{same_Some, none-some, slice_get_within}
use Rattle.tower_types.specs.Ty.{Ty, scalar, array, rec, Name, Fields, Records, NamesBelow, nesting, Shape, many, all, no_shapes, shapes_of, shape_in, shape_of, shape_of_fields, table_of, words, depth}
use Rattle.tower_types.specs.Records.{IsTypeAmong, AreOrdered}
use Rattle.tower_types.specs.View.{ty_of, ty_step, fields_of, value_of, all_values_of}
use Rattle.tower_types.specs.declared.value.Value.{Value as ValueValue}
use Rattle.tower_types.specs.declared.ty.Ty.{Ty as TyValue}
use Rattle.tower_types.specs.declared.ty.Ty.TheVariants as value
use Rattle.tower_types.specs.declared.ty.Ty.TheVariants.{Array, Rec}
use Rattle.tower_types.specs.declared.ty.Ty.TheOpen.{Ty-F}
use Rattle.tower_types.specs.declared.ty.Ty.TheFolds.{fold-roll-Ty}
use Rattle.tower_report.specs.Bytes.{Bytes, in_brackets}
use Rattle.tower_report.specs.ValueText.{shapes_in, shapes_depth, shapes_words, words_text, texts_of_words, cut, value_text, texts_of_values, each_text, parts_of}

-- ---- types

nesting_within : (table : List Shape) (t : Ty) → nesting t ≤ depth (shape_in table t)
nesting_within table (scalar s) = omega arith
nesting_within table (array n t) = omega (arith, nesting_within table t)
nesting_within table (rec r) = omega arith

-- a type that is no deeper than may be printed
pub is_among : (records : Records) (t : Ty) → NamesBelow (length records) t → depth (shape_of records t) ≤ 32 → IsTypeAmong (length records) t
is_among records t known shallow = (known, omega (arith, nesting_within (table_of records) t))

below_more : (m n : ℕ) (t : Ty) → m ≤ n → NamesBelow m t → NamesBelow n t
below_more m n (scalar s) h known = tt
below_more m n (array len t) h known = below_more m n t h known
below_more m n (rec r) h known = omega arith

-- ---- the table of the records' shapes

abbrev AllBelow : ℕ → Fields → Type 0
AllBelow n fields = All (λ f. NamesBelow n f.1) fields

abbrev next_table : List Shape → Fields → List Shape
next_table table fields = table ++ shape_of_fields table fields ∷ []

-- the table grows at its end
table_grows : (records : Records) (table : List Shape) → (more : List Shape) × (fold next_table table records ≡ table ++ more)
table_grows [] table = ([], sym (append-nil table))
table_grows (fields ∷ records) table =
    let rest = table_grows records (next_table table fields) in
    (shape_of_fields table fields ∷ rest.0, rest.1 ∙ append_assoc table (shape_of_fields table fields ∷ []) rest.0)

-- what a type names keeps its shape
shape_stays : (table more : List Shape) (n : ℕ) (t : Ty) → n ≤ length table → NamesBelow n t → shape_in (table ++ more) t ≡ shape_in table t
shape_stays table more n (scalar s) h known = refl
shape_stays table more n (array len t) h known = ap (many len) (shape_stays table more n t h known)
shape_stays table more n (rec r) h known = get_or_append_left table more (all no_shapes) r (omega arith)

fields_stay : (table more : List Shape) (n : ℕ) (fields : Fields) → n ≤ length table → AllBelow n fields → map (λ f. shape_in (table ++ more) f.1) fields ≡ map (λ f. shape_in table f.1) fields
fields_stay table more n [] h known = refl
fields_stay table more n (f ∷ fs) h known =
    let P : Name × Ty → Type 0 = λ g. NamesBelow n g.1 in
    let first : shape_in (table ++ more) f.1 ≡ shape_in table f.1 = shape_stays table more n f.1 h (All-head P f fs known) in
    let rest : map (λ g. shape_in (table ++ more) g.1) fs ≡ map (λ g. shape_in table g.1) fs = fields_stay table more n fs h (All-tail P f fs known) in
    cc

-- each record names what stands before it, which is in the table
table_at : (records : Records) (table : List Shape) (r : ℕ) (fields : Fields) → ((k : ℕ) (x : Fields) → slice_get records k ≡ Some x → AllBelow (length table + k) x) → slice_get records r ≡ Some fields → get_or (fold next_table table records) (length table + r) (all no_shapes) ≡ shape_of_fields (fold next_table table records) fields
table_at [] table r fields ordered e = absurd (none-some fields e)
table_at (x ∷ xs) table zero fields ordered e =
    let rest = table_grows xs (next_table table x) in
    let grown : fold next_table table (x ∷ xs) ≡ table ++ (shape_of_fields table x ∷ rest.0) = rest.1 ∙ append_assoc table (shape_of_fields table x ∷ []) rest.0 in
    let here : get_or (fold next_table table (x ∷ xs)) (length table + 0) (all no_shapes) ≡ shape_of_fields table x =
    ap (λ t. get_or t (length table + 0) (all no_shapes)) grown ∙ get_or_at table (shape_of_fields table x) rest.0 (all no_shapes) (length table + 0) (omega arith) in
    let stays : shape_of_fields (table ++ (shape_of_fields table x ∷ rest.0)) x ≡ shape_of_fields table x =
    ap (λ ss. all (shapes_of ss)) (fields_stay table (shape_of_fields table x ∷ rest.0) (length table + 0) x (omega arith) (ordered 0 x refl)) in
    here ∙ sym stays ∙ ap (λ t. shape_of_fields t x) (sym grown) ∙ ap (shape_of_fields (fold next_table table (x ∷ xs))) (same_Some x fields e)
table_at (x ∷ xs) table (suc r) fields ordered e =
    let more : length (next_table table x) ≡ length table + 1 = length-append table (shape_of_fields table x ∷ []) in
    let P : ℕ → Fields → Type 0 = λ n fs. AllBelow n fs in
    let later : (k : ℕ) (y : Fields) → slice_get xs k ≡ Some y → AllBelow (length (next_table table x) + k) y =
    λ k y at. let same : length table + suc k ≡ length (next_table table x) + k = omega arith in subst (λ n. P n y) same (ordered (suc k) y at) in
    let place : length table + suc r ≡ length (next_table table x) + r = omega arith in
    ap (λ n. get_or (fold next_table table (x ∷ xs)) n (all no_shapes)) place ∙ table_at xs (next_table table x) r fields later e

names_below : (n : ℕ) (fields : Fields) → All (λ f. IsTypeAmong n f.1) fields → AllBelow n fields
names_below n fields known = All-weaker (λ f. IsTypeAmong n f.1) (λ f. NamesBelow n f.1) (λ f h. h.0) fields known

-- a record's shape is that of its fields
pub record_shape : (records : Records) (r : ℕ) (fields : Fields) → AreOrdered records → slice_get records r ≡ Some fields → shape_of records (rec r) ≡ all (shapes_of (shapes_in records fields))
record_shape records r fields ordered e =
    let at_zero : 0 + r ≡ r = omega arith in
    ap (λ n. get_or (table_of records) n (all no_shapes)) (sym at_zero) ∙ table_at records [] r fields (λ k x at. let same : k ≡ 0 + k = omega arith in subst (λ n. AllBelow n x) same (names_below k x (ordered k x at))) e

-- a record's fields name records that exist
pub record_known : (records : Records) (r : ℕ) (fields : Fields) → AreOrdered records → slice_get records r ≡ Some fields → All (λ f. NamesBelow (length records) f.1) fields
record_known records r fields ordered e =
    let h : r < length records = slice_get_within records r fields e in
    All-weaker (λ f. NamesBelow r f.1) (λ f. NamesBelow (length records) f.1) (λ f known. below_more r (length records) f.1 (omega arith) known) fields (names_below r fields (ordered r fields e))

-- ---- sums and bounds over shapes

words_push : (ss : List Shape) (s : Shape) → shapes_words (ss ++ s ∷ []) ≡ shapes_words ss + words s
words_push [] s = omega arith
words_push (t ∷ ts) s = omega (arith, words_push ts s)

pub words_more : (ss : List Shape) (i : ℕ) (s : Shape) → i < length ss → get_or ss i s ≡ s → shapes_words (take (i + 1) ss) ≡ shapes_words (take i ss) + words s
words_more ss i s h at = ap shapes_words (take_more ss i s h) ∙ words_push (take i ss) (get_or ss i s) ∙ ap (λ t. shapes_words (take i ss) + words t) at

pub words_part : (n : ℕ) (ss : List Shape) → shapes_words (take n ss) ≤ shapes_words ss
words_part zero ss = omega arith
words_part (suc n) [] = omega arith
words_part (suc n) (s ∷ ss) = omega (arith, words_part n ss)

depth_part : (ss : List Shape) (i : ℕ) (d : Shape) → i < length ss → depth (get_or ss i d) ≤ shapes_depth ss
depth_part [] i d h = absurd (omega arith)
depth_part (s ∷ ss) zero d h = omega arith
depth_part (s ∷ ss) (suc i) d h = omega (arith, depth_part ss i d (omega arith))

-- ---- the field that a loop is at

abbrev seen : Name × TyValue → Name × Ty
seen f = (f.0, ty_of f.1)

pub fields_count : (fields : List (Name × TyValue)) → length (fields_of fields) ≡ length fields
fields_count fields = length-map fields seen

pub shapes_length : (records : Records) (fields : List (Name × TyValue)) → length (shapes_in records (fields_of fields)) ≡ length fields
shapes_length records fields = length-map (fields_of fields) (λ f. shape_of records f.1) ∙ length-map fields seen

-- a field of a record, as one of its shapes
pub record IsAtField (records : Records) (fields : List (Name × TyValue)) (i : ℕ) (x : Name × TyValue) : Type 0 where
  pub known : NamesBelow (length records) (ty_of x.1)
  pub within : i < length (shapes_in records (fields_of fields))
  pub here : get_or (fields_of fields) i (x.0, ty_of x.1) ≡ (x.0, ty_of x.1)
  pub shape : get_or (shapes_in records (fields_of fields)) i (shape_of records (ty_of x.1)) ≡ shape_of records (ty_of x.1)
  pub shallow : depth (shape_of records (ty_of x.1)) ≤ shapes_depth (shapes_in records (fields_of fields))

pub at_field : (records : Records) (fields : List (Name × TyValue)) (i : ℕ) (x : Name × TyValue) → All (λ f. NamesBelow (length records) f.1) (fields_of fields) → i < length fields → x ≡ get_or fields i x → IsAtField records fields i x
at_field records fields i x known h at =
    let inside : i < length (map seen fields) = omega (arith, length-map fields seen) in
    let within : i < length (shapes_in records (fields_of fields)) = omega (arith, shapes_length records fields) in
    let P : Name × Ty → Type 0 = λ f. NamesBelow (length records) f.1 in
    let here : get_or (map seen fields) i (seen x) ≡ seen x = get_or-map seen fields i x (seen x) h ∙ ap seen (sym at) in
    let shape : get_or (shapes_in records (fields_of fields)) i (shape_of records (ty_of x.1)) ≡ shape_of records (ty_of x.1) =
    get_or-map (λ f. shape_of records f.1) (map seen fields) i (seen x) (shape_of records (ty_of x.1)) inside ∙ ap (λ f. shape_of records f.1) here in
    let Q : Shape → Type 0 = λ s. depth s ≤ shapes_depth (shapes_in records (fields_of fields)) in
    record {
      known = subst P here (All-get_or P (map seen fields) i (seen x) inside known);
      within = within;
      here = here;
      shape = shape;
      shallow = subst Q shape (depth_part (shapes_in records (fields_of fields)) i (shape_of records (ty_of x.1)) within);
    }

-- ---- arrays and records

ty_of-Array : (len : ℕ) (element : TyValue) → ty_of (Array len element) ≡ array len (ty_of element)
ty_of-Array len element = ap ty_of (sym (value.rolls-Array len element)) ∙ fold-roll-Ty Ty ty_step (Ty-F.Array len element)

ty_of-Rec : (r : ℕ) → ty_of (Rec r) ≡ rec r
ty_of-Rec r = ap ty_of (sym (value.rolls-Rec r)) ∙ fold-roll-Ty Ty ty_step (Ty-F.Rec r)

pub array_shape_of : (records : Records) (t : TyValue) (len : ℕ) (element : TyValue) → t ≡ Array len element → shape_of records (ty_of t) ≡ many len (shape_of records (ty_of element))
array_shape_of records t len element is = ap (shape_of records) (ap ty_of is ∙ ty_of-Array len element)

pub record_shape_of : (records : Records) (t : TyValue) (r : ℕ) (fields : Fields) → AreOrdered records → slice_get records r ≡ Some fields → t ≡ Rec r → shape_of records (ty_of t) ≡ all (shapes_of (shapes_in records fields))
record_shape_of records t r fields ordered at is = ap (shape_of records) (ap ty_of is ∙ ty_of-Rec r) ∙ record_shape records r fields ordered at

-- ---- the texts of their parts

abbrev pub element_texts : Records → TyValue → ℕ → List ℤ → List Bytes
element_texts records element len ws =
    let s = shape_of records (ty_of element) in map (words_text s) (cut len (words s) ws)

abbrev pub field_texts : Records → Fields → List ℤ → List Bytes
field_texts records fields ws = texts_of_words (shapes_of (shapes_in records fields)) ws

pub array_text : (records : Records) (t : TyValue) (len : ℕ) (element : TyValue) (ws : List ℤ) → t ≡ Array len element → in_brackets (element_texts records element len ws) ≡ words_text (shape_of records (ty_of t)) ws
array_text records t len element ws is = ap (λ s. words_text s ws) (sym (array_shape_of records t len element is))

pub record_text : (records : Records) (t : TyValue) (r : ℕ) (fields : Fields) (ws : List ℤ) → AreOrdered records → slice_get records r ≡ Some fields → t ≡ Rec r → in_brackets (field_texts records fields ws) ≡ words_text (shape_of records (ty_of t)) ws
record_text records t r fields ws ordered at is = ap (λ s. words_text s ws) (sym (record_shape_of records t r fields ordered at is))

abbrev pub element_value_texts : Records → TyValue → List ValueValue → List Bytes
element_value_texts records element vs = each_text (value_text (shape_of records (ty_of element))) (all_values_of vs)

abbrev pub field_value_texts : Records → Fields → List ValueValue → List Bytes
field_value_texts records fields vs = texts_of_values (shapes_of (shapes_in records fields)) (all_values_of vs)

pub array_value_text : (records : Records) (t : TyValue) (len : ℕ) (element : TyValue) (v : ValueValue) (vs : List ValueValue) → t ≡ Array len element → all_values_of vs ≡ parts_of (value_of v) → in_brackets (element_value_texts records element vs) ≡ value_text (shape_of records (ty_of t)) (value_of v)
array_value_text records t len element v vs is parts =
    ap (λ ps. in_brackets (each_text (value_text (shape_of records (ty_of element))) ps)) parts ∙ ap (λ s. value_text s (value_of v)) (sym (array_shape_of records t len element is))

pub record_value_text : (records : Records) (t : TyValue) (r : ℕ) (fields : Fields) (v : ValueValue) (vs : List ValueValue) → AreOrdered records → slice_get records r ≡ Some fields → t ≡ Rec r → all_values_of vs ≡ parts_of (value_of v) → in_brackets (field_value_texts records fields vs) ≡ value_text (shape_of records (ty_of t)) (value_of v)
record_value_text records t r fields v vs ordered at is parts =
    ap (λ ps. in_brackets (texts_of_values (shapes_of (shapes_in records fields)) ps)) parts ∙ ap (λ s. value_text s (value_of v)) (sym (record_shape_of records t r fields ordered at is))
