-- What is kept of records is what their shapes say.
use Rattle.std.proofs.Common.{◌≡◌, ℕ, zero, suc, ◌+◌, ◌^◌, ◌<◌, max, List, [], ◌∷◌, ◌++◌, length, map, take, get_or, All, Some, slice_get, arith, ap, sym, subst, ◌∙◌}
use Rattle.std.proofs.lemmas.List.{get_or-map, length-map, take_more, map-append, length-append}
use Rattle.std.proofs.lemmas.List.Elements.{All-get_or}
use Rattle.std.proofs.lemmas.List.Sums.{fold-append}
use Rattle.std.proofs.lemmas.Option.{same_Some, none-some, slice_get-get_or}
use Rattle.std.proofs.Math.ListN.{get_or-map as get_or-map_same}
use Rattle.tower_types.specs.declared.records.Record.{Record}
use Rattle.tower_types.specs.declared.ty.Ty.{Ty as TyValue}
use Rattle.tower_types.specs.Ty.{Ty, rec, Name, Fields, Records, Shape, all, no_shapes, shapes_of, shape_in, shape_of, shape_of_fields, table_of, words, depth, depth_of_all}
use Rattle.tower_types.specs.View.{ty_of, fields_of}
use Rattle.tower_types.specs.Records.{IsTypeAmong, AreOrdered, saturated, records_of, IsKept}

-- two lists that show the same numbers show the same at each place
number_at : (f : Record → ℕ) (g : Shape → ℕ) (kept : List Record) (table : List Shape) (r : ℕ) (x : Record) (s : Shape) → map f kept ≡ map g table → r < length kept → f (get_or kept r x) ≡ g (get_or table r s)
number_at f g kept table r x s e h =
    let same : length kept ≡ length table = sym (length-map kept f) ∙ ap length e ∙ length-map table g in
    sym (get_or-map f kept r x (g s) h) ∙ ap (λ ns. get_or ns r (g s)) e ∙ get_or-map g table r s (g s) (omega arith)

within : (kept : List Record) (now : Records) (r : ℕ) → records_of kept ≡ now → r < length now → r < length kept
within kept now r e h = let same : length kept ≡ length now = sym (length-map kept _) ∙ ap length e in omega arith

pub kept_words : (kept seen : List Record) (now : Records) (r : ℕ) (x : Record) → records_of kept ≡ now → seen ≡ kept → IsKept kept → r < length now → (get_or seen r x).words ≡ saturated (words (shape_of now (rec r)))
kept_words kept seen now r x shown same k h =
    let P : Records → Type 0 = λ rs. (get_or kept r x).words ≡ saturated (words (shape_of rs (rec r))) in
    ap (λ l. (get_or l r x).words) same ∙ subst P shown (number_at (λ a. a.words) (λ s. saturated (words s)) kept _ r x (all no_shapes) k.words (within kept now r shown h))

pub kept_depth : (kept seen : List Record) (now : Records) (r : ℕ) (x : Record) → records_of kept ≡ now → seen ≡ kept → IsKept kept → r < length now → (get_or seen r x).depth ≡ saturated (depth (shape_of now (rec r)))
kept_depth kept seen now r x shown same k h =
    let P : Records → Type 0 = λ rs. (get_or kept r x).depth ≡ saturated (depth (shape_of rs (rec r))) in
    ap (λ l. (get_or l r x).depth) same ∙ subst P shown (number_at (λ a. a.depth) (λ s. saturated (depth s)) kept _ r x (all no_shapes) k.depth (within kept now r shown h))

-- a record as it is kept: its fields, that they name earlier records, and its shape
pub kept_at : (kept seen : List Record) (now : Records) (r : ℕ) (x : Record) → records_of kept ≡ now → seen ≡ kept → IsKept kept → r < length now → (AreOrdered now) × (slice_get now r ≡ Some (fields_of (get_or seen r x).fields))
kept_at kept seen now r x shown same k h =
    let P : Records → Type 0 = λ rs. AreOrdered rs in
    let f : Record → Fields = λ a. fields_of a.fields in
    let here = slice_get-get_or (map f kept) r (f x) (omega (arith, ap length shown)) ∙ ap Some (get_or-map_same f kept r x) in
    (subst P shown k.ordered, ap (λ rs. slice_get rs r) (sym shown) ∙ here ∙ ap (λ l. Some (f (get_or l r x))) (sym same))

-- one more field: its words are added, and its depth is compared
words_push : (table : List Shape) (fields : List (Name × TyValue)) (f : Name × TyValue) → words (shape_of_fields table (fields_of (fields ++ f ∷ []))) ≡ words (shape_of_fields table (fields_of fields)) + words (shape_in table (ty_of f.1))
words_push table [] f = omega arith
words_push table (g ∷ gs) f = omega (arith, words_push table gs f)

abbrev pub depths_of : List Shape → List (Name × TyValue) → ℕ
depths_of table fields = depth_of_all (shapes_of (map (λ f. shape_in table f.1) (fields_of fields)))

depths_push : (table : List Shape) (fields : List (Name × TyValue)) (f : Name × TyValue) → depths_of table (fields ++ f ∷ []) ≡ max (depths_of table fields) (depth (shape_in table (ty_of f.1)))
depths_push table [] f = omega arith
depths_push table (g ∷ gs) f = omega (arith, depths_push table gs f)

-- the field that a loop is at: its type is known, and what is counted up to it
pub type_at : (n : ℕ) (fields : List (Name × TyValue)) (i : ℕ) (x : Name × TyValue) → All (λ f. IsTypeAmong n f.1) (fields_of fields) → i < length fields → x ≡ get_or fields i x → IsTypeAmong n (ty_of x.1)
type_at n fields i x known h at =
    let seen : Name × TyValue → Name × Ty = λ f. (f.0, ty_of f.1) in
    let here : i < length (map seen fields) = omega (arith, length-map fields seen) in
    let P : Name × Ty → Type 0 = λ f. IsTypeAmong n f.1 in
    subst P (get_or-map seen fields i x (seen x) h ∙ ap seen (sym at)) (All-get_or P (map seen fields) i (seen x) here known)

pub words_more : (table : List Shape) (fields : List (Name × TyValue)) (i : ℕ) (x : Name × TyValue) → i < length fields → x ≡ get_or fields i x → words (shape_of_fields table (fields_of (take (i + 1) fields))) ≡ words (shape_of_fields table (fields_of (take i fields))) + words (shape_in table (ty_of x.1))
words_more table fields i x h at =
    ap (λ fs. words (shape_of_fields table (fields_of fs))) (take_more fields i x h) ∙ words_push table (take i fields) (get_or fields i x) ∙ ap (λ f. words (shape_of_fields table (fields_of (take i fields))) + words (shape_in table (ty_of f.1))) (sym at)

pub depths_more : (table : List Shape) (fields : List (Name × TyValue)) (i : ℕ) (x : Name × TyValue) → i < length fields → x ≡ get_or fields i x → depths_of table (take (i + 1) fields) ≡ max (depths_of table (take i fields)) (depth (shape_in table (ty_of x.1)))
depths_more table fields i x h at =
    ap (depths_of table) (take_more fields i x h) ∙ depths_push table (take i fields) (get_or fields i x) ∙ ap (λ f. max (depths_of table (take i fields)) (depth (shape_in table (ty_of f.1)))) (sym at)

-- what holds of each place of a list and of one more element holds of each place with it
each_pushed : (P : ℕ → Fields → Type 0) (records : Records) (last : Fields) → ((r : ℕ) (x : Fields) → slice_get records r ≡ Some x → P r x) → P (length records) last → (r : ℕ) (x : Fields) → slice_get (records ++ last ∷ []) r ≡ Some x → P r x
each_pushed P [] last each end zero x e = let Q : Fields → Type 0 = λ y. P 0 y in subst Q (same_Some last x e) end
each_pushed P [] last each end (suc r) x e = absurd (none-some x e)
each_pushed P (y ∷ ys) last each end zero x e = each 0 x e
each_pushed P (y ∷ ys) last each end (suc r) x e = each_pushed (λ n z. P (suc n) z) ys last (λ n z. each (suc n) z) end r x e

table_pushed : (records : Records) (last : Fields) → table_of (records ++ last ∷ []) ≡ table_of records ++ shape_of_fields (table_of records) last ∷ []
table_pushed records last = fold-append _ [] records (last ∷ [])

numbers_pushed : (f : Record → ℕ) (g : Shape → ℕ) (kept : List Record) (last : Record) (table : List Shape) (s : Shape) → map f kept ≡ map g table → f last ≡ g s → map f (kept ++ last ∷ []) ≡ map g (table ++ s ∷ [])
numbers_pushed f g kept last table s e here =
    map-append f kept (last ∷ []) ∙ ap (λ l. l ++ f last ∷ []) e ∙ ap (λ n. map g table ++ n ∷ []) here ∙ sym (map-append g table (s ∷ []))

kept_next : (kept : List Record) (last : Record) → IsKept kept → length (records_of kept) < 2 ^ 32 → All (λ f. IsTypeAmong (length (records_of kept)) f.1) (fields_of last.fields) → last.words ≡ saturated (words (shape_of_fields (table_of (records_of kept)) (fields_of last.fields))) → last.depth ≡ saturated (depth (shape_of_fields (table_of (records_of kept)) (fields_of last.fields))) → IsKept (kept ++ last ∷ [])
kept_next kept last k room known wide deep =
    let records = records_of kept in
    let fields = fields_of last.fields in
    let shown : records_of (kept ++ last ∷ []) ≡ records ++ fields ∷ [] = map-append (λ r. fields_of r.fields) kept (last ∷ []) in
    let table : table_of records ++ shape_of_fields (table_of records) fields ∷ [] ≡ table_of (records_of (kept ++ last ∷ [])) = sym (ap table_of shown ∙ table_pushed records fields) in
    let P : ℕ → Fields → Type 0 = λ n fs. All (λ f. IsTypeAmong n f.1) fs in
    record {
      few = omega (arith, length-append kept (last ∷ []), length-map kept (λ r. fields_of r.fields));
      ordered = λ r x e. each_pushed P records fields k.ordered known r x (ap (λ rs. slice_get rs r) (sym shown) ∙ e);
      words = numbers_pushed (λ r. r.words) (λ s. saturated (words s)) kept last (table_of records) _ k.words wide ∙ ap (map (λ s. saturated (words s))) table;
      depth = numbers_pushed (λ r. r.depth) (λ s. saturated (depth s)) kept last (table_of records) _ k.depth deep ∙ ap (map (λ s. saturated (depth s))) table;
    }

-- one more record is kept with its numbers
pub kept_pushed : (kept after : List Record) (now : Records) (last : Record) → records_of kept ≡ now → IsKept kept → length now < 2 ^ 32 → All (λ f. IsTypeAmong (length now) f.1) (fields_of last.fields) → last.words ≡ saturated (words (shape_of_fields (table_of now) (fields_of last.fields))) → last.depth ≡ saturated (depth (shape_of_fields (table_of now) (fields_of last.fields))) → after ≡ kept ++ last ∷ [] → IsKept after
kept_pushed kept after now last shown k room known wide deep more =
    let back : now ≡ records_of kept = sym shown in
    let P : Records → Type 0 = λ rs. All (λ f. IsTypeAmong (length rs) f.1) (fields_of last.fields) in
    let Q : List Record → Type 0 = λ l. IsKept l in
    let small : length (records_of kept) < 2 ^ 32 = omega (arith, ap length back) in
    subst Q (sym more) (kept_next kept last k small (subst P back known) (wide ∙ ap (λ rs. saturated (words (shape_of_fields (table_of rs) (fields_of last.fields)))) back) (deep ∙ ap (λ rs. saturated (depth (shape_of_fields (table_of rs) (fields_of last.fields)))) back))
