-- Values that are made of the next numbers of a list, one more at a time.
use Rattle.std.proofs.Common.{◌≡◌, ℕ, zero, suc, ◌+◌, ◌*◌, ◌<◌, ◌≤◌, List, [], ◌∷◌, ◌++◌, length, map, take, drop, get_or, ℤ, pos, refl, ap, sym, ◌∙◌, arith}
use Rattle.std.proofs.lemmas.List.{drop-drop, take_more, take_all, get_or-drop, map-append}
use Rattle.std.proofs.Math.Nat.{mul-le-mul_right}
use Rattle.tower_types.specs.declared.scalar.Scalar.{Scalar}
use Rattle.tower_types.specs.declared.ty.Ty.{Ty as TyValue}
use Rattle.tower_types.specs.declared.ty.Ty.TheVariants as ty
use Rattle.tower_types.specs.declared.value.Value.{Value as ValueValue}
use Rattle.tower_types.specs.declared.value.Value.TheVariants as variant
use Rattle.tower_types.specs.Ty.{Name, rec, Records, Shape, shape_in, shape_of, shape_of_fields, words, words_of_all, depth, depth_of_all}
use Rattle.tower_types.specs.Value.{Value, word, parts, values_of, in_turn, value_from, values_from}
use Rattle.tower_types.specs.View.{ty_of, fields_of, value_of}
use Rattle.tower_types.proofs.Seen.{ty_of-Scalar, ty_of-Rec, value_of-Word, value_of-Parts}
use Rattle.tower_types.proofs.Kept.{words_more}
use Rattle.tower_types.proofs.Fitted.{shapes_at}

-- one more part
pub made_pushed : (before after : List ValueValue) (x : ValueValue) (made : List Value) (v : Value) → after ≡ before ++ x ∷ [] → map value_of before ≡ made → value_of x ≡ v → map value_of after ≡ made ++ v ∷ []
made_pushed before after x made v more e f =
    ap (map value_of) more ∙ map-append value_of before (x ∷ []) ∙ ap (λ l. l ++ value_of x ∷ []) e ∙ ap (λ w. made ++ w ∷ []) f

-- the values of an array
turn_pushed : (n w : ℕ) (make : List ℤ → Value) (ns : List ℤ) → in_turn (suc n) w make ns ≡ in_turn n w make ns ++ make (drop (n * w) ns) ∷ []
turn_pushed zero w make ns =
    let none : 0 ≡ 0 * w = omega arith in
    ap (λ k. make (drop k ns) ∷ []) none
turn_pushed (suc n) w make ns =
    let more : w + n * w ≡ suc n * w = omega arith in
    ap (λ l. make ns ∷ l) (turn_pushed n w make (drop w ns)) ∙ ap (λ l. make ns ∷ (in_turn n w make (drop w ns) ++ make l ∷ [])) (drop-drop (n * w) w ns ∙ ap (λ k. drop k ns) more)

pub turn_more : (n w : ℕ) (make : List ℤ → Value) (start at : ℕ) (ns : List ℤ) → at ≡ start + n * w → in_turn (n + 1) w make (drop start ns) ≡ in_turn n w make (drop start ns) ++ make (drop at ns) ∷ []
turn_more n w make start at ns e =
    let one_more : n + 1 ≡ suc n = omega arith in
    ap (λ k. in_turn k w make (drop start ns)) one_more ∙ turn_pushed n w make (drop start ns) ∙ ap (λ l. in_turn n w make (drop start ns) ++ make l ∷ []) (drop-drop (n * w) start ns ∙ ap (λ k. drop k ns) (sym e))

pub turn_room : (i len w : ℕ) → i < len → i * w + w ≤ len * w
turn_room i len w h =
    let k : i + 1 ≤ len = omega arith in
    omega (arith, mul-le-mul_right w k)

-- the values of a record
fields_pushed : (table : List Shape) (fields : List (Name × TyValue)) (f : Name × TyValue) (ns : List ℤ) → values_from (shapes_at table (fields ++ f ∷ [])) ns ≡ values_from (shapes_at table fields) ns ++ value_from (shape_in table (ty_of f.1)) (drop (words_of_all (shapes_at table fields)) ns) ∷ []
fields_pushed table [] f ns = refl
fields_pushed table (g ∷ gs) f ns =
    let w = words (shape_in table (ty_of g.1)) in
    let first = value_from (shape_in table (ty_of g.1)) ns in
    ap (λ l. first ∷ l) (fields_pushed table gs f (drop w ns)) ∙ ap (λ l. first ∷ (values_from (shapes_at table gs) (drop w ns) ++ value_from (shape_in table (ty_of f.1)) l ∷ [])) (drop-drop (words_of_all (shapes_at table gs)) w ns)

pub fields_more : (table : List Shape) (fields : List (Name × TyValue)) (i : ℕ) (x : Name × TyValue) (start at : ℕ) (ns : List ℤ) → i < length fields → x ≡ get_or fields i x → at ≡ start + words_of_all (shapes_at table (take i fields)) → values_from (shapes_at table (take (i + 1) fields)) (drop start ns) ≡ values_from (shapes_at table (take i fields)) (drop start ns) ++ value_from (shape_in table (ty_of x.1)) (drop at ns) ∷ []
fields_more table fields i x start at ns h here e =
    let before = values_from (shapes_at table (take i fields)) (drop start ns) in
    ap (λ fs. values_from (shapes_at table fs) (drop start ns)) (take_more fields i x h) ∙ fields_pushed table (take i fields) (get_or fields i x) (drop start ns) ∙ ap (λ y. before ++ value_from (shape_in table (ty_of y.1)) (drop (words_of_all (shapes_at table (take i fields))) (drop start ns)) ∷ []) (sym here) ∙ ap (λ l. before ++ value_from (shape_in table (ty_of x.1)) l ∷ []) (drop-drop (words_of_all (shapes_at table (take i fields))) start ns ∙ ap (λ k. drop k ns) (sym e))

words_first : (table : List Shape) (fields : List (Name × TyValue)) (k : ℕ) → words_of_all (shapes_at table (take k fields)) ≤ words_of_all (shapes_at table fields)
words_first table fields zero = omega arith
words_first table [] (suc k) = omega arith
words_first table (f ∷ fs) (suc k) = omega (arith, words_first table fs k)

pub fields_room : (table : List Shape) (fields : List (Name × TyValue)) (i : ℕ) (x : Name × TyValue) → i < length fields → x ≡ get_or fields i x → words_of_all (shapes_at table (take i fields)) + words (shape_in table (ty_of x.1)) ≤ words_of_all (shapes_at table fields)
fields_room table fields i x h at =
    omega (arith, words_more table fields i x h at, words_first table fields (i + 1))

pub field_shallower : (table : List Shape) (fields : List (Name × TyValue)) (i : ℕ) (x : Name × TyValue) → i < length fields → x ≡ get_or fields i x → depth (shape_in table (ty_of x.1)) ≤ depth_of_all (shapes_at table fields)
field_shallower table [] i x h at = absurd (omega arith)
field_shallower table (f ∷ fs) zero x h at = omega (arith, ap (λ y. depth (shape_in table (ty_of y.1))) at)
field_shallower table (f ∷ fs) (suc i) x h at =
    let less : i < length fs = omega arith in
    omega (arith, field_shallower table fs i x less at)

pub fields_whole : (table : List Shape) (fields : List (Name × TyValue)) (vs : List ValueValue) (i : ℕ) (ns : List ℤ) → length fields ≤ i → map value_of vs ≡ values_from (shapes_at table (take i fields)) ns → value_of (variant.Parts vs) ≡ value_from (shape_of_fields table (fields_of fields)) ns
fields_whole table fields vs i ns le made =
    value_of-Parts vs ∙ ap (λ l. parts (values_of l)) (made ∙ ap (λ fs. values_from (shapes_at table fs) ns) (take_all i fields le))

-- the number of a scalar, and the shape of a record
pub scalar_made : (table : List Shape) (t : TyValue) (s : Scalar) (n : ℤ) (at : ℕ) (ns : List ℤ) → t ≡ ty.Scalar s → n ≡ get_or ns at (pos 0) → value_of (variant.Word n) ≡ value_from (shape_in table (ty_of t)) (drop at ns)
scalar_made table t s n at ns is e =
    let there : at ≡ at + 0 = omega arith in
    let seen : ty_of t ≡ ty_of (ty.Scalar s) = ap ty_of is in
    value_of-Word n ∙ ap word (e ∙ ap (λ k. get_or ns k (pos 0)) there ∙ sym (get_or-drop at ns 0 (pos 0))) ∙ ap (λ u. value_from (shape_in table u) (drop at ns)) (sym (seen ∙ ty_of-Scalar s))

pub record_shape : (records : Records) (t : TyValue) (r : ℕ) (s : Shape) → t ≡ ty.Rec r → shape_of records (rec r) ≡ s → shape_of records (ty_of t) ≡ s
record_shape records t r s is e = ap (λ u. shape_of records u) (ap ty_of is ∙ ty_of-Rec r) ∙ e
