-- Parts that were taken, and those that are still to come.
use Rattle.std.proofs.Common.{◌≡◌, ◌<◌, ◌≤◌, ℕ, zero, suc, ◌+◌, ◌-◌, List, [], ◌∷◌, ◌++◌, length, map, drop, get_or, refl, ap, sym, ◌∙◌, subst, arith, drop-cons, add-one, Option, Some, None}
use Rattle.std.proofs.lemmas.List.{drop_all, map-append}
use Rattle.tower_types.specs.Ty.{Name, Shape, many, all, Shapes, no_shapes, shape, shape_in}
use Rattle.tower_types.specs.Value.{Value, Values, no_values, value, values_of}
use Rattle.tower_types.specs.View.{ty_of, value_of}
use Rattle.tower_types.specs.declared.ty.Ty.{Ty as TyMade}
use Rattle.tower_types.specs.declared.value.Value.{Value as ValueMade}
use Rattle.event_record.specs.declared.value.Taken.{Taken as TakenMade}
use Rattle.event_record.specs.Tokens.{Token, left}
use Rattle.event_record.specs.Scanned.{Taken, put_before, then_more, take_each, take_values, take_value, within_list, closed, shapes_at}
use Rattle.event_record.specs.Made.{IsTaken}

-- values before those that are taken
abbrev pub prefixed : List Value → Taken Values → Taken Values
prefixed [] t = t
prefixed (v ∷ vs) t = put_before v (prefixed vs t)

prefixed-push : (vs : List Value) (v : Value) (t : Taken Values) → prefixed (vs ++ v ∷ []) t ≡ prefixed vs (put_before v t)
prefixed-push [] v t = refl
prefixed-push (x ∷ vs) v t = ap (put_before x) (prefixed-push vs v t)

prefixed-none : (vs : List Value) → prefixed vs None ≡ None
prefixed-none [] = refl
prefixed-none (x ∷ vs) = ap (put_before x) (prefixed-none vs)

prefixed-all : (vs : List Value) (ts : List Token) → prefixed vs (Some (no_values, ts)) ≡ Some (values_of vs, ts)
prefixed-all [] ts = refl
prefixed-all (x ∷ vs) ts = ap (put_before x) (prefixed-all vs ts)

seen-push : (before after : List ValueMade) (x : ValueMade) → after ≡ before ++ x ∷ [] → map value_of after ≡ map value_of before ++ value_of x ∷ []
seen-push before after x e = ap (map value_of) e ∙ map-append value_of before (x ∷ [])

-- one more part
step : (more : List Token → Taken Values) (t : Taken Value) (v : Value) (ts : List Token) → t ≡ Some (v, ts) → then_more more t ≡ put_before v (more ts)
step more t v ts e = ap (then_more more) e

pub part_more : (more : List Token → Taken Values) (t : Taken Value) (whole : Taken Values) (before after : List ValueMade) (x : ValueMade) (ts : List Token) → after ≡ before ++ x ∷ [] → t ≡ Some (value_of x, ts)
    → prefixed (map value_of before) (then_more more t) ≡ whole → prefixed (map value_of after) (more ts) ≡ whole
part_more more t whole before after x ts e h g =
    ap (λ vs. prefixed vs (more ts)) (seen-push before after x e) ∙ prefixed-push (map value_of before) (value_of x) (more ts) ∙ ap (prefixed (map value_of before)) (sym (step more t (value_of x) ts h)) ∙ g

pub part_none : (more : List Token → Taken Values) (t : Taken Value) (whole : Taken Values) (before : List ValueMade) → t ≡ None → prefixed (map value_of before) (then_more more t) ≡ whole → closed whole ≡ None
part_none more t whole before h g = ap closed (sym g ∙ ap (λ t. prefixed (map value_of before) (then_more more t)) h ∙ prefixed-none (map value_of before))

pub parts_end : (whole : Taken Values) (parts : List ValueMade) (ts : List Token) (r : Option TakenMade) → prefixed (map value_of parts) (Some (no_values, ts)) ≡ whole → IsTaken (closed (Some (values_of (map value_of parts), ts))) r → IsTaken (closed whole) r
parts_end whole parts ts r g h = subst (λ t. IsTaken (closed t) r) (sym (prefixed-all (map value_of parts) ts) ∙ g) h

-- ---- arrays

pub each_left : (n i : ℕ) (f : List Token → Taken Value) (ts : List Token) → i < n → take_each (n - i) f ts ≡ then_more (take_each (n - (i + 1)) f) (f ts)
each_left n i f ts h = let e : n - i ≡ suc (n - (i + 1)) = omega arith in ap (λ k. take_each k f ts) e

pub each_done : (n i : ℕ) (f : List Token → Taken Value) (ts : List Token) → n ≤ i → take_each (n - i) f ts ≡ Some (no_values, ts)
each_done n i f ts h = let e : n - i ≡ 0 = omega arith in ap (λ k. take_each k f ts) e

pub each_begun : (n : ℕ) (f : List Token → Taken Value) (ts : List Token) → take_each (n - 0) f ts ≡ take_each n f ts
each_begun n f ts = let e : n - 0 ≡ n = omega arith in ap (λ k. take_each k f ts) e

-- ---- records

pub fields_left : (table : List Shape) (fields : List (Name × TyMade)) (i : ℕ) (x : Name × TyMade) (ts : List Token) → i < length fields → x ≡ get_or fields i x
    → take_values (shapes_at table (drop i fields)) ts ≡ then_more (take_values (shapes_at table (drop (i + 1) fields))) (take_value (shape_in table (ty_of x.1)) ts)
fields_left table fields i x ts h e =
    let d : drop i fields ≡ x ∷ drop (i + 1) fields = drop-cons fields i x h ∙ ap (λ y. y ∷ drop (suc i) fields) (sym e) ∙ ap (λ k. x ∷ drop k fields) (sym (add-one i)) in
    ap (λ fs. take_values (shapes_at table fs) ts) d

pub fields_done : (table : List Shape) (fields : List (Name × TyMade)) (i : ℕ) (ts : List Token) → length fields ≤ i → take_values (shapes_at table (drop i fields)) ts ≡ Some (no_values, ts)
fields_done table fields i ts h = ap (λ fs. take_values (shapes_at table fs) ts) (drop_all i fields h)

-- ---- lists

pub list_opened : (f : List Token → Taken Values) (ts inside : List Token) (r : Option TakenMade) → ts ≡ left ∷ inside → IsTaken (closed (f inside)) r → IsTaken (within_list f ts) r
list_opened f ts inside r e h = subst (λ ts. IsTaken (within_list f ts) r) (sym e) h

pub record_opened : (s : Shape) (ss : Shapes) (ts inside : List Token) (r : Option TakenMade) → s ≡ all ss → ts ≡ left ∷ inside → IsTaken (closed (take_values ss inside)) r → IsTaken (take_value s ts) r
record_opened s ss ts inside r e g h = subst (λ s. IsTaken (take_value s ts) r) (sym e) (list_opened (take_values ss) ts inside r g h)

pub record_absent : (s : Shape) (ss : Shapes) (ts : List Token) → s ≡ all ss → ((f : List Token → Taken Values) → within_list f ts ≡ None) → take_value s ts ≡ None
record_absent s ss ts e h = ap (λ s. take_value s ts) e ∙ h (take_values ss)
