-- The parts of a value, one more at a time.
use Rattle.std.proofs.Common.{◌≡◌, ℕ, ◌+◌, ◌<◌, length, get_or, take, map, List, [], ◌∷◌, ◌++◌, ap, ◌∙◌, append_assoc, sym, append-nil, refl, arith, pos}
use Rattle.std.proofs.lemmas.List.{take_more, length-map, get_or-map}
use Rattle.tower_types.specs.declared.value.Value.{Value as ValueValue}
use Rattle.tower_types.specs.Value.{Value, word, Values, no_values, value, values_of, flat, flat_all}
use Rattle.tower_types.specs.View.{value_of, all_values_of}

flat_all_push : (xs : List ValueValue) (y : ValueValue) → flat_all (all_values_of (xs ++ y ∷ [])) ≡ flat_all (all_values_of xs) ++ flat (value_of y)
flat_all_push [] y = append-nil (flat (value_of y))
flat_all_push (x ∷ xs) y = ap (λ l. flat (value_of x) ++ l) (flat_all_push xs y) ∙ sym (append_assoc (flat (value_of x)) _ _)

pub flat_all_more : (xs : List ValueValue) (i : ℕ) (d : ValueValue) → i < length xs → flat_all (all_values_of (take (i + 1) xs)) ≡ flat_all (all_values_of (take i xs)) ++ flat (value_of (get_or xs i d))
flat_all_more xs i d h = ap (λ ys. flat_all (all_values_of ys)) (take_more xs i d h) ∙ flat_all_push (take i xs) (get_or xs i d)

-- the list that values are
list_of : Values → List Value
list_of no_values = []
list_of (value v vs) = v ∷ list_of vs

list_of-values_of : (xs : List Value) → list_of (values_of xs) ≡ xs
unfolding list_of
list_of-values_of [] = refl
list_of-values_of (x ∷ xs) = ap (λ l. x ∷ l) (list_of-values_of xs)

-- equal values have equal parts, and as many
parts_same : (xs ys : List ValueValue) → all_values_of xs ≡ all_values_of ys → map value_of xs ≡ map value_of ys
parts_same xs ys e = sym (list_of-values_of (map value_of xs)) ∙ ap list_of e ∙ list_of-values_of (map value_of ys)

pub same_count : (xs ys : List ValueValue) → all_values_of xs ≡ all_values_of ys → length xs ≡ length ys
same_count xs ys e = sym (length-map xs value_of) ∙ ap length (parts_same xs ys e) ∙ length-map ys value_of

pub same_at : (xs ys : List ValueValue) (i : ℕ) (x y : ValueValue) → i < length xs → x ≡ get_or xs i x → y ≡ get_or ys i y → all_values_of xs ≡ all_values_of ys → value_of x ≡ value_of y
same_at xs ys i x y h at_x at_y e =
    let k : i < length ys = omega (arith, same_count xs ys e) in
    ap value_of at_x ∙ sym (get_or-map value_of xs i x (word (pos 0)) h) ∙ ap (λ vs. get_or vs i (word (pos 0))) (parts_same xs ys e) ∙ get_or-map value_of ys i y (word (pos 0)) k ∙ ap value_of (sym at_y)
