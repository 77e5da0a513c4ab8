-- The flat list of a value with a part replaced is the flat list with those words replaced.
use Rattle.std.proofs.Common.{◌≡◌, ℕ, zero, suc, ◌+◌, ◌*◌, ◌<◌, ℤ, List, [], ◌∷◌, ◌++◌, length, refl, ap, sym, ◌∙◌, arith, append_assoc, length-append, true}
use Rattle.std.proofs.lemmas.List.{append-nil}
use Rattle.tower_types.specs.Ty.{Shape, one, many, all, Shapes, no_shapes, shape, shapes_of, words}
use Rattle.tower_types.specs.Value.{Value, word, parts, Values, no_values, value, flat, flat_all, nth, with_nth, part, with_part, fits, fits_each, fits_all}
use Rattle.tower_types.proofs.Flat.{length-flat}
use Rattle.tower_syntax.specs.Weights.{no_shape, nth_shape}
use Rattle.tower_syntax.specs.Typed.{count}
use Rattle.tower_meaning.specs.Body.{part_at, with_part_at}
use Rattle.tower_meaning.proofs.Fitting.{false_true, both, element_fits, field_fits, with_element_fits, with_field_fits}
use Rattle.stmt_code.specs.Layout.{fields_before, words_before}

abbrev pub Fits : Shape → Value → Type 0
Fits s v = fits s v ≡ true

pub flat_length : (s : Shape) (v : Value) → Fits s v → length (flat v) ≡ words s
flat_length s v f = length-flat s v f

-- the words before a part, and its shape
abbrev pub offset : Shape → ℕ → ℕ
offset (one s) k = 0
offset (many n s) k = k * words s
offset (all ss) k = fields_before ss k

abbrev pub inner : Shape → ℕ → Shape
inner (one s) k = no_shape
inner (many n s) k = s
inner (all ss) k = nth_shape ss k

-- the fields of a list of shapes
pub fields_of_list : (ss : List Shape) (k : ℕ) → fields_before (shapes_of ss) k ≡ words_before ss k
fields_of_list [] k = refl
fields_of_list (s ∷ ss) zero = refl
fields_of_list (s ∷ ss) (suc k) = ap (λ n. words s + n) (fields_of_list ss k)

-- one part, with what stands before and behind it
pub record Cut (whole : List ℤ) (far : ℕ) (x : List ℤ) (whole_with : Value → List ℤ) : Type 0 where
  pub front : List ℤ
  pub back : List ℤ
  pub is_far : length front ≡ far
  pub is : whole ≡ front ++ (x ++ back)
  pub put_is : (u : Value) → whole_with u ≡ front ++ (flat u ++ back)

first_cut : (v : Value) (vs : Values) → Cut (flat_all (value v vs)) 0 (flat v) (λ u. flat_all (value u vs))
first_cut v vs = record { front = []; back = flat_all vs; is_far = refl; is = refl; put_is = λ u. refl }

later_cut : (v : Value) (vs : Values) (k far : ℕ) → Cut (flat_all vs) far (flat (nth vs k)) (λ u. flat_all (with_nth vs k u)) → Cut (flat_all (value v vs)) (length (flat v) + far) (flat (nth vs k)) (λ u. flat_all (value v (with_nth vs k u)))
later_cut v vs k far c =
    record {
      front = flat v ++ c.front;
      back = c.back;
      is_far = omega (arith, length-append (flat v) c.front, c.is_far);
      is = ap (λ l. flat v ++ l) c.is ∙ sym (append_assoc (flat v) c.front (flat (nth vs k) ++ c.back));
      put_is = λ u. ap (λ l. flat v ++ l) (c.put_is u) ∙ sym (append_assoc (flat v) c.front (flat u ++ c.back));
    }

moved_cut : {whole x : List ℤ} {f : Value → List ℤ} (a b : ℕ) → a ≡ b → Cut whole a x f → Cut whole b x f
moved_cut a b e c = record { front = c.front; back = c.back; is_far = c.is_far ∙ e; is = c.is; put_is = c.put_is }

each_cut : (n : ℕ) (s : Shape) (vs : Values) (k : ℕ) → fits_each n (fits s) vs ≡ true → k < n → Cut (flat_all vs) (k * words s) (flat (nth vs k)) (λ u. flat_all (with_nth vs k u))
each_cut zero s vs k f lt = absurd (omega arith)
each_cut (suc n) s no_values k f lt = false_true f
each_cut (suc n) s (value v vs) zero f lt = moved_cut 0 (0 * words s) (omega arith) (first_cut v vs)
each_cut (suc n) s (value v vs) (suc k) f lt =
    let l = flat_length s v (both _ _ f).0 in
    moved_cut (length (flat v) + k * words s) (suc k * words s) (omega (arith, l)) (later_cut v vs k (k * words s) (each_cut n s vs k (both _ _ f).1 (omega arith)))

all_cut : (ss : Shapes) (vs : Values) (k : ℕ) → fits_all ss vs ≡ true → k < count ss → Cut (flat_all vs) (fields_before ss k) (flat (nth vs k)) (λ u. flat_all (with_nth vs k u))
all_cut no_shapes vs k f lt = absurd (omega arith)
all_cut (shape s ss) no_values k f lt = false_true f
all_cut (shape s ss) (value v vs) zero f lt = first_cut v vs
all_cut (shape s ss) (value v vs) (suc k) f lt =
    let l = flat_length s v (both _ _ f).0 in
    moved_cut (length (flat v) + fields_before ss k) (words s + fields_before ss k) (omega (arith, l)) (later_cut v vs k (fields_before ss k) (all_cut ss vs k (both _ _ f).1 (omega arith)))

-- along a path of numbers
abbrev pub Part : Shape → ℕ → Type 0
Part (one s) k = ⊥
Part (many n s) k = k < n
Part (all ss) k = k < count ss

abbrev pub Along : Shape → List ℕ → Type 0
Along s [] = Unit {0}
Along s (k ∷ ks) = Part s k × Along (inner s k) ks

abbrev pub total : Shape → List ℕ → ℕ
total s [] = 0
total s (k ∷ ks) = offset s k + total (inner s k) ks

abbrev pub shape_along : Shape → List ℕ → Shape
shape_along s [] = s
shape_along s (k ∷ ks) = shape_along (inner s k) ks

part_cut : (s : Shape) (v : Value) (k : ℕ) → Fits s v → Part s k → Cut (flat v) (offset s k) (flat (part k v)) (λ u. flat (with_part k (λ x. u) v))
part_cut (one s) v k f p = absurd p
part_cut (many n s) (word m) k f p = false_true f
part_cut (many n s) (parts vs) k f p = each_cut n s vs k f p
part_cut (all ss) (word m) k f p = false_true f
part_cut (all ss) (parts vs) k f p = all_cut ss vs k f p

part_fits : (s : Shape) (v : Value) (k : ℕ) → Fits s v → Part s k → Fits (inner s k) (part k v)
part_fits (one s) v k f p = absurd p
part_fits (many n s) v k f p = element_fits n s v k f p
part_fits (all ss) v k f p = field_fits ss v k f p

part_put : (s : Shape) (v : Value) (k : ℕ) (g : Value → Value) → Fits s v → Part s k → Fits (inner s k) (g (part k v)) → Fits s (with_part k g v)
part_put (one s) v k g f p h = absurd p
part_put (many n s) v k g f p h = with_element_fits n s v k g f h
part_put (all ss) v k g f p h = with_field_fits ss v k g f h

pub with_same : (k : ℕ) (g : Value → Value) (v : Value) → with_part k g v ≡ with_part k (λ x. g (part k v)) v
with_same k g (word n) = refl
with_same k g (parts vs) = refl

pub get_fits : (ks : List ℕ) (s : Shape) (v : Value) → Fits s v → Along s ks → Fits (shape_along s ks) (part_at ks v)
get_fits [] s v f a = f
get_fits (k ∷ ks) s v f a = get_fits ks (inner s k) (part k v) (part_fits s v k f a.0) a.1

pub put_fits : (ks : List ℕ) (s : Shape) (v u : Value) → Fits s v → Along s ks → Fits (shape_along s ks) u → Fits s (with_part_at ks u v)
put_fits [] s v u f a g = g
put_fits (k ∷ ks) s v u f a g = part_put s v k (with_part_at ks u) f a.0 (put_fits ks (inner s k) (part k v) u (part_fits s v k f a.0) a.1 g)

glue : (a b x c d : List ℤ) → a ++ ((b ++ (x ++ c)) ++ d) ≡ (a ++ b) ++ (x ++ (c ++ d))
glue a b x c d = simp append_assoc refl

pub cut : (ks : List ℕ) (s : Shape) (v : Value) → Fits s v → Along s ks → Cut (flat v) (total s ks) (flat (part_at ks v)) (λ u. flat (with_part_at ks u v))
cut [] s v f a = record { front = []; back = []; is_far = refl; is = sym (append-nil (flat v)); put_is = λ u. sym (append-nil (flat u)) }
cut (k ∷ ks) s v f a =
    let c = part_cut s v k f a.0 in
    let d = cut ks (inner s k) (part k v) (part_fits s v k f a.0) a.1 in
    record {
      front = c.front ++ d.front;
      back = d.back ++ c.back;
      is_far = omega (arith, length-append c.front d.front, c.is_far, d.is_far);
      is = c.is ∙ ap (λ l. c.front ++ (l ++ c.back)) d.is ∙ glue c.front d.front (flat (part_at (k ∷ ks) v)) d.back c.back;
      put_is = λ u. ap flat (with_same k (with_part_at ks u) v) ∙ c.put_is (with_part_at ks u (part k v)) ∙ ap (λ l. c.front ++ (l ++ c.back)) (d.put_is u) ∙ glue c.front d.front (flat u) d.back c.back;
    }
