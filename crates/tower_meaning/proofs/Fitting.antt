-- Values that fit their shapes: their parts do, and they still do with another part that does.
use Rattle.std.proofs.Common.{◌≡◌, ◌≢◌, ℕ, zero, suc, ◌<◌, List, [], ◌∷◌, length, ℤ, pos, negsuc, Bool, true, false, ◌&&◌, refl, ap, sym, ◌∙◌, subst, arith, slice_index_or, slice_set, nat_eq, get_or-set_same, get_or-set_other, unsigned_abs}
use Rattle.std.proofs.lemmas.Bool.{eq-eqb, eqb-true}
use Rattle.std.proofs.lemmas.Bool.Decides.{nat_tests}
use Rattle.tower_types.specs.declared.scalar.Scalar.{Scalar}
use Rattle.tower_types.specs.declared.scalar.Scalar.TheVariants as scalar
use Rattle.tower_types.specs.Ty.{Shape, one, many, all, Shapes, no_shapes, shape, shapes_of}
use Rattle.tower_types.specs.Value.{Value, word, parts, Values, no_values, value, copies, zero_of, zeros_of, fits_scalar, fits, fits_all, fits_each, nth, with_nth, part, with_part, num}
use Rattle.tower_syntax.specs.Weights.{nth_shape, shape_at}
use Rattle.tower_syntax.specs.Typed.{IsProper, AreProper, count}
use Rattle.tower_meaning.specs.Body.{part_at, with_part_at}

pub false_true : {A : Type 0} → false ≡ true → A
false_true h = absurd (cc h)

pub both : (a b : Bool) → (a && b) ≡ true → (a ≡ true) × (b ≡ true)
both true b h = (refl, h)
both false b h = false_true h

pub joined : (a b : Bool) → a ≡ true → b ≡ true → (a && b) ≡ true
joined true b g h = h
joined false b g h = g

-- what holds of each place of a list still holds after a write that keeps it
set_at : {A : Type 0} (P : ℕ → A → Type 0) (xs : List A) (n b c : ℕ) (v d : A) (g : Bool) → nat_eq c b ≡ g → length xs ≡ n → ((k : ℕ) → k < n → P k (slice_index_or xs k d)) → P b v → c < n → P c (slice_index_or (slice_set xs b v) c d)
set_at P xs n b c v d true e long each h lt =
    let same : c ≡ b = eqb-true c b e in
    let here : b < length xs = omega arith in
    subst (P c) (sym (ap (λ k. slice_index_or (slice_set xs b v) k d) same ∙ get_or-set_same xs b v d here)) (subst (λ k. P k v) (sym same) h)
set_at P xs n b c v d false e long each h lt =
    let ne : c ≢ b = λ same. false_true (sym e ∙ eq-eqb c b same) in
    subst (P c) (sym (get_or-set_other xs b c v d ne)) (each c lt)

pub set_keeps : {A : Type 0} (P : ℕ → A → Type 0) (xs : List A) (n b c : ℕ) (v d : A) → length xs ≡ n → ((k : ℕ) → k < n → P k (slice_index_or xs k d)) → P b v → c < n → P c (slice_index_or (slice_set xs b v) c d)
set_keeps P xs n b c v d long each h lt = set_at P xs n b c v d (nat_eq c b) refl long each h lt

-- ---- records

pub nth_fits : (ss : Shapes) (vs : Values) (k : ℕ) → fits_all ss vs ≡ true → k < count ss → fits (nth_shape ss k) (nth vs k) ≡ true
nth_fits no_shapes vs k h lt = absurd (omega arith)
nth_fits (shape s ss) no_values k h lt = false_true h
nth_fits (shape s ss) (value v vs) zero h lt = (both _ _ h).0
nth_fits (shape s ss) (value v vs) (suc k) h lt = nth_fits ss vs k (both _ _ h).1 (omega arith)

pub with_nth_fits : (ss : Shapes) (vs : Values) (k : ℕ) (w : Value) → fits_all ss vs ≡ true → fits (nth_shape ss k) w ≡ true → fits_all ss (with_nth vs k w) ≡ true
with_nth_fits no_shapes no_values k w h g = refl
with_nth_fits no_shapes (value v vs) k w h g = false_true h
with_nth_fits (shape s ss) no_values k w h g = false_true h
with_nth_fits (shape s ss) (value v vs) zero w h g = joined _ _ g (both _ _ h).1
with_nth_fits (shape s ss) (value v vs) (suc k) w h g = joined _ _ (both _ _ h).0 (with_nth_fits ss vs k w (both _ _ h).1 g)

pub field_fits : (ss : Shapes) (v : Value) (k : ℕ) → fits (all ss) v ≡ true → k < count ss → fits (nth_shape ss k) (part k v) ≡ true
field_fits ss (word n) k h lt = false_true h
field_fits ss (parts vs) k h lt = nth_fits ss vs k h lt

pub with_field_fits : (ss : Shapes) (v : Value) (k : ℕ) (f : Value → Value) → fits (all ss) v ≡ true → fits (nth_shape ss k) (f (part k v)) ≡ true → fits (all ss) (with_part k f v) ≡ true
with_field_fits ss (word n) k f h g = false_true h
with_field_fits ss (parts vs) k f h g = with_nth_fits ss vs k (f (nth vs k)) h g

-- ---- arrays

each_nth : (n : ℕ) (p : Value → Bool) (vs : Values) (k : ℕ) → fits_each n p vs ≡ true → k < n → p (nth vs k) ≡ true
each_nth zero p vs k h lt = absurd (omega arith)
each_nth (suc n) p no_values k h lt = false_true h
each_nth (suc n) p (value v vs) zero h lt = (both _ _ h).0
each_nth (suc n) p (value v vs) (suc k) h lt = each_nth n p vs k (both _ _ h).1 (omega arith)

each_with_nth : (n : ℕ) (p : Value → Bool) (vs : Values) (k : ℕ) (w : Value) → fits_each n p vs ≡ true → p w ≡ true → fits_each n p (with_nth vs k w) ≡ true
each_with_nth zero p no_values k w h g = refl
each_with_nth zero p (value v vs) k w h g = false_true h
each_with_nth (suc n) p no_values k w h g = false_true h
each_with_nth (suc n) p (value v vs) zero w h g = joined _ _ g (both _ _ h).1
each_with_nth (suc n) p (value v vs) (suc k) w h g = joined _ _ (both _ _ h).0 (each_with_nth n p vs k w (both _ _ h).1 g)

pub element_fits : (n : ℕ) (s : Shape) (v : Value) (k : ℕ) → fits (many n s) v ≡ true → k < n → fits s (part k v) ≡ true
element_fits n s (word m) k h lt = false_true h
element_fits n s (parts vs) k h lt = each_nth n (fits s) vs k h lt

pub with_element_fits : (n : ℕ) (s : Shape) (v : Value) (k : ℕ) (f : Value → Value) → fits (many n s) v ≡ true → fits s (f (part k v)) ≡ true → fits (many n s) (with_part k f v) ≡ true
with_element_fits n s (word m) k f h g = false_true h
with_element_fits n s (parts vs) k f h g = each_with_nth n (fits s) vs k (f (nth vs k)) h g

-- ---- scalars

pub num_fits : (s : Scalar) (v : Value) → fits (one s) v ≡ true → fits_scalar s (num v) ≡ true
num_fits s (word n) h = h
num_fits s (parts vs) h = false_true h

pub number_fits : (s : Scalar) (v : Value) → fits (one s) v ≡ true → v ≡ word (num v)
number_fits s (word n) h = refl
number_fits s (parts vs) h = false_true h

pub index_below : (n : ℕ) (z : ℤ) → fits_scalar (scalar.Ix n) z ≡ true → unsigned_abs z < n
index_below n (pos k) h = grind (arith, nat_tests)
index_below n (negsuc k) h = grind (arith, nat_tests)

pub index_fits : (n k : ℕ) → k < n → fits_scalar (scalar.Ix n) (pos k) ≡ true
index_fits n k lt = grind (arith, nat_tests)

-- ---- parts at the end of a path

abbrev pub Path : Shape → List ℕ → Shape → Type 0
Path s [] t = s ≡ t
Path (one x) (k ∷ ks) t = ⊥
Path (many n s) (k ∷ ks) t = (k < n) × Path s ks t
Path (all ss) (k ∷ ks) t = (k < count ss) × Path (nth_shape ss k) ks t

pub part_fits : (ks : List ℕ) (s t : Shape) (v : Value) → Path s ks t → fits s v ≡ true → fits t (part_at ks v) ≡ true
part_fits [] s t v p h = subst (λ u. fits u v ≡ true) p h
part_fits (k ∷ ks) (one x) t v p h = absurd p
part_fits (k ∷ ks) (many n s) t v p h = part_fits ks s t (part k v) p.1 (element_fits n s v k h p.0)
part_fits (k ∷ ks) (all ss) t v p h = part_fits ks (nth_shape ss k) t (part k v) p.1 (field_fits ss v k h p.0)

pub with_part_fits : (ks : List ℕ) (s t : Shape) (new v : Value) → Path s ks t → fits t new ≡ true → fits s v ≡ true → fits s (with_part_at ks new v) ≡ true
with_part_fits [] s t new v p g h = subst (λ u. fits u new ≡ true) (sym p) g
with_part_fits (k ∷ ks) (one x) t new v p g h = absurd p
with_part_fits (k ∷ ks) (many n s) t new v p g h = with_element_fits n s v k (with_part_at ks new) h (with_part_fits ks s t new (part k v) p.1 g (element_fits n s v k h p.0))
with_part_fits (k ∷ ks) (all ss) t new v p g h = with_field_fits ss v k (with_part_at ks new) h (with_part_fits ks (nth_shape ss k) t new (part k v) p.1 g (field_fits ss v k h p.0))

-- ---- zero values

zero_number : (s : Scalar) → IsProper (one s) → fits_scalar s (pos 0) ≡ true
zero_number scalar.Bool h = refl
zero_number scalar.U8 h = refl
zero_number scalar.U16 h = refl
zero_number scalar.U32 h = refl
zero_number scalar.U64 h = refl
zero_number scalar.I8 h = refl
zero_number scalar.I16 h = refl
zero_number scalar.I32 h = refl
zero_number scalar.I64 h = refl
zero_number (scalar.Ix n) h = index_fits n 0 h.0

copies_fit : (n : ℕ) (p : Value → Bool) (v : Value) → p v ≡ true → fits_each n p (copies n v) ≡ true
copies_fit zero p v h = refl
copies_fit (suc n) p v h = joined _ _ h (copies_fit n p v h)

mutual
  pub zero_fits : (s : Shape) → IsProper s → fits s (zero_of s) ≡ true
  zero_fits (one s) h = zero_number s h
  zero_fits (many n s) h = copies_fit n (fits s) (zero_of s) (zero_fits s h.2)
  zero_fits (all ss) h = zeros_fit ss h

  pub zeros_fit : (ss : Shapes) → AreProper ss → fits_all ss (zeros_of ss) ≡ true
  zeros_fit no_shapes h = refl
  zeros_fit (shape s ss) h = joined _ _ (zero_fits s h.0) (zeros_fit ss h.1)

-- ---- shapes as a list

pub nth_of_list : (ss : List Shape) (k : ℕ) → nth_shape (shapes_of ss) k ≡ shape_at ss k
nth_of_list [] k = refl
nth_of_list (s ∷ ss) zero = refl
nth_of_list (s ∷ ss) (suc k) = nth_of_list ss k

pub count_of_list : (ss : List Shape) → count (shapes_of ss) ≡ length ss
count_of_list [] = refl
count_of_list (s ∷ ss) = ap suc (count_of_list ss)
