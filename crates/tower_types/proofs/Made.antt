-- The value that is made of numbers has them, and fits where they do.
use Rattle.std.proofs.Common.{◌≡◌, ℕ, zero, suc, ◌+◌, ◌*◌, ◌≤◌, List, [], ◌∷◌, ◌++◌, length, take, drop, ℤ, true, IsTrue, refl, ap, sym, ◌∙◌, append_assoc, append-nil, arith}
use Rattle.std.proofs.lemmas.List.{length-drop, take_all}
use Rattle.std.proofs.Math.Seq.{take-add, drop-append_seam}
use Rattle.std.proofs.lemmas.Bool.{false≢true}
use Rattle.tower_types.specs.declared.scalar.Scalar.{Scalar}
use Rattle.tower_types.specs.Ty.{Shape, one, many, all, Shapes, no_shapes, shape, words, words_of_all}
use Rattle.tower_types.specs.Value.{Value, word, parts, Values, no_values, value, values_of, flat, flat_all, fits, fits_each, fits_all, repeated, scalars, scalars_of_all, fit_words, in_turn, value_from, values_from}
use Rattle.tower_types.proofs.Flat.{both, joined, length-scalars, fit_words-length, length-flat}

-- of numbers that fit two lists of scalars, those behind the first fit the second
fit_words-rest : (ss ts : List Scalar) (ns : List ℤ) → fit_words (ss ++ ts) ns ≡ true → fit_words ts (drop (length ss) ns) ≡ true
fit_words-rest [] ts ns h = h
fit_words-rest (s ∷ ss) ts [] h = absurd (false≢true h)
fit_words-rest (s ∷ ss) ts (n ∷ ns) h = fit_words-rest ss ts ns (both _ _ h).1

-- the numbers of a value that is made of a long enough list are its first
turn_flat : (n w : ℕ) (make : List ℤ → Value) → ((ns : List ℤ) → w ≤ length ns → flat (make ns) ≡ take w ns) → (ns : List ℤ) → n * w ≤ length ns → flat_all (values_of (in_turn n w make ns)) ≡ take (n * w) ns
turn_flat zero w make f ns le =
    let none : 0 ≡ 0 * w = omega arith in
    ap (λ k. take k ns) none
turn_flat (suc n) w make f ns le =
    let more : w + n * w ≡ suc n * w = omega arith in
    let first : w ≤ length ns = omega arith in
    let rest : n * w ≤ length (drop w ns) = omega (arith, length-drop w ns) in
    ap (λ l. l ++ flat_all (values_of (in_turn n w make (drop w ns)))) (f ns first) ∙ ap (λ l. take w ns ++ l) (turn_flat n w make f (drop w ns) rest) ∙ sym (take-add w (n * w) ns) ∙ ap (λ k. take k ns) more

mutual
  pub flat-value_from : (s : Shape) (ns : List ℤ) → words s ≤ length ns → flat (value_from s ns) ≡ take (words s) ns
  flat-value_from (one s) [] le = absurd (omega arith)
  flat-value_from (one s) (n ∷ ns) le = refl
  flat-value_from (many n s) ns le = turn_flat n (words s) (value_from s) (flat-value_from s) ns le
  flat-value_from (all ss) ns le = flat-values_from ss ns le

  flat-values_from : (ss : Shapes) (ns : List ℤ) → words_of_all ss ≤ length ns → flat_all (values_of (values_from ss ns)) ≡ take (words_of_all ss) ns
  flat-values_from no_shapes ns le = refl
  flat-values_from (shape s ss) ns le =
      let first : words s ≤ length ns = omega arith in
      let rest : words_of_all ss ≤ length (drop (words s) ns) = omega (arith, length-drop (words s) ns) in
      ap (λ l. l ++ flat_all (values_of (values_from ss (drop (words s) ns)))) (flat-value_from s ns first) ∙ ap (λ l. take (words s) ns ++ l) (flat-values_from ss (drop (words s) ns) rest) ∙ sym (take-add (words s) (words_of_all ss) ns)

-- it fits where its numbers do
turn_fits : (n : ℕ) (s : Shape) → ((more : List Scalar) (ns : List ℤ) → fit_words (scalars s ++ more) ns ≡ true → fits s (value_from s ns) ≡ true) → (more : List Scalar) (ns : List ℤ) → fit_words (repeated n (scalars s) ++ more) ns ≡ true → fits_each n (fits s) (values_of (in_turn n (words s) (value_from s) ns)) ≡ true
turn_fits zero s f more ns h = refl
turn_fits (suc n) s f more ns h =
    let first = ap (λ ss. fit_words ss ns) (sym (append_assoc (scalars s) (repeated n (scalars s)) more)) ∙ h in
    let rest = ap (λ w. fit_words (repeated n (scalars s) ++ more) (drop w ns)) (sym (length-scalars s)) ∙ fit_words-rest (scalars s) (repeated n (scalars s) ++ more) ns first in
    joined _ _ (f (repeated n (scalars s) ++ more) ns first) (turn_fits n s f more (drop (words s) ns) rest)

mutual
  made_fits : (s : Shape) (more : List Scalar) (ns : List ℤ) → fit_words (scalars s ++ more) ns ≡ true → fits s (value_from s ns) ≡ true
  made_fits (one s) more [] h = absurd (false≢true h)
  made_fits (one s) more (n ∷ ns) h = (both _ _ h).0
  made_fits (many n s) more ns h = turn_fits n s (made_fits s) more ns h
  made_fits (all ss) more ns h = made_fits_all ss more ns h

  made_fits_all : (ss : Shapes) (more : List Scalar) (ns : List ℤ) → fit_words (scalars_of_all ss ++ more) ns ≡ true → fits_all ss (values_of (values_from ss ns)) ≡ true
  made_fits_all no_shapes more ns h = refl
  made_fits_all (shape s ss) more ns h =
      let first = ap (λ l. fit_words l ns) (sym (append_assoc (scalars s) (scalars_of_all ss) more)) ∙ h in
      let rest = ap (λ w. fit_words (scalars_of_all ss ++ more) (drop w ns)) (sym (length-scalars s)) ∙ fit_words-rest (scalars s) (scalars_of_all ss ++ more) ns first in
      joined _ _ (made_fits s (scalars_of_all ss ++ more) ns first) (made_fits_all ss more (drop (words s) ns) rest)

pub fits-value_from : (s : Shape) (ns : List ℤ) → IsTrue (fit_words (scalars s) ns) → IsTrue (fits s (value_from s ns))
fits-value_from s ns h = made_fits s [] ns (ap (λ l. fit_words l ns) (append-nil (scalars s)) ∙ h)

-- where all numbers of a list are used, they are those of the value
pub flat-whole : (s : Shape) (ns : List ℤ) → IsTrue (fit_words (scalars s) ns) → flat (value_from s ns) ≡ ns
flat-whole s ns h =
    let count : length ns ≡ words s = fit_words-length (scalars s) ns h ∙ length-scalars s in
    flat-value_from s ns (omega arith) ∙ take_all (words s) ns (omega arith)

-- a value that fits is made of its own numbers, so two that have the same are the same
seam : (xs ys : List ℤ) (w : ℕ) → length xs ≡ w → drop w (xs ++ ys) ≡ ys
seam xs ys w e = ap (λ k. drop k (xs ++ ys)) (sym e) ∙ drop-append_seam xs ys

turn_made : (n : ℕ) (s : Shape) → ((v : Value) (rest : List ℤ) → fits s v ≡ true → value_from s (flat v ++ rest) ≡ v) → (vs : Values) (rest : List ℤ) → fits_each n (fits s) vs ≡ true → values_of (in_turn n (words s) (value_from s) (flat_all vs ++ rest)) ≡ vs
turn_made zero s f no_values rest h = refl
turn_made zero s f (value v vs) rest h = absurd (false≢true h)
turn_made (suc n) s f no_values rest h = absurd (false≢true h)
turn_made (suc n) s f (value v vs) rest h =
    let turn = in_turn n (words s) (value_from s) in
    let more = flat_all vs ++ rest in
    ap (λ l. value (value_from s l) (values_of (turn (drop (words s) l)))) (append_assoc (flat v) (flat_all vs) rest) ∙ ap (λ x. value x (values_of (turn (drop (words s) (flat v ++ more))))) (f v more (both _ _ h).0) ∙ ap (λ l. value v (values_of (turn l))) (seam (flat v) more (words s) (length-flat s v (both _ _ h).0)) ∙ ap (value v) (turn_made n s f vs rest (both _ _ h).1)

mutual
  pub value_from-flat : (s : Shape) (v : Value) (rest : List ℤ) → fits s v ≡ true → value_from s (flat v ++ rest) ≡ v
  value_from-flat (one s) (word n) rest h = refl
  value_from-flat (one s) (parts vs) rest h = absurd (false≢true h)
  value_from-flat (many n s) (word k) rest h = absurd (false≢true h)
  value_from-flat (many n s) (parts vs) rest h = ap parts (turn_made n s (value_from-flat s) vs rest h)
  value_from-flat (all ss) (word n) rest h = absurd (false≢true h)
  value_from-flat (all ss) (parts vs) rest h = ap parts (values_from-flat ss vs rest h)

  values_from-flat : (ss : Shapes) (vs : Values) (rest : List ℤ) → fits_all ss vs ≡ true → values_of (values_from ss (flat_all vs ++ rest)) ≡ vs
  values_from-flat no_shapes no_values rest h = refl
  values_from-flat no_shapes (value v vs) rest h = absurd (false≢true h)
  values_from-flat (shape s ss) no_values rest h = absurd (false≢true h)
  values_from-flat (shape s ss) (value v vs) rest h =
      let more = flat_all vs ++ rest in
      ap (λ l. value (value_from s l) (values_of (values_from ss (drop (words s) l)))) (append_assoc (flat v) (flat_all vs) rest) ∙ ap (λ x. value x (values_of (values_from ss (drop (words s) (flat v ++ more))))) (value_from-flat s v more (both _ _ h).0) ∙ ap (λ l. value v (values_of (values_from ss l))) (seam (flat v) more (words s) (length-flat s v (both _ _ h).0)) ∙ ap (value v) (values_from-flat ss vs rest (both _ _ h).1)

pub flat-unique : (s : Shape) (v w : Value) → IsTrue (fits s v) → IsTrue (fits s w) → flat v ≡ flat w → v ≡ w
flat-unique s v w h k e =
    sym (value_from-flat s v [] h) ∙ ap (λ l. value_from s (l ++ [])) e ∙ value_from-flat s w [] k
