-- The numbers of values: how many there are, and that they fit.
use Rattle.std.proofs.Common.{◌≡◌, ℕ, zero, suc, ◌+◌, ◌*◌, List, [], ◌∷◌, ◌++◌, length, replicate, ℤ, pos, Bool, true, false, ◌&&◌, IsTrue, refl, ap, ◌∙◌, arith}
use Rattle.std.proofs.lemmas.List.{length-append, replicate-append-replicate}
use Rattle.std.proofs.lemmas.Bool.{false≢true}
use Rattle.tower_types.specs.declared.scalar.Scalar.{Scalar}
use Rattle.tower_types.specs.declared.scalar.Scalar.TheVariants as scalar
use Rattle.tower_types.specs.Ty.{Shape, one, many, all, Shapes, no_shapes, shape, words, words_of_all}
use Rattle.tower_types.specs.Value.{Value, word, parts, Values, no_values, value, copies, zero_of, zeros_of, flat, flat_all, fits_scalar, has_numbers, each_scalar, each_scalar_of_all, fits, fits_each, fits_all, repeated, scalars, scalars_of_all, fit_words}

-- both of two tests
pub both : (a b : Bool) → (a && b) ≡ true → (a ≡ true) × (b ≡ true)
both true b h = (refl, h)
both false b h = absurd (false≢true h)

pub joined : (a b : Bool) → a ≡ true → b ≡ true → (a && b) ≡ true
joined true b h k = k
joined false b h k = h

-- a shape has as many scalars as words
length-repeated : (n : ℕ) (ss : List Scalar) → length (repeated n ss) ≡ n * length ss
length-repeated zero ss = omega arith
length-repeated (suc n) ss = omega (arith, length-append ss (repeated n ss), length-repeated n ss)

mutual
  pub length-scalars : (s : Shape) → length (scalars s) ≡ words s
  length-scalars (one s) = refl
  length-scalars (many n s) = length-repeated n (scalars s) ∙ ap (λ w. n * w) (length-scalars s)
  length-scalars (all ss) = length-scalars_of_all ss

  length-scalars_of_all : (ss : Shapes) → length (scalars_of_all ss) ≡ words_of_all ss
  length-scalars_of_all no_shapes = refl
  length-scalars_of_all (shape s ss) =
      omega (arith, length-append (scalars s) (scalars_of_all ss), length-scalars s, length-scalars_of_all ss)

-- numbers that fit scalars are as many
pub fit_words-length : (ss : List Scalar) (ns : List ℤ) → fit_words ss ns ≡ true → length ns ≡ length ss
fit_words-length [] [] h = refl
fit_words-length [] (n ∷ ns) h = absurd (false≢true h)
fit_words-length (s ∷ ss) [] h = absurd (false≢true h)
fit_words-length (s ∷ ss) (n ∷ ns) h = ap suc (fit_words-length ss ns (both _ _ h).1)

pub fit_words-append : (ss ts : List Scalar) (ms ns : List ℤ) → fit_words ss ms ≡ true → fit_words ts ns ≡ true → fit_words (ss ++ ts) (ms ++ ns) ≡ true
fit_words-append [] ts [] ns h k = k
fit_words-append [] ts (m ∷ ms) ns h k = absurd (false≢true h)
fit_words-append (s ∷ ss) ts [] ns h k = absurd (false≢true h)
fit_words-append (s ∷ ss) ts (m ∷ ms) ns h k =
    joined _ _ (both _ _ h).0 (fit_words-append ss ts ms ns (both _ _ h).1 k)

-- the numbers of a value that fits its shape fit its scalars
each_flat : (n : ℕ) (s : Shape) → ((v : Value) → fits s v ≡ true → fit_words (scalars s) (flat v) ≡ true) → (vs : Values) → fits_each n (fits s) vs ≡ true → fit_words (repeated n (scalars s)) (flat_all vs) ≡ true
each_flat zero s f no_values h = refl
each_flat zero s f (value v vs) h = absurd (false≢true h)
each_flat (suc n) s f no_values h = absurd (false≢true h)
each_flat (suc n) s f (value v vs) h =
    fit_words-append (scalars s) (repeated n (scalars s)) (flat v) (flat_all vs) (f v (both _ _ h).0) (each_flat n s f vs (both _ _ h).1)

mutual
  pub fit_words-flat : (s : Shape) (v : Value) → fits s v ≡ true → fit_words (scalars s) (flat v) ≡ true
  fit_words-flat (one s) (word n) h = joined _ true h refl
  fit_words-flat (one s) (parts vs) h = absurd (false≢true h)
  fit_words-flat (many n s) (word k) h = absurd (false≢true h)
  fit_words-flat (many n s) (parts vs) h = each_flat n s (fit_words-flat s) vs h
  fit_words-flat (all ss) (word n) h = absurd (false≢true h)
  fit_words-flat (all ss) (parts vs) h = fit_words-flat_all ss vs h

  pub fit_words-flat_all : (ss : Shapes) (vs : Values) → fits_all ss vs ≡ true → fit_words (scalars_of_all ss) (flat_all vs) ≡ true
  fit_words-flat_all no_shapes no_values h = refl
  fit_words-flat_all no_shapes (value v vs) h = absurd (false≢true h)
  fit_words-flat_all (shape s ss) no_values h = absurd (false≢true h)
  fit_words-flat_all (shape s ss) (value v vs) h =
      fit_words-append (scalars s) (scalars_of_all ss) (flat v) (flat_all vs) (fit_words-flat s v (both _ _ h).0) (fit_words-flat_all ss vs (both _ _ h).1)

-- a value that fits its shape has as many numbers as the shape has words
pub length-flat : (s : Shape) (v : Value) → IsTrue (fits s v) → length (flat v) ≡ words s
length-flat s v h =
    fit_words-length (scalars s) (flat v) (fit_words-flat s v h) ∙ length-scalars s

-- the zero value: it fits where each scalar has a number, and its numbers are 0
zero_fits-scalar : (s : Scalar) → has_numbers s ≡ true → fits_scalar s (pos 0) ≡ true
zero_fits-scalar scalar.Bool h = refl
zero_fits-scalar scalar.U8 h = refl
zero_fits-scalar scalar.U16 h = refl
zero_fits-scalar scalar.U32 h = refl
zero_fits-scalar scalar.U64 h = refl
zero_fits-scalar scalar.I8 h = refl
zero_fits-scalar scalar.I16 h = refl
zero_fits-scalar scalar.I32 h = refl
zero_fits-scalar scalar.I64 h = refl
zero_fits-scalar (scalar.Ix n) h = h

copies_fit : (n : ℕ) (p : Value → Bool) (v : Value) → p v ≡ true → fits_each n p (copies n v) ≡ true
copies_fit zero p v h = refl
copies_fit (suc n) p v h = joined _ _ h (copies_fit n p v h)

mutual
  pub zero_of-fits : (s : Shape) → IsTrue (each_scalar has_numbers s) → IsTrue (fits s (zero_of s))
  zero_of-fits (one s) h = zero_fits-scalar s h
  zero_of-fits (many n s) h = copies_fit n (fits s) (zero_of s) (zero_of-fits s h)
  zero_of-fits (all ss) h = zeros_of-fits ss h

  pub zeros_of-fits : (ss : Shapes) → IsTrue (each_scalar_of_all has_numbers ss) → IsTrue (fits_all ss (zeros_of ss))
  zeros_of-fits no_shapes h = refl
  zeros_of-fits (shape s ss) h = joined _ _ (zero_of-fits s (both _ _ h).0) (zeros_of-fits ss (both _ _ h).1)

flat-copies : (n w : ℕ) (v : Value) → flat v ≡ replicate w (pos 0) → flat_all (copies n v) ≡ replicate (n * w) (pos 0)
flat-copies zero w v h =
    let none : 0 ≡ 0 * w = omega arith in
    ap (λ k. replicate k (pos 0)) none
flat-copies (suc n) w v h =
    let more : w + n * w ≡ suc n * w = omega arith in
    ap (λ l. l ++ flat_all (copies n v)) h ∙ ap (λ l. replicate w (pos 0) ++ l) (flat-copies n w v h) ∙ replicate-append-replicate w (n * w) (pos 0) ∙ ap (λ k. replicate k (pos 0)) more

mutual
  pub flat-zero_of : (s : Shape) → flat (zero_of s) ≡ replicate (words s) (pos 0)
  flat-zero_of (one s) = refl
  flat-zero_of (many n s) = flat-copies n (words s) (zero_of s) (flat-zero_of s)
  flat-zero_of (all ss) = flat-zeros_of ss

  pub flat-zeros_of : (ss : Shapes) → flat_all (zeros_of ss) ≡ replicate (words_of_all ss) (pos 0)
  flat-zeros_of no_shapes = refl
  flat-zeros_of (shape s ss) =
      ap (λ l. l ++ flat_all (zeros_of ss)) (flat-zero_of s) ∙ ap (λ l. replicate (words s) (pos 0) ++ l) (flat-zeros_of ss) ∙ replicate-append-replicate (words s) (words_of_all ss) (pos 0)
