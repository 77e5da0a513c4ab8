-- Values: trees of numbers.
use Rattle.std.specs.Prelude.{ℕ, zero, suc, ◌+◌, ◌^◌, max, List, [], ◌∷◌, ◌++◌, drop, get_or, ℤ, pos, neg_ℤ, int_lt, int_le, nat_lt, Bool, true, false, ◌&&◌}
use Rattle.tower_types.specs.declared.scalar.Scalar.{Scalar}
use Rattle.tower_types.specs.declared.scalar.Scalar.TheVariants as scalar
use Rattle.tower_types.specs.Ty.{Shape, one, many, all, Shapes, no_shapes, shape, words}

mutual
  pub data Value : Type 0 where
    word : ℤ → Value
    parts : Values → Value

  pub data Values : Type 0 where
    no_values : Values
    value : Value → Values → Values

abbrev pub values_of : List Value → Values
values_of [] = no_values
values_of (v ∷ vs) = value v (values_of vs)

abbrev pub copies : ℕ → Value → Values
copies zero v = no_values
copies (suc n) v = value v (copies n v)

-- the value of a shape that has 0 at each scalar
abbrev mutual
  pub zero_of : Shape → Value
  zero_of (one s) = word (pos 0)
  zero_of (many n s) = parts (copies n (zero_of s))
  zero_of (all ss) = parts (zeros_of ss)

  pub zeros_of : Shapes → Values
  zeros_of no_shapes = no_values
  zeros_of (shape s ss) = value (zero_of s) (zeros_of ss)

-- the numbers of a value, in order
abbrev mutual
  pub flat : Value → List ℤ
  flat (word n) = n ∷ []
  flat (parts vs) = flat_all vs

  pub flat_all : Values → List ℤ
  flat_all no_values = []
  flat_all (value v vs) = flat v ++ flat_all vs

-- a number and an empty list are 1 deep, and another list is 1 deeper than its deepest part
abbrev mutual
  pub value_depth : Value → ℕ
  value_depth (word n) = 1
  value_depth (parts vs) = depth_of_values vs + 1

  pub depth_of_values : Values → ℕ
  depth_of_values no_values = 0
  depth_of_values (value v vs) = max (value_depth v) (depth_of_values vs)

-- the least number of a scalar, and the number above its greatest
abbrev pub least : Scalar → ℤ
least scalar.I8 = neg_ℤ (pos (2 ^ 7))
least scalar.I16 = neg_ℤ (pos (2 ^ 15))
least scalar.I32 = neg_ℤ (pos (2 ^ 31))
least scalar.I64 = neg_ℤ (pos (2 ^ 63))
least _ = pos 0

abbrev pub above : Scalar → ℤ
above scalar.Bool = pos 2
above scalar.U8 = pos (2 ^ 8)
above scalar.U16 = pos (2 ^ 16)
above scalar.U32 = pos (2 ^ 32)
above scalar.U64 = pos (2 ^ 64)
above scalar.I8 = pos (2 ^ 7)
above scalar.I16 = pos (2 ^ 15)
above scalar.I32 = pos (2 ^ 31)
above scalar.I64 = pos (2 ^ 63)
above (scalar.Ix n) = pos n

abbrev pub fits_scalar : Scalar → ℤ → Bool
fits_scalar s n = int_le (least s) n && int_lt n (above s)

-- some number fits the scalar
abbrev pub has_numbers : Scalar → Bool
has_numbers (scalar.Ix n) = nat_lt 0 n
has_numbers _ = true

-- each scalar of the shape passes the test
abbrev mutual
  pub each_scalar : (Scalar → Bool) → Shape → Bool
  each_scalar p (one s) = p s
  each_scalar p (many n s) = each_scalar p s
  each_scalar p (all ss) = each_scalar_of_all p ss

  pub each_scalar_of_all : (Scalar → Bool) → Shapes → Bool
  each_scalar_of_all p no_shapes = true
  each_scalar_of_all p (shape s ss) = each_scalar p s && each_scalar_of_all p ss

abbrev pub at_word : (ℤ → Bool) → Value → Bool
at_word p (word n) = p n
at_word p (parts vs) = false

abbrev pub at_parts : (Values → Bool) → Value → Bool
at_parts p (word n) = false
at_parts p (parts vs) = p vs

abbrev pub at_first : (Value → Bool) → (Values → Bool) → Values → Bool
at_first p q no_values = false
at_first p q (value v vs) = p v && q vs

abbrev pub is_none : Values → Bool
is_none no_values = true
is_none (value v vs) = false

-- there are n values, and each passes the test
abbrev pub fits_each : ℕ → (Value → Bool) → Values → Bool
fits_each zero p = is_none
fits_each (suc n) p = at_first p (fits_each n p)

-- the value has the shape, and each number is in its scalar's range
abbrev mutual
  pub fits : Shape → Value → Bool
  fits (one s) = at_word (fits_scalar s)
  fits (many n s) = at_parts (fits_each n (fits s))
  fits (all ss) = at_parts (fits_all ss)

  pub fits_all : Shapes → Values → Bool
  fits_all no_shapes = is_none
  fits_all (shape s ss) = at_first (fits s) (fits_all ss)

-- the scalars of the numbers of a value of the shape, in order
abbrev pub repeated : ℕ → List Scalar → List Scalar
repeated zero ss = []
repeated (suc n) ss = ss ++ repeated n ss

abbrev mutual
  pub scalars : Shape → List Scalar
  scalars (one s) = s ∷ []
  scalars (many n s) = repeated n (scalars s)
  scalars (all ss) = scalars_of_all ss

  pub scalars_of_all : Shapes → List Scalar
  scalars_of_all no_shapes = []
  scalars_of_all (shape s ss) = scalars s ++ scalars_of_all ss

-- there are as many numbers as scalars, and each fits its own
abbrev pub fit_words : List Scalar → List ℤ → Bool
fit_words [] [] = true
fit_words [] (n ∷ ns) = false
fit_words (s ∷ ss) [] = false
fit_words (s ∷ ss) (n ∷ ns) = fits_scalar s n && fit_words ss ns

-- n values, each made of the next numbers of a list, w at a time
abbrev pub in_turn : ℕ → ℕ → (List ℤ → Value) → List ℤ → List Value
in_turn zero w make ns = []
in_turn (suc n) w make ns = make ns ∷ in_turn n w make (drop w ns)

-- the value of a shape that is made of the first numbers of a list
abbrev mutual
  pub value_from : Shape → List ℤ → Value
  value_from (one s) ns = word (get_or ns 0 (pos 0))
  value_from (many n s) ns = parts (values_of (in_turn n (words s) (value_from s) ns))
  value_from (all ss) ns = parts (values_of (values_from ss ns))

  pub values_from : Shapes → List ℤ → List Value
  values_from no_shapes ns = []
  values_from (shape s ss) ns = value_from s ns ∷ values_from ss (drop (words s) ns)

-- the part at a place, and the value with a part put there
abbrev pub nth : Values → ℕ → Value
nth no_values k = word (pos 0)
nth (value v vs) zero = v
nth (value v vs) (suc k) = nth vs k

abbrev pub with_nth : Values → ℕ → Value → Values
with_nth no_values k w = no_values
with_nth (value v vs) zero w = value w vs
with_nth (value v vs) (suc k) w = value v (with_nth vs k w)

abbrev pub part : ℕ → Value → Value
part k (word n) = word (pos 0)
part k (parts vs) = nth vs k

abbrev pub with_part : ℕ → (Value → Value) → Value → Value
with_part k f (word n) = word n
with_part k f (parts vs) = parts (with_nth vs k (f (nth vs k)))

-- the number at a scalar
abbrev pub num : Value → ℤ
num (word n) = n
num (parts vs) = pos 0
