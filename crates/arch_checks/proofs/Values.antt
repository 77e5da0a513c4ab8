-- A value that fits a shape is no deeper than the shape.
use Rattle.std.proofs.Common.{◌≡◌, ℕ, zero, suc, ◌≤◌, Bool, true, arith}
use Rattle.std.proofs.lemmas.Bool.{false≢true}
use Rattle.tower_types.specs.Ty.{Shape, one, many, all, Shapes, no_shapes, shape, depth, depth_of_all}
use Rattle.tower_types.specs.Value.{Value, word, parts, Values, no_values, value, fits, fits_all, fits_each, value_depth, depth_of_values}
use Rattle.tower_types.proofs.Flat.{both}

each_low : (n : ℕ) (p : Value → Bool) (k : ℕ) → ((v : Value) → p v ≡ true → value_depth v ≤ k) → (vs : Values) → fits_each n p vs ≡ true → depth_of_values vs ≤ k
each_low zero p k low no_values h = omega arith
each_low zero p k low (value v vs) h = absurd (false≢true h)
each_low (suc n) p k low no_values h = omega arith
each_low (suc n) p k low (value v vs) h =
    let two = both (p v) (fits_each n p vs) h in
    let one : value_depth v ≤ k = low v two.0 in
    let rest : depth_of_values vs ≤ k = each_low n p k low vs two.1 in
    omega (arith, one, rest)

mutual
  pub low_value : (s : Shape) (v : Value) → fits s v ≡ true → value_depth v ≤ depth s
  low_value (one c) (word n) h = omega arith
  low_value (one c) (parts vs) h = absurd (false≢true h)
  low_value (many n s) (word m) h = absurd (false≢true h)
  low_value (many n s) (parts vs) h = let r : depth_of_values vs ≤ depth s = each_low n (fits s) (depth s) (λ v e. low_value s v e) vs h in omega (arith, r)
  low_value (all ss) (word m) h = absurd (false≢true h)
  low_value (all ss) (parts vs) h = let r : depth_of_values vs ≤ depth_of_all ss = low_values ss vs h in omega (arith, r)

  pub low_values : (ss : Shapes) (vs : Values) → fits_all ss vs ≡ true → depth_of_values vs ≤ depth_of_all ss
  low_values no_shapes no_values h = omega arith
  low_values no_shapes (value v vs) h = absurd (false≢true h)
  low_values (shape s ss) no_values h = omega arith
  low_values (shape s ss) (value v vs) h =
      let two = both (fits s v) (fits_all ss vs) h in
      let one : value_depth v ≤ depth s = low_value s v two.0 in
      let rest : depth_of_values vs ≤ depth_of_all ss = low_values ss vs two.1 in
      omega (arith, one, rest)
