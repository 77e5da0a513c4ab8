-- What atoms are: scalars, truths and numbers.
use Rattle.std.specs.Prelude.{ℕ, ◌^◌, ◌-◌, ℤ, pos, neg_ℤ, List, [], ◌∷◌, Bool, true, false, if◌then◌else◌, ◌&&◌, nat_le, ◌==◌, length, Option, Some, None, bytes_eq, find, decimal}
use Rattle.std.specs.Str.Parse.{digits_value}
use Rattle.tower_types.specs.declared.scalar.Scalar.{Scalar}
use Rattle.tower_types.specs.declared.scalar.Scalar.TheVariants as scalar
use Rattle.tower_syntax.specs.Words.{scalar_word, truth_word}

-- the scalars with a word of their own
abbrev pub scalars : List Scalar
scalars = scalar.Bool ∷ scalar.U8 ∷ scalar.U16 ∷ scalar.U32 ∷ scalar.U64 ∷ scalar.I8 ∷ scalar.I16 ∷ scalar.I32 ∷ scalar.I64 ∷ []

-- the scalar with this word
abbrev pub scalar_named : List ℕ → Option Scalar
scalar_named w = find (λ s. bytes_eq (scalar_word s) w) scalars

-- the truth with this word
abbrev pub truth_named : List ℕ → Option Bool
truth_named w = find (λ b. bytes_eq (truth_word b) w) (true ∷ false ∷ [])

-- how many bytes a name may have
abbrev pub name_limit : ℕ
name_limit = 64

abbrev pub is_short : List ℕ → Bool
is_short w = nat_le (length w) name_limit

abbrev pub when : {A : Type 0} → Bool → A → Option A
when true a = Some a
when false a = None

-- the number from `low` to `high` of which the bytes are the decimal text
abbrev pub number_in : ℕ → ℕ → List ℕ → Option ℕ
number_in low high w = when (nat_le low (digits_value 10 w) && nat_le (digits_value 10 w) high && bytes_eq (decimal (digits_value 10 w)) w) (digits_value 10 w)

abbrev pub negated : Option ℕ → Option ℤ
negated None = None
negated (Some n) = Some (neg_ℤ (pos n))

abbrev pub unsigned : Option ℕ → Option ℤ
unsigned None = None
unsigned (Some n) = Some (pos n)

-- the number of a literal of which the bytes are the text: `-` and digits, or digits
abbrev pub literal_in : List ℕ → Option ℤ
literal_in [] = None
literal_in (b ∷ bs) = if b == 45 then negated (number_in 1 (2 ^ 63) bs) else unsigned (number_in 0 (2 ^ 64 - 1) (b ∷ bs))
