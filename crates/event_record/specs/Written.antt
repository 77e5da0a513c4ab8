-- Values as they are written, and what they are at a type.
use Rattle.std.specs.Prelude.{◌≡◌, ◌≤◌, ℕ, zero, suc, ◌+◌, max, ℤ, pos, List, [], ◌∷◌, ◌++◌, Bool, true, false, cond, ◌&&◌, ◌||◌, bytes_eq, Option, Some, None, option_map, option_and_then}
use Rattle.tower_types.specs.declared.scalar.Scalar.{Scalar}
use Rattle.tower_types.specs.declared.scalar.Scalar.TheVariants as scalar
use Rattle.tower_types.specs.Ty.{Shape, one, many, all, Shapes, no_shapes, shape}
use Rattle.tower_types.specs.Value.{Value, word, parts, Values, no_values, value, fits_scalar}
use Rattle.tower_syntax.specs.Words.{truth_word}
use Rattle.tower_reader.specs.Words.{literal_in}
use Rattle.event_record.specs.Lines.{Bytes}
use Rattle.event_record.specs.Numbers.{is_number}
use Rattle.event_record.specs.Tokens.{Token, left, right, atom, tokens}

mutual
  pub data Written : Type 0 where
    literal : Bytes → Written
    list : Writtens → Written

  pub data Writtens : Type 0 where
    no_more : Writtens
    written : Written → Writtens → Writtens

-- the tokens that spell it: a list stands in brackets
abbrev mutual
  pub spelling : Written → List Token
  spelling (literal text) = atom text ∷ []
  spelling (list ws) = left ∷ (spellings ws ++ right ∷ [])

  pub spellings : Writtens → List Token
  spellings no_more = []
  spellings (written w ws) = spelling w ++ spellings ws

-- a number, or a truth
abbrev pub is_literal : Bytes → Bool
is_literal text = is_number text || bytes_eq text (truth_word true) || bytes_eq text (truth_word false)

abbrev mutual
  pub has_literals : Written → Bool
  has_literals (literal text) = is_literal text
  has_literals (list ws) = have_literals ws

  pub have_literals : Writtens → Bool
  have_literals no_more = true
  have_literals (written w ws) = has_literals w && have_literals ws

-- a literal and an empty list are 1 deep, and another list is 1 deeper than its deepest part
abbrev mutual
  pub written_depth : Written → ℕ
  written_depth (literal text) = 1
  written_depth (list ws) = deepest ws + 1

  pub deepest : Writtens → ℕ
  deepest no_more = 0
  deepest (written w ws) = max (written_depth w) (deepest ws)

-- how deep a value may be
abbrev pub depth_limit : ℕ
depth_limit = 32

-- the text spells a value that is written so
pub record IsValue (text : Bytes) (w : Written) : Type 0 where
  pub spelled : tokens text ≡ spelling w
  pub literals : has_literals w ≡ true
  pub shallow : written_depth w ≤ depth_limit

-- ---- what it is at a type

-- the number, where it is one of the scalar
abbrev pub fitting : Scalar → ℤ → Option Value
fitting s n = cond (fits_scalar s n) (Some (word n)) None

abbrev pub truth_at : Bytes → Option Value
truth_at text = cond (bytes_eq text (truth_word true)) (Some (word (pos 1))) (cond (bytes_eq text (truth_word false)) (Some (word (pos 0))) None)

-- `true` and `false` fit `bool` and nothing else, and a number fits no `bool`
abbrev pub literal_at : Scalar → Bytes → Option Value
literal_at scalar.Bool text = truth_at text
literal_at s text = option_and_then (fitting s) (literal_in text)

abbrev pub before : Value → Option Values → Option Values
before v rest = option_map (value v) rest

abbrev pub as_parts : Option Values → Option Value
as_parts vs = option_map parts vs

-- n parts, each of which is a value
abbrev pub each_at : ℕ → (Written → Option Value) → Writtens → Option Values
each_at zero f no_more = Some no_values
each_at zero f (written w ws) = None
each_at (suc n) f no_more = None
each_at (suc n) f (written w ws) = option_and_then (λ v. before v (each_at n f ws)) (f w)

-- the value of a shape that is written so
abbrev mutual
  pub value_at : Shape → Written → Option Value
  value_at (one s) (literal text) = literal_at s text
  value_at (one s) (list ws) = None
  value_at (many n s) (literal text) = None
  value_at (many n s) (list ws) = as_parts (each_at n (value_at s) ws)
  value_at (all ss) (literal text) = None
  value_at (all ss) (list ws) = as_parts (values_at ss ws)

  pub values_at : Shapes → Writtens → Option Values
  values_at no_shapes no_more = Some no_values
  values_at no_shapes (written w ws) = None
  values_at (shape s ss) no_more = None
  values_at (shape s ss) (written w ws) = option_and_then (λ v. before v (values_at ss ws)) (value_at s w)
