-- How values are printed: numbers as plain decimals, truths by their names, and the values of an array or record in brackets.
use Rattle.std.specs.Prelude.{ℕ, zero, suc, List, [], ◌∷◌, map, take, drop, ℤ, pos, Bool, true, false, codes, slice_index_or}
use Rattle.std.specs.Fmt.{signed_decimal}
use Rattle.tower_types.specs.declared.scalar.Scalar.{Scalar}
use Rattle.tower_types.specs.declared.scalar.Scalar.TheVariants as scalar
use Rattle.tower_types.specs.Arithmetic.{is_true}
use Rattle.tower_types.specs.Ty.{Shape, one, many, all, Shapes, no_shapes, shape, shapes_of, shape_of, Fields, Records, words, words_of_all, depth_of_all}
use Rattle.tower_types.specs.Value.{Value, word, parts, Values, no_values, value, num}
use Rattle.tower_report.specs.Bytes.{Bytes, in_brackets}

abbrev pub truth_text : Bool → Bytes
truth_text true = codes "true"
truth_text false = codes "false"

abbrev pub number_text : Scalar → ℤ → Bytes
number_text scalar.Bool n = truth_text (is_true n)
number_text _ n = signed_decimal n

-- ---- of the words of a value

-- the first n parts of so many words
abbrev pub cut : ℕ → ℕ → List ℤ → List (List ℤ)
cut zero width ws = []
cut (suc n) width ws = take width ws ∷ cut n width (drop width ws)

-- each part of a value from its part of the words
abbrev mutual
  pub words_text : Shape → List ℤ → Bytes
  words_text (one s) ws = number_text s (slice_index_or ws 0 (pos 0))
  words_text (many n s) ws = in_brackets (map (words_text s) (cut n (words s) ws))
  words_text (all ss) ws = in_brackets (texts_of_words ss ws)

  pub texts_of_words : Shapes → List ℤ → List Bytes
  texts_of_words no_shapes ws = []
  texts_of_words (shape s ss) ws = words_text s (take (words s) ws) ∷ texts_of_words ss (drop (words s) ws)

-- the shapes of a record's fields
abbrev pub shapes_in : Records → Fields → List Shape
shapes_in records fields = map (λ f. shape_of records f.1) fields

abbrev pub shapes_depth : List Shape → ℕ
shapes_depth ss = depth_of_all (shapes_of ss)

abbrev pub shapes_words : List Shape → ℕ
shapes_words ss = words_of_all (shapes_of ss)

-- ---- of a value

abbrev pub parts_of : Value → Values
parts_of (word n) = no_values
parts_of (parts vs) = vs

abbrev pub each_text : (Value → Bytes) → Values → List Bytes
each_text f no_values = []
each_text f (value v vs) = f v ∷ each_text f vs

abbrev mutual
  pub value_text : Shape → Value → Bytes
  value_text (one s) v = number_text s (num v)
  value_text (many n s) v = in_brackets (each_text (value_text s) (parts_of v))
  value_text (all ss) v = in_brackets (texts_of_values ss (parts_of v))

  pub texts_of_values : Shapes → Values → List Bytes
  texts_of_values no_shapes vs = []
  texts_of_values (shape s ss) no_values = []
  texts_of_values (shape s ss) (value v vs) = value_text s v ∷ texts_of_values ss vs
