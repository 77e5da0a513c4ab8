-- Types, and the shapes that they have once the records are looked up.
use Rattle.std.specs.Prelude.{ℕ, ◌+◌, ◌*◌, ◌<◌, max, List, [], ◌∷◌, ◌++◌, map, fold, slice_index_or}
use Rattle.tower_types.specs.declared.scalar.Scalar.{Scalar}

-- a record is named by its place among the records
pub data Ty : Type 0 where
  scalar : Scalar → Ty
  array : ℕ → Ty → Ty
  rec : ℕ → Ty

abbrev pub Name : Type 0
Name = List ℕ

abbrev pub Fields : Type 0
Fields = List (Name × Ty)

abbrev pub Records : Type 0
Records = List Fields

-- each record that the type names is one of the first n
abbrev pub NamesBelow : ℕ → Ty → Type 0
NamesBelow n (scalar s) = Unit {0}
NamesBelow n (array len t) = NamesBelow n t
NamesBelow n (rec r) = r < n

-- how many arrays stand in one another
abbrev pub nesting : Ty → ℕ
nesting (scalar s) = 0
nesting (array len t) = nesting t + 1
nesting (rec r) = 0

-- a type with its records looked up: one scalar, an array of a shape, or a record's fields
mutual
  pub data Shape : Type 0 where
    one : Scalar → Shape
    many : ℕ → Shape → Shape
    all : Shapes → Shape

  pub data Shapes : Type 0 where
    no_shapes : Shapes
    shape : Shape → Shapes → Shapes

abbrev pub shapes_of : List Shape → Shapes
shapes_of [] = no_shapes
shapes_of (s ∷ ss) = shape s (shapes_of ss)

-- the shape of a type, over the shapes of the records
abbrev pub shape_in : List Shape → Ty → Shape
shape_in table (scalar s) = one s
shape_in table (array n t) = many n (shape_in table t)
shape_in table (rec r) = slice_index_or table r (all no_shapes)

-- the shape of a record, or of a monitor's states: that of its fields in order
abbrev pub shape_of_fields : List Shape → Fields → Shape
shape_of_fields table fields = all (shapes_of (map (λ f. shape_in table f.1) fields))

-- the shapes of the records: a record names earlier ones only
abbrev pub table_of : Records → List Shape
table_of records = fold (λ table fields. table ++ shape_of_fields table fields ∷ []) [] records

abbrev pub shape_of : Records → Ty → Shape
shape_of records t = shape_in (table_of records) t

-- how many numbers a value of the shape has
abbrev mutual
  pub words : Shape → ℕ
  words (one s) = 1
  words (many n s) = n * words s
  words (all ss) = words_of_all ss

  pub words_of_all : Shapes → ℕ
  words_of_all no_shapes = 0
  words_of_all (shape s ss) = words s + words_of_all ss

-- 1 for a scalar and for a record with no field, and 1 more than the deepest part otherwise
abbrev mutual
  pub depth : Shape → ℕ
  depth (one s) = 1
  depth (many n s) = depth s + 1
  depth (all ss) = depth_of_all ss + 1

  pub depth_of_all : Shapes → ℕ
  depth_of_all no_shapes = 0
  depth_of_all (shape s ss) = max (depth s) (depth_of_all ss)
