-- The tokens of a value, taken one after another: whether they spell one, and what they are at a type.
use Rattle.std.specs.Prelude.{◌≡◌, ℕ, zero, suc, ◌+◌, ◌-◌, ◌<◌, List, [], ◌∷◌, map, length, Bool, true, false, cond, not, ◌&&◌, ◌==◌, nat_lt, Option, Some, None, option_map, option_and_then}
use Rattle.tower_types.specs.declared.scalar.Scalar.{Scalar}
use Rattle.tower_types.specs.Ty.{Name, Shape, one, many, all, Shapes, no_shapes, shape, shape_in, shapes_of}
use Rattle.tower_types.specs.View.{fields_of}
use Rattle.tower_types.specs.declared.ty.Ty.{Ty as TyMade}
use Rattle.tower_types.specs.Value.{Value, Values, no_values, value, parts}
use Rattle.event_record.specs.Lines.{Bytes}
use Rattle.event_record.specs.Tokens.{Token, left, right, atom, stray, tokens}
use Rattle.event_record.specs.Written.{is_literal, depth_limit, literal_at}

-- where so many lists are unclosed, and the value is whole or not: a value may begin here
abbrev pub may_begin : ℕ → Bool → Bool
may_begin depth whole = not whole && nat_lt depth depth_limit

-- tokens from there on make one value, with literals at its atoms, that is not too deep
abbrev pub makes_value : ℕ → Bool → List Token → Bool
makes_value depth whole [] = depth == 0 && whole
makes_value depth whole (atom text ∷ ts) = may_begin depth whole && is_literal text && makes_value depth (depth == 0) ts
makes_value depth whole (left ∷ ts) = may_begin depth whole && makes_value (depth + 1) false ts
makes_value depth whole (right ∷ ts) = not (depth == 0) && makes_value (depth - 1) (depth - 1 == 0) ts
makes_value depth whole (stray ∷ ts) = false

-- ---- at a type

-- something with the tokens behind it
abbrev pub Taken : Type 0 → Type 0
Taken A = Option (A × List Token)

abbrev pub with_rest : List Token → Value → Value × List Token
with_rest ts v = (v, ts)

abbrev pub put_before : Value → Taken Values → Taken Values
put_before v None = None
put_before v (Some (vs, ts)) = Some (value v vs, ts)

-- the list that they are in must end behind the parts
abbrev pub closed : Taken Values → Taken Value
closed (Some (vs, right ∷ ts)) = Some (parts vs, ts)
closed _ = None

abbrev pub then_more : (List Token → Taken Values) → Taken Value → Taken Values
then_more more None = None
then_more more (Some (v, ts)) = put_before v (more ts)

-- n parts
abbrev pub take_each : ℕ → (List Token → Taken Value) → List Token → Taken Values
take_each zero f ts = Some (no_values, ts)
take_each (suc n) f ts = then_more (take_each n f) (f ts)

abbrev pub take_literal : Scalar → List Token → Taken Value
take_literal s (atom text ∷ ts) = option_map (with_rest ts) (literal_at s text)
take_literal s _ = None

abbrev pub within_list : (List Token → Taken Values) → List Token → Taken Value
within_list f (left ∷ ts) = closed (f ts)
within_list f _ = None

-- the value of a shape that tokens begin with
abbrev mutual
  pub take_value : Shape → List Token → Taken Value
  take_value (one s) = take_literal s
  take_value (many n s) = within_list (take_each n (take_value s))
  take_value (all ss) = within_list (take_values ss)

  pub take_values : Shapes → List Token → Taken Values
  take_values no_shapes ts = Some (no_values, ts)
  take_values (shape s ss) ts = then_more (take_values ss) (take_value s ts)

-- the value that is all of the tokens
abbrev pub is_none : List Token → Bool
is_none [] = true
is_none (t ∷ ts) = false

abbrev pub whole_value : Taken Value → Option Value
whole_value None = None
whole_value (Some (v, ts)) = cond (is_none ts) (Some v) None

-- the shapes of fields
abbrev pub shapes_at : List Shape → List (Name × TyMade) → Shapes
shapes_at table fields = shapes_of (map (λ f. shape_in table f.1) (fields_of fields))
