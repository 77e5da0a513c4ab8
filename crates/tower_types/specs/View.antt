-- The plain trees that the types and values of a program stand for.
use Rattle.std.specs.Prelude.{List, map}
use Rattle.tower_types.specs.Ty.{Ty, scalar, array, rec, Fields, Name}
use Rattle.tower_types.specs.Value.{Value, Values, word, parts, values_of}
use Rattle.tower_types.specs.declared.ty.Ty.{Ty as TyValue}
use Rattle.tower_types.specs.declared.ty.Ty.TheOpen.{Ty-F}
use Rattle.tower_types.specs.declared.ty.Ty.TheFolds.{fold-Ty}
use Rattle.tower_types.specs.declared.value.Value.{Value as ValueValue}
use Rattle.tower_types.specs.declared.value.Value.TheOpen.{Value-F}
use Rattle.tower_types.specs.declared.value.Value.TheFolds.{fold-Value}

abbrev pub ty_step : Ty-F Ty → Ty
ty_step (Ty-F.Scalar s) = scalar s
ty_step (Ty-F.Array n t) = array n t
ty_step (Ty-F.Rec r) = rec r

abbrev pub ty_of : TyValue → Ty
ty_of = fold-Ty Ty ty_step

abbrev pub value_step : Value-F Value → Value
value_step (Value-F.Word n) = word n
value_step (Value-F.Parts vs) = parts (values_of vs)

abbrev pub value_of : ValueValue → Value
value_of = fold-Value Value value_step

abbrev pub fields_of : List (Name × TyValue) → Fields
fields_of fs = map (λ f. (f.0, ty_of f.1)) fs

abbrev pub all_values_of : List ValueValue → Values
all_values_of vs = values_of (map value_of vs)
