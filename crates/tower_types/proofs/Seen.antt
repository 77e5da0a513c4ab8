-- The plain tree that each variant of a type or a value stands for.
use Rattle.std.proofs.Common.{◌≡◌, ℕ, ℤ, List, ap, sym, ◌∙◌}
use Rattle.tower_types.specs.declared.scalar.Scalar.{Scalar}
use Rattle.tower_types.specs.declared.ty.Ty.{Ty as TyValue}
use Rattle.tower_types.specs.declared.ty.Ty.TheVariants as ty
use Rattle.tower_types.specs.declared.ty.Ty.TheOpen.{Ty-F}
use Rattle.tower_types.specs.declared.ty.Ty.TheFolds.{fold-roll-Ty}
use Rattle.tower_types.specs.declared.value.Value.{Value as ValueValue}
use Rattle.tower_types.specs.declared.value.Value.TheVariants as variant
use Rattle.tower_types.specs.declared.value.Value.TheOpen.{Value-F}
use Rattle.tower_types.specs.declared.value.Value.TheFolds.{fold-roll-Value}
use Rattle.tower_types.specs.Ty.{Ty, scalar, array, rec}
use Rattle.tower_types.specs.Value.{Value, word, parts}
use Rattle.tower_types.specs.View.{ty_step, ty_of, value_step, value_of, all_values_of}

pub ty_of-Scalar : (s : Scalar) → ty_of (ty.Scalar s) ≡ scalar s
ty_of-Scalar s = ap ty_of (sym (ty.rolls-Scalar s)) ∙ fold-roll-Ty Ty ty_step (Ty-F.Scalar s)

pub ty_of-Array : (n : ℕ) (t : TyValue) → ty_of (ty.Array n t) ≡ array n (ty_of t)
ty_of-Array n t = ap ty_of (sym (ty.rolls-Array n t)) ∙ fold-roll-Ty Ty ty_step (Ty-F.Array n t)

pub ty_of-Rec : (r : ℕ) → ty_of (ty.Rec r) ≡ rec r
ty_of-Rec r = ap ty_of (sym (ty.rolls-Rec r)) ∙ fold-roll-Ty Ty ty_step (Ty-F.Rec r)

pub value_of-Word : (n : ℤ) → value_of (variant.Word n) ≡ word n
value_of-Word n = ap value_of (sym (variant.rolls-Word n)) ∙ fold-roll-Value Value value_step (Value-F.Word n)

pub value_of-Parts : (vs : List ValueValue) → value_of (variant.Parts vs) ≡ parts (all_values_of vs)
value_of-Parts vs = ap value_of (sym (variant.rolls-Parts vs)) ∙ fold-roll-Value Value value_step (Value-F.Parts vs)
