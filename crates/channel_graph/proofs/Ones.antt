-- A record's shape is that of its fields, never a scalar's.
use Rattle.std.proofs.Common.{◌≡◌, ◌∙◌, ℕ, zero, suc, List, [], ◌∷◌, ◌++◌, get_or, fold, true, false, refl, ap, sym}
use Rattle.tower_types.specs.declared.scalar.Scalar.{Scalar}
use Rattle.tower_types.specs.declared.ty.Ty.{Ty as TyValue}
use Rattle.tower_types.specs.declared.ty.Ty.TheVariants as types
use Rattle.tower_types.specs.Ty.{Records, Shape, rec, shape_of_fields}
use Rattle.tower_types.specs.View.{ty_of}
use Rattle.tower_types.proofs.Seen.{ty_of-Scalar, ty_of-Array, ty_of-Rec}
use Rattle.tower_syntax.specs.Arch.{Arch}
use Rattle.tower_syntax.specs.Weights.{no_shape}
use Rattle.channel_graph.specs.Scoped.{is_one, shape_by}

abbrev NoneIsOne : List Shape → Type 0
NoneIsOne ss = (r : ℕ) → is_one (get_or ss r no_shape) ≡ false

push_none : (ss : List Shape) (s : Shape) → NoneIsOne ss → is_one s ≡ false → NoneIsOne (ss ++ s ∷ [])
push_none [] s none here zero = here
push_none [] s none here (suc r) = refl
push_none (t ∷ ss) s none here zero = none 0
push_none (t ∷ ss) s none here (suc r) = push_none ss s (λ q. none (suc q)) here r

table_none : (records : Records) (ss : List Shape) → NoneIsOne ss → NoneIsOne (fold (λ table fields. table ++ shape_of_fields table fields ∷ []) ss records)
table_none [] ss none = none
table_none (fields ∷ records) ss none = table_none records (ss ++ shape_of_fields ss fields ∷ []) (push_none ss (shape_of_fields ss fields) none refl)

pub is_one-Scalar : (arch : Arch) (ty : TyValue) (s : Scalar) → ty ≡ types.Scalar s → true ≡ is_one (shape_by arch (ty_of ty))
is_one-Scalar arch ty s e = ap (λ t. is_one (shape_by arch t)) (sym (ap ty_of e ∙ ty_of-Scalar s))

pub is_one-Array : (arch : Arch) (ty : TyValue) (n : ℕ) (t : TyValue) → ty ≡ types.Array n t → false ≡ is_one (shape_by arch (ty_of ty))
is_one-Array arch ty n t e = ap (λ u. is_one (shape_by arch u)) (sym (ap ty_of e ∙ ty_of-Array n t))

pub is_one-Rec : (arch : Arch) (ty : TyValue) (r : ℕ) → ty ≡ types.Rec r → false ≡ is_one (shape_by arch (ty_of ty))
is_one-Rec arch ty r e =
    let none : is_one (shape_by arch (rec r)) ≡ false = table_none arch.records [] (λ q. refl) r in
    sym (ap (λ u. is_one (shape_by arch u)) (ap ty_of e ∙ ty_of-Rec r) ∙ none)
