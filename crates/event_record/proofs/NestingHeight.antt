-- Arrays of a type are nested less deep than the type is high.
use Rattle.std.proofs.Common.{◌≡◌, ◌≤◌, ◌+◌, length, List, sym, subst, arith}
use Rattle.tower_types.specs.Ty.{Ty, scalar, array, rec, Fields, Records, nesting}
use Rattle.tower_types.specs.Records.{IsTypeAmong}
use Rattle.tower_syntax.specs.WellNumbered.{type_height, IsNumberedType}

nesting-height : (t : Ty) → nesting t + 1 ≤ type_height t
nesting-height (scalar s) = omega arith
nesting-height (array n t) = omega (arith, nesting-height t)
nesting-height (rec r) = omega arith

pub among_by_height : (records seen : Records) (t : Ty) → seen ≡ records → IsNumberedType (length records) t → IsTypeAmong (length seen) t
among_by_height records seen t e h = subst (λ r. IsTypeAmong (length r) t) (sym e) (h.0, omega (arith, h.1, nesting-height t))
