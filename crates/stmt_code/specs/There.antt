-- The shape of a type that may not be there, and what the numbers of an address stand for.
use Rattle.std.specs.Prelude.{length, Option, None, Some}
use Rattle.tower_types.specs.Ty.{Ty, Shape}
use Rattle.tower_syntax.specs.Arch.{Arch}
use Rattle.tower_syntax.specs.Weights.{no_shape}
use Rattle.tower_syntax.specs.WellNumbered.{IsNumberedType}
use Rattle.channel_graph.specs.Scoped.{shape_by}

abbrev pub shape_there : Arch → Option Ty → Shape
shape_there arch None = no_shape
shape_there arch (Some t) = shape_by arch t

-- the type is one of the system, where it is there
abbrev pub IsKnown : Arch → Option Ty → Type 0
IsKnown arch None = Unit {0}
IsKnown arch (Some t) = IsNumberedType (length arch.records) t
