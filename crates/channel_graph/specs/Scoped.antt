-- The types of names and places, by their shapes.
use Rattle.std.specs.Prelude.{◌≡◌, length, Bool, true, false}
use Rattle.tower_types.specs.Ty.{Ty, Shape, one, many, all, shape_in, table_of}
use Rattle.tower_syntax.specs.Arch.{Arch}
use Rattle.tower_syntax.specs.Tree.{no_steps}
use Rattle.tower_syntax.specs.Weights.{steps_shape}
use Rattle.tower_syntax.specs.WellNumbered.{IsNumberedType}
use Rattle.tower_syntax.specs.declared.body.PlaceStep.{PlaceStep as StepValue}
use Rattle.channel_graph.specs.Stepped.{step_of}

-- the shape of a type of the system
abbrev pub shape_by : Arch → Ty → Shape
shape_by arch t = shape_in (table_of arch.records) t

-- the type is known, and has this shape
pub record HasShape (arch : Arch) (s : Shape) (t : Ty) : Type 0 where
  pub numbered : IsNumberedType (length arch.records) t
  pub shape : shape_by arch t ≡ s

-- one step into a shape
abbrev pub part_shape : StepValue → Shape → Shape
part_shape step s = steps_shape s (step_of step no_steps)

abbrev pub is_one : Shape → Bool
is_one (one s) = true
is_one (many n s) = false
is_one (all ss) = false
