use Rattle.std.proofs.Common.{◌≡◌, take, map}
use Rattle.tower_types.specs.Ty.{shapes_of, shape_in, table_of, depth_of_all}
use Rattle.tower_types.specs.View.{fields_of}
use Rattle.tower_types.specs.Records.{saturated}
use Rattle.tower_types.proofs.records.Records.fields_depth.Given as goal

abbrev pub invariant-loop-ty : goal.invariant-loop-ty
invariant-loop-ty l =
    l.deepest ≡ saturated (depth_of_all (shapes_of (map (λ f. shape_in (table_of l.self) f.1) (fields_of (take l.ty-index l.fields)))))
