use Rattle.std.proofs.Common.{◌≡◌, map, sum, take}
use Rattle.tower_types.specs.Ty.{words, table_of}
use Rattle.tower_types.specs.View.{fields_of}
use Rattle.tower_types.specs.Records.{saturated}
use Rattle.tower_syntax.specs.Weights.{field_shapes}
use Rattle.task_build.proofs.sizes.fields_words.Given as goal

abbrev pub invariant-loop-ty : goal.invariant-loop-ty
invariant-loop-ty l = l.total ≡ saturated (sum (map words (field_shapes (table_of l.arch.records) (fields_of (take l.ty-index l.fields)))))
