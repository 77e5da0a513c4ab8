use Rattle.std.proofs.Common.{◌≡◌, take}
use Rattle.tower_types.specs.Ty.{shape_of_fields, table_of, words}
use Rattle.tower_types.specs.View.{fields_of}
use Rattle.tower_types.specs.Records.{saturated}
use Rattle.tower_types.proofs.records.Records.fields_words.Given as goal

abbrev pub invariant-loop-ty : goal.invariant-loop-ty
invariant-loop-ty l =
    l.total ≡ saturated (words (shape_of_fields (table_of l.self) (fields_of (take l.ty-index l.fields))))
