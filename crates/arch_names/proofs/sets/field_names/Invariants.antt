use Rattle.std.proofs.Common.{[], ◌∷◌, take}
use Rattle.tower_syntax.specs.RawView.{raw_field_of}
use Rattle.arch_names.specs.Sets.{declared_as}
use Rattle.arch_names.proofs.Gathered.{Filled}
use Rattle.arch_names.proofs.sets.field_names.Given as goal

abbrev pub invariant-loop-field : goal.invariant-loop-field
invariant-loop-field l = Filled raw_field_of (λ f. declared_as f.name tt ∷ []) [] (take l.field-index l.fields) l.names
