use Rattle.std.proofs.Common.{[], ◌∷◌, take}
use Rattle.tower_syntax.specs.NamedView.{named_field_of}
use Rattle.tower_types.specs.View.{fields_of}
use Rattle.arch_types.specs.Outline.{field}
use Rattle.arch_types.proofs.Gathered.{Gathered}
use Rattle.arch_types.proofs.outline.record_fields.Given as goal

abbrev pub invariant-loop-field : goal.invariant-loop-field
invariant-loop-field l = Gathered named_field_of (λ f. field f ∷ []) [] (take l.field-index l.fields) (fields_of l.made.items)
