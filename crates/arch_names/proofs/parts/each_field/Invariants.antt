use Rattle.std.proofs.Common.{take}
use Rattle.tower_syntax.specs.RawView.{raw_field_of}
use Rattle.tower_syntax.specs.NamedView.{named_field_of}
use Rattle.arch_names.specs.Names.{find}
use Rattle.arch_names.specs.Sites.{field_sites}
use Rattle.arch_names.specs.Linked.{linked_field}
use Rattle.arch_names.specs.Walk.{meant}
use Rattle.arch_names.proofs.Gone.{Gone}
use Rattle.arch_names.proofs.parts.each_field.Given as goal

abbrev pub invariant-loop-field : goal.invariant-loop-field
invariant-loop-field l = Gone raw_field_of (λ k. field_sites (find l.file) l.record_at k) named_field_of (λ k. linked_field meant (find l.file) l.record_at) (find l.names) (take l.field-index l.fields) l.made
