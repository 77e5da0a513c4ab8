use Rattle.std.proofs.Common.{take}
use Rattle.tower_syntax.specs.RawView.{raw_part_of}
use Rattle.tower_syntax.specs.NamedView.{named_part_of}
use Rattle.arch_names.specs.Names.{find}
use Rattle.arch_names.specs.Sites.{part_sites}
use Rattle.arch_names.specs.Linked.{linked_part}
use Rattle.arch_names.specs.Walk.{meant}
use Rattle.arch_names.proofs.Gone.{Gone}
use Rattle.arch_names.proofs.parts.each_part.Given as goal

abbrev pub invariant-loop-part : goal.invariant-loop-part
invariant-loop-part l = Gone raw_part_of (λ k. part_sites (find l.file) k) named_part_of (λ k. linked_part meant (find l.file) k) (find l.states) (take l.part-index l.parts) l.made
