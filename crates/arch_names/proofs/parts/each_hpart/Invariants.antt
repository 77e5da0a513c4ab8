use Rattle.std.proofs.Common.{take}
use Rattle.tower_syntax.specs.RawView.{raw_hpart_of}
use Rattle.tower_syntax.specs.NamedView.{named_hpart_of}
use Rattle.arch_names.specs.Names.{find}
use Rattle.arch_names.specs.Sites.{around_of, hpart_sites}
use Rattle.arch_names.specs.Linked.{linked_hpart}
use Rattle.arch_names.specs.Walk.{meant}
use Rattle.arch_names.proofs.Gone.{Gone}
use Rattle.arch_names.proofs.parts.each_hpart.Given as goal

abbrev pub invariant-loop-part : goal.invariant-loop-part
invariant-loop-part l = Gone raw_hpart_of (λ k. hpart_sites (around_of (find l.file) (find l.states) k)) named_hpart_of (λ k. linked_hpart meant (around_of (find l.file) (find l.states) k)) (find l.emitters) (take l.part-index l.parts) l.made
