use Rattle.std.proofs.Common.{[], map, take}
use Rattle.tower_syntax.specs.NamedView.{named_hpart_of}
use Rattle.tower_syntax.specs.View.{emitter_of as emitter_in}
use Rattle.arch_types.specs.Outline.{emitter_of}
use Rattle.arch_types.proofs.Gathered.{Gathered}
use Rattle.arch_types.proofs.outline.emitters.Given as goal

abbrev pub invariant-loop-part : goal.invariant-loop-part
invariant-loop-part l = Gathered named_hpart_of emitter_of [] (take l.part-index l.parts) (map emitter_in l.made)
