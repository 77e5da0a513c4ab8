use Rattle.std.proofs.Common.{[], take}
use Rattle.tower_syntax.specs.NamedView.{named_part_of}
use Rattle.tower_types.specs.View.{fields_of}
use Rattle.arch_types.specs.Outline.{state_of}
use Rattle.arch_types.proofs.Gathered.{Gathered}
use Rattle.arch_types.proofs.outline.states.Given as goal

abbrev pub invariant-loop-part : goal.invariant-loop-part
invariant-loop-part l = Gathered named_part_of state_of [] (take l.part-index l.parts) (fields_of l.made)
