use Rattle.std.proofs.Common.{drop}
use Rattle.tower_syntax.specs.NamedView.{named_part_of}
use Rattle.arch_types.proofs.Listed.{PartsListed}
use Rattle.arch_types.proofs.listeners.add_parts.Given as goal

abbrev pub invariant-loop-part : goal.invariant-loop-part
invariant-loop-part l = PartsListed named_part_of l.initial.made l.first l.parts (drop l.part-index l.parts) l.made l.number
