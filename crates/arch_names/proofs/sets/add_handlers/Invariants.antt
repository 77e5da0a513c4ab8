use Rattle.std.proofs.Common.{take}
use Rattle.tower_syntax.specs.RawView.{raw_part_of}
use Rattle.arch_names.specs.Sets.{handler_of}
use Rattle.arch_names.proofs.Gathered.{Filled}
use Rattle.arch_names.proofs.sets.add_handlers.Given as goal

abbrev pub invariant-loop-part : goal.invariant-loop-part
invariant-loop-part l = Filled raw_part_of handler_of l.initial.names (take l.part-index l.parts) l.names
