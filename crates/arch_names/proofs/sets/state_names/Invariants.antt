use Rattle.std.proofs.Common.{take}
use Rattle.tower_syntax.specs.RawView.{raw_part_of}
use Rattle.arch_names.specs.Sets.{state_of, next_state}
use Rattle.arch_names.proofs.Gathered.{Counted}
use Rattle.arch_names.proofs.sets.state_names.Given as goal

abbrev pub invariant-loop-part : goal.invariant-loop-part
invariant-loop-part l = Counted raw_part_of state_of next_state 0 (take l.part-index l.parts) l.names l.number
