use Rattle.std.proofs.Common.{take}
use Rattle.tower_syntax.specs.RawView.{raw_hpart_of}
use Rattle.arch_names.specs.Sets.{emitter_of, next_emitter}
use Rattle.arch_names.proofs.Gathered.{Counted}
use Rattle.arch_names.proofs.sets.emitter_names.Given as goal

abbrev pub invariant-loop-part : goal.invariant-loop-part
invariant-loop-part l = Counted raw_hpart_of emitter_of next_emitter 0 (take l.part-index l.parts) l.names l.number
