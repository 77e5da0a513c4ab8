use Rattle.std.proofs.Common.{map, take}
use Rattle.tower_syntax.specs.View.{emitter_of}
use Rattle.channel_graph.specs.Levels.{AreFrom}
use Rattle.channel_graph.proofs.looping.emits_from.Given as goal

abbrev pub invariant-loop-emitter : goal.invariant-loop-emitter
invariant-loop-emitter l = AreFrom l.arch l.levels l.level (map emitter_of (take l.emitter-index l.emitter-items))
