use Rattle.std.proofs.Common.{map, take}
use Rattle.tower_syntax.specs.View.{emitter_of}
use Rattle.channel_graph.specs.Reaching.{AreOpen}
use Rattle.channel_graph.proofs.settled.are_open.Given as goal

abbrev pub invariant-loop-emitter : goal.invariant-loop-emitter
invariant-loop-emitter l = AreOpen l.channels (map emitter_of (take l.emitter-index l.emitter-items))
