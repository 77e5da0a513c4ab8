use Rattle.std.proofs.Common.{map, take}
use Rattle.tower_syntax.specs.View.{emitter_of}
use Rattle.channel_graph.specs.Reaching.{Goes, AreOpen}
use Rattle.channel_graph.proofs.reach.Reach.follow.Given as goal

abbrev pub invariant-loop-emitter : goal.invariant-loop-emitter
invariant-loop-emitter l =
    Goes l.arch l.initial.self l.self
    × AreOpen l.self.channels (map emitter_of (take l.emitter-index l.emitter-items))
