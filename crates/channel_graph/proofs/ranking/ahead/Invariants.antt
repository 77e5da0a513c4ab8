use Rattle.std.proofs.Common.{map, take}
use Rattle.tower_syntax.specs.View.{emitter_of}
use Rattle.channel_graph.proofs.Ahead.{IsFirstOf}
use Rattle.channel_graph.proofs.ranking.ahead.Given as goal

abbrev pub invariant-loop-emitter : goal.invariant-loop-emitter
invariant-loop-emitter l = IsFirstOf l.nearest (map emitter_of (take l.emitter-index l.emitter-items)) l.best
