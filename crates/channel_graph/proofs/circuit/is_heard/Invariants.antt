use Rattle.std.proofs.Common.{◌≡◌, map, take, get_or, false}
use Rattle.std.specs.List.{list_any}
use Rattle.tower_syntax.specs.View.{emitter_of}
use Rattle.channel_graph.proofs.circuit.is_heard.Given as goal

abbrev pub invariant-loop-emitter : goal.invariant-loop-emitter
invariant-loop-emitter l = list_any (λ e. get_or l.loud e.channel false) (map emitter_of (take l.emitter-index l.emitter-items)) ≡ false
