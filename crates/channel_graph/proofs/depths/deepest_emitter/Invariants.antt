use Rattle.channel_graph.specs.Deep.{IsTop, emitted}
use Rattle.channel_graph.proofs.depths.deepest_emitter.Given as goal

abbrev pub invariant-loop-emitter : goal.invariant-loop-emitter
invariant-loop-emitter l = IsTop l.depths 1 l.deepest l.emitter-index (emitted l.arch l.k)
