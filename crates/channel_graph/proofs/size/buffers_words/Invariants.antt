use Rattle.std.proofs.Common.{◌≡◌, ◌+◌, ◌*◌, map, sum, take}
use Rattle.tower_types.specs.Records.{saturated}
use Rattle.tower_syntax.specs.View.{emitter_of}
use Rattle.tower_syntax.specs.Weights.{emitter_words}
use Rattle.channel_graph.proofs.size.buffers_words.Given as goal

abbrev pub invariant-loop-emitter : goal.invariant-loop-emitter
invariant-loop-emitter l = l.total ≡ saturated (sum (map (λ e. (e.bound + 2) * emitter_words l.arch e) (map emitter_of (take l.emitter-index l.emitters))))
