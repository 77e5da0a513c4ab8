use Rattle.std.proofs.Common.{◌≡◌, take}
use Rattle.tower_types.specs.Records.{saturated}
use Rattle.channel_graph.proofs.Counted.{most_of_bodies}
use Rattle.channel_graph.proofs.counting.most_of_handler.Given as goal

abbrev pub invariant-loop-body : goal.invariant-loop-body
invariant-loop-body l = l.total ≡ saturated (most_of_bodies l.emitter (take l.body-index l.body-items))
