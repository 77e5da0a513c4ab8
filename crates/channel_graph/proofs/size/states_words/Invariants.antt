use Rattle.std.proofs.Common.{◌≡◌, map, sum, take}
use Rattle.tower_types.specs.Records.{saturated}
use Rattle.tower_syntax.specs.View.{monitor_of}
use Rattle.tower_syntax.specs.Weights.{monitor_words}
use Rattle.channel_graph.proofs.size.states_words.Given as goal

abbrev pub invariant-loop-m : goal.invariant-loop-m
invariant-loop-m l = l.total ≡ saturated (sum (map (monitor_words l.arch) (map monitor_of (take l.m-index l.m-items))))
