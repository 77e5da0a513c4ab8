use Rattle.std.proofs.Common.{◌≡◌, ◌+◌, [], map, sum}
use Rattle.tower_types.specs.Records.{saturated}
use Rattle.tower_syntax.specs.Graph.{numbers_before}
use Rattle.tower_syntax.specs.Weights.{monitor_words, source_memory}
use Rattle.channel_graph.proofs.size.memory.Given as goal

abbrev pub invariant-loop-s : goal.invariant-loop-s
invariant-loop-s l = l.total ≡ saturated (sum (map (monitor_words l.arch) l.arch.monitors) + sum (map (source_memory l.arch) (numbers_before l.s [])))
