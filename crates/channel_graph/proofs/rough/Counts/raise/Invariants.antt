use Rattle.std.proofs.Common.{take}
use Rattle.channel_graph.specs.Rough.{Tops, Logs}
use Rattle.channel_graph.proofs.rough.Counts.raise.Given as goal

abbrev pub invariant-loop-peak : goal.invariant-loop-peak
invariant-loop-peak l = Tops l.initial.self.totals (take l.peak-index l.peaks) l.self.totals × Logs l.initial.self l.self
