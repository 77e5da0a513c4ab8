use Rattle.std.proofs.Common.{◌≡◌, ◌+◌, [], length}
use Rattle.channel_graph.specs.declared.rough.Counts.{Counts}
use Rattle.channel_graph.specs.Rough.{Covers, Logs}
use Rattle.channel_graph.proofs.rough.Counts.take_back.Given as goal

abbrev pub invariant-loop-change : goal.invariant-loop-change
invariant-loop-change l =
    Covers l.initial.self.totals [] l.self.totals l.peaks
    × ((start : Counts) → Logs start l.initial.self → length start.log ≡ l.mark
    → (Logs start l.self × (length l.self.log + l._change ≡ length l.initial.self.log + l.mark)))
