use Rattle.std.proofs.Common.{◌*◌, take}
use Rattle.tower_syntax.specs.View.{all_stmts_of}
use Rattle.tower_syntax.specs.Weights.{most_of_stmts}
use Rattle.channel_graph.specs.Rough.{GrowsBy, Logs}
use Rattle.channel_graph.proofs.rough.+roughly.Given as goal

abbrev pub invariant-add_stmts-loop-stmt : goal.invariant-add_stmts-loop-stmt
invariant-add_stmts-loop-stmt l =
    GrowsBy (λ e. l.turns * most_of_stmts e (all_stmts_of (take l.stmt-index l.stmts))) l.initial.counts.totals l.counts.totals
    × Logs l.initial.counts l.counts
