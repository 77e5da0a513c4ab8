use Rattle.std.proofs.Common.{sym, ◌∙◌}
use Rattle.std.proofs.lemmas.Bool.{false≢true}
use Rattle.channel_graph.proofs.Rounds.{looping_more}
use Rattle.channel_graph.proofs.Leveled.{below_none, not_false}
use Rattle.channel_graph.proofs.looping.looping.Goals as goal
use Rattle.channel_graph.proofs.looping.looping.Goals.{then-known, else-known}

pub loop-h-preserved : goal.loop-h-preserved
loop-h-preserved c =
    let arch = c.args.arch.now in
    let levels = c.args.levels.now in
    let h = c.loop-h.h in
    elim c.if-known.branch [
      | then-known w ↦
          let up = c.ascends-known.ensures w.if-known.true in
          looping_more arch h c.loop-h.marks c.push.new.self _ c.loop-h.invariant (λ none. below_none arch levels h c.requires.listed up (w.is_below-below.ensures (sym w.below-is ∙ not_false _ none))) c.in_ok-push.ensures.ok
      | else-known w ↦
          looping_more arch h c.loop-h.marks c.push.new.self _ c.loop-h.invariant (λ none. absurd (false≢true (sym w.if-known.false ∙ (sym w.below-is ∙ not_false _ none)))) c.in_ok-push.ensures.ok
    ]
