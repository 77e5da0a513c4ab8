use Rattle.std.proofs.Common.{◌≡◌, ◌+◌, ◌∙◌, false, cond, length, map, sum, get_or, arith, ap, sym}
use Rattle.tower_types.specs.Records.{saturated}
use Rattle.channel_graph.specs.Ranked.{marked_below}
use Rattle.channel_graph.proofs.Saturating.{saturating_step}
use Rattle.channel_graph.proofs.Sized.{sum_passing}
use Rattle.channel_graph.proofs.marked.marked_sum.Goals as goal
use Rattle.channel_graph.proofs.marked.marked_sum.Goals.{then-mark, else-mark}

pub loop-k-preserved : goal.loop-k-preserved
loop-k-preserved c =
    let marks = c.args.marks.now in
    let list = c.args.list.now in
    let k = c.loop-k.k in
    λ f table.
    let more = sum_passing f (λ i. get_or marks i false) k in
    elim c.if-mark.branch [
      | then-mark w ↦
          let after = more ∙ ap (λ b. sum (map f (marked_below marks k)) + cond b (f k) 0) w.if-mark.true in
          w.total-is ∙ saturating_step c.loop-k.total (get_or list k 0) w.saturating_add-total.result _ _ _ (c.loop-k.invariant f table) (table.has k c.loop-k-test.true) w.saturating_add-total.ensures after
      | else-mark w ↦
          let after = more ∙ ap (λ b. sum (map f (marked_below marks k)) + cond b (f k) 0) w.if-mark.false in
          let same : sum (map f (marked_below marks (k + 1))) ≡ sum (map f (marked_below marks k)) = omega (arith, after) in
          w.total-is ∙ c.loop-k.invariant f table ∙ ap saturated (sym same)
    ]

pub returns : goal.returns
returns c =
    let marks = c.args.marks.now in
    let end : c.loop-k.k ≡ length marks = omega arith in
    λ f table. c.loop-k.invariant f table ∙ ap (λ n. saturated (sum (map f (marked_below marks n)))) end
