use Rattle.std.proofs.Common.{◌≡◌, ◌∙◌, [], length, map, sum, arith, ap}
use Rattle.std.proofs.lemmas.List.{length-map}
use Rattle.tower_types.specs.Records.{saturated}
use Rattle.tower_syntax.specs.View.{source_of}
use Rattle.tower_syntax.specs.Graph.{numbers_before}
use Rattle.tower_syntax.specs.Weights.{source_code}
use Rattle.channel_graph.proofs.Saturating.{saturating_step}
use Rattle.channel_graph.proofs.Sized.{sum_numbers}
use Rattle.channel_graph.proofs.code_weight.code.Goals as goal

pub loop-s-preserved : goal.loop-s-preserved
loop-s-preserved c =
    let arch = c.args.arch.now in
    saturating_step c.loop-s.total c.in_ok-more.more c.saturating_add-total.result _ _ _ c.loop-s.invariant c.in_ok-more.ensures c.saturating_add-total.ensures (sum_numbers (source_code arch) c.loop-s.s)

pub returns : goal.returns
returns c =
    let arch = c.args.arch.now in
    let end : c.loop-s.s ≡ length arch.sources = omega (arith, c.loop-s-test.false, ap length c.sources-s-end.ensures.value, length-map c.sources-s-end.result.now source_of) in
    c.loop-s.invariant ∙ ap (λ n. saturated (sum (map (source_code arch) (numbers_before n [])))) end
