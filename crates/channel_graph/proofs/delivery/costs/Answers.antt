use Rattle.std.proofs.Common.{◌≡◌, ◌∙◌, ◌<◌, length, map, ap, subst, sym, arith, []}
use Rattle.std.proofs.lemmas.List.{length-map}
use Rattle.tower_types.specs.Records.{saturated}
use Rattle.tower_syntax.specs.declared.arch.On.TheVariants as on
use Rattle.tower_syntax.specs.View.{source_of}
use Rattle.tower_syntax.specs.Graph.{numbers_before}
use Rattle.tower_syntax.specs.Weights.{deliver, cost}
use Rattle.channel_graph.specs.Table.{IsTable, weight_among}
use Rattle.channel_graph.proofs.Rounded.{list_more}
use Rattle.channel_graph.proofs.Settling.{source_right}
use Rattle.channel_graph.proofs.delivery.costs.Goals as goal

pub loop-s-preserved : goal.loop-s-preserved
loop-s-preserved c =
    let arch = c.args.arch.now in
    let s = c.loop-s.s in
    let d = c.in_ok-delivered.ensures in
    let exists : s < length arch.sources = omega (arith, c.loop-s-test.true, ap length c.sources-s-end.ensures.value, length-map c.sources-s-end.result.now source_of) in
    let table = subst (IsTable (length arch.handlers) d.of_handler) (sym c.as_slice.ensures) d.table in
    let messages : c.source_weight-messages.result ≡ saturated (weight_among arch (deliver arch) arch.listeners (on.Source s)) = c.source_weight-messages.ensures d.of_handler table ∙ ap saturated (source_right arch c.in_ok-delivered.delivered s exists d) in
    let here : c.saturating_add.result ≡ saturated (cost arch s) = omega (arith, messages, c.saturating_add.ensures) in
    list_more (λ n. saturated (cost arch n)) s c.loop-s.found.items c.push.new.self.items c.saturating_add.result c.loop-s.invariant c.in_ok-push.ensures.items here

pub returns : goal.returns
returns c =
    let arch = c.args.arch.now in
    let end : c.loop-s.s ≡ length arch.sources = omega (arith, c.loop-s-test.false, ap length c.sources-s-end.ensures.value, length-map c.sources-s-end.result.now source_of) in
    c.loop-s.invariant ∙ ap (λ n. map (λ s. saturated (cost arch s)) (numbers_before n [])) end
