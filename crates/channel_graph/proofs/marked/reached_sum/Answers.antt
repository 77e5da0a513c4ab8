use Rattle.std.proofs.Common.{◌≡◌, ◌∙◌, length, map, sum, ap, sym, subst}
use Rattle.tower_types.specs.Records.{saturated}
use Rattle.channel_graph.specs.Table.{IsTable}
use Rattle.channel_graph.specs.Ranked.{marked_below}
use Rattle.channel_graph.proofs.Rounds.{marked_reached}
use Rattle.channel_graph.proofs.marked.reached_sum.Goals as goal

pub returns : goal.returns
returns c =
    let arch = c.args.arch.now in
    let marks = c.as_slice.result.now in
    let list = marked_reached arch c.args.s c.in_ok-marks.marks marks c.requires.listed c.in_ok-marks.ensures c.as_slice.ensures in
    let each : length marks ≡ length arch.handlers = ap length c.as_slice.ensures ∙ c.in_ok-marks.ensures.each in
    λ f table.
    c.marked_sum.ensures f (subst (λ n. IsTable n f c.args.list.now) (sym each) table)
    ∙ ap (λ n. saturated (sum (map f (marked_below marks n)))) each ∙ ap (λ ks. saturated (sum (map f ks))) list
