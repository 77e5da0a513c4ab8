use Rattle.std.proofs.Common.{◌≡◌, ◌∙◌, length, ap, arith}
use Rattle.std.proofs.lemmas.List.{length-map}
use Rattle.tower_syntax.specs.View.{handler_of}
use Rattle.channel_graph.specs.Table.{channel_weight, code_of, nothing}
use Rattle.channel_graph.proofs.Rounded.{channels_below, table_read, code_read}
use Rattle.channel_graph.proofs.Tables.{table_more, table_end}
use Rattle.channel_graph.proofs.code_weight.codes.Goals as goal

pub links_weight-links-requires : goal.links_weight-links-requires
links_weight-links-requires c =
    channels_below c.args.arch.now c.handler-handler.result.now c.as_slice-in-loop-h.result.now (length c.as_slice-in-loop-h-2.result.now) c.handler-handler.ensures.numbered c.as_slice-in-loop-h.ensures (ap length c.as_slice-in-loop-h-2.ensures ∙ c.in_ok-totals.ensures.each)

pub loop-h-preserved : goal.loop-h-preserved
loop-h-preserved c =
    let arch = c.args.arch.now in
    let totals = table_read (length arch.channels) (channel_weight arch nothing) c.in_ok-totals.totals c.as_slice-in-loop-h-2.result.now c.as_slice-in-loop-h-2.ensures (c.in_ok-totals.ensures.weights nothing c.requires) in
    let here = code_read arch c.loop-h.h c.handler-handler.result.now c.as_slice-in-loop-h.result.now c.links_weight-links.result c.section.result c.saturating_add.result c.handler-handler.ensures.value c.as_slice-in-loop-h.ensures c.section.ensures (c.links_weight-links.ensures arch nothing totals) c.saturating_add.ensures in
    table_more c.loop-h.h (code_of arch) c.loop-h.codes c.push.new.self c.saturating_add.result c.loop-h.invariant c.in_ok-push.ensures.ok here

pub returns : goal.returns
returns c =
    let arch = c.args.arch.now in
    let end : c.loop-h.h ≡ length arch.handlers = omega (arith, c.loop-h-test.false, ap length c.handlers-h-end.ensures.value, length-map c.handlers-h-end.result.now handler_of) in
    table_end c.loop-h.h (length arch.handlers) (code_of arch) c.loop-h.codes end c.loop-h.invariant
