use Rattle.std.proofs.Common.{◌≡◌, ◌∙◌, ◌<◌, ◌+◌, [], ◌∷◌, length, ap, arith}
use Rattle.std.proofs.lemmas.List.{length-map, length-append}
use Rattle.tower_syntax.specs.View.{handler_of}
use Rattle.channel_graph.specs.Table.{channel_weight, further}
use Rattle.channel_graph.proofs.Rounded.{channels_below, table_read, rounded}
use Rattle.channel_graph.proofs.Tables.{table_more, table_end}
use Rattle.channel_graph.proofs.delivery.round.Goals as goal

pub emitters_weight-follows-requires : goal.emitters_weight-follows-requires
emitters_weight-follows-requires c =
    channels_below c.args.arch.now c.handler.result.now c.as_slice-emitters.result.now (length c.as_slice.result.now) c.handler.ensures.numbered c.as_slice-emitters.ensures (ap length c.as_slice.ensures ∙ c.in_ok-totals.ensures.each)

pub loop-h-preserved : goal.loop-h-preserved
loop-h-preserved c =
    let arch = c.args.arch.now in
    let h = c.loop-h.h in
    let below : h < length arch.handlers = omega (arith, c.loop-h-test.true, ap length c.handlers-h-end.ensures.value, length-map c.handlers-h-end.result.now handler_of) in
    let grown : length c.push.new.self ≡ h + 1 = omega (arith, ap length c.in_ok-push.ensures.ok, length-append c.loop-h.after (c.saturating_add.result ∷ []), c.loop-h.invariant.0) in (
      grown,
      λ f table.
          let totals = table_read (length arch.channels) (channel_weight arch f) c.in_ok-totals.totals c.as_slice.result.now c.as_slice.ensures (c.in_ok-totals.ensures.weights f table) in
          let here = rounded arch f h c.handler.result.now c.as_slice-emitters.result.now c.args.sections.now c.emitters_weight-follows.result c.saturating_add.result c.handler.ensures.value c.as_slice-emitters.ensures c.requires.sections below (c.emitters_weight-follows.ensures arch f totals) c.saturating_add.ensures in
          table_more h (further arch f) c.loop-h.after c.push.new.self c.saturating_add.result (c.loop-h.invariant.1 f table) c.in_ok-push.ensures.ok here,
    )

pub returns-clause-each : goal.returns-clause-each
returns-clause-each c =
    omega (arith, c.loop-h.invariant.0, c.loop-h-test.false, ap length c.handlers-h-end.ensures.value, length-map c.handlers-h-end.result.now handler_of)

pub returns-clause-rounds : goal.returns-clause-rounds
returns-clause-rounds c =
    let arch = c.args.arch.now in
    let end : c.loop-h.h ≡ length arch.handlers = omega (arith, c.loop-h-test.false, ap length c.handlers-h-end.ensures.value, length-map c.handlers-h-end.result.now handler_of) in
    λ f table. table_end c.loop-h.h (length arch.handlers) (further arch f) c.loop-h.after end (c.loop-h.invariant.1 f table)
