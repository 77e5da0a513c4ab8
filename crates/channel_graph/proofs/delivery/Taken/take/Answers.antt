use Rattle.std.proofs.Common.{◌∙◌, length, ap}
use Rattle.channel_graph.proofs.Rounded.{channels_below}
use Rattle.channel_graph.proofs.delivery.Taken.take.Goals as goal

pub emitters_weight-follows-requires : goal.emitters_weight-follows-requires
emitters_weight-follows-requires c =
    channels_below c.args.arch.now c.handler-handler.result.now c.as_slice.result.now (length c.as_slice-2.result.now) c.handler-handler.ensures.numbered c.as_slice.ensures (ap length c.as_slice-2.ensures ∙ c.requires.totals)
