use Rattle.std.proofs.Common.{◌∙◌}
use Rattle.channel_graph.proofs.Led.{led_source, led_channel}
use Rattle.channel_graph.proofs.circuit.leads_to.Goals as goal

pub returns-in-Source : goal.returns-in-Source
returns-in-Source c = led_source c.args.arch.now c.args.k c.args.j c.handler.result.now c.in-Source.field-0 c.requires.listed c.handler.ensures.value c.in-Source.is

pub returns-in-Channel : goal.returns-in-Channel
returns-in-Channel c =
    c.emits_on.ensures ∙ led_channel c.args.arch.now c.args.k c.args.j c.handler.result.now c.handler-in-Channel.result.now c.as_slice.result.now c.in-Channel.c c.requires.listed c.requires.second c.handler.ensures.value c.in-Channel.is c.handler-in-Channel.ensures.value c.as_slice.ensures
