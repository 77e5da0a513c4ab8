use Rattle.std.proofs.Common.{◌∙◌, ap, sym, subst}
use Rattle.tower_syntax.specs.WellNumbered.{IsNumberedOn}
use Rattle.channel_graph.proofs.Searched.{handler_read}
use Rattle.channel_graph.proofs.Walked.{on_source, on_channel}
use Rattle.channel_graph.proofs.depths.is_on_source.Goals as goal

pub returns-in-Source : goal.returns-in-Source
returns-in-Source c =
    let arch = c.args.arch.now in
    let at = sym (ap (λ h. h.on) (handler_read arch c.args.k c.handler.result.now c.handler.ensures.value) ∙ c.in-Source.is) in
    let exists = subst (IsNumberedOn arch) c.in-Source.is c.handler.ensures.numbered.on in
    on_source arch c.args.k c.in-Source.field-0 c.requires.listed c.requires.handler exists at

pub returns-in-Channel : goal.returns-in-Channel
returns-in-Channel c =
    let arch = c.args.arch.now in
    let at = sym (ap (λ h. h.on) (handler_read arch c.args.k c.handler.result.now c.handler.ensures.value) ∙ c.in-Channel.is) in
    on_channel arch c.args.k c.in-Channel.field-0 at
