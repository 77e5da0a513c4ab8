use Rattle.std.proofs.Common.{◌≡◌, ◌<◌, length, arith, ap, subst}
use Rattle.std.proofs.lemmas.List.{length-map}
use Rattle.tower_types.specs.Ty.{table_of, shape_in}
use Rattle.tower_types.specs.View.{ty_of}
use Rattle.tower_types.specs.Records.{saturated}
use Rattle.tower_syntax.specs.declared.arch.Channel.{Channel as ChannelValue}
use Rattle.tower_syntax.specs.Arch.{Channel}
use Rattle.tower_syntax.specs.View.{channel_of}
use Rattle.tower_syntax.specs.WellNumbered.{IsNumberedType}
use Rattle.tower_syntax.proofs.Elements.{kept}
use Rattle.arch_checks.specs.Measured.{measured}
use Rattle.arch_checks.proofs.Greatest.{greatest_of_views-more, greatest_step}
use Rattle.arch_checks.proofs.widths.channels_width.Goals as goal

pub type_width-requires : goal.type_width-requires
type_width-requires c =
    let arch = c.args.arch.now in
    let items = c.channels-channel-items.result.now in
    let within : c.loop-channel.channel-index < length arch.channels = omega (arith, c.loop-channel-test.true, ap length c.channels-channel-items.ensures.value, length-map items channel_of) in
    kept (λ x. IsNumberedType (length arch.records) x.message) channel_of items arch.channels c.loop-channel.channel-index c.channel-item.result c.channels-channel-items.ensures.value c.channels-channel-items.ensures.numbered.channels c.channel-item.is within

pub loop-channel-preserved : goal.loop-channel-preserved
loop-channel-preserved c =
    let table = table_of c.args.arch.now.records in
    let m = c.args.measure in
    let more = greatest_of_views-more (λ t. measured m (shape_in table t)) (λ (x : Channel). x.message) channel_of c.channels-channel-items.result.now c.loop-channel.channel-index c.channel-item.result c.loop-channel-test.true in
    let here = subst (λ (x : ChannelValue). c.type_width.result ≡ saturated (measured m (shape_in table (ty_of x.message)))) c.channel-item.is c.type_width.ensures in
    greatest_step c.loop-channel.most c.type_width.result c.max-most.result _ _ _ c.loop-channel.invariant here c.max-most.ensures more
