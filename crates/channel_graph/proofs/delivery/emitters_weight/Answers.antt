use Rattle.std.proofs.Common.{◌≡◌, ◌<◌, ◌*◌, ◌-◌, ◌^◌, ℕ, length, min, get_or, subst}
use Rattle.tower_types.specs.Records.{saturated}
use Rattle.tower_syntax.specs.declared.arch.Emitter.{Emitter as EmitterValue}
use Rattle.tower_syntax.specs.Arch.{Emitter}
use Rattle.tower_syntax.specs.View.{emitter_of}
use Rattle.tower_syntax.specs.Weights.{emitter_weight}
use Rattle.channel_graph.specs.Table.{channel_weight}
use Rattle.channel_graph.proofs.Saturating.{saturating_step, saturated-held}
use Rattle.channel_graph.proofs.Counted.{sum_of_all-more}
use Rattle.channel_graph.proofs.Sized.{each_view}
use Rattle.channel_graph.proofs.delivery.emitters_weight.Goals as goal

pub bounds-totals-emitter : goal.bounds-totals-emitter
bounds-totals-emitter c =
    each_view (λ (e : Emitter). e.channel < length c.args.totals.now) emitter_of c.args.emitters.now c.loop-emitter.emitter-index c.emitter-item.result c.requires c.loop-emitter-test.true c.emitter-item.is

pub loop-emitter-preserved : goal.loop-emitter-preserved
loop-emitter-preserved c =
    let emitters = c.args.emitters.now in
    let i = c.loop-emitter.emitter-index in
    let e = c.emitter-item.result in
    let below = each_view (λ (e : Emitter). e.channel < length c.args.totals.now) emitter_of emitters i e c.requires c.loop-emitter-test.true c.emitter-item.is in
    let all = subst (λ (m : ℕ). c.saturating_mul-all.result ≡ min (c.saturating_add-message.result * m) (2 ^ 64 - 1)) c.from.ensures c.saturating_mul-all.ensures in
    λ arch f table.
    let held = saturated-held e.bound (channel_weight arch f e.channel) (get_or c.args.totals.now e.channel 0) c.saturating_add-message.result c.saturating_mul-all.result c.saturating_add.result (table.has e.channel below) c.saturating_add-message.ensures all c.saturating_add.ensures in
    let here = subst (λ (x : EmitterValue). c.saturating_add.result ≡ saturated (emitter_weight arch f (emitter_of x))) c.emitter-item.is held in
    saturating_step c.loop-emitter.total c.saturating_add.result c.saturating_add-total.result _ _ _ (c.loop-emitter.invariant arch f table) here c.saturating_add-total.ensures (sum_of_all-more (emitter_weight arch f) emitter_of emitters i e c.loop-emitter-test.true)
