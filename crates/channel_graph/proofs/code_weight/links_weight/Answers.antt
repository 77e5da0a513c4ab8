use Rattle.std.proofs.Common.{◌≡◌, ◌<◌, ◌+◌, ◌-◌, ◌^◌, ℕ, length, min, get_or, subst, arith}
use Rattle.tower_types.specs.Records.{saturated}
use Rattle.tower_syntax.specs.declared.arch.Emitter.{Emitter as EmitterValue}
use Rattle.tower_syntax.specs.Arch.{Emitter}
use Rattle.tower_syntax.specs.View.{emitter_of}
use Rattle.channel_graph.specs.Table.{channel_weight, link_weight}
use Rattle.channel_graph.proofs.Saturating.{saturating_step}
use Rattle.channel_graph.proofs.Counted.{sum_of_all-more}
use Rattle.channel_graph.proofs.Sized.{each_view}
use Rattle.channel_graph.proofs.code_weight.links_weight.Goals as goal

pub bounds-totals-emitter : goal.bounds-totals-emitter
bounds-totals-emitter c =
    each_view (λ (e : Emitter). e.channel < length c.args.totals.now) emitter_of c.args.emitters.now c.loop-emitter.emitter-index c.emitter-item.result c.requires c.loop-emitter-test.true c.emitter-item.is

cut : (n total link : ℕ) → total ≡ saturated n → link ≡ min (total + 32) (2 ^ 64 - 1) → link ≡ saturated (32 + n)
cut n total link t l = omega arith

pub loop-emitter-preserved : goal.loop-emitter-preserved
loop-emitter-preserved c =
    let emitters = c.args.emitters.now in
    let i = c.loop-emitter.emitter-index in
    let e = c.emitter-item.result in
    let below = each_view (λ (e : Emitter). e.channel < length c.args.totals.now) emitter_of emitters i e c.requires c.loop-emitter-test.true c.emitter-item.is in
    λ arch f table.
    let held = cut (channel_weight arch f e.channel) (get_or c.args.totals.now e.channel 0) c.saturating_add-link.result (table.has e.channel below) c.saturating_add-link.ensures in
    let here = subst (λ (x : EmitterValue). c.saturating_add-link.result ≡ saturated (link_weight arch f (emitter_of x))) c.emitter-item.is held in
    saturating_step c.loop-emitter.total c.saturating_add-link.result c.saturating_add-total.result _ _ _ (c.loop-emitter.invariant arch f table) here c.saturating_add-total.ensures (sum_of_all-more (link_weight arch f) emitter_of emitters i e c.loop-emitter-test.true)
