use Rattle.std.proofs.Common.{◌≡◌, ◌<◌, ◌+◌, ◌*◌, length, subst}
use Rattle.tower_syntax.specs.Arch.{Emitter}
use Rattle.tower_syntax.specs.declared.arch.Emitter.{Emitter as EmitterValue}
use Rattle.tower_types.specs.Records.{saturated}
use Rattle.channel_graph.proofs.Saturating.{saturating_step}
use Rattle.tower_syntax.specs.View.{emitter_of}
use Rattle.tower_syntax.specs.Weights.{emitter_words}
use Rattle.channel_graph.proofs.Sized.{each_view}
use Rattle.channel_graph.proofs.Counted.{sum_of_all-more}
use Rattle.channel_graph.proofs.size.buffers_words.Goals as goal

pub buffer_words-requires : goal.buffer_words-requires
buffer_words-requires c =
    each_view (λ e. e.channel < length c.args.arch.now.channels) emitter_of c.args.emitters.now c.loop-emitter.emitter-index c.emitter-item.result c.requires c.loop-emitter-test.true c.emitter-item.is

pub loop-emitter-preserved : goal.loop-emitter-preserved
loop-emitter-preserved c =
    let arch = c.args.arch.now in
    let more = sum_of_all-more (λ (e : Emitter). (e.bound + 2) * emitter_words arch e) emitter_of c.args.emitters.now c.loop-emitter.emitter-index c.emitter-item.result c.loop-emitter-test.true in
    let here = subst (λ (e : EmitterValue). c.buffer_words.result ≡ saturated ((e.bound + 2) * emitter_words arch (emitter_of e))) c.emitter-item.is c.buffer_words.ensures in
    saturating_step c.loop-emitter.total c.buffer_words.result c.saturating_add-total.result _ _ _ c.loop-emitter.invariant here c.saturating_add-total.ensures more
