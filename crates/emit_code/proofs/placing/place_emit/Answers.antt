use Rattle.std.proofs.Common.{◌≡◌, ◌∙◌, ◌+◌, ◌<◌, ◌++◌, length, get_or, slice_index_or, ap, sym, subst, arith, rules}
use Rattle.tower_syntax.specs.declared.arch.On.TheVariants as on
use Rattle.tower_syntax.specs.declared.arch.Emitter.{Emitter as EmitterValue}
use Rattle.tower_syntax.specs.View.{emitter_of}
use Rattle.tower_syntax.specs.Arch.{Arch}
use Rattle.tower_syntax.specs.Graph.{handler}
use Rattle.tower_syntax.specs.Weights.{message_words, emitter_words}
use Rattle.channel_graph.specs.Over.{no_emitter}
use Rattle.task_code.specs.Piece.{listed}
use Rattle.task_code.specs.Emission.{emission}
use Rattle.emit_code.specs.Emitted.{HasEmitter}
use Rattle.emit_code.proofs.Heeded.{channel_there, emitters_are, emitters_count, emitter_is, get_or_default}
use Rattle.emit_code.proofs.placing.place_emit.Goals as goal

pub message_words-requires : goal.message_words-requires
message_words-requires c =
    let arch = c.arch-arch.result.now in
    let h = c.args.handler in
    let k = c.args.emitter in
    let items = c.as_slice.result.now in
    let r = c.index-as_slice-emitter.result in
    let seen = emitters_are arch h c.handler.result.now items c.handler.ensures.value c.as_slice.ensures in
    let has : k < length (handler arch h).emitters = subst (λ a. HasEmitter a h k) (sym c.arch-arch.ensures.value) c.requires.emitter in
    let within : k < length items = omega (arith, emitters_count (handler arch h).emitters items seen, has) in
    subst (λ (x : EmitterValue). x.channel < length arch.channels) c.index-as_slice-emitter.is
    (channel_there arch c.handler.result.now items k r c.handler.ensures.numbered c.as_slice.ensures within c.index-as_slice-emitter.is)

pub returns-clause-ok : goal.returns-clause-ok
returns-clause-ok c =
    let arch = c.arch-arch.result.now in
    let h = c.args.handler in
    let k = c.args.emitter in
    let items = c.as_slice.result.now in
    let r = c.index-as_slice-emitter.result in
    let ems = (handler arch h).emitters in
    let seen = emitters_are arch h c.handler.result.now items c.handler.ensures.value c.as_slice.ensures in
    let has : k < length ems = subst (λ a. HasEmitter a h k) (sym c.arch-arch.ensures.value) c.requires.emitter in
    let within : k < length items = omega (arith, emitters_count ems items seen, has) in
    let here : get_or ems k no_emitter ≡ emitter_of r = get_or_default ems k no_emitter (emitter_of r) has ∙ emitter_is ems items k r seen within c.index-as_slice-emitter.is in
    let width : c.in_ok-width.width ≡ emitter_words c.args.arch.now (slice_index_or (handler c.args.arch.now h).emitters k no_emitter) =
    c.in_ok-width.ensures
    ∙ ap (λ (x : EmitterValue). message_words arch (on.Channel x.channel)) (sym c.index-as_slice-emitter.is)
    ∙ ap (emitter_words arch) (sym here)
    ∙ ap (λ (a : Arch). emitter_words a (slice_index_or (handler a h).emitters k no_emitter)) c.arch-arch.ensures.value in
    let scratch : c.number_at-scratch.result ≡ slice_index_or c.args.frame.now.scratch k 0 = c.number_at-scratch.ensures ∙ ap (λ ns. get_or ns k 0) c.as_slice-2.ensures in
    let buffer : c.in_ok-buffer.buffer ≡ c.args.frame.now.first_buffer + k = search rules in
    c.in_ok-emission.ensures.ok ∙ (λ t. c.args.code.now ++ listed (emission (scratch t) (buffer t) (width t)))
