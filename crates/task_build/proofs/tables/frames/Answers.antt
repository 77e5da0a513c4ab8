use Rattle.std.proofs.Common.{◌≡◌, ◌∙◌, ◌+◌, ap, sym, length, get_or, refl}
use Rattle.std.proofs.lemmas.List.{length-map}
use Rattle.std.proofs.lemmas.Option.{get_or_from_slice_get}
use Rattle.tower_syntax.specs.View.{handler_of, emitter_of}
use Rattle.tower_syntax.specs.Arch.{Arch, Handler}
use Rattle.tower_syntax.specs.Graph.{handler, no_handler}
use Rattle.task_build.specs.CodeOf.{frames_from}
use Rattle.task_build.proofs.Tabled.{frames_next, frames_all}
use Rattle.task_build.proofs.tables.frames.Goals as goal

pub loop-h-preserved : goal.loop-h-preserved
loop-h-preserved c =
    let arch = c.args.arch.now in
    let hs = c.args.handlers.now in
    let i = c.loop-h.h-index in
    let h = get_or hs i 0 in
    let v = c.handler.result.now in
    let count : c.len.result ≡ length (handler arch h).emitters =
    c.len.ensures
    ∙ sym (length-map v.emitters emitter_of)
    ∙ sym (ap (λ (z : Handler). length z.emitters) (get_or_from_slice_get c.arch.result.now.handlers h (handler_of v) no_handler c.handler.ensures.value))
    ∙ ap (λ (a : Arch). length (handler a h).emitters) c.arch.ensures.value in
    frames_next arch hs i h c.loop-h.base c.loop-h.buffer c.in_ok-frame.frame.end c.in_ok-buffer.buffer c.in_ok-frame.frame c.loop-h.frames c.push.new.self (frames_from arch 0 0 hs)
    c.loop-h-test.true refl c.loop-h.invariant c.in_ok-frame.ensures c.in_ok-push.ensures.ok refl (c.in_ok-buffer.ensures ∙ ap (λ n. c.loop-h.buffer + n) count)

pub returns : goal.returns
returns c =
    frames_all c.args.arch.now c.args.handlers.now c.loop-h.h-index c.loop-h.base c.loop-h.buffer c.loop-h.frames (frames_from c.args.arch.now 0 0 c.args.handlers.now) c.loop-h-test.false c.loop-h.invariant
