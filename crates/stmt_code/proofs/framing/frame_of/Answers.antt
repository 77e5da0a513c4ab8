use Rattle.std.proofs.Common.{◌≡◌, ◌∙◌, ◌+◌, map, sum, ap, refl}
use Rattle.tower_syntax.specs.Arch.{Arch}
use Rattle.tower_syntax.specs.View.{handler_of, body_of, emitter_of}
use Rattle.tower_syntax.specs.Weights.{message_words, emitter_words}
use Rattle.channel_graph.proofs.Searched.{handler_read}
use Rattle.task_code.specs.declared.frame.Frame.{Frame}
use Rattle.stmt_code.specs.FrameOf.{laid, binder_words, binders_laid, frame_of}
use Rattle.stmt_code.proofs.Framed.{framed}
use Rattle.stmt_code.proofs.framing.frame_of.Goals as goal

pub returns : goal.returns
returns c =
    let system = c.arch-system.result.now in
    let h = handler_of c.handler-h.result.now in
    let param = c.in_ok-param.ensures (message_words system h.on) c.words_on.ensures in
    let names = c.lay.new.end in
    let binders = c.in_ok-binders.ensures in
    let temps = c.in_ok-temps.ensures 3 refl in
    let sent = c.lay-2.new.end in
    let scratch = c.in_ok-scratch.ensures in
    let frame : Frame = record {
      param = c.in_ok-param.param;
      binders = c.in_ok-binders.binders;
      temps = c.in_ok-temps.temps;
      scratch = c.in_ok-scratch.scratch;
      first_buffer = c.args.first_buffer;
      end = c.lay_messages.new.end;
    } in
    framed system c.args.handler c.args.base c.args.first_buffer h frame names c.lay_bodies.new.end sent c.lay_messages.new.end
    (handler_read system c.args.handler c.handler-h.result.now c.handler-h.ensures.value)
    param.0 param.1
    (binders.0 ∙ ap (λ bs. binders_laid system names (map body_of bs)) c.as_slice.ensures)
    (binders.1 ∙ ap (λ bs. names + sum (map (λ b. sum (binder_words system b)) (map body_of bs))) c.as_slice.ensures)
    temps.0 temps.1
    (scratch.0 ∙ ap (λ es. laid sent (map (emitter_words system) (map emitter_of es))) c.as_slice-2.ensures)
    (scratch.1 ∙ ap (λ es. sent + sum (map (emitter_words system) (map emitter_of es))) c.as_slice-2.ensures)
    refl refl
    ∙ ap (λ (a : Arch). frame_of a c.args.handler c.args.base c.args.first_buffer) c.arch-system.ensures.value
