use Rattle.std.proofs.Common.{◌∙◌, take, get_or, ap, sym}
use Rattle.std.proofs.lemmas.List.{take_more}
use Rattle.task_code.specs.declared.frame.Frame.{Frame}
use Rattle.task_build.specs.CodeOf.{end_of}
use Rattle.task_build.proofs.Tabled.{end_of-push}
use Rattle.task_build.proofs.tables.room.Goals as goal

pub loop-frame-preserved : goal.loop-frame-preserved
loop-frame-preserved c =
    let frames = c.args.frames.now in
    let i = c.loop-frame.frame-index in
    let f = c.frame-item.result in
    sym (ap (end_of c.args.width) (take_more frames i f c.loop-frame-test.true) ∙ end_of-push c.args.width (take i frames) (get_or frames i f) ∙ ap (λ (z : Frame). z.end) (sym c.frame-item.is))
