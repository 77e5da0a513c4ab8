use Rattle.std.proofs.Common.{sym, ap}
use Rattle.emit_code.proofs.Looked.{both}
use Rattle.emit_code.proofs.delivery.own_frame.Goals as goal

pub returns : goal.returns
returns c =
    let t = c.args.frames.now in
    let looked = both t c.args.h c.in-Some-Some.frame c.requires.place (rw c.in-Some-Some.field-0-is at (sym c.in-Some-Some.ensures.value)) c.requires.placed in
    sym (ap (λ e. e.frame) looked)
