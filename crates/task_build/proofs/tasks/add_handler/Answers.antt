use Rattle.std.proofs.Common.{◌≡◌, ◌<◌, ◌++◌, length, sym, subst}
use Rattle.tower_syntax.specs.Arch.{Arch}
use Rattle.task_code.specs.Piece.{listed}
use Rattle.emit_code.specs.Delivery.{entry_of}
use Rattle.emit_code.specs.Framed.{entries_in, delivery_of}
use Rattle.emit_code.specs.Heard.{AreHeard}
use Rattle.task_build.proofs.Pushed.{handler_added}
use Rattle.task_build.proofs.tasks.add_handler.Goals as goal

pub place_delivery-requires-clause-handler : goal.place_delivery-requires-clause-handler
place_delivery-requires-clause-handler c = subst (λ (a : Arch). c.args.h < length a.handlers) (sym c.checked.ensures) c.requires.handler

pub place_delivery-requires-clause-heard : goal.place_delivery-requires-clause-heard
place_delivery-requires-clause-heard c = subst (λ (a : Arch). AreHeard a c.args.heard.now) (sym c.checked.ensures) c.requires.heard

pub returns : goal.returns
returns c =
    let es = entries_in c.args.table.now in
    let section = c.place_body.new.code in
    let delivered =
    subst (λ (a : Arch). c.place_delivery.new.code ≡ section ++ listed (delivery_of a c.args.table.now c.args.h (length section))) c.checked.ensures c.in_ok-place_delivery.ensures.ok in
    handler_added c.args.arch.now es c.args.h (entry_of es c.args.h).frame c.own_frame.result.now c.args.code.now section c.place_delivery.new.code c.push.new.self
    c.own_frame.ensures c.in_ok-place_body.ensures.ok delivered c.in_ok-push.ensures.ok
