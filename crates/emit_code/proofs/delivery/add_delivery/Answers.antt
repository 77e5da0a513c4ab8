use Rattle.std.proofs.Common.{◌≡◌, ◌∙◌, ◌<◌, ◌++◌, length, ap, sym, arith}
use Rattle.tower_syntax.specs.View.{emitter_of}
use Rattle.tower_syntax.specs.Graph.{handler}
use Rattle.task_code.specs.Piece.{listed}
use Rattle.emit_code.specs.Delivery.{entry_of, delivery_code}
use Rattle.emit_code.specs.Framed.{entries_in}
use Rattle.emit_code.proofs.Added.{delivery-more, emitter_piece, piece_is}
use Rattle.emit_code.proofs.Heeded.{channel_there, emitters_are, emitter_is, emitters_count, heard_is, take_whole}
use Rattle.emit_code.proofs.delivery.add_delivery.Goals as goal

pub messages_of-requires : goal.messages_of-requires
messages_of-requires c =
    channel_there c.args.arch.now c.handler.result.now c.as_slice-emitter-items.result.now c.loop-k.k c.emitter-item.result c.handler.ensures.numbered c.as_slice-emitter-items.ensures c.loop-k-test.true c.emitter-item.is

pub bounds-heard-emitter : goal.bounds-heard-emitter
bounds-heard-emitter c =
    let there = channel_there c.args.arch.now c.handler.result.now c.as_slice-emitter-items.result.now c.loop-k.k c.emitter-item.result c.handler.ensures.numbered c.as_slice-emitter-items.ensures c.loop-k-test.true c.emitter-item.is in
    omega (arith, there, c.requires.heard.each)

pub loop-k-preserved : goal.loop-k-preserved
loop-k-preserved c =
    let arch = c.args.arch.now in
    let es = entries_in c.args.frames.now in
    let f = (entry_of es c.args.handler).frame in
    let ems = (handler arch c.args.handler).emitters in
    let items = c.as_slice-emitter-items.result.now in
    let x = c.emitter-item.result in
    let k = c.loop-k.k in
    let there : x.channel < length arch.channels = channel_there arch c.handler.result.now items k x c.handler.ensures.numbered c.as_slice-emitter-items.ensures c.loop-k-test.true c.emitter-item.is in
    let seen = emitters_are arch c.args.handler c.handler.result.now items c.handler.ensures.value c.as_slice-emitter-items.ensures in
    let within : k < length ems = omega (arith, emitters_count ems items seen, c.loop-k-test.true) in
    let heard = heard_is arch c.args.heard.now x.channel c.as_slice-listeners.result.now c.index-heard-emitter.result c.requires.heard there c.as_slice-listeners.ensures c.index-heard-emitter.is in
    let piece = piece_is arch es f (length c.loop-k.code) k (emitter_of x) c.own_frame-frame.result.now c.in_ok-out.out c.as_slice-listeners.result.now c.in_ok-out.ensures c.own_frame-frame.ensures heard in
    let read = emitter_is ems items k x seen c.loop-k-test.true c.emitter-item.is in
    delivery-more arch es f ems k (emitter_of x) c.args.code.now c.loop-k.code c.add_emitter.new.code within c.loop-k.invariant
    (c.in_ok-add_emitter.ensures.ok ∙ ap (λ xs. c.loop-k.code ++ xs) piece ∙ ap (λ e. c.loop-k.code ++ listed (emitter_piece arch es f (length c.loop-k.code) k e)) (sym read))

pub returns-clause-ok : goal.returns-clause-ok
returns-clause-ok c =
    let arch = c.args.arch.now in
    let es = entries_in c.args.frames.now in
    let f = (entry_of es c.args.handler).frame in
    let ems = (handler arch c.args.handler).emitters in
    let items = c.as_slice-emitter-items.result.now in
    let seen = emitters_are arch c.args.handler c.handler.result.now items c.handler.ensures.value c.as_slice-emitter-items.ensures in
    let end : c.loop-k.k ≡ length ems = omega (arith, emitters_count ems items seen, c.loop-k-test.false) in
    c.loop-k.invariant ∙ ap (λ xs. c.args.code.now ++ listed (delivery_code arch es f (length c.args.code.now) 0 xs)) (take_whole ems c.loop-k.k end)
