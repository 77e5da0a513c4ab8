use Rattle.std.proofs.Common.{◌∙◌, ◌<◌, ◌≤◌, ◌++◌, length, ap, arith}
use Rattle.std.proofs.lemmas.List.{take_all}
use Rattle.tower_syntax.specs.View.{emitter_of}
use Rattle.tower_syntax.specs.Arch.{Emitter}
use Rattle.tower_syntax.specs.Graph.{handler}
use Rattle.tower_syntax.specs.Weights.{emitter_words}
use Rattle.task_code.specs.declared.program.Buffer.{Buffer}
use Rattle.emit_code.proofs.Heeded.{channel_there, emitters_are, emitter_is, emitters_count}
use Rattle.task_build.specs.CodeOf.{buffers_of}
use Rattle.task_build.proofs.Pushed.{mapped_more}
use Rattle.task_build.proofs.sizes.add_buffers.Goals as goal

pub message_words-requires : goal.message_words-requires
message_words-requires c =
    channel_there c.args.arch.now c.handler.result.now c.as_slice-emitter-items.result.now c.loop-emitter.emitter-index c.emitter-item.result c.handler.ensures.numbered c.as_slice-emitter-items.ensures c.loop-emitter-test.true c.emitter-item.is

pub loop-emitter-preserved : goal.loop-emitter-preserved
loop-emitter-preserved c =
    let arch = c.args.arch.now in
    let ems = (handler arch c.args.h).emitters in
    let items = c.as_slice-emitter-items.result.now in
    let k = c.loop-emitter.emitter-index in
    let x = c.emitter-item.result in
    let seen = emitters_are arch c.args.h c.handler.result.now items c.handler.ensures.value c.as_slice-emitter-items.ensures in
    let within : k < length ems = omega (arith, emitters_count ems items seen, c.loop-emitter-test.true) in
    let f : Emitter → Buffer = λ e. record { width = emitter_words arch e; bound = e.bound } in
    mapped_more f ems k (emitter_of x) c.args.buffers.now c.loop-emitter.buffers c.push.new.self (record { width = c.in_ok-width.width; bound = x.bound }) within
    (emitter_is ems items k x seen c.loop-emitter-test.true c.emitter-item.is) c.loop-emitter.invariant c.in_ok-push.ensures.ok (λ t. record { width = c.in_ok-width.ensures t; bound = x.bound })

pub returns : goal.returns
returns c =
    let arch = c.args.arch.now in
    let ems = (handler arch c.args.h).emitters in
    let items = c.as_slice-emitter-items.result.now in
    let seen = emitters_are arch c.args.h c.handler.result.now items c.handler.ensures.value c.as_slice-emitter-items.ensures in
    let past : length ems ≤ c.loop-emitter.emitter-index = omega (arith, emitters_count ems items seen, c.loop-emitter-test.false) in
    c.loop-emitter.invariant ∙ ap (λ es. c.args.buffers.now ++ buffers_of arch es) (take_all c.loop-emitter.emitter-index ems past)
