use Rattle.std.proofs.Common.{◌≡◌, ◌∙◌, length, ap, sym, arith}
use Rattle.std.proofs.lemmas.List.{length-map}
use Rattle.tower_types.specs.Records.{saturated}
use Rattle.tower_syntax.specs.View.{handler_of}
use Rattle.tower_syntax.specs.Weights.{handler_memory}
use Rattle.channel_graph.specs.Table.{frame_of}
use Rattle.channel_graph.proofs.Searched.{handler_read}
use Rattle.channel_graph.proofs.Tables.{table_more, table_end}
use Rattle.channel_graph.proofs.size.frames.Goals as goal

pub loop-h-preserved : goal.loop-h-preserved
loop-h-preserved c =
    let arch = c.args.arch.now in
    let here = c.memory_of.ensures ∙ ap (λ h. saturated (handler_memory arch h)) (sym (handler_read arch c.loop-h.h c.handler-handler.result.now c.handler-handler.ensures.value)) in
    table_more c.loop-h.h (frame_of arch) c.loop-h.frames c.push.new.self c.memory_of.result c.loop-h.invariant c.in_ok-push.ensures.ok here

pub returns : goal.returns
returns c =
    let arch = c.args.arch.now in
    let end : c.loop-h.h ≡ length arch.handlers = omega (arith, c.loop-h-test.false, ap length c.handlers-h-end.ensures.value, length-map c.handlers-h-end.result.now handler_of) in
    table_end c.loop-h.h (length arch.handlers) (frame_of arch) c.loop-h.frames end c.loop-h.invariant
