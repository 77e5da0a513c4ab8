use Rattle.std.proofs.Common.{◌∙◌, sym, ap}
use Rattle.tower_types.specs.Ty.{shape_of}
use Rattle.tower_types.specs.View.{ty_of, value_of}
use Rattle.tower_report.proofs.Puts.{Puts-answer, Puts-same}
use Rattle.tower_report.proofs.Lookups.{output_name_at, output_shape_at, message_line_same}
use Rattle.tower_report.proofs.replays.put_message.Goals as goal

pub returns : goal.returns
returns g c =
    let arch = c.args.arch.now in
    let name = c.bytes.ensures.value ∙ sym (output_name_at arch c.args.o _ c.output-output.ensures.value) in
    let shape = ap (λ rs. shape_of rs (ty_of c.channel.result.now.message)) c.records.ensures.value ∙ sym (output_shape_at arch c.args.o _ _ c.output-output.ensures.value c.channel.ensures.value) in
    let e = message_line_same arch c.args.o (value_of c.args.message.now) _ _ name shape in
    Puts-answer c.answer.ensures (Puts-same e c.put_value_line.ensures)
