use Rattle.std.proofs.Common.{◌<◌, length, map, arith}
use Rattle.std.proofs.lemmas.List.{length-map}
use Rattle.tower_types.specs.Ty.{shape_of}
use Rattle.tower_types.specs.View.{ty_of, value_of}
use Rattle.tower_report.specs.ValueText.{value_text}
use Rattle.tower_report.proofs.Puts.{Puts-err}
use Rattle.tower_report.proofs.Lines.{Puts-unheaded, Puts-unvalued, Puts-unended, Puts-value-line}
use Rattle.tower_report.proofs.values.put_value_line.Goals as goal

pub returns-in_err-put_head : goal.returns-in_err-put_head
returns-in_err-put_head g c =
    let words = map (λ w. w.now) c.args.words.now in
    let text = value_text (shape_of c.args.records.now (ty_of c.args.t.now)) (value_of c.args.v.now) in
    let some : 0 < length words = omega (arith, length-map c.args.words.now (λ w. w.now), c.requires.some) in
    Puts-err _ c.from_residual.ensures.0 (Puts-unheaded words text some c.in_err-put_head.ensures)

pub returns-in_err-put_typed_value : goal.returns-in_err-put_typed_value
returns-in_err-put_typed_value g c =
    let words = map (λ w. w.now) c.args.words.now in
    let text = value_text (shape_of c.args.records.now (ty_of c.args.t.now)) (value_of c.args.v.now) in
    let some : 0 < length words = omega (arith, length-map c.args.words.now (λ w. w.now), c.requires.some) in
    Puts-err _ c.from_residual-in_err-put_typed_value.ensures.0 (Puts-unvalued words text some c.in_ok-put_head.ensures c.in_err-put_typed_value.ensures)

pub returns-in_err-put_piece : goal.returns-in_err-put_piece
returns-in_err-put_piece g c =
    let words = map (λ w. w.now) c.args.words.now in
    let text = value_text (shape_of c.args.records.now (ty_of c.args.t.now)) (value_of c.args.v.now) in
    let some : 0 < length words = omega (arith, length-map c.args.words.now (λ w. w.now), c.requires.some) in
    Puts-err _ c.from_residual-in_err-put_piece.ensures.0 (Puts-unended words text some c.in_ok-put_head.ensures c.in_ok-put_typed_value.ensures c.in_err-put_piece.ensures)

pub returns : goal.returns
returns g c =
    let words = map (λ w. w.now) c.args.words.now in
    let text = value_text (shape_of c.args.records.now (ty_of c.args.t.now)) (value_of c.args.v.now) in
    let some : 0 < length words = omega (arith, length-map c.args.words.now (λ w. w.now), c.requires.some) in
    Puts-value-line words text some c.in_ok-put_head.ensures c.in_ok-put_typed_value.ensures c.in_ok-put_piece.ensures
