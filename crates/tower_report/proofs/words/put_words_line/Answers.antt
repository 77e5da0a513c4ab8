use Rattle.std.proofs.Common.{◌<◌, length, map, arith}
use Rattle.std.proofs.lemmas.List.{length-map}
use Rattle.tower_types.specs.Ty.{shape_of}
use Rattle.tower_types.specs.View.{ty_of}
use Rattle.tower_report.specs.ValueText.{words_text}
use Rattle.tower_report.proofs.Puts.{Puts-err}
use Rattle.tower_report.proofs.Lines.{Puts-unheaded, Puts-unvalued, Puts-unended, Puts-value-line}
use Rattle.tower_report.proofs.words.put_words_line.Goals as goal

pub returns-in_err-put_head : goal.returns-in_err-put_head
returns-in_err-put_head g c =
    let words = map (λ w. w.now) c.args.words.now in
    let text = words_text (shape_of c.args.records.now (ty_of c.args.t.now)) c.args.value.now in
    let some : 0 < length words = omega (arith, length-map c.args.words.now (λ w. w.now), c.requires.some) in
    Puts-err _ c.from_residual.ensures.0 (Puts-unheaded words text some c.in_err-put_head.ensures)

pub returns-in_err-put_typed_words : goal.returns-in_err-put_typed_words
returns-in_err-put_typed_words g c =
    let words = map (λ w. w.now) c.args.words.now in
    let text = words_text (shape_of c.args.records.now (ty_of c.args.t.now)) c.args.value.now in
    let some : 0 < length words = omega (arith, length-map c.args.words.now (λ w. w.now), c.requires.some) in
    Puts-err _ c.from_residual-in_err-put_typed_words.ensures.0 (Puts-unvalued words text some c.in_ok-put_head.ensures c.in_err-put_typed_words.ensures)

pub returns-in_err-put_piece : goal.returns-in_err-put_piece
returns-in_err-put_piece g c =
    let words = map (λ w. w.now) c.args.words.now in
    let text = words_text (shape_of c.args.records.now (ty_of c.args.t.now)) c.args.value.now in
    let some : 0 < length words = omega (arith, length-map c.args.words.now (λ w. w.now), c.requires.some) in
    Puts-err _ c.from_residual-in_err-put_piece.ensures.0 (Puts-unended words text some c.in_ok-put_head.ensures c.in_ok-put_typed_words.ensures c.in_err-put_piece.ensures)

pub returns : goal.returns
returns g c =
    let words = map (λ w. w.now) c.args.words.now in
    let text = words_text (shape_of c.args.records.now (ty_of c.args.t.now)) c.args.value.now in
    let some : 0 < length words = omega (arith, length-map c.args.words.now (λ w. w.now), c.requires.some) in
    Puts-value-line words text some c.in_ok-put_head.ensures c.in_ok-put_typed_words.ensures c.in_ok-put_piece.ensures
