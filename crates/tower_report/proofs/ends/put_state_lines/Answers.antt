use Rattle.std.proofs.Common.{◌≡◌, ◌∙◌, sym, ap, drop, arith}
use Rattle.std.specs.List.{zip}
use Rattle.tower_types.specs.Ty.{Ty, Name, shape_of, shapes_of, words}
use Rattle.tower_types.specs.View.{ty_of, fields_of}
use Rattle.tower_report.specs.EndText.{state_line}
use Rattle.tower_report.specs.ValueText.{words_text, texts_of_words, shapes_in}
use Rattle.tower_report.proofs.Puts.{Puts-same, Puts-err}
use Rattle.tower_report.proofs.Lines.{Puts-row, Puts-row-part, Puts-rows}
use Rattle.tower_report.proofs.Shapes.{is_among, at_field}
use Rattle.tower_report.proofs.Cuts.{next_field, field_fits}
use Rattle.tower_report.proofs.Lookups.{state_line_same}
use Rattle.tower_report.proofs.States.{state_row, rows_length}
use Rattle.tower_report.proofs.ends.put_state_lines.Goals as goal

pub words-width-requires : goal.words-width-requires
words-width-requires g c =
    let at = at_field c.args.records.now c.args.states.now c.loop-name.name-index _ c.requires.known (omega arith) c.loop-name-item.is in
    is_among c.args.records.now _ at.known (omega (arith, at.shallow, c.requires.shallow))

pub split_at-requires : goal.split_at-requires
split_at-requires g c =
    let at = at_field c.args.records.now c.args.states.now c.loop-name.name-index _ c.requires.known (omega arith) c.loop-name-item.is in
    let fits = field_fits (shapes_in c.args.records.now (fields_of c.args.states.now)) c.loop-name.name-index _ c.args.words.now _ at.within at.shape c.requires.whole c.loop-name.invariant.rest in
    omega (arith, fits, c.words-width.ensures)

pub put_words_line-requires-clause-known : goal.put_words_line-requires-clause-known
put_words_line-requires-clause-known g c =
    let at = at_field c.args.records.now c.args.states.now c.loop-name.name-index _ c.requires.known (omega arith) c.loop-name-item.is in
    at.known

pub put_words_line-requires-clause-shallow : goal.put_words_line-requires-clause-shallow
put_words_line-requires-clause-shallow g c =
    let at = at_field c.args.records.now c.args.states.now c.loop-name.name-index _ c.requires.known (omega arith) c.loop-name-item.is in
    omega (arith, at.shallow, c.requires.shallow)

pub put_words_line-requires-clause-whole : goal.put_words_line-requires-clause-whole
put_words_line-requires-clause-whole g c =
    let at = at_field c.args.records.now c.args.states.now c.loop-name.name-index _ c.requires.known (omega arith) c.loop-name-item.is in
    let fits = field_fits (shapes_in c.args.records.now (fields_of c.args.states.now)) c.loop-name.name-index _ c.args.words.now _ at.within at.shape c.requires.whole c.loop-name.invariant.rest in
    omega (arith, fits, c.words-width.ensures, c.split_at.ensures.front_len)

pub returns-in_err-put_words_line : goal.returns-in_err-put_words_line
returns-in_err-put_words_line g c =
    let records = c.args.records.now in
    let states = fields_of c.args.states.now in
    let i = c.loop-name.name-index in
    let ss = shapes_in records states in
    let ws = c.args.words.now in
    let texts = texts_of_words (shapes_of ss) ws in
    let at = at_field records c.args.states.now i _ c.requires.known (omega arith) c.loop-name-item.is in
    let s = shape_of records (ty_of c.loop-name-item.result.1) in
    let x : Name × Ty = (c.loop-name-item.result.0, ty_of c.loop-name-item.result.1) in
    let text = words_text s c.split_at.result.0.now in
    let row = state_row records c.args.states.now i c.loop-name-item.result ws _ _ _ at c.requires.whole c.loop-name.invariant.rest (omega arith) c.words-width.ensures c.split_at.ensures.front in
    let same = state_line_same _ _ c.args.monitor.now x.0 text c.bytes.ensures.value c.bytes-in-loop-name.ensures.value in
    Puts-err _ c.from_residual.ensures.0 (Puts-row-part (λ s. state_line c.args.monitor.now s.0.0 s.1) (zip states texts) i (x, text) row.0 row.1 c.loop-name.invariant.put (Puts-same same c.in_err-put_words_line.ensures))

pub loop-name-preserved : goal.loop-name-preserved
loop-name-preserved g c =
    let records = c.args.records.now in
    let states = fields_of c.args.states.now in
    let i = c.loop-name.name-index in
    let ss = shapes_in records states in
    let ws = c.args.words.now in
    let texts = texts_of_words (shapes_of ss) ws in
    let at = at_field records c.args.states.now i _ c.requires.known (omega arith) c.loop-name-item.is in
    let s = shape_of records (ty_of c.loop-name-item.result.1) in
    let x : Name × Ty = (c.loop-name-item.result.0, ty_of c.loop-name-item.result.1) in
    let text = words_text s c.split_at.result.0.now in
    let fits = field_fits ss i s ws _ at.within at.shape c.requires.whole c.loop-name.invariant.rest in
    let width : words s ≡ c.words-width.result = omega (arith, fits, c.words-width.ensures) in
    let row = state_row records c.args.states.now i c.loop-name-item.result ws _ _ _ at c.requires.whole c.loop-name.invariant.rest (omega arith) c.words-width.ensures c.split_at.ensures.front in
    let same = state_line_same _ _ c.args.monitor.now x.0 text c.bytes.ensures.value c.bytes-in-loop-name.ensures.value in
    record {
      put = Puts-row (λ s. state_line c.args.monitor.now s.0.0 s.1) (zip states texts) i (x, text) row.0 row.1 c.loop-name.invariant.put (Puts-same same c.in_ok-put_words_line.ensures);
      rest = c.split_at.ensures.back ∙ ap (λ k. drop k c.loop-name.rest.now) (sym width) ∙ next_field ss i s ws _ at.within at.shape c.loop-name.invariant.rest;
    }

pub returns : goal.returns
returns g c =
    let states = fields_of c.args.states.now in
    let texts = texts_of_words (shapes_of (shapes_in c.args.records.now states)) c.args.words.now in
    let rows = rows_length c.args.records.now c.args.states.now c.args.words.now in
    Puts-rows (λ s. state_line c.args.monitor.now s.0.0 s.1) (zip states texts) c.loop-name.name-index (omega (arith, rows)) c.loop-name.invariant.put
