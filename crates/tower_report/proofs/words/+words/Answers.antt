use Rattle.std.proofs.Common.{◌≡◌, ◌<◌, ◌≤◌, length, map, take, drop, [], refl, arith, rules, sym, ap, ◌∙◌}
use Rattle.tower_types.specs.declared.ty.Ty.TheVariants.{Array}
use Rattle.tower_types.specs.Ty.{shape_of, shapes_of, words, depth}
use Rattle.tower_types.specs.View.{ty_of, fields_of}
use Rattle.tower_report.specs.ValueText.{words_text, texts_of_words, cut, shapes_in}
use Rattle.tower_report.proofs.Puts.{Puts-then, Puts-fail, Puts-stop, Puts-same, Puts-err}
use Rattle.tower_report.proofs.Bracketed.{Puts-unopened, Puts-unfilled, Puts-unclosed, Puts-brackets}
use Rattle.tower_report.proofs.Spaced.{Puts-item, Puts-part, Puts-items}
use Rattle.tower_report.proofs.Shapes.{is_among, at_field, shapes_length, element_texts, field_texts, array_text, record_text, record_shape_of, record_known}
use Rattle.tower_report.proofs.Cuts.{element_fits, element_text, elements_length, next_element, field_text, fields_length, next_field, field_fits}
use Rattle.tower_report.proofs.words.+words.Goals as goal

-- ---- elements

pub put_element_words-words-width-requires : goal.put_element_words-words-width-requires
put_element_words-words-width-requires g t c =
    is_among c.args.records.now (ty_of c.args.t.now) c.requires.known (omega (arith, c.requires.shallow))

pub put_element_words-returns-in_err-put_separator :
    goal.put_element_words-returns-in_err-put_separator
put_element_words-returns-in_err-put_separator g t c =
    let s = shape_of c.args.records.now (ty_of c.args.t.now) in
    let i = c.loop-i.i in
    let ws = c.args.words.now in
    let texts = map (words_text s) (cut c.args.len (words s) ws) in
    let h : i < length texts = omega (arith, elements_length s c.args.len ws) in
    Puts-err _ c.from_residual.ensures.0 (Puts-part texts i _ h refl c.loop-i.invariant.put (Puts-stop _ c.in_err-put_separator.ensures))

pub put_element_words-returns-in_err-put_typed_words :
    goal.put_element_words-returns-in_err-put_typed_words
put_element_words-returns-in_err-put_typed_words g t c =
    let s = shape_of c.args.records.now (ty_of c.args.t.now) in
    let i = c.loop-i.i in
    let ws = c.args.words.now in
    let texts = map (words_text s) (cut c.args.len (words s) ws) in
    let h : i < length texts = omega (arith, elements_length s c.args.len ws) in
    let fits : words s ≤ length c.loop-i.rest.now = element_fits i c.args.len (words s) ws _ (omega arith) c.requires.whole c.loop-i.invariant.rest in
    let width : words s ≡ c.words-width.result = omega (arith, c.words-width.ensures) in
    let here = element_text s c.args.len i ws _ (omega arith) c.loop-i.invariant.rest ∙ ap (λ k. words_text s (take k c.loop-i.rest.now)) width ∙ ap (words_text s) (sym c.split_at.ensures.front) in
    Puts-err _ c.from_residual-in_err-put_typed_words.ensures.0 (Puts-part texts i _ h here c.loop-i.invariant.put (Puts-fail {ys = words_text s c.split_at.result.0.now} c.in_ok-put_separator.ensures c.in_err-put_typed_words.ensures))

pub put_element_words-loop-i-preserved : goal.put_element_words-loop-i-preserved
put_element_words-loop-i-preserved g t c =
    let s = shape_of c.args.records.now (ty_of c.args.t.now) in
    let i = c.loop-i.i in
    let ws = c.args.words.now in
    let texts = map (words_text s) (cut c.args.len (words s) ws) in
    let h : i < length texts = omega (arith, elements_length s c.args.len ws) in
    let fits : words s ≤ length c.loop-i.rest.now = element_fits i c.args.len (words s) ws _ (omega arith) c.requires.whole c.loop-i.invariant.rest in
    let width : words s ≡ c.words-width.result = omega (arith, c.words-width.ensures) in
    let here = element_text s c.args.len i ws _ (omega arith) c.loop-i.invariant.rest ∙ ap (λ k. words_text s (take k c.loop-i.rest.now)) width ∙ ap (words_text s) (sym c.split_at.ensures.front) in
    record {
      put = Puts-item texts i _ h here c.loop-i.invariant.put (Puts-then c.in_ok-put_separator.ensures c.in_ok-put_typed_words.ensures);
      rest = c.split_at.ensures.back ∙ ap (λ k. drop k c.loop-i.rest.now) (sym width) ∙ next_element i (words s) ws _ c.loop-i.invariant.rest;
    }

pub put_element_words-returns : goal.put_element_words-returns
put_element_words-returns g t c =
    let s = shape_of c.args.records.now (ty_of c.args.t.now) in
    let texts = map (words_text s) (cut c.args.len (words s) c.args.words.now) in
    Puts-items texts c.loop-i.i (omega (arith, elements_length s c.args.len c.args.words.now)) c.loop-i.invariant.put

-- ---- fields

pub put_field_words-words-width-requires : goal.put_field_words-words-width-requires
put_field_words-words-width-requires g t c =
    let here = at_field c.args.records.now c.args.fields.now c.loop-i.i _ c.requires.known (omega arith) c.index-fields-i.is in
    is_among c.args.records.now _ here.known (omega (arith, here.shallow, c.requires.shallow))

pub put_field_words-split_at-requires : goal.put_field_words-split_at-requires
put_field_words-split_at-requires g t c =
    let here = at_field c.args.records.now c.args.fields.now c.loop-i.i _ c.requires.known (omega arith) c.index-fields-i.is in
    let fits = field_fits (shapes_in c.args.records.now (fields_of c.args.fields.now)) c.loop-i.i _ c.args.words.now _ here.within here.shape c.requires.whole c.loop-i.invariant.rest in
    omega (arith, fits, c.words-width.ensures)

pub put_field_words-returns-in_err-put_separator :
    goal.put_field_words-returns-in_err-put_separator
put_field_words-returns-in_err-put_separator g t c =
    let ss = shapes_in c.args.records.now (fields_of c.args.fields.now) in
    let texts = texts_of_words (shapes_of ss) c.args.words.now in
    let here = at_field c.args.records.now c.args.fields.now c.loop-i.i _ c.requires.known (omega arith) c.index-fields-i.is in
    let h : c.loop-i.i < length texts = omega (arith, fields_length ss c.args.words.now, here.within) in
    Puts-err _ c.from_residual.ensures.0 (Puts-part texts c.loop-i.i _ h refl c.loop-i.invariant.put (Puts-stop _ c.in_err-put_separator.ensures))

pub put_field_words-put_typed_words-requires : goal.put_field_words-put_typed_words-requires
put_field_words-put_typed_words-requires g t c =
    let here = at_field c.args.records.now c.args.fields.now c.loop-i.i _ c.requires.known (omega arith) c.index-fields-i.is in
    let known = here.known in
    let shallow = here.shallow in
    let fits = field_fits (shapes_in c.args.records.now (fields_of c.args.fields.now)) c.loop-i.i _ c.args.words.now _ here.within here.shape c.requires.whole c.loop-i.invariant.rest in
    search rules

pub put_field_words-returns-in_err-put_typed_words :
    goal.put_field_words-returns-in_err-put_typed_words
put_field_words-returns-in_err-put_typed_words g t c =
    let ss = shapes_in c.args.records.now (fields_of c.args.fields.now) in
    let ws = c.args.words.now in
    let texts = texts_of_words (shapes_of ss) ws in
    let at = at_field c.args.records.now c.args.fields.now c.loop-i.i _ c.requires.known (omega arith) c.index-fields-i.is in
    let s = shape_of c.args.records.now (ty_of c.index-fields-i.result.1) in
    let h : c.loop-i.i < length texts = omega (arith, fields_length ss ws, at.within) in
    let fits = field_fits ss c.loop-i.i s ws _ at.within at.shape c.requires.whole c.loop-i.invariant.rest in
    let width : words s ≡ c.words-width.result = omega (arith, fits, c.words-width.ensures) in
    let here = field_text ss c.loop-i.i s ws _ [] at.within at.shape c.loop-i.invariant.rest ∙ ap (λ k. words_text s (take k c.loop-i.rest.now)) width ∙ ap (words_text s) (sym c.split_at.ensures.front) in
    Puts-err _ c.from_residual-in_err-put_typed_words.ensures.0 (Puts-part texts c.loop-i.i _ h here c.loop-i.invariant.put (Puts-fail {ys = words_text s c.split_at.result.0.now} c.in_ok-put_separator.ensures c.in_err-put_typed_words.ensures))

pub put_field_words-loop-i-preserved : goal.put_field_words-loop-i-preserved
put_field_words-loop-i-preserved g t c =
    let ss = shapes_in c.args.records.now (fields_of c.args.fields.now) in
    let ws = c.args.words.now in
    let texts = texts_of_words (shapes_of ss) ws in
    let at = at_field c.args.records.now c.args.fields.now c.loop-i.i _ c.requires.known (omega arith) c.index-fields-i.is in
    let s = shape_of c.args.records.now (ty_of c.index-fields-i.result.1) in
    let h : c.loop-i.i < length texts = omega (arith, fields_length ss ws, at.within) in
    let fits = field_fits ss c.loop-i.i s ws _ at.within at.shape c.requires.whole c.loop-i.invariant.rest in
    let width : words s ≡ c.words-width.result = omega (arith, fits, c.words-width.ensures) in
    let here = field_text ss c.loop-i.i s ws _ [] at.within at.shape c.loop-i.invariant.rest ∙ ap (λ k. words_text s (take k c.loop-i.rest.now)) width ∙ ap (words_text s) (sym c.split_at.ensures.front) in
    record {
      put = Puts-item texts c.loop-i.i _ h here c.loop-i.invariant.put (Puts-then c.in_ok-put_separator.ensures c.in_ok-put_typed_words.ensures);
      rest = c.split_at.ensures.back ∙ ap (λ k. drop k c.loop-i.rest.now) (sym width) ∙ next_field ss c.loop-i.i s ws _ at.within at.shape c.loop-i.invariant.rest;
    }

pub put_field_words-returns : goal.put_field_words-returns
put_field_words-returns g t c =
    let ss = shapes_in c.args.records.now (fields_of c.args.fields.now) in
    let texts = texts_of_words (shapes_of ss) c.args.words.now in
    Puts-items texts c.loop-i.i (omega (arith, fields_length ss c.args.words.now, shapes_length c.args.records.now c.args.fields.now)) c.loop-i.invariant.put

-- ---- a value

pub put_typed_words-returns-in_err-put_piece-in-Array :
    goal.put_typed_words-returns-in_err-put_piece-in-Array
put_typed_words-returns-in_err-put_piece-in-Array g t c =
    let records = c.args.records.now in
    let element = c.in-Array.element in
    let len = c.in-Array.len in
    let ws = c.args.words.now in
    Puts-err _ c.from_residual.ensures.0 (Puts-same (array_text records _ len element ws c.in-Array.is) (Puts-unopened (element_texts records element len ws) c.in_err-put_piece-in-Array.ensures))

pub put_typed_words-returns-in_err-put_element_words-in-Array :
    goal.put_typed_words-returns-in_err-put_element_words-in-Array
put_typed_words-returns-in_err-put_element_words-in-Array g t c =
    let records = c.args.records.now in
    let element = c.get.result.now in
    let len = c.in-Array.len in
    let ws = c.args.words.now in
    let is = c.in-Array.is ∙ ap (Array len) (sym c.get.ensures) in
    Puts-err _ c.from_residual-in_err-put_element_words-in-Array.ensures.0 (Puts-same (array_text records _ len element ws is) (Puts-unfilled (element_texts records element len ws) c.in_ok-put_piece-in-Array.ensures c.in_err-put_element_words-in-Array.ensures))

pub put_typed_words-returns-in_err-put_piece-in-Array-2 :
    goal.put_typed_words-returns-in_err-put_piece-in-Array-2
put_typed_words-returns-in_err-put_piece-in-Array-2 g t c =
    let records = c.args.records.now in
    let element = c.get.result.now in
    let len = c.in-Array.len in
    let ws = c.args.words.now in
    let is = c.in-Array.is ∙ ap (Array len) (sym c.get.ensures) in
    Puts-err _ c.from_residual-in_err-put_piece-in-Array-2.ensures.0 (Puts-same (array_text records _ len element ws is) (Puts-unclosed (element_texts records element len ws) c.in_ok-put_piece-in-Array.ensures c.in_ok-put_element_words-in-Array.ensures c.in_err-put_piece-in-Array-2.ensures))

pub put_typed_words-returns-in_ok-put_piece-in-Array-2 :
    goal.put_typed_words-returns-in_ok-put_piece-in-Array-2
put_typed_words-returns-in_ok-put_piece-in-Array-2 g t c =
    let records = c.args.records.now in
    let element = c.get.result.now in
    let len = c.in-Array.len in
    let ws = c.args.words.now in
    let is = c.in-Array.is ∙ ap (Array len) (sym c.get.ensures) in
    Puts-same (array_text records _ len element ws is) (Puts-brackets (element_texts records element len ws) c.in_ok-put_piece-in-Array.ensures c.in_ok-put_element_words-in-Array.ensures c.in_ok-put_piece-in-Array-2.ensures)

pub put_typed_words-returns-in_err-put_piece-in-Rec :
    goal.put_typed_words-returns-in_err-put_piece-in-Rec
put_typed_words-returns-in_err-put_piece-in-Rec g t c =
    let records = c.args.records.now in
    let fields = fields_of c.fields-fields.result.now in
    let ws = c.args.words.now in
    Puts-err _ c.from_residual-in_err-put_piece-in-Rec.ensures.0 (Puts-same (record_text records _ c.in-Rec.r fields ws c.fields-fields.ensures.ordered c.fields-fields.ensures.value c.in-Rec.is) (Puts-unopened (field_texts records fields ws) c.in_err-put_piece-in-Rec.ensures))

pub put_typed_words-put_field_words-requires : goal.put_typed_words-put_field_words-requires
put_typed_words-put_field_words-requires g t c =
    let records = c.args.records.now in
    let fields = fields_of c.fields-fields.result.now in
    let shape = record_shape_of records _ c.in-Rec.r fields c.fields-fields.ensures.ordered c.fields-fields.ensures.value c.in-Rec.is in
    let known = record_known records c.in-Rec.r fields c.fields-fields.ensures.ordered c.fields-fields.ensures.value in
    let deep = ap depth shape in
    let wide = ap words shape in
    search rules

pub put_typed_words-returns-in_err-put_field_words-in-Rec :
    goal.put_typed_words-returns-in_err-put_field_words-in-Rec
put_typed_words-returns-in_err-put_field_words-in-Rec g t c =
    let records = c.args.records.now in
    let fields = fields_of c.fields-fields.result.now in
    let ws = c.args.words.now in
    Puts-err _ c.from_residual-in_err-put_field_words-in-Rec.ensures.0 (Puts-same (record_text records _ c.in-Rec.r fields ws c.fields-fields.ensures.ordered c.fields-fields.ensures.value c.in-Rec.is) (Puts-unfilled (field_texts records fields ws) c.in_ok-put_piece-in-Rec.ensures c.in_err-put_field_words-in-Rec.ensures))

pub put_typed_words-returns-in_err-put_piece-in-Rec-2 :
    goal.put_typed_words-returns-in_err-put_piece-in-Rec-2
put_typed_words-returns-in_err-put_piece-in-Rec-2 g t c =
    let records = c.args.records.now in
    let fields = fields_of c.fields-fields.result.now in
    let ws = c.args.words.now in
    Puts-err _ c.from_residual-in_err-put_piece-in-Rec-2.ensures.0 (Puts-same (record_text records _ c.in-Rec.r fields ws c.fields-fields.ensures.ordered c.fields-fields.ensures.value c.in-Rec.is) (Puts-unclosed (field_texts records fields ws) c.in_ok-put_piece-in-Rec.ensures c.in_ok-put_field_words-in-Rec.ensures c.in_err-put_piece-in-Rec-2.ensures))

pub put_typed_words-returns-in_ok-put_piece-in-Rec-2 :
    goal.put_typed_words-returns-in_ok-put_piece-in-Rec-2
put_typed_words-returns-in_ok-put_piece-in-Rec-2 g t c =
    let records = c.args.records.now in
    let fields = fields_of c.fields-fields.result.now in
    let ws = c.args.words.now in
    Puts-same (record_text records _ c.in-Rec.r fields ws c.fields-fields.ensures.ordered c.fields-fields.ensures.value c.in-Rec.is) (Puts-brackets (field_texts records fields ws) c.in_ok-put_piece-in-Rec.ensures c.in_ok-put_field_words-in-Rec.ensures c.in_ok-put_piece-in-Rec-2.ensures)
