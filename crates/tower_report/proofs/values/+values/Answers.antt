use Rattle.std.proofs.Common.{◌<◌, length, [], arith, rules, refl, ap, sym, ◌∙◌}
use Rattle.tower_types.specs.declared.ty.Ty.TheVariants.{Array}
use Rattle.tower_types.specs.Ty.{shape_of, depth}
use Rattle.tower_types.specs.View.{ty_of, fields_of}
use Rattle.tower_report.specs.ValueText.{shapes_in}
use Rattle.tower_report.proofs.Puts.{Puts-then, Puts-fail, Puts-stop, Puts-same, Puts-err}
use Rattle.tower_report.proofs.Bracketed.{Puts-unopened, Puts-unfilled, Puts-unclosed, Puts-brackets}
use Rattle.tower_report.proofs.Spaced.{Puts-item, Puts-part, Puts-items}
use Rattle.tower_report.proofs.Shapes.{at_field, shapes_length, record_shape_of, record_known, element_value_texts, field_value_texts, array_value_text, record_value_text}
use Rattle.tower_report.proofs.Listed.{each_length, each_at, values_length, value_at}
use Rattle.tower_report.proofs.values.+values.Goals as goal

-- ---- elements

pub put_element_values-returns-in_err-put_separator :
    goal.put_element_values-returns-in_err-put_separator
put_element_values-returns-in_err-put_separator g t c =
    let texts = element_value_texts c.args.records.now c.args.t.now c.args.values.now in
    let h : c.loop-i.i < length texts = omega (arith, each_length (shape_of c.args.records.now (ty_of c.args.t.now)) c.args.values.now) in
    Puts-err _ c.from_residual.ensures.0 (Puts-part texts c.loop-i.i _ h refl c.loop-i.invariant (Puts-stop _ c.in_err-put_separator.ensures))

pub put_element_values-returns-in_err-put_typed_value :
    goal.put_element_values-returns-in_err-put_typed_value
put_element_values-returns-in_err-put_typed_value g t c =
    let s = shape_of c.args.records.now (ty_of c.args.t.now) in
    let texts = element_value_texts c.args.records.now c.args.t.now c.args.values.now in
    let h : c.loop-i.i < length texts = omega (arith, each_length s c.args.values.now) in
    let here = each_at s c.args.values.now c.loop-i.i _ (omega arith) c.index-values-i.is in
    Puts-err _ c.from_residual-in_err-put_typed_value.ensures.0 (Puts-part texts c.loop-i.i _ h here c.loop-i.invariant (Puts-fail c.in_ok-put_separator.ensures c.in_err-put_typed_value.ensures))

pub put_element_values-loop-i-preserved : goal.put_element_values-loop-i-preserved
put_element_values-loop-i-preserved g t c =
    let s = shape_of c.args.records.now (ty_of c.args.t.now) in
    let texts = element_value_texts c.args.records.now c.args.t.now c.args.values.now in
    let h : c.loop-i.i < length texts = omega (arith, each_length s c.args.values.now) in
    let here = each_at s c.args.values.now c.loop-i.i _ (omega arith) c.index-values-i.is in
    Puts-item texts c.loop-i.i _ h here c.loop-i.invariant (Puts-then c.in_ok-put_separator.ensures c.in_ok-put_typed_value.ensures)

pub put_element_values-returns : goal.put_element_values-returns
put_element_values-returns g t c =
    let texts = element_value_texts c.args.records.now c.args.t.now c.args.values.now in
    Puts-items texts c.loop-i.i (omega (arith, each_length (shape_of c.args.records.now (ty_of c.args.t.now)) c.args.values.now)) c.loop-i.invariant

-- ---- fields

pub put_field_values-returns-in_err-put_separator :
    goal.put_field_values-returns-in_err-put_separator
put_field_values-returns-in_err-put_separator g t c =
    let records = c.args.records.now in
    let fields = c.args.fields.now in
    let texts = field_value_texts records (fields_of fields) c.args.values.now in
    let h : c.loop-i.i < length texts = omega (arith, values_length (shapes_in records (fields_of fields)) c.args.values.now, shapes_length records fields) in
    Puts-err _ c.from_residual.ensures.0 (Puts-part texts c.loop-i.i _ h refl c.loop-i.invariant (Puts-stop _ c.in_err-put_separator.ensures))

pub put_field_values-put_typed_value-requires : goal.put_field_values-put_typed_value-requires
put_field_values-put_typed_value-requires g t c =
    let at = at_field c.args.records.now c.args.fields.now c.loop-i.i _ c.requires.known (omega arith) c.index-fields-i.is in
    let known = at.known in
    let shallow = at.shallow in
    search rules

pub put_field_values-returns-in_err-put_typed_value :
    goal.put_field_values-returns-in_err-put_typed_value
put_field_values-returns-in_err-put_typed_value g t c =
    let records = c.args.records.now in
    let fields = c.args.fields.now in
    let ss = shapes_in records (fields_of fields) in
    let texts = field_value_texts records (fields_of fields) c.args.values.now in
    let h : c.loop-i.i < length texts = omega (arith, values_length ss c.args.values.now, shapes_length records fields) in
    let at = at_field records fields c.loop-i.i _ c.requires.known (omega arith) c.index-fields-i.is in
    let here = value_at ss c.args.values.now c.loop-i.i _ _ [] at.within (omega arith) at.shape c.index-values-i.is in
    Puts-err _ c.from_residual-in_err-put_typed_value.ensures.0 (Puts-part texts c.loop-i.i _ h here c.loop-i.invariant (Puts-fail c.in_ok-put_separator.ensures c.in_err-put_typed_value.ensures))

pub put_field_values-loop-i-preserved : goal.put_field_values-loop-i-preserved
put_field_values-loop-i-preserved g t c =
    let records = c.args.records.now in
    let fields = c.args.fields.now in
    let ss = shapes_in records (fields_of fields) in
    let texts = field_value_texts records (fields_of fields) c.args.values.now in
    let h : c.loop-i.i < length texts = omega (arith, values_length ss c.args.values.now, shapes_length records fields) in
    let at = at_field records fields c.loop-i.i _ c.requires.known (omega arith) c.index-fields-i.is in
    let here = value_at ss c.args.values.now c.loop-i.i _ _ [] at.within (omega arith) at.shape c.index-values-i.is in
    Puts-item texts c.loop-i.i _ h here c.loop-i.invariant (Puts-then c.in_ok-put_separator.ensures c.in_ok-put_typed_value.ensures)

pub put_field_values-returns : goal.put_field_values-returns
put_field_values-returns g t c =
    let records = c.args.records.now in
    let fields = c.args.fields.now in
    let texts = field_value_texts records (fields_of fields) c.args.values.now in
    Puts-items texts c.loop-i.i (omega (arith, values_length (shapes_in records (fields_of fields)) c.args.values.now, shapes_length records fields)) c.loop-i.invariant

-- ---- a value

pub put_typed_value-returns-in_err-put_piece-in-Array :
    goal.put_typed_value-returns-in_err-put_piece-in-Array
put_typed_value-returns-in_err-put_piece-in-Array g t c =
    let records = c.args.records.now in
    let element = c.in-Array.element in
    let vs = c.parts-elements.result.now in
    let is = c.in-Array.is in
    Puts-err _ c.from_residual.ensures.0 (Puts-same (array_value_text records _ _ element c.args.v.now vs is c.parts-elements.ensures) (Puts-unopened (element_value_texts records element vs) c.in_err-put_piece-in-Array.ensures))

pub put_typed_value-returns-in_err-put_element_values-in-Array :
    goal.put_typed_value-returns-in_err-put_element_values-in-Array
put_typed_value-returns-in_err-put_element_values-in-Array g t c =
    let records = c.args.records.now in
    let element = c.get.result.now in
    let vs = c.parts-elements.result.now in
    let is = c.in-Array.is ∙ ap (Array c.in-Array.field-0) (sym c.get.ensures) in
    Puts-err _ c.from_residual-in_err-put_element_values-in-Array.ensures.0 (Puts-same (array_value_text records _ _ element c.args.v.now vs is c.parts-elements.ensures) (Puts-unfilled (element_value_texts records element vs) c.in_ok-put_piece-in-Array.ensures c.in_err-put_element_values-in-Array.ensures))

pub put_typed_value-returns-in_err-put_piece-in-Array-2 :
    goal.put_typed_value-returns-in_err-put_piece-in-Array-2
put_typed_value-returns-in_err-put_piece-in-Array-2 g t c =
    let records = c.args.records.now in
    let element = c.get.result.now in
    let vs = c.parts-elements.result.now in
    let is = c.in-Array.is ∙ ap (Array c.in-Array.field-0) (sym c.get.ensures) in
    Puts-err _ c.from_residual-in_err-put_piece-in-Array-2.ensures.0 (Puts-same (array_value_text records _ _ element c.args.v.now vs is c.parts-elements.ensures) (Puts-unclosed (element_value_texts records element vs) c.in_ok-put_piece-in-Array.ensures c.in_ok-put_element_values-in-Array.ensures c.in_err-put_piece-in-Array-2.ensures))

pub put_typed_value-returns-in_ok-put_piece-in-Array-2 :
    goal.put_typed_value-returns-in_ok-put_piece-in-Array-2
put_typed_value-returns-in_ok-put_piece-in-Array-2 g t c =
    let records = c.args.records.now in
    let element = c.get.result.now in
    let vs = c.parts-elements.result.now in
    let is = c.in-Array.is ∙ ap (Array c.in-Array.field-0) (sym c.get.ensures) in
    Puts-same (array_value_text records _ _ element c.args.v.now vs is c.parts-elements.ensures) (Puts-brackets (element_value_texts records element vs) c.in_ok-put_piece-in-Array.ensures c.in_ok-put_element_values-in-Array.ensures c.in_ok-put_piece-in-Array-2.ensures)

pub put_typed_value-put_field_values-requires : goal.put_typed_value-put_field_values-requires
put_typed_value-put_field_values-requires g t c =
    let records = c.args.records.now in
    let fields = fields_of c.fields-fields.result.now in
    let shape = record_shape_of records _ c.in-Rec.r fields c.fields-fields.ensures.ordered c.fields-fields.ensures.value c.in-Rec.is in
    let known = record_known records c.in-Rec.r fields c.fields-fields.ensures.ordered c.fields-fields.ensures.value in
    let deep = ap depth shape in
    search rules

pub put_typed_value-returns-in_err-put_piece-in-Rec :
    goal.put_typed_value-returns-in_err-put_piece-in-Rec
put_typed_value-returns-in_err-put_piece-in-Rec g t c =
    let records = c.args.records.now in
    let fields = fields_of c.fields-fields.result.now in
    let vs = c.parts-values.result.now in
    Puts-err _ c.from_residual-in_err-put_piece-in-Rec.ensures.0 (Puts-same (record_value_text records _ c.in-Rec.r fields c.args.v.now vs c.fields-fields.ensures.ordered c.fields-fields.ensures.value c.in-Rec.is c.parts-values.ensures) (Puts-unopened (field_value_texts records fields vs) c.in_err-put_piece-in-Rec.ensures))

pub put_typed_value-returns-in_err-put_field_values-in-Rec :
    goal.put_typed_value-returns-in_err-put_field_values-in-Rec
put_typed_value-returns-in_err-put_field_values-in-Rec g t c =
    let records = c.args.records.now in
    let fields = fields_of c.fields-fields.result.now in
    let vs = c.parts-values.result.now in
    Puts-err _ c.from_residual-in_err-put_field_values-in-Rec.ensures.0 (Puts-same (record_value_text records _ c.in-Rec.r fields c.args.v.now vs c.fields-fields.ensures.ordered c.fields-fields.ensures.value c.in-Rec.is c.parts-values.ensures) (Puts-unfilled (field_value_texts records fields vs) c.in_ok-put_piece-in-Rec.ensures c.in_err-put_field_values-in-Rec.ensures))

pub put_typed_value-returns-in_err-put_piece-in-Rec-2 :
    goal.put_typed_value-returns-in_err-put_piece-in-Rec-2
put_typed_value-returns-in_err-put_piece-in-Rec-2 g t c =
    let records = c.args.records.now in
    let fields = fields_of c.fields-fields.result.now in
    let vs = c.parts-values.result.now in
    Puts-err _ c.from_residual-in_err-put_piece-in-Rec-2.ensures.0 (Puts-same (record_value_text records _ c.in-Rec.r fields c.args.v.now vs c.fields-fields.ensures.ordered c.fields-fields.ensures.value c.in-Rec.is c.parts-values.ensures) (Puts-unclosed (field_value_texts records fields vs) c.in_ok-put_piece-in-Rec.ensures c.in_ok-put_field_values-in-Rec.ensures c.in_err-put_piece-in-Rec-2.ensures))

pub put_typed_value-returns-in_ok-put_piece-in-Rec-2 :
    goal.put_typed_value-returns-in_ok-put_piece-in-Rec-2
put_typed_value-returns-in_ok-put_piece-in-Rec-2 g t c =
    let records = c.args.records.now in
    let fields = fields_of c.fields-fields.result.now in
    let vs = c.parts-values.result.now in
    Puts-same (record_value_text records _ c.in-Rec.r fields c.args.v.now vs c.fields-fields.ensures.ordered c.fields-fields.ensures.value c.in-Rec.is c.parts-values.ensures) (Puts-brackets (field_value_texts records fields vs) c.in_ok-put_piece-in-Rec.ensures c.in_ok-put_field_values-in-Rec.ensures c.in_ok-put_piece-in-Rec-2.ensures)
