use Rattle.std.proofs.Common.{◌<◌, length, rules, arith, ap, sym, ◌∙◌}
use Rattle.std.proofs.lemmas.Bool.{false≢true}
use Rattle.std.proofs.lemmas.Option.{slice_get_within}
use Rattle.tower_types.specs.declared.value.Value.{the_lemmas}
use Rattle.tower_types.specs.Ty.{many, table_of, shape_of, shape_of_fields}
use Rattle.tower_types.specs.Value.{fits}
use Rattle.tower_types.specs.View.{ty_of, fields_of}
use Rattle.tower_types.proofs.Kept.{type_at}
use Rattle.tower_types.proofs.Shapes.{all_among_more}
use Rattle.tower_types.proofs.Fitted.{parts_seen, false_unless, each_count, each_at, each_more, array_whole, all_count, all_at, all_more, record_whole}
use Rattle.tower_types.proofs.fitting.+fits.Goals as goal

pub array_fits-returns-then-parts-len : goal.array_fits-returns-then-parts-len
array_fits-returns-then-parts-len t c =
    let seen = parts_seen _ _ _ c.in-Parts.is c.as_slice-parts.ensures in
    let s = shape_of c.args.records.now (ty_of c.args.t.now) in
    false_unless _ (λ h. absurd (omega (arith, each_count c.args.len (fits s) _ (sym (ap (fits (many c.args.len s)) seen) ∙ h))))

pub array_fits-returns-then-not-value_fits : goal.array_fits-returns-then-not-value_fits
array_fits-returns-then-not-value_fits t c =
    let seen = parts_seen _ _ _ c.in-Parts.is c.as_slice-parts.ensures in
    let s = shape_of c.args.records.now (ty_of c.args.t.now) in
    false_unless _ (λ h. absurd (false≢true (c.if-not-value_fits.ensures ∙ each_at c.args.len (fits s) _ _ _ (sym (ap (fits (many c.args.len s)) seen) ∙ h) c.loop-part-test.true c.part-item.is)))

pub array_fits-loop-part-preserved : goal.array_fits-loop-part-preserved
array_fits-loop-part-preserved t c =
    each_more (fits (shape_of c.args.records.now (ty_of c.args.t.now))) _ _ _ c.loop-part.invariant c.loop-part-test.true c.part-item.is (sym c.if-not-value_fits.ensures)

pub array_fits-returns : goal.array_fits-returns
array_fits-returns t c =
    array_whole c.args.len (shape_of c.args.records.now (ty_of c.args.t.now)) _ _ _ _ c.in-Parts.is c.as_slice-parts.ensures c.if-parts-len.false c.loop-part-test.false c.loop-part.auto.part-index-end c.loop-part.invariant

pub record_fits-returns-then-parts-fields : goal.record_fits-returns-then-parts-fields
record_fits-returns-then-parts-fields t c =
    let seen = parts_seen _ _ _ c.in-Parts.is c.as_slice-parts.ensures in
    let table = table_of c.args.records.now in
    let s = shape_of_fields table (fields_of c.args.fields.now) in
    false_unless _ (λ h. absurd (omega (arith, all_count table c.args.fields.now _ (sym (ap (fits s) seen) ∙ h))))

pub record_fits-value_fits-requires : goal.record_fits-value_fits-requires
record_fits-value_fits-requires t c =
    (search (rules, the_lemmas), type_at _ _ _ _ c.requires (omega arith) c.index-fields-i.is)

pub record_fits-returns-then-not-value_fits : goal.record_fits-returns-then-not-value_fits
record_fits-returns-then-not-value_fits t c =
    let seen = parts_seen _ _ _ c.in-Parts.is c.as_slice-parts.ensures in
    let table = table_of c.args.records.now in
    let s = shape_of_fields table (fields_of c.args.fields.now) in
    false_unless _ (λ h. absurd (false≢true (c.if-not-value_fits.ensures ∙ all_at table c.args.fields.now _ _ _ _ (sym (ap (fits s) seen) ∙ h) c.loop-i-test.true c.index-fields-i.is c.index-parts-i.is)))

pub record_fits-loop-i-preserved : goal.record_fits-loop-i-preserved
record_fits-loop-i-preserved t c =
    all_more (table_of c.args.records.now) _ _ _ _ _ c.loop-i.invariant (omega arith) c.loop-i-test.true c.index-fields-i.is c.index-parts-i.is (sym c.if-not-value_fits.ensures)

pub record_fits-returns : goal.record_fits-returns
record_fits-returns t c =
    record_whole (table_of c.args.records.now) _ _ _ _ _ c.in-Parts.is c.as_slice-parts.ensures c.if-parts-fields.false c.loop-i-test.false c.loop-i.invariant

pub value_fits-record_fits-requires : goal.value_fits-record_fits-requires
value_fits-record_fits-requires t c =
    let r : c.in-Rec.r < length c.args.records.now = slice_get_within _ _ _ c.fields.ensures.value in
    (search (rules, the_lemmas), all_among_more _ _ _ (omega arith) c.fields.ensures.earlier)
