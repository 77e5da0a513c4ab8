use Rattle.std.proofs.Common.{◌≡◌, ◌<◌, length, rules, arith, ap, sym, ◌∙◌, FitsSigned, pos, get_or}
use Rattle.std.specs.Int.{w128}
use Rattle.std.proofs.lemmas.Int.{to_z-of_z}
use Rattle.std.proofs.lemmas.Option.{slice_get_within}
use Rattle.tower_types.specs.Ty.{table_of, shape_of, shape_of_fields, words, depth}
use Rattle.tower_types.specs.Value.{value_from}
use Rattle.tower_types.specs.View.{ty_of, fields_of}
use Rattle.tower_types.proofs.Kept.{type_at, words_more}
use Rattle.tower_types.proofs.Shapes.{all_among_more}
use Rattle.tower_types.proofs.Taken.{made_pushed, turn_more, fields_more, fields_room, field_shallower, fields_whole, scalar_made, record_shape}
use Rattle.tower_types.proofs.flattening.+read.Goals as goal

pub read_array-loop-i-preserved : goal.read_array-loop-i-preserved
read_array-loop-i-preserved t c =
    let s = shape_of c.args.records.now (ty_of c.args.t.now) in
    record {
      taken = omega (arith, c.in_ok-part.ensures.past);
      made = made_pushed _ _ _ _ _ c.in_ok-push.ensures.ok c.loop-i.invariant.made c.in_ok-part.ensures.value ∙ sym (turn_more c.loop-i._i (words s) (value_from s) c.args.at.now c.loop-i.at c.args.numbers.now c.loop-i.invariant.taken);
    }

pub read_record-read_value-requires : goal.read_record-read_value-requires
read_record-read_value-requires t c =
    let table = table_of c.args.records.now in (
      omega (arith, field_shallower table _ _ _ c.loop-t-test.true c.loop-t-item.is),
      (type_at _ _ _ _ c.requires.known c.loop-t-test.true c.loop-t-item.is, omega (arith, fields_room table _ _ _ c.loop-t-test.true c.loop-t-item.is)),
    )

pub read_record-loop-t-preserved : goal.read_record-loop-t-preserved
read_record-loop-t-preserved t c =
    let table = table_of c.args.records.now in
    record {
      taken = omega (arith, c.in_ok-part.ensures.past, words_more table _ _ _ c.loop-t-test.true c.loop-t-item.is);
      made = made_pushed _ _ _ _ _ c.in_ok-push.ensures.ok c.loop-t.invariant.made c.in_ok-part.ensures.value ∙ sym (fields_more table c.args.fields.now c.loop-t.t-index c.loop-t-item.result c.args.at.now c.loop-t.at c.args.numbers.now c.loop-t-test.true c.loop-t-item.is c.loop-t.invariant.taken);
    }

pub read_record-returns-clause-value : goal.read_record-returns-clause-value
read_record-returns-clause-value t c =
    fields_whole (table_of c.args.records.now) c.args.fields.now _ _ _ c.loop-t-test.false c.loop-t.invariant.made

pub read_value-read_record-requires : goal.read_value-read_record-requires
read_value-read_record-requires t c =
    let records = c.args.records.now in
    let s : shape_of records (ty_of c.args.t.now) ≡ shape_of_fields (table_of records) (fields_of c.fields.result.now) = record_shape records _ _ _ c.in-Rec.is c.fields.ensures.shape in
    let r : c.in-Rec.r < length records = slice_get_within _ _ _ c.fields.ensures.value in
    (omega (arith, ap depth s), (all_among_more _ _ _ (omega arith) c.fields.ensures.earlier, omega (arith, ap words s)))

pub read_value-returns-in-Scalar-clause-value : goal.read_value-returns-in-Scalar-clause-value
read_value-returns-in-Scalar-clause-value t c =
    let fit : FitsSigned w128 (get_or c.args.numbers.now c.args.at.now (pos 0)) = search rules in
    scalar_made (table_of c.args.records.now) _ _ _ c.args.at.now c.args.numbers.now c.in-Scalar.is (to_z-of_z w128 _ fit)
