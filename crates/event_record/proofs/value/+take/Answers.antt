use Rattle.std.proofs.Common.{◌≡◌, ◌<◌, ◌+◌, ◌-◌, ℕ, length, map, drop, arith, ap, sym, ◌∙◌, subst, Some, None}
use Rattle.std.proofs.lemmas.Option.{slice_get_within}
use Rattle.tower_types.specs.Ty.{table_of, shape_of, shape_of_fields, depth}
use Rattle.tower_types.specs.View.{ty_of, fields_of, value_of}
use Rattle.tower_types.proofs.Kept.{type_at}
use Rattle.tower_types.proofs.Shapes.{all_among_more}
use Rattle.tower_types.proofs.Taken.{field_shallower, record_shape}
use Rattle.event_record.specs.Tokens.{tokens}
use Rattle.event_record.specs.Scanned.{take_each, take_values, take_value, shapes_at}
use Rattle.event_record.specs.Made.{IsTaken}
use Rattle.event_record.proofs.ValuesTaken.{prefixed, part_more, part_none, parts_end, each_left, each_done, fields_left, fields_done, record_absent}
use Rattle.event_record.proofs.value.+take.Goals as goal

pub take_array-returns-in-None : goal.take_array-returns-in-None
take_array-returns-in-None t c =
    let f = take_value (shape_of c.args.records.now (ty_of c.args.t.now)) in
    let n : ℕ = c.args.len in
    let i : ℕ = c.loop-i._i in
    let ts = tokens c.loop-i.rest.now in
    part_none (take_each (n - (i + 1)) f) (f ts) (take_each n f (tokens c.args.text.now)) c.loop-i.parts
    (subst (IsTaken (f ts)) c.in-None.is c.in_ok-take_value.ensures)
    (ap (prefixed (map value_of c.loop-i.parts)) (sym (each_left n i f ts c.loop-i-test.true)) ∙ c.loop-i.invariant)

pub take_array-loop-i-preserved : goal.take_array-loop-i-preserved
take_array-loop-i-preserved t c =
    let f = take_value (shape_of c.args.records.now (ty_of c.args.t.now)) in
    let n : ℕ = c.args.len in
    let i : ℕ = c.loop-i._i in
    let ts = tokens c.loop-i.rest.now in
    part_more (take_each (n - (i + 1)) f) (f ts) (take_each n f (tokens c.args.text.now)) c.loop-i.parts _ c.in-Some.taken.value (tokens c.in-Some.taken.rest.now) c.in_ok-push-in-Some.ensures.ok
    (subst (IsTaken (f ts)) c.in-Some.is c.in_ok-take_value.ensures)
    (ap (prefixed (map value_of c.loop-i.parts)) (sym (each_left n i f ts c.loop-i-test.true)) ∙ c.loop-i.invariant)

pub take_array-returns : goal.take_array-returns
take_array-returns t c =
    let f = take_value (shape_of c.args.records.now (ty_of c.args.t.now)) in
    let n : ℕ = c.args.len in
    let i : ℕ = c.loop-i._i in
    let ts = tokens c.loop-i.rest.now in
    parts_end (take_each n f (tokens c.args.text.now)) c.loop-i.parts ts c.closed.result
    (ap (prefixed (map value_of c.loop-i.parts)) (sym (each_done n i f ts c.loop-i-test.false)) ∙ c.loop-i.invariant) c.closed.ensures

pub take_record-take_value-requires : goal.take_record-take_value-requires
take_record-take_value-requires t c =
    let table = table_of c.args.records.now in
    (omega (arith, field_shallower table _ _ _ c.loop-t-test.true c.loop-t-item.is), type_at _ _ _ _ c.requires c.loop-t-test.true c.loop-t-item.is)

pub take_record-returns-in-None : goal.take_record-returns-in-None
take_record-returns-in-None t c =
    let table = table_of c.args.records.now in
    let fields = c.args.fields.now in
    let i : ℕ = c.loop-t.t-index in
    let ts = tokens c.loop-t.rest.now in
    part_none (take_values (shapes_at table (drop (i + 1) fields))) _ (take_values (shapes_at table fields) (tokens c.args.text.now)) c.loop-t.parts
    (subst (IsTaken _) c.in-None.is c.in_ok-take_value.ensures)
    (ap (prefixed (map value_of c.loop-t.parts)) (sym (fields_left table fields i c.loop-t-item.result ts c.loop-t-test.true c.loop-t-item.is)) ∙ c.loop-t.invariant)

pub take_record-loop-t-preserved : goal.take_record-loop-t-preserved
take_record-loop-t-preserved t c =
    let table = table_of c.args.records.now in
    let fields = c.args.fields.now in
    let i : ℕ = c.loop-t.t-index in
    let ts = tokens c.loop-t.rest.now in
    part_more (take_values (shapes_at table (drop (i + 1) fields))) _ (take_values (shapes_at table fields) (tokens c.args.text.now)) c.loop-t.parts _ c.in-Some.taken.value (tokens c.in-Some.taken.rest.now) c.in_ok-push-in-Some.ensures.ok
    (subst (IsTaken _) c.in-Some.is c.in_ok-take_value.ensures)
    (ap (prefixed (map value_of c.loop-t.parts)) (sym (fields_left table fields i c.loop-t-item.result ts c.loop-t-test.true c.loop-t-item.is)) ∙ c.loop-t.invariant)

pub take_record-returns : goal.take_record-returns
take_record-returns t c =
    let table = table_of c.args.records.now in
    let fields = c.args.fields.now in
    let ts = tokens c.loop-t.rest.now in
    parts_end (take_values (shapes_at table fields) (tokens c.args.text.now)) c.loop-t.parts ts c.closed.result
    (ap (prefixed (map value_of c.loop-t.parts)) (sym (fields_done table fields c.loop-t.t-index ts c.loop-t-test.false)) ∙ c.loop-t.invariant) c.closed.ensures

pub take_value-take_record-requires : goal.take_value-take_record-requires
take_value-take_record-requires t c =
    let records = c.args.records.now in
    let s : shape_of records (ty_of c.args.t.now) ≡ shape_of_fields (table_of records) (fields_of c.fields-fields.result.now) = record_shape records _ _ _ c.in-Rec.is c.fields-fields.ensures.shape in
    let r : c.in-Rec.r < length records = slice_get_within _ _ _ c.fields-fields.ensures.value in
    (omega (arith, ap depth s), all_among_more _ _ _ (omega arith) c.fields-fields.ensures.earlier)

pub take_value-returns-in-None-opened : goal.take_value-returns-in-None-opened
take_value-returns-in-None-opened t c =
    let records = c.args.records.now in
    record_absent _ _ _ (record_shape records _ _ _ c.in-Rec.is c.fields-fields.ensures.shape) c.in-None-opened.ensures
