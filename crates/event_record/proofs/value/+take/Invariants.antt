use Rattle.std.proofs.Common.{◌≡◌, ◌+◌, ◌-◌, ◌*◌, map, drop}
use Rattle.tower_types.specs.Ty.{table_of, shape_of, depth, depth_of_all}
use Rattle.tower_types.specs.View.{ty_of, value_of}
use Rattle.event_record.specs.Tokens.{tokens}
use Rattle.event_record.specs.Scanned.{take_each, take_values, take_value, shapes_at}
use Rattle.event_record.proofs.ValuesTaken.{prefixed}
use Rattle.event_record.proofs.value.+take.Given as goal

abbrev pub decreases-take_value : goal.decreases-take_value
decreases-take_value l = 2 * depth (shape_of l.records.now (ty_of l.t.now))

abbrev pub decreases-take_array : goal.decreases-take_array
decreases-take_array l = 2 * depth (shape_of l.records.now (ty_of l.t.now)) + 1

abbrev pub decreases-take_record : goal.decreases-take_record
decreases-take_record l = 2 * depth_of_all (shapes_at (table_of l.records.now) l.fields.now) + 1

abbrev pub invariant-take_array-loop-i : goal.invariant-take_array-loop-i
invariant-take_array-loop-i l =
    prefixed (map value_of l.parts) (take_each (l.len - l._i) (take_value (shape_of l.records (ty_of l.t))) (tokens l.rest)) ≡ take_each l.len (take_value (shape_of l.records (ty_of l.t))) (tokens l.fn.text)

abbrev pub invariant-take_record-loop-t : goal.invariant-take_record-loop-t
invariant-take_record-loop-t l =
    prefixed (map value_of l.parts) (take_values (shapes_at (table_of l.records) (drop l.t-index l.fields)) (tokens l.rest)) ≡ take_values (shapes_at (table_of l.records) l.fields) (tokens l.fn.text)
