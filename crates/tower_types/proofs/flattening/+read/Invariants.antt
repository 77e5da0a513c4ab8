use Rattle.std.proofs.Common.{◌≡◌, ◌+◌, ◌*◌, drop, map, take}
use Rattle.tower_types.specs.Ty.{table_of, shape_of, words, words_of_all, depth, depth_of_all}
use Rattle.tower_types.specs.Value.{value_from, values_from, in_turn}
use Rattle.tower_types.specs.View.{ty_of, value_of}
use Rattle.tower_types.proofs.Fitted.{shapes_at}
use Rattle.tower_types.proofs.flattening.+read.Given as goal

abbrev pub decreases-read_value : goal.decreases-read_value
decreases-read_value l = 2 * depth (shape_of l.records.now (ty_of l.t.now))

abbrev pub decreases-read_array : goal.decreases-read_array
decreases-read_array l = 2 * depth (shape_of l.records.now (ty_of l.t.now)) + 1

abbrev pub decreases-read_record : goal.decreases-read_record
decreases-read_record l = 2 * depth_of_all (shapes_at (table_of l.records.now) l.fields.now) + 1

abbrev pub invariant-read_array-loop-i : goal.invariant-read_array-loop-i
invariant-read_array-loop-i l = record {
  taken : l.at ≡ l.initial.at + l._i * words (shape_of l.records (ty_of l.t));
  made : map value_of l.parts ≡ in_turn l._i (words (shape_of l.records (ty_of l.t))) (value_from (shape_of l.records (ty_of l.t))) (drop l.initial.at l.numbers);
}

abbrev pub invariant-read_record-loop-t : goal.invariant-read_record-loop-t
invariant-read_record-loop-t l = record {
  taken : l.at ≡ l.initial.at + words_of_all (shapes_at (table_of l.records) (take l.t-index l.fields));
  made : map value_of l.parts ≡ values_from (shapes_at (table_of l.records) (take l.t-index l.fields)) (drop l.initial.at l.numbers);
}
