use Rattle.std.proofs.Common.{◌+◌, ◌*◌, take}
use Rattle.tower_io.specs.declared.answers.Put.TheVariants.{Done}
use Rattle.tower_types.specs.Ty.{shape_of, shapes_of, depth}
use Rattle.tower_types.specs.View.{ty_of, fields_of, all_values_of}
use Rattle.tower_report.specs.Bytes.{spaced}
use Rattle.tower_report.specs.Puts.{Puts}
use Rattle.tower_report.specs.ValueText.{value_text, texts_of_values, each_text, shapes_in, shapes_depth}
use Rattle.tower_report.proofs.values.+values.Given as goal

abbrev pub decreases-put_typed_value : goal.decreases-put_typed_value
decreases-put_typed_value g l = 2 * depth (shape_of l.records.now (ty_of l.t.now))

abbrev pub decreases-put_element_values : goal.decreases-put_element_values
decreases-put_element_values g l = 2 * depth (shape_of l.records.now (ty_of l.t.now)) + 1

abbrev pub decreases-put_field_values : goal.decreases-put_field_values
decreases-put_field_values g l = 2 * shapes_depth (shapes_in l.records.now (fields_of l.fields.now)) + 1

abbrev pub invariant-put_element_values-loop-i : goal.invariant-put_element_values-loop-i
invariant-put_element_values-loop-i g l =
    Puts g.O.Sink.written g.O.Sink.faults l.initial.out l.out (spaced (take l.i (each_text (value_text (shape_of l.records (ty_of l.t))) (all_values_of l.values)))) Done

abbrev pub invariant-put_field_values-loop-i : goal.invariant-put_field_values-loop-i
invariant-put_field_values-loop-i g l =
    Puts g.O.Sink.written g.O.Sink.faults l.initial.out l.out (spaced (take l.i (texts_of_values (shapes_of (shapes_in l.records (fields_of l.fields))) (all_values_of l.values)))) Done
