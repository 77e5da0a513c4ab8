use Rattle.std.proofs.Common.{take}
use Rattle.std.specs.List.{flat_map, zip}
use Rattle.tower_io.specs.declared.answers.Put.TheVariants.{Done}
use Rattle.tower_types.specs.Ty.{shapes_of}
use Rattle.tower_types.specs.View.{fields_of, all_values_of}
use Rattle.tower_report.specs.EndText.{state_line}
use Rattle.tower_report.specs.Puts.{Puts}
use Rattle.tower_report.specs.ValueText.{texts_of_values, shapes_in}
use Rattle.tower_report.proofs.replays.put_value_lines.Given as goal

abbrev pub invariant-loop-i : goal.invariant-loop-i
invariant-loop-i g l =
    let states = fields_of l.states in
    let texts = texts_of_values (shapes_of (shapes_in l.records states)) (all_values_of l.values) in
    Puts g.O.Sink.written g.O.Sink.faults l.initial.out l.out (flat_map (λ s. state_line l.monitor s.0.0 s.1) (take l.i (zip states texts))) Done
