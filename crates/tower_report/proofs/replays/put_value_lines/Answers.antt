use Rattle.std.proofs.Common.{arith}
use Rattle.std.specs.List.{zip}
use Rattle.tower_types.specs.Ty.{Ty, Name, shape_of, shapes_of}
use Rattle.tower_types.specs.View.{ty_of, fields_of, value_of, all_values_of}
use Rattle.tower_report.specs.EndText.{state_line}
use Rattle.tower_report.specs.ValueText.{value_text, texts_of_values, shapes_in}
use Rattle.tower_report.proofs.Puts.{Puts-same, Puts-err}
use Rattle.tower_report.proofs.Lines.{Puts-row, Puts-row-part, Puts-rows}
use Rattle.tower_report.proofs.Shapes.{at_field}
use Rattle.tower_report.proofs.Lookups.{state_line_same}
use Rattle.tower_report.proofs.States.{value_row, value_rows_length}
use Rattle.tower_report.proofs.replays.put_value_lines.Goals as goal

pub put_value_line-requires-clause-known : goal.put_value_line-requires-clause-known
put_value_line-requires-clause-known g c =
    let at = at_field c.args.records.now c.args.states.now c.loop-i.i _ c.requires.known (omega arith) c.index-states-i.is in
    at.known

pub put_value_line-requires-clause-shallow : goal.put_value_line-requires-clause-shallow
put_value_line-requires-clause-shallow g c =
    let at = at_field c.args.records.now c.args.states.now c.loop-i.i _ c.requires.known (omega arith) c.index-states-i.is in
    omega (arith, at.shallow, c.requires.shallow)

pub returns-in_err-put_value_line : goal.returns-in_err-put_value_line
returns-in_err-put_value_line g c =
    let records = c.args.records.now in
    let states = fields_of c.args.states.now in
    let rows = zip states (texts_of_values (shapes_of (shapes_in records states)) (all_values_of c.args.values.now)) in
    let at = at_field records c.args.states.now c.loop-i.i _ c.requires.known (omega arith) c.index-states-i.is in
    let x : Name × Ty = (c.index-states-i.result.0, ty_of c.index-states-i.result.1) in
    let text = value_text (shape_of records x.1) (value_of c.index-values-i.result) in
    let row = value_row records c.args.states.now c.loop-i.i c.index-states-i.result c.args.values.now c.index-values-i.result at (omega arith) c.index-values-i.is in
    let same = state_line_same _ _ c.args.monitor.now x.0 text c.bytes.ensures.value c.bytes-in-loop-i.ensures.value in
    Puts-err _ c.from_residual.ensures.0 (Puts-row-part (λ s. state_line c.args.monitor.now s.0.0 s.1) rows c.loop-i.i (x, text) row.0 row.1 c.loop-i.invariant (Puts-same same c.in_err-put_value_line.ensures))

pub loop-i-preserved : goal.loop-i-preserved
loop-i-preserved g c =
    let records = c.args.records.now in
    let states = fields_of c.args.states.now in
    let rows = zip states (texts_of_values (shapes_of (shapes_in records states)) (all_values_of c.args.values.now)) in
    let at = at_field records c.args.states.now c.loop-i.i _ c.requires.known (omega arith) c.index-states-i.is in
    let x : Name × Ty = (c.index-states-i.result.0, ty_of c.index-states-i.result.1) in
    let text = value_text (shape_of records x.1) (value_of c.index-values-i.result) in
    let row = value_row records c.args.states.now c.loop-i.i c.index-states-i.result c.args.values.now c.index-values-i.result at (omega arith) c.index-values-i.is in
    let same = state_line_same _ _ c.args.monitor.now x.0 text c.bytes.ensures.value c.bytes-in-loop-i.ensures.value in
    Puts-row (λ s. state_line c.args.monitor.now s.0.0 s.1) rows c.loop-i.i (x, text) row.0 row.1 c.loop-i.invariant (Puts-same same c.in_ok-put_value_line.ensures)

pub returns : goal.returns
returns g c =
    let states = fields_of c.args.states.now in
    let rows = zip states (texts_of_values (shapes_of (shapes_in c.args.records.now states)) (all_values_of c.args.values.now)) in
    Puts-rows (λ s. state_line c.args.monitor.now s.0.0 s.1) rows c.loop-i.i (omega (arith, value_rows_length c.args.records.now c.args.states.now c.args.values.now)) c.loop-i.invariant
