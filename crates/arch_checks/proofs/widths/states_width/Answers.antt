use Rattle.std.proofs.Common.{◌≡◌, ◌<◌, length, arith, ap, subst, sym}
use Rattle.std.proofs.lemmas.List.{length-map}
use Rattle.tower_types.specs.Ty.{table_of, shape_in}
use Rattle.tower_types.specs.View.{fields_of}
use Rattle.tower_types.specs.Records.{saturated}
use Rattle.tower_syntax.specs.declared.arch.Monitor.{Monitor as MonitorValue}
use Rattle.tower_syntax.specs.Arch.{Monitor}
use Rattle.tower_syntax.specs.View.{monitor_of}
use Rattle.tower_syntax.specs.WellNumbered.{AreNumberedFields}
use Rattle.tower_syntax.proofs.Elements.{kept}
use Rattle.arch_checks.specs.Sizes.{types_of_fields}
use Rattle.arch_checks.specs.Measured.{measured, greatest_of}
use Rattle.arch_checks.proofs.Greatest.{greatest_of_each-more, greatest_step}
use Rattle.arch_checks.proofs.widths.states_width.Goals as goal

pub fields_width-requires : goal.fields_width-requires
fields_width-requires c =
    let arch = c.args.arch.now in
    let items = c.monitors-monitor-items.result.now in
    let within : c.loop-monitor.monitor-index < length arch.monitors = omega (arith, c.loop-monitor-test.true, ap length c.monitors-monitor-items.ensures.value, length-map items monitor_of) in
    subst (λ fs. AreNumberedFields (length arch.records) (fields_of fs)) (sym c.as_slice.ensures)
    (kept (λ m. AreNumberedFields (length arch.records) m.states) monitor_of items arch.monitors c.loop-monitor.monitor-index c.monitor-item.result c.monitors-monitor-items.ensures.value c.monitors-monitor-items.ensures.numbered.monitors c.monitor-item.is within)

pub loop-monitor-preserved : goal.loop-monitor-preserved
loop-monitor-preserved c =
    let table = table_of c.args.arch.now.records in
    let m = c.args.measure in
    let more = greatest_of_each-more (λ t. measured m (shape_in table t)) (λ (x : Monitor). types_of_fields x.states) monitor_of c.monitors-monitor-items.result.now c.loop-monitor.monitor-index c.monitor-item.result c.loop-monitor-test.true in
    let whole = subst (λ fs. c.fields_width.result ≡ saturated (greatest_of m table (types_of_fields (fields_of fs)))) c.as_slice.ensures c.fields_width.ensures in
    let here = subst (λ (x : MonitorValue). c.fields_width.result ≡ saturated (greatest_of m table (types_of_fields (fields_of x.states)))) c.monitor-item.is whole in
    greatest_step c.loop-monitor.most c.fields_width.result c.max-most.result _ _ _ c.loop-monitor.invariant here c.max-most.ensures more
