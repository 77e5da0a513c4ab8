use Rattle.std.proofs.Common.{◌≡◌, ◌<◌, length, arith, ap, subst}
use Rattle.std.proofs.lemmas.List.{length-map}
use Rattle.tower_types.specs.Records.{saturated}
use Rattle.tower_syntax.specs.View.{monitor_of}
use Rattle.tower_syntax.specs.declared.arch.Monitor.{Monitor as MonitorValue}
use Rattle.tower_syntax.specs.Weights.{monitor_words}
use Rattle.tower_syntax.specs.WellNumbered.{AreNumberedFields}
use Rattle.tower_syntax.proofs.Elements.{kept}
use Rattle.channel_graph.proofs.Saturating.{saturating_step}
use Rattle.channel_graph.proofs.Counted.{sum_of_all-more}
use Rattle.channel_graph.proofs.size.states_words.Goals as goal

pub words_of_monitor-requires : goal.words_of_monitor-requires
words_of_monitor-requires c =
    let arch = c.args.arch.now in
    let items = c.monitors-m-items.result.now in
    let within : c.loop-m.m-index < length arch.monitors = omega (arith, c.loop-m-test.true, ap length c.monitors-m-items.ensures.value, length-map items monitor_of) in
    kept (λ m. AreNumberedFields (length arch.records) m.states) monitor_of items arch.monitors c.loop-m.m-index c.m-item.result c.monitors-m-items.ensures.value c.monitors-m-items.ensures.numbered.monitors c.m-item.is within

pub loop-m-preserved : goal.loop-m-preserved
loop-m-preserved c =
    let arch = c.args.arch.now in
    let more = sum_of_all-more (monitor_words arch) monitor_of c.monitors-m-items.result.now c.loop-m.m-index c.m-item.result c.loop-m-test.true in
    let here = subst (λ (m : MonitorValue). c.words_of_monitor.result ≡ saturated (monitor_words arch (monitor_of m))) c.m-item.is c.words_of_monitor.ensures in
    saturating_step c.loop-m.total c.words_of_monitor.result c.saturating_add-total.result _ _ _ c.loop-m.invariant here c.saturating_add-total.ensures more
