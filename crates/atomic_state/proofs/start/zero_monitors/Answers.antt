use Rattle.std.proofs.Common.{◌≡◌, ◌∙◌, ◌≤◌, length, map, take, ap, sym, refl, arith}
use Rattle.std.proofs.lemmas.List.{take_all}
use Rattle.tower_syntax.specs.View.{monitor_of}
use Rattle.tower_meaning.specs.System.{zero_monitor}
use Rattle.atomic_state.proofs.Lists.{map_map}
use Rattle.atomic_state.proofs.Started.{states_known}
use Rattle.atomic_state.proofs.start.zero_monitors.Goals as goal

pub zero_monitor-requires : goal.zero_monitor-requires
zero_monitor-requires c =
    states_known c.args.arch.now c.monitors-monitor-items.result.now c.loop-monitor.monitor-index c.monitor-item.result c.monitors-monitor-items.ensures.numbered c.monitors-monitor-items.ensures.value
    c.loop-monitor-test.true c.monitor-item.is

pub returns-clause-zeros : goal.returns-clause-zeros
returns-clause-zeros c =
    let xs = c.monitors-monitor-items.result.now in
    let end : length xs ≤ c.loop-monitor.monitor-index = omega arith in
    c.loop-monitor.invariant ∙ ap (map (λ m. zero_monitor c.args.arch.now (monitor_of m))) (take_all c.loop-monitor.monitor-index xs end)
    ∙ sym (map_map (zero_monitor c.args.arch.now) monitor_of xs) ∙ ap (map (zero_monitor c.args.arch.now)) c.monitors-monitor-items.ensures.value
