use Rattle.std.proofs.Common.{◌≡◌, map, take}
use Rattle.tower_syntax.specs.View.{monitor_of}
use Rattle.tower_meaning.specs.System.{zero_monitor}
use Rattle.atomic_state.specs.TreeView.{tree_of}
use Rattle.atomic_state.proofs.start.zero_monitors.Given as goal

abbrev pub invariant-loop-monitor : goal.invariant-loop-monitor
invariant-loop-monitor l = map tree_of l.monitors.items ≡ map (λ m. zero_monitor l.arch (monitor_of m)) (take l.monitor-index l.monitor-items)
