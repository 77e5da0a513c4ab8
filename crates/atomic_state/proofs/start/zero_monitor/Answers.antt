use Rattle.std.proofs.Common.{◌≡◌, ◌∙◌, map, ap}
use Rattle.tower_types.specs.Ty.{table_of}
use Rattle.tower_types.specs.View.{fields_of}
use Rattle.tower_meaning.specs.Body.{zeros_of_fields}
use Rattle.atomic_state.specs.TreeView.{tree_of}
use Rattle.atomic_state.proofs.Started.{monitor_zero}
use Rattle.atomic_state.proofs.Trees.{tree_of-Parts}
use Rattle.atomic_state.proofs.start.zero_monitor.Goals as goal

pub returns : goal.returns
returns c =
    let table = table_of c.args.arch.now.records in
    let e : map tree_of c.in_ok-states.states.items ≡ zeros_of_fields table (fields_of c.args.monitor.now.states) =
    c.in_ok-states.ensures ∙ ap (λ r. zeros_of_fields (table_of r) (fields_of c.as_slice.result.now)) c.records.ensures.value ∙ ap (λ fs. zeros_of_fields table (fields_of fs)) c.as_slice.ensures in
    monitor_zero c.args.arch.now c.args.monitor.now _ c.in_ok-states.states.items (tree_of-Parts c.in_ok-states.states) e
