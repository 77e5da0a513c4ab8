use Rattle.std.proofs.Common.{◌≡◌, ◌+◌, ◌*◌, map, take, replicate}
use Rattle.tower_types.specs.Ty.{table_of, shape_of, depth, depth_of_all}
use Rattle.tower_types.specs.Value.{zero_of}
use Rattle.tower_types.specs.View.{ty_of, fields_of}
use Rattle.tower_types.proofs.Fitted.{shapes_at}
use Rattle.tower_meaning.specs.Body.{zeros_of_fields}
use Rattle.atomic_state.specs.TreeView.{tree_of}
use Rattle.atomic_state.proofs.zero.+zero.Given as goal

abbrev pub decreases-zero : goal.decreases-zero
decreases-zero l = 2 * depth (shape_of l.records.now (ty_of l.t.now))

abbrev pub decreases-zero_elements : goal.decreases-zero_elements
decreases-zero_elements l = 2 * depth (shape_of l.records.now (ty_of l.t.now)) + 1

abbrev pub decreases-zero_fields : goal.decreases-zero_fields
decreases-zero_fields l = 2 * depth_of_all (shapes_at (table_of l.records.now) l.fields.now) + 1

abbrev pub invariant-zero_elements-loop-i : goal.invariant-zero_elements-loop-i
invariant-zero_elements-loop-i l = map tree_of l.zeros.items ≡ replicate l._i (zero_of (shape_of l.records (ty_of l.t)))

abbrev pub invariant-zero_fields-loop-t : goal.invariant-zero_fields-loop-t
invariant-zero_fields-loop-t l = map tree_of l.zeros.items ≡ zeros_of_fields (table_of l.records) (fields_of (take l.t-index l.fields))
