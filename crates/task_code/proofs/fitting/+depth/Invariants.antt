use Rattle.std.proofs.Common.{◌≤◌, take}
use Rattle.tower_types.specs.Value.{depth_of_values}
use Rattle.tower_types.specs.View.{all_values_of}
use Rattle.task_code.proofs.fitting.+depth.Given as goal

abbrev pub invariant-are_at_most_deep-loop-v : goal.invariant-are_at_most_deep-loop-v
invariant-are_at_most_deep-loop-v l = depth_of_values (all_values_of (take l.v-index l.vs)) ≤ l.most
