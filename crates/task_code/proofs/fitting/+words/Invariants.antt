use Rattle.std.proofs.Common.{◌≡◌, ◌^◌, ◌-◌, min, length, take}
use Rattle.tower_types.specs.Value.{flat_all}
use Rattle.tower_types.specs.View.{all_values_of}
use Rattle.task_code.proofs.fitting.+words.Given as goal

abbrev pub invariant-words_of_all-loop-v : goal.invariant-words_of_all-loop-v
invariant-words_of_all-loop-v l = l.sum ≡ min (2 ^ 64 - 1) (length (flat_all (all_values_of (take l.v-index l.vs))))
