use Rattle.std.proofs.Common.{◌≡◌, map, take}
use Rattle.tower_types.specs.View.{value_of}
use Rattle.tower_types.proofs.value.+same.Given as goal

abbrev pub invariant-same_all-loop-i : goal.invariant-same_all-loop-i
invariant-same_all-loop-i l = map value_of (take l.i l.xs) ≡ map value_of (take l.i l.ys)
