use Rattle.std.proofs.Common.{◌≡◌, ◌++◌, take}
use Rattle.tower_types.specs.View.{all_values_of}
use Rattle.tower_types.specs.Value.{flat_all}
use Rattle.tower_types.proofs.flattening.+flatten.Given as goal

abbrev pub invariant-append_all-loop-part : goal.invariant-append_all-loop-part
invariant-append_all-loop-part l =
    l.numbers.items ≡ l.initial.numbers.items ++ flat_all (all_values_of (take l.part-index l.parts))
