use Rattle.std.proofs.Common.{◌≡◌, map, take}
use Rattle.arch_types.specs.Places.{find, place_in}
use Rattle.arch_types.proofs.system.all_places.Given as goal

abbrev pub invariant-loop-r : goal.invariant-loop-r
invariant-loop-r l = map find l.made ≡ map place_in (take l.r l.records)
