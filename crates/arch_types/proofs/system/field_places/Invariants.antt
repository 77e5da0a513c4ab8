use Rattle.std.proofs.Common.{◌≡◌, take}
use Rattle.tower_types.specs.View.{fields_of}
use Rattle.arch_types.specs.Places.{find, place_in}
use Rattle.arch_types.proofs.system.field_places.Given as goal

abbrev pub invariant-loop-name : goal.invariant-loop-name
invariant-loop-name l = (l.k ≡ l.name-index) × (find l.made ≡ place_in (take l.name-index (fields_of l.fields)))
