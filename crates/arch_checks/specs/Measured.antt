-- What of a type counts: its depth or its words.
use Rattle.std.specs.Prelude.{ℕ, List, map}
use Rattle.tower_types.specs.Ty.{Ty, Shape, shape_in, words, depth}
use Rattle.arch_checks.specs.declared.widths.Measure.{Measure}
use Rattle.arch_checks.specs.declared.widths.Measure.TheVariants as measure
use Rattle.arch_checks.specs.Sizes.{greatest}

abbrev pub measured : Measure → Shape → ℕ
measured measure.Depth s = depth s
measured measure.Words s = words s

-- the greatest of these types, over the shapes of the records
abbrev pub greatest_of : Measure → List Shape → List Ty → ℕ
greatest_of m table ts = greatest (map (λ t. measured m (shape_in table t)) ts)
