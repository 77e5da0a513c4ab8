use Rattle.std.proofs.Common.{◌≡◌, take, true}
use Rattle.tower_types.specs.Ty.{table_of, shape_of}
use Rattle.tower_types.specs.Value.{fits, fits_each, fits_all}
use Rattle.tower_types.specs.View.{ty_of, all_values_of}
use Rattle.tower_types.proofs.Fitted.{shapes_at}
use Rattle.tower_types.proofs.fitting.+fits.Given as goal

abbrev pub invariant-array_fits-loop-part : goal.invariant-array_fits-loop-part
invariant-array_fits-loop-part l =
    fits_each l.part-index (fits (shape_of l.records (ty_of l.t))) (all_values_of (take l.part-index l.parts)) ≡ true

abbrev pub invariant-record_fits-loop-i : goal.invariant-record_fits-loop-i
invariant-record_fits-loop-i l =
    fits_all (shapes_at (table_of l.records) (take l.i l.fields)) (all_values_of (take l.i l.parts)) ≡ true
