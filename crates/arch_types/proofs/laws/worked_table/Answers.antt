use Rattle.std.proofs.Common.{refl}
use Rattle.std.specs.Fmt.{digits}
use Rattle.arch_types.proofs.laws.worked_table.Goals as goal

pub returns : goal.returns
unfolding digits
returns c = record {
  literal = refl;
  too_great = refl;
  past_size = refl;
  field = refl;
  no_field = refl;
  no_record = refl;
  at_index = refl;
  no_array = refl;
  other_size = refl;
  no_index = refl;
  sum = refl;
  product = refl;
  difference_of_truths = refl;
  quotient_of_others = refl;
  rest_of_arrays = refl;
  child_first = refl;
  bits = refl;
  signed_bits = refl;
  index_bits = refl;
  equal = refl;
  equal_records = refl;
  less = refl;
  less_truths = refl;
  both = refl;
  either = refl;
  not = refl;
  negated = refl;
  negated_truth = refl;
  chosen = refl;
  other_test = refl;
  chosen_records = refl;
  chosen_others = refl;
  casted = refl;
  to_truth = refl;
  of_truth = refl;
  let_record = refl;
  set_name = refl;
  set_loop_name = refl;
  set_record = refl;
  set_other = refl;
  copy_record = refl;
  copy_other = refl;
  copy_to_loop_name = refl;
  emit_other = refl;
  in_loop = refl;
}
