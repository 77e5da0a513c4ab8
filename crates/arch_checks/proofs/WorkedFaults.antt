-- The first faults of texts, computed.
use Rattle.std.proofs.Common.{refl}
use Rattle.std.specs.Fmt.{digits}
use Rattle.arch_checks.specs.WorkedFaults.{WorkedLengths, WorkedReadings, WorkedNames}
use Rattle.arch_checks.specs.WorkedTypes.{WorkedLiterals, WorkedPlaces, WorkedSums, WorkedBits, WorkedComparisons, WorkedTruths, WorkedChoices, WorkedSets, WorkedCopies, WorkedHeights, WorkedFiles}
use Rattle.arch_checks.specs.WorkedNumbers.{WorkedNumbers}
use Rattle.arch_checks.proofs.FirstFaults.{faulty, system, long, blank, named_text}

pub worked_lengths : WorkedLengths
worked_lengths = record { long = long; blank = blank }

pub worked_readings : WorkedReadings
unfolding digits
worked_readings = record {
  unclosed = faulty _ _ refl;
  unopened = faulty _ _ refl;
  empty = faulty _ _ refl;
  blanks = faulty _ _ refl;
  comment_alone = faulty _ _ refl;
  comment_past_return = faulty _ _ refl;
  comment_to_feed = system _ refl;
  byte = faulty _ _ refl;
  byte_in_a_comment = system _ refl;
  form = faulty _ _ refl;
  no_children = faulty _ _ refl;
  list_as_head = faulty _ _ refl;
  no_fields = faulty _ _ refl;
  fields_without_name = faulty _ _ refl;
  field_as_name = faulty _ _ refl;
  number = faulty _ _ refl;
  letters_for_a_number = faulty _ _ refl;
  minus_zero = faulty _ _ refl;
  zeros = faulty _ _ refl;
  plus = faulty _ _ refl;
  minus = faulty _ _ refl;
  words_are_names = system _ refl;
  scalar_is_none = faulty _ _ refl;
  other_scalar_is_none = faulty _ _ refl;
  long_name = faulty _ _ refl;
  name_of_64 = system _ refl;
  long_field = faulty _ _ refl;
  form_before_number = faulty _ _ refl;
  number_before_length = faulty _ _ refl;
  length_before_name = faulty _ _ refl;
}

pub worked_names : WorkedNames
unfolding digits
worked_names = record {
  twice = faulty _ _ refl;
  first_of_three = faulty _ _ refl;
  handler_and_source = faulty _ _ refl;
  sets_apart = system _ refl;
  two_fields = faulty _ _ refl;
  two_states = faulty _ _ refl;
  two_emitters = faulty _ _ refl;
  later_record = faulty _ _ refl;
  record_in_itself = faulty _ _ refl;
  field_of_a_channel = faulty _ _ refl;
  earlier_record = system _ refl;
  type_of_a_channel = faulty _ _ refl;
  output_of_a_source = faulty _ _ refl;
  emitter_of_a_record = faulty _ _ refl;
  handler_on_a_monitor = faulty _ _ refl;
  handler_on_an_output = faulty _ _ refl;
  handler_on_a_handler = faulty _ _ refl;
  let_then_use = system _ refl;
  let_in_its_value = faulty _ _ refl;
  callback_name_again = faulty _ _ refl;
  behind_then = faulty _ _ refl;
  behind_for = faulty _ _ refl;
  for_in_for = faulty _ _ refl;
  let_in_its_for = faulty _ _ refl;
  local_of_a_let = faulty _ _ refl;
  again_behind = system _ refl;
  later_state = system _ refl;
  shadows_a_later_state = faulty _ _ refl;
  callback_named_as_a_state = faulty _ _ refl;
  later_emitter = system _ refl;
  emit_of_a_channel = faulty _ _ refl;
  get_is_passed_over = faulty _ _ refl;
  unknown_first = faulty _ _ refl;
  kind_first = faulty _ _ refl;
  name_before_type = faulty _ _ refl;
}

pub worked_literals : WorkedLiterals
unfolding digits
worked_literals = record {
  greatest = system _ refl;
  too_great = faulty _ _ refl;
  below_zero = faulty _ _ refl;
  least = system _ refl;
  too_small = faulty _ _ refl;
  past_size = faulty _ _ refl;
}

pub worked_places : WorkedPlaces
unfolding digits
worked_places = record {
  field = system _ refl;
  no_field = faulty _ _ refl;
  no_record = faulty _ _ refl;
  element = system _ refl;
  no_array = faulty _ _ refl;
  other_size = faulty _ _ refl;
  no_index = faulty _ _ refl;
}

pub worked_sums : WorkedSums
unfolding digits
worked_sums = record {
  sum = system _ refl;
  product = system _ refl;
  difference_of_truths = faulty _ _ refl;
  quotient_of_others = faulty _ _ refl;
  rest_of_arrays = faulty _ _ refl;
  child_first = faulty _ _ refl;
}

pub worked_bits : WorkedBits
unfolding digits
worked_bits = record {
  bits = system _ refl;
  signed_bits = faulty _ _ refl;
  index_bits = faulty _ _ refl;
}

pub worked_comparisons : WorkedComparisons
unfolding digits
worked_comparisons = record {
  equal_truths = system _ refl;
  equal_records = faulty _ _ refl;
  less = system _ refl;
  less_truths = faulty _ _ refl;
}

pub worked_truths : WorkedTruths
unfolding digits
worked_truths = record {
  both = faulty _ _ refl;
  either = faulty _ _ refl;
  no_truth = faulty _ _ refl;
  negated = system _ refl;
  negated_truth = faulty _ _ refl;
}

pub worked_choices : WorkedChoices
unfolding digits
worked_choices = record {
  chosen = system _ refl;
  other_test = faulty _ _ refl;
  chosen_records = faulty _ _ refl;
  chosen_others = faulty _ _ refl;
  casted = system _ refl;
  to_a_truth = faulty _ _ refl;
  to_a_record = faulty _ _ refl;
  of_a_truth = faulty _ _ refl;
}

pub worked_sets : WorkedSets
unfolding digits
worked_sets = record {
  let_of_a_record = faulty _ _ refl;
  set_of_a_local = system _ refl;
  set_of_a_let = faulty _ _ refl;
  set_of_a_loop = faulty _ _ refl;
  set_of_the_message = faulty _ _ refl;
  message_of_a_child = faulty _ _ refl;
  set_of_a_record = faulty _ _ refl;
  set_of_another = faulty _ _ refl;
}

pub worked_copies : WorkedCopies
unfolding digits
worked_copies = record {
  copy_of_a_record = system _ refl;
  copy_of_a_child = faulty _ _ refl;
  copy_of_another = faulty _ _ refl;
  copy_to_a_loop = faulty _ _ refl;
  emit_of_another = faulty _ _ refl;
  count_of_a_loop = faulty _ _ refl;
  test_of_a_branch = faulty _ _ refl;
  branch_before_test = faulty _ _ refl;
}

pub worked_heights : WorkedHeights
unfolding digits
worked_heights = record {
  height_24 = system _ refl;
  height_25 = faulty _ _ refl;
  hides_no_fault = faulty _ _ refl;
  high_test = faulty _ _ refl;
  high_branch = faulty _ _ refl;
}

pub worked_files : WorkedFiles
unfolding digits
worked_files = record {
  other_message = faulty _ _ refl;
  called_number = faulty _ _ refl;
  first_handler = faulty _ _ refl;
}

pub worked_numbers : WorkedNumbers
unfolding digits
worked_numbers = record { over_the_file = named_text _ _ refl; anew = named_text _ _ refl }
