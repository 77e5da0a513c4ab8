-- The worked texts of values and lines, computed.
use Rattle.std.proofs.Common.{refl}
use Rattle.std.specs.Fmt.{digits}
use Rattle.tower_report.specs.WorkedTexts.{WorkedValues, WorkedLines}

pub worked_values : WorkedValues
unfolding digits
worked_values = record {
  words_of_records = refl;
  a_record = refl;
  a_truth = refl;
  no_truth = refl;
  one_is_no_truth = refl;
  least = refl;
  greatest = refl;
  nothing = refl;
  an_array = refl;
}

pub worked_lines : WorkedLines
unfolding digits
worked_lines = record {
  an_arrival = refl;
  a_start = refl;
  a_handler = refl;
  an_output_mark = refl;
  an_output = refl;
  a_message = refl;
  states = refl;
  state_values = refl;
  held = refl;
  losses = refl;
  waiting = refl;
}
