-- Worked cases of expressions and statements, computed.
use Rattle.std.proofs.Common.{refl}
use Rattle.tower_meaning.specs.WorkedBodies.{Arithmetic, Statements}

pub arithmetic : Arithmetic
arithmetic = record {
  sum_wraps = refl;
  least_by_minus_one = refl;
  least_modulo_minus_one = refl;
  by_zero = refl;
  modulo_zero = refl;
  toward_zero = refl;
  rest_of_negative = refl;
  index_wraps = refl;
  index_wraps_down = refl;
  negative_wraps = refl;
  cast_wraps = refl;
  wraps_at_once = refl;
}

pub statements : Statements
statements = record {
  set_reads_first = refl;
  lets = refl;
  local_is_zero_again = refl;
  turns_count_up = refl;
  no_turn = refl;
  then_branch = refl;
  else_branch = refl;
  one_after_another = refl;
}
