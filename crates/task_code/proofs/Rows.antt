-- The worked case computes.
use Rattle.std.proofs.Common.{refl}
use Rattle.task_code.specs.Does.{does, need, popped, indexed, with_lock, without_lock}
use Rattle.task_code.specs.WorkedListing.{WorkedListing}

pub worked : WorkedListing
unfolding does need popped indexed with_lock without_lock
worked = record {
  first_mark = refl;
  no_more_to_eight = refl;
  ninth_mark = refl;
  no_tenth_mark = refl;
  no_eleventh = refl;
  idle_then = refl;
  free_first = refl;
  locked_second = refl;
  locked_eighth = refl;
  counted = refl;
  whole_marks = refl;
  whole_count = refl;
  whole_locks = refl;
  is_done = refl;
  done_at_twenty = refl;
  stops_at_nineteen = refl;
  by_choices = refl;
  see_stops = refl;
  see_has_stopped = refl;
}
