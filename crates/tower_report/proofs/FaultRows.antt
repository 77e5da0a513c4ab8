-- The worked texts of checks and faults, computed.
use Rattle.std.proofs.Common.{refl}
use Rattle.std.specs.Fmt.{digits}
use Rattle.tower_report.specs.WorkedFaults.{WorkedChecks, WorkedFaults}

pub worked_checks : WorkedChecks
unfolding digits
worked_checks = record {
  nothing = refl;
  a_counter = refl;
  without_handlers = refl;
}

pub worked_faults : WorkedFaults
unfolding digits
worked_faults = record {
  long = refl;
  byte = refl;
  unopened = refl;
  nest = refl;
  unclosed = refl;
  empty = refl;
  form = refl;
  number = refl;
  length = refl;
  twice = refl;
  unknown = refl;
  kind = refl;
  either_kind = refl;
  other_kinds = refl;
  found_output = refl;
  mismatch = refl;
  scalar = refl;
  any_number = refl;
  unsigned = refl;
  array = refl;
  a_record = refl;
  notplace = refl;
  field = refl;
  range = refl;
  deep = refl;
  bound = refl;
  cycle = refl;
  own_cycle = refl;
  sources = refl;
  channels = refl;
  outputs = refl;
  monitors = refl;
  handlers = refl;
  records = refl;
  depth = refl;
  words = refl;
  chain = refl;
  memory = refl;
  code = refl;
  work = refl;
}
