-- Worked cases of the atomic meaning, computed.
use Rattle.std.proofs.Common.{refl}
use Rattle.tower_meaning.specs.WorkedRuns.{Deliveries, Orders, Misfits, Places, Barrier, Depths}

pub deliveries : Deliveries
deliveries = record {
  eleven = refl;
  eighteen = refl;
  depth_first = refl;
  all_delivered = refl;
  shared = refl;
  shared_state = refl;
  by_emitter = refl;
}

pub orders : Orders
orders = record {
  periods = refl;
  same_tick = refl;
  same_tick_exchanged = refl;
  waits = refl;
  waits_state = refl;
  waits_end = refl;
  after_section = refl;
  in_order = refl;
}

pub misfits : Misfits
misfits = record {
  output_early = refl;
  output_early_outputs = refl;
  output_early_state = refl;
  output_early_waits = refl;
  handlers_exchanged = refl;
  handlers_exchanged_outputs = refl;
  handlers_exchanged_state = refl;
  nothing_waits = refl;
  busy = refl;
  handler_first = refl;
  no_source = refl;
  no_entry = refl;
}

pub places : Places
places = record { ring = refl }

pub barrier : Barrier
barrier = record {
  in_order = refl;
  early = refl;
  early_state = refl;
  early_waits = refl;
}

pub depths : Depths
depths = record {
  at_once = refl;
  at_once_lost = refl;
  one_by_one = refl;
  one_by_one_lost = refl;
}
