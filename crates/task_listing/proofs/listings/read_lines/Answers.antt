use Rattle.task_listing.specs.Reading.{state_of}
use Rattle.task_listing.proofs.Readings.{is_read}
use Rattle.task_listing.proofs.listings.read_lines.Goals as goal

pub program-requires : goal.program-requires
program-requires c = (is_read c.args.text.now (state_of _) c.in_ok-reader.ensures.ok).is_program.rules
