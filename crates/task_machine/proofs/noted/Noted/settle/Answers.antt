use Rattle.std.proofs.Common.{◌≡◌, ℕ, ◌+◌, ◌<◌, ◌/◌, List, Bool, false, true, length, Some, None, slice_get, slice_set, arith, sym, ap, ◌∙◌, subst}
use Rattle.task_machine.proofs.Settling.{stale}
use Rattle.task_machine.proofs.noted.Noted.settle.Goals as goal

pub stand-requires-clause-stale : goal.stand-requires-clause-stale
stand-requires-clause-stale c = stale c.args.running.now c.args.x c.release.new.self c.note.new.self c.release.ensures c.note.ensures.places c.note.ensures.here c.note.ensures.others
