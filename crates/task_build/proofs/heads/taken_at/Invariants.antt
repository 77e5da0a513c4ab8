use Rattle.std.proofs.Common.{◌≡◌, drop}
use Rattle.emit_code.specs.Framed.{entries_in}
use Rattle.task_build.specs.CodeOf.{taken_at}
use Rattle.task_build.proofs.heads.taken_at.Given as goal

abbrev pub invariant-loop-listener : goal.invariant-loop-listener
invariant-loop-listener l = taken_at (entries_in l.table) (drop l.listener-index l.listeners) ≡ taken_at (entries_in l.table) l.listeners
