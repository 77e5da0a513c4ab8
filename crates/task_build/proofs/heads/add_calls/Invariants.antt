use Rattle.std.proofs.Common.{◌≡◌, ◌++◌, map, take}
use Rattle.task_code.specs.Piece.{listed, joined}
use Rattle.emit_code.specs.Framed.{entries_in}
use Rattle.task_build.specs.CodeOf.{call_code}
use Rattle.task_build.proofs.heads.add_calls.Given as goal

abbrev pub invariant-loop-listener : goal.invariant-loop-listener
invariant-loop-listener l = l.code ≡ l.initial.code ++ listed (joined (map (call_code (entries_in l.table) l.taken l.width) (take l.listener-index l.listeners)))
