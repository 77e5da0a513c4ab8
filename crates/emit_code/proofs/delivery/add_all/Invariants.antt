use Rattle.std.proofs.Common.{◌≡◌, ◌++◌, take}
use Rattle.emit_code.proofs.delivery.add_all.Given as goal

abbrev pub invariant-loop-instr : goal.invariant-loop-instr
invariant-loop-instr l = l.code ≡ l.initial.code ++ take l.instr-index l.instrs
