use Rattle.std.proofs.Common.{◌≡◌, ◌++◌, drop}
use Rattle.task_listing.specs.Lines.{texts}
use Rattle.task_listing.specs.Listing.{instr_text}
use Rattle.task_listing.proofs.writing.put_code.Given as goal

abbrev pub invariant-loop-instr : goal.invariant-loop-instr
invariant-loop-instr l = l.out.items ++ texts instr_text (drop l.instr-index l.code) ≡ l.initial.out.items ++ texts instr_text l.code
