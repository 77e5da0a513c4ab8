use Rattle.stmt_code.specs.Measured.{AreRecordStarts}
use Rattle.stmt_code.proofs.measured.record_starts.Given as goal

abbrev pub invariant-loop-r : goal.invariant-loop-r
invariant-loop-r l = AreRecordStarts l.arch l.r l.all
