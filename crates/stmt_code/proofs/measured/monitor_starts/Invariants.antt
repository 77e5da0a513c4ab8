use Rattle.stmt_code.specs.Measured.{AreMonitorStarts}
use Rattle.stmt_code.proofs.measured.monitor_starts.Given as goal

abbrev pub invariant-loop-m : goal.invariant-loop-m
invariant-loop-m l = AreMonitorStarts l.arch l.m l.all
