use Rattle.std.proofs.Common.{◌≡◌, length}
use Rattle.tower_io.proofs.Adding.{AddsUpTo}
use Rattle.tower_io.proofs.write_sinks.WriteSinkSink.put.Given as goal

abbrev pub invariant-loop-rest : goal.invariant-loop-rest
invariant-loop-rest g l = record {
  wrote : AddsUpTo (g.W.Write.contents l.initial.self.inner) (g.W.Write.contents l.self.inner) l.bytes l.rest;
  calm : l.self.faults ≡ l.initial.self.faults;
}

abbrev pub decreases-loop-rest : goal.decreases-loop-rest
decreases-loop-rest g l = length l.rest
