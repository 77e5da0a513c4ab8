use Rattle.std.proofs.Common.{arith}
use Rattle.std.proofs.lemmas.Grind.{common_steps}
use Rattle.tower_io.proofs.Adding.{AddsUpTo_next}
use Rattle.tower_io.proofs.write_sinks.WriteSinkSink.put.Goals as goal

pub loop-rest-preserved : goal.loop-rest-preserved
loop-rest-preserved g c = record {
  wrote = AddsUpTo_next _ _ _ _ _ _ c.in-Ok.n c.loop-rest.invariant.wrote c.in-Ok.ensures.bytes (grind (arith, common_steps));
  calm = c.loop-rest.invariant.calm;
}
