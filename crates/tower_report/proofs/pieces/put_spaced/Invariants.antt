use Rattle.std.proofs.Common.{map, take}
use Rattle.tower_io.specs.declared.answers.Put.TheVariants.{Done}
use Rattle.tower_report.specs.Bytes.{spaced}
use Rattle.tower_report.specs.Puts.{Puts}
use Rattle.tower_report.proofs.pieces.put_spaced.Given as goal

abbrev pub invariant-loop-i : goal.invariant-loop-i
invariant-loop-i g l = Puts g.O.Sink.written g.O.Sink.faults l.initial.out l.out (spaced (take l.i (map (λ w. w.now) l.words))) Done
