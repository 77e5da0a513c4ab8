use Rattle.std.proofs.Common.{◌∷◌, take}
use Rattle.std.specs.List.{flat_map}
use Rattle.tower_io.specs.declared.answers.Put.TheVariants.{Done}
use Rattle.tower_report.specs.Puts.{Puts}
use Rattle.tower_report.proofs.faults.put_names.Given as goal

abbrev pub invariant-loop-name : goal.invariant-loop-name
invariant-loop-name g l = Puts g.E.Sink.written g.E.Sink.faults l.initial.err l.err (flat_map (λ name. 32 ∷ name) (take l.name-index l.names)) Done
