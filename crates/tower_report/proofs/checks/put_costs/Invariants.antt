use Rattle.std.proofs.Common.{[]}
use Rattle.std.specs.List.{flat_map}
use Rattle.tower_io.specs.declared.answers.Put.TheVariants.{Done}
use Rattle.tower_syntax.specs.Graph.{numbers_before}
use Rattle.tower_report.specs.CheckText.{cost_line}
use Rattle.tower_report.specs.Puts.{Puts}
use Rattle.tower_report.proofs.checks.put_costs.Given as goal

abbrev pub invariant-loop-s : goal.invariant-loop-s
invariant-loop-s g l = Puts g.O.Sink.written g.O.Sink.faults l.initial.out l.out (flat_map (cost_line l.checked) (numbers_before l.s [])) Done
