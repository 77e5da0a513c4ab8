use Rattle.std.proofs.Common.{◌∙◌, ap, arith}
use Rattle.task_listing.specs.declared.kind.Kind.TheVariants as kind
use Rattle.task_listing.specs.FewWords.{listed}
use Rattle.task_listing.specs.Reading.{awaits_of}
use Rattle.task_listing.proofs.Taken.{takes_any, awaits_monitors, awaits_outputs, awaits_no_monitors, awaits_no_outputs}
use Rattle.task_listing.proofs.reading.Reader.take.Goals as goal

pub returns-then-left-gt0 : goal.returns-then-left-gt0
returns-then-left-gt0 c =
    takes_any kind.Monitor _ c.args.self.now c.take_monitor.new.self c.args.line (listed c.args.words) c.take_monitor.result (ap awaits_of c.in-MonitorLines.is ∙ awaits_monitors _ (omega (arith, c.if-left-gt0.true))) c.take_monitor.ensures

pub returns-else-left-gt0 : goal.returns-else-left-gt0
returns-else-left-gt0 c =
    takes_any kind.Outputs _ c.args.self.now c.take_outputs.new.self c.args.line (listed c.args.words) c.take_outputs.result (ap awaits_of c.in-MonitorLines.is ∙ awaits_no_monitors _ (omega (arith, c.if-left-gt0.false))) c.take_outputs.ensures

pub returns-then-left-gt0-2 : goal.returns-then-left-gt0-2
returns-then-left-gt0-2 c =
    takes_any kind.Output _ c.args.self.now c.take_output.new.self c.args.line (listed c.args.words) c.take_output.result (ap awaits_of c.in-OutputLines.is ∙ awaits_outputs _ (omega (arith, c.if-left-gt0-2.true))) c.take_output.ensures

pub returns-else-left-gt0-2 : goal.returns-else-left-gt0-2
returns-else-left-gt0-2 c =
    takes_any kind.Tasks _ c.args.self.now c.take_tasks.new.self c.args.line (listed c.args.words) c.take_tasks.result (ap awaits_of c.in-OutputLines.is ∙ awaits_no_outputs _ (omega (arith, c.if-left-gt0-2.false))) c.take_tasks.ensures
