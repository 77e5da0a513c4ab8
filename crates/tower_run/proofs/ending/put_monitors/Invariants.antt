use Rattle.std.proofs.Common.{slice_get}
use Rattle.tower_io.specs.declared.answers.Put.TheVariants.{Done}
use Rattle.tower_report.specs.EndText.{monitor_text, shown_by}
use Rattle.tower_run.specs.Paging.{PutsOver}
use Rattle.tower_run.proofs.Paging.{texts_before}
use Rattle.tower_run.proofs.ending.put_monitors.Given as goal

abbrev pub invariant-loop-m : goal.invariant-loop-m
invariant-loop-m g l =
    PutsOver g.O.Sink.written g.O.Sink.faults l.initial.out l.initial.page.held l.out l.page.held (texts_before (λ m. monitor_text l.arch m (shown_by (slice_get l.machine.machine.locks m))) l.m) Done
