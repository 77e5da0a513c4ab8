use Rattle.std.specs.Prelude.{slice_index}
use Rattle.tower_io.specs.declared.answers.Put.TheVariants.{Done}
use Rattle.tower_report.specs.EndText.{core_line}
use Rattle.tower_run.specs.Paging.{PutsOver}
use Rattle.tower_run.proofs.Paging.{texts_before}
use Rattle.tower_run.proofs.ending.put_cores.Given as goal

abbrev pub invariant-loop-i : goal.invariant-loop-i
invariant-loop-i g l =
    PutsOver g.O.Sink.written g.O.Sink.faults l.initial.out l.initial.page.held l.out l.page.held (texts_before (λ i. core_line i (slice_index l.counts i)) l.i) Done
