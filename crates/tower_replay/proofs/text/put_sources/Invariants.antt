use Rattle.tower_io.specs.declared.answers.Put.TheVariants.{Done}
use Rattle.tower_replay.specs.Pieces.{source_line}
use Rattle.tower_run.specs.Paging.{PutsOver}
use Rattle.tower_run.proofs.Paging.{texts_before}
use Rattle.tower_replay.proofs.text.put_sources.Given as goal

abbrev pub invariant-loop-x : goal.invariant-loop-x
invariant-loop-x g l =
    PutsOver g.O.Sink.written g.O.Sink.faults l.initial.out l.initial.page.held l.out l.page.held (texts_before (source_line l.arch l.state.state) l.x) Done
