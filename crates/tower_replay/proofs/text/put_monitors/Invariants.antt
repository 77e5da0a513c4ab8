use Rattle.std.specs.Prelude.{map, slice_index_or}
use Rattle.tower_io.specs.declared.answers.Put.TheVariants.{Done}
use Rattle.tower_types.specs.Value.{parts, no_values}
use Rattle.tower_types.specs.View.{value_of}
use Rattle.tower_report.specs.ReplayText.{monitor_value_text}
use Rattle.tower_run.specs.Paging.{PutsOver}
use Rattle.tower_run.proofs.Paging.{texts_before}
use Rattle.tower_replay.proofs.text.put_monitors.Given as goal

abbrev pub invariant-loop-m : goal.invariant-loop-m
invariant-loop-m g l =
    PutsOver g.O.Sink.written g.O.Sink.faults l.initial.out l.initial.page.held l.out l.page.held
    (texts_before (λ m. monitor_value_text l.arch m (slice_index_or (map value_of l.values) m (parts no_values))) l.m) Done
