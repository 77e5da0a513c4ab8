use Rattle.std.proofs.Common.{map, take}
use Rattle.tower_io.specs.declared.answers.Put.TheVariants.{Done}
use Rattle.atomic_state.specs.StateView.{output_of}
use Rattle.tower_run.specs.Paging.{PutsOver}
use Rattle.tower_replay.specs.Pieces.{messages_text}
use Rattle.tower_replay.proofs.text.put_messages.Given as goal

abbrev pub invariant-loop-i : goal.invariant-loop-i
invariant-loop-i g l =
    PutsOver g.O.Sink.written g.O.Sink.faults l.initial.out l.initial.page.held l.out l.page.held (messages_text l.arch (take l.i (map output_of l.outputs))) Done
