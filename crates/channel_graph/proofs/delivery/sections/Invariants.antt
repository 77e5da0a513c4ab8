use Rattle.channel_graph.specs.Table.{IsTable, section_of}
use Rattle.channel_graph.proofs.delivery.sections.Given as goal

abbrev pub invariant-loop-h : goal.invariant-loop-h
invariant-loop-h l = IsTable l.h (section_of l.arch) l.sections
