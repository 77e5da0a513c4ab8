use Rattle.channel_graph.specs.Table.{IsTable, frame_of}
use Rattle.channel_graph.proofs.size.frames.Given as goal

abbrev pub invariant-loop-h : goal.invariant-loop-h
invariant-loop-h l = IsTable l.h (frame_of l.arch) l.frames
