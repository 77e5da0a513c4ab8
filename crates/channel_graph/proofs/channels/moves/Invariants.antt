use Rattle.channel_graph.specs.Table.{IsTable, channel_move}
use Rattle.channel_graph.proofs.channels.moves.Given as goal

abbrev pub invariant-loop-c : goal.invariant-loop-c
invariant-loop-c l = IsTable l.c (channel_move l.arch) l.moves
