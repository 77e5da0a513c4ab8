use Rattle.channel_graph.specs.Table.{IsTable, code_of}
use Rattle.channel_graph.proofs.code_weight.codes.Given as goal

abbrev pub invariant-loop-h : goal.invariant-loop-h
invariant-loop-h l = IsTable l.h (code_of l.arch) l.codes
