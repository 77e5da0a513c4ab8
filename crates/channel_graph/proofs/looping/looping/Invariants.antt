use Rattle.channel_graph.specs.Ranked.{AreLooping}
use Rattle.channel_graph.proofs.looping.looping.Given as goal

abbrev pub invariant-loop-h : goal.invariant-loop-h
invariant-loop-h l = AreLooping l.arch l.h l.marks
