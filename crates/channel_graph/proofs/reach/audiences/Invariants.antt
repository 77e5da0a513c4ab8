use Rattle.channel_graph.specs.Reaching.{AreAudiences}
use Rattle.channel_graph.proofs.reach.audiences.Given as goal

abbrev pub invariant-loop-k : goal.invariant-loop-k
invariant-loop-k l = AreAudiences l.arch l.k l.heard.items
