use Rattle.channel_graph.proofs.laws.shown_law.Goals as goal
use Rattle.channel_graph.proofs.ShownWalk.{shown_is}

pub returns : goal.returns
returns c = shown_is
