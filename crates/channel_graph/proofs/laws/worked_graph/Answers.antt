use Rattle.channel_graph.proofs.laws.worked_graph.Goals as goal
use Rattle.channel_graph.proofs.Rows.{worked_graph}

pub returns : goal.returns
returns c = worked_graph
