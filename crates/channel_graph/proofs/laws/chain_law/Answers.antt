use Rattle.channel_graph.proofs.Chained.{chain_exists}
use Rattle.channel_graph.proofs.laws.chain_law.Goals as goal

pub returns : goal.returns
returns c = chain_exists
