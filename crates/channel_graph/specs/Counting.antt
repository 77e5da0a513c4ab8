-- How the code counts branches and loops.
use Rattle.tower_syntax.specs.Weights.{Counting, executed, standing}
use Rattle.channel_graph.specs.declared.section.Count.{Count}
use Rattle.channel_graph.specs.declared.section.Count.TheVariants as count

abbrev pub counting_of : Count → Counting
counting_of count.Executed = executed
counting_of count.Standing = standing
