use Rattle.std.proofs.Common.{arith, append-nil}
use Rattle.std.proofs.lemmas.Grind.{common_steps}
use Rattle.channel_graph.proofs.Searched.{marked_more}
use Rattle.thread_split.proofs.plan.marked_numbers.Goals as goal

pub loop-k-preserved : goal.loop-k-preserved
loop-k-preserved c = grind (arith, common_steps, marked_more c.args.marks.now c.loop-k.k, append-nil)
