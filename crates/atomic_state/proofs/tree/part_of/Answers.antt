use Rattle.std.proofs.Common.{sym, arith}
use Rattle.atomic_state.proofs.Trees.{nth_of, nth_none}
use Rattle.atomic_state.proofs.tree.part_of.Goals as goal

pub returns-then-k-parts : goal.returns-then-k-parts
returns-then-k-parts c = nth_of c.args.parts.now c.args.k c.index-parts-k.result _ c.if-k-parts.true c.index-parts-k.is

pub returns-else-k-parts : goal.returns-else-k-parts
returns-else-k-parts c = sym (nth_none c.args.parts.now c.args.k c.if-k-parts.false)
