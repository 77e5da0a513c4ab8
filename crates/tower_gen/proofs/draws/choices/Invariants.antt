use Rattle.tower_gen.proofs.Drawing.{Chosen}
use Rattle.tower_gen.proofs.draws.choices.Given as goal

abbrev pub invariant-loop : goal.invariant-loop
invariant-loop l = Chosen l.initial.generator l.generator 400 l.counter l.choices.items
