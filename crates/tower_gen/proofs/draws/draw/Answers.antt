use Rattle.std.proofs.Common.{◌%◌, ap}
use Rattle.rand_pcg.specs.Lcg.{state_after}
use Rattle.tower_gen.proofs.draws.draw.Goals as goal

pub returns-clause-value : goal.returns-clause-value
unfolding state_after
returns-clause-value c = ap (λ w. w.0 % c.args.m) c.next_word.ensures

pub returns-clause-moved : goal.returns-clause-moved
unfolding state_after
returns-clause-moved c = ap (λ w. w.1) c.next_word.ensures
