use Rattle.std.proofs.Common.{refl, inr}
use Rattle.arch_types.proofs.Same.{is_same, is_other}
use Rattle.arch_types.proofs.wanted.ask_same.Goals as goal

pub returns-then-same : goal.returns-then-same
returns-then-same c = is_same _ _ _ _ _ c.same.ensures c.if-same.true

pub returns : goal.returns
returns c = inr (is_other _ _ _ _ _ c.same.ensures _ _ _ c.if-same.false c.in_ok-wanted.ensures c.in_ok-found.ensures refl)
