use Rattle.std.proofs.Common.{◌≡◌, ℕ, true, arith}
use Rattle.stretch_law.proofs.bounds_law.Goals as goal
use Rattle.stretch_law.proofs.Laws.{bounded}

pub returns : goal.returns
returns c t v good i ms rate gap w moves f g inside kind window h =
    bounded t (t.priority i) ℕ v (λ s. good s ≡ true) f gap g i ms rate w inside kind (omega arith) window moves h
