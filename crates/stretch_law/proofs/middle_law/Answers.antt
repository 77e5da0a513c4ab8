use Rattle.std.proofs.Common.{◌≡◌, ℕ, true}
use Rattle.stretch_law.proofs.middle_law.Goals as goal
use Rattle.stretch_law.proofs.Laws.{middle}

pub returns : goal.returns
returns c t v good p gap moves f g h = middle t p ℕ v (λ s. good s ≡ true) f gap g moves h
