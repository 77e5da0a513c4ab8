-- A larger window never has a smaller demand.
use Rattle.std.proofs.Common.{◌≡◌, ◌≤◌, ℕ, ◌+◌, ◌-◌, ◌*◌, ◌/◌, Bool, true, false, cond, refl, arith}
use Rattle.std.proofs.lemmas.Nat.{le-div, div-add-mod', mul-le}
use Rattle.stretch_law.specs.Counts.{up}
use Rattle.stretch_law.specs.Machine.{Kind, Init, Period, Signal, Tasks}
use Rattle.stretch_law.specs.Demand.{urgent, most, share, demand}
use Rattle.stretch_law.proofs.Sums.{sum_le}

up_grows : (v w n : ℕ) → 1 ≤ n → v ≤ w → up v n ≤ up w n
up_grows v w n l h = le-div ((v + n - 1) / n) (w + n - 1) n l (omega (arith, div-add-mod' (v + n - 1) n, h))

most_grows : (k : Kind) (gap v w : ℕ) → 1 ≤ gap → ((ms : ℕ) → k ≡ Period ms → 1 ≤ ms) → v ≤ w → most k gap v ≤ most k gap w
most_grows Init gap v w l p h = omega arith
most_grows (Period ms) gap v w l p h = up_grows v w ms (p ms refl) h
most_grows Signal gap v w l p h = up_grows v w gap l h

share_grows : (b : Bool) (c m n : ℕ) → m ≤ n → cond b (c * m) 0 ≤ cond b (c * n) 0
share_grows true c m n h = mul-le c m c n (omega arith) h
share_grows false c m n h = omega arith

pub demand_grows : (t : Tasks) (gap p v w : ℕ) → 1 ≤ gap → ((x ms : ℕ) → t.kind x ≡ Period ms → 1 ≤ ms) → v ≤ w → demand t gap p v ≤ demand t gap p w
demand_grows t gap p v w l periods h =
    omega (arith, sum_le t.count (share t gap p v) (share t gap p w) (λ x i. share_grows (urgent t p x) (t.cost x) (most (t.kind x) gap v) (most (t.kind x) gap w) (most_grows (t.kind x) gap v w l (periods x) h)))
