-- What the laws say of a machine of which only the facts of the layers below are known. The states are numbers here, since
-- a contract speaks of no type; the lemmas behind the laws hold for each type of states.
use Rattle.std.specs.Prelude.{◌≡◌, ℕ, ◌<◌, ◌≤◌, Bool, true, List}
use Rattle.stretch_law.specs.Machine.{Period, Tasks, Move, Machine}
use Rattle.stretch_law.specs.Demand.{demand, IsWindow}
use Rattle.stretch_law.specs.Rules.{Clock, Each, IsOrderly, IsTimely, IsMiddle, IsMet, first_clock}
use Rattle.stretch_law.specs.Facts.{Facts}

module _ (t : Tasks) (v : Machine ℕ) (p : ℕ) (moves : List Move) where
  abbrev Throughout : (Clock → ℕ → Move → Type 0) → Type 0
  Throughout P = Each t p ℕ v P first_clock v.start moves

  abbrev IsStretched : ℕ → Type 0
  IsStretched gap = Throughout (IsOrderly t p ℕ v gap) → Throughout (IsMiddle t p ℕ v gap)

  abbrev IsInTime : ℕ → ℕ → ℕ → ℕ → Type 0
  IsInTime i ms rate gap = Throughout (IsTimely t p ℕ v rate gap) → Throughout (IsMet t p ℕ v i ms)

abbrev HasFacts : Tasks → Machine ℕ → (ℕ → Bool) → Type 0
HasFacts t v good = Facts t ℕ v (λ s. good s ≡ true)

-- in a stretch of p the instructions so far are at most the demand of its intervals so far, and fewer where it goes on
abbrev pub StretchesAreShort : Type 0
StretchesAreShort =
    (t : Tasks) (v : Machine ℕ) (good : ℕ → Bool) (p gap : ℕ) (moves : List Move) → HasFacts t v good → 1 ≤ gap → IsStretched t v p moves gap

-- where a period i has a window, its task is clear just before each tick that brings it a message
abbrev pub WindowsMeet : Type 0
WindowsMeet =
    (t : Tasks) (v : Machine ℕ) (good : ℕ → Bool) (i ms rate gap w : ℕ) (moves : List Move) → HasFacts t v good → 1 ≤ gap → i < t.count
    → t.kind i ≡ Period ms → IsWindow t rate gap (t.priority i) ms w → IsInTime t v (t.priority i) moves i ms rate gap

-- a larger window never has a smaller demand
abbrev pub DemandsGrow : Type 0
DemandsGrow =
    (t : Tasks) (gap p v w : ℕ) → 1 ≤ gap → ((x ms : ℕ) → t.kind x ≡ Period ms → 1 ≤ ms) → v ≤ w → demand t gap p v ≤ demand t gap p w
