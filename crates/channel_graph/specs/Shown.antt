-- What the cycle that is shown is, by links.
use Rattle.std.specs.Prelude.{ℕ, zero, suc, ◌<◌, ◌≤◌, ◌≡◌, List, [], ◌∷◌, length, true}
use Rattle.tower_syntax.specs.Arch.{Arch}
use Rattle.tower_syntax.specs.Graph.{leads, Reaches}
use Rattle.channel_graph.specs.declared.circuit.CycleFound.{CycleFound}
use Rattle.channel_graph.specs.Circuit.{LeadsBack}

-- n is such a number, and no lesser one is
abbrev pub IsLeast : (ℕ → Type 0) → ℕ → Type 0
IsLeast P n = P n × ((m : ℕ) → P m → n ≤ m)

-- a walk of n links leads from k to h
abbrev pub LeadsIn : Arch → ℕ → ℕ → ℕ → Type 0
LeadsIn arch zero k h = k ≡ h
LeadsIn arch (suc n) k h = (j : ℕ) × (leads arch k j ≡ true) × LeadsIn arch n j h

-- the source reaches the handler, which leads back to itself
abbrev pub ReachesLoop : Arch → ℕ → ℕ → Type 0
ReachesLoop arch s h = Reaches arch s h × LeadsBack arch h

-- there is such a source, and such a handler
abbrev pub HasLoop : Arch → ℕ → Type 0
HasLoop arch s = (s < length arch.sources) × (h : ℕ) × ReachesLoop arch s h

-- k leads to j, and a walk of n links leads from there to h
abbrev pub LeadsOn : Arch → ℕ → ℕ → ℕ → ℕ → Type 0
LeadsOn arch n h k j = (leads arch k j ≡ true) × LeadsIn arch n j h

-- a walk from k by each of these to h, each time to the least handler from which as many links as are left lead to h
abbrev pub GoesRound : Arch → ℕ → ℕ → List ℕ → Type 0
GoesRound arch h k [] = leads arch k h ≡ true
GoesRound arch h k (j ∷ js) = IsLeast (LeadsOn arch (length (j ∷ js)) h k) j × GoesRound arch h j js

-- the first source that reaches a handler which leads back to itself, and from the least such handler on a shortest walk
-- back to it, each time to the least handler that is one link nearer
pub record IsShown (arch : Arch) (c : CycleFound) : Type 0 where
  pub first : IsLeast (HasLoop arch) c.source
  pub head : ℕ
  pub rest : List ℕ
  pub is : c.walk ≡ head ∷ rest
  pub least : IsLeast (ReachesLoop arch c.source) head
  pub shortest : (n : ℕ) → LeadsIn arch (suc n) head head → length rest ≤ n
  pub round : GoesRound arch head head rest
