-- The cycle that is shown: of the first source that reaches one, from its least handler on, by the shortest walk.
use Rattle.std.specs.Prelude.{ℕ, zero, suc, ◌<◌, List, [], ◌∷◌, length, filter, find, Option, Some, None, unwrap_or, Bool, ◌||◌, ◌&&◌, ◌==◌}
use Rattle.std.specs.List.{list_any}
use Rattle.tower_syntax.specs.Arch.{Arch}
use Rattle.tower_syntax.specs.Graph.{leads, handler_numbers, numbers_before, reached_by, Reaches}
use Rattle.tower_syntax.specs.Weights.{source_numbers}
use Rattle.channel_graph.specs.declared.reach.Start.TheVariants as start
use Rattle.channel_graph.specs.Reaching.{Follows}
use Rattle.channel_graph.specs.declared.circuit.CycleFound.{CycleFound}

-- these handlers, and those that lead to one of them, ascending
abbrev pub wider : Arch → List ℕ → List ℕ
wider arch ks = filter (λ k. list_any (λ j. j == k || leads arch k j) ks) (handler_numbers arch)

-- those from which at most n links lead to h
abbrev pub near : Arch → ℕ → ℕ → List ℕ
near arch h zero = h ∷ []
near arch h (suc n) = wider arch (near arch h n)

-- does k lead to one that is at most n links from h
abbrev pub leads_near : Arch → ℕ → ℕ → ℕ → Bool
leads_near arch h n k = list_any (leads arch k) (near arch h n)

-- h leads back to itself, and one fewer than the links of the shortest walk is this
abbrev pub circuit : Arch → ℕ → Option ℕ
circuit arch h = find (λ n. leads_near arch h n h) (numbers_before (length arch.handlers) [])

-- the least handler that k leads to and that is at most n links from h
abbrev pub nearer : Arch → ℕ → ℕ → ℕ → ℕ
nearer arch h n k = unwrap_or (find (λ j. leads arch k j && list_any (λ i. i == j) (near arch h n)) (handler_numbers arch)) k

-- the handlers from k on that come before h: k, which n + 1 links lead back, and each time the least that is one nearer
abbrev pub walk : Arch → ℕ → ℕ → ℕ → List ℕ
walk arch h zero k = k ∷ []
walk arch h (suc n) k = k ∷ walk arch h n (nearer arch h (suc n) k)

-- the walk from h back to itself, if there is one
abbrev pub walk_if : Arch → ℕ → Option ℕ → Option (List ℕ)
walk_if arch h None = None
walk_if arch h (Some n) = Some (walk arch h n h)

abbrev pub walk_round : Arch → ℕ → Option (List ℕ)
walk_round arch h = walk_if arch h (circuit arch h)

-- the first answer that there is
abbrev pub or_else : {A : Type 0} → Option A → Option A → Option A
or_else None other = other
or_else (Some x) other = Some x

abbrev pub first_of_all : {A : Type 0} → (ℕ → Option A) → List ℕ → Option A
first_of_all f [] = None
first_of_all f (k ∷ ks) = or_else (f k) (first_of_all f ks)

abbrev pub found_at : ℕ → Option (List ℕ) → Option CycleFound
found_at s None = None
found_at s (Some ks) = Some (record { source = s; walk = ks })

-- the cycle of a source: that of the least handler it reaches which leads back to itself
abbrev pub shown_at : Arch → ℕ → Option CycleFound
shown_at arch s = found_at s (first_of_all (walk_round arch) (reached_by arch s))

abbrev pub shown : Arch → Option CycleFound
shown arch = first_of_all (shown_at arch) (source_numbers arch)

-- links lead from h back to itself
abbrev pub LeadsBack : Arch → ℕ → Type 0
LeadsBack arch h = Follows arch (start.Handler h) h

-- no source reaches a handler that leads back to itself
abbrev pub IsAcyclic : Arch → Type 0
IsAcyclic arch = (s h : ℕ) → s < length arch.sources → Reaches arch s h → LeadsBack arch h → ⊥
