use Rattle.std.proofs.Common.{◌≡◌, ℕ, zero, suc, ◌%◌, List, [], ◌∷◌, length, slice_get, refl, ap, sym, ◌∙◌, arith}
use Rattle.task_code.specs.Policy.{at_turn, places_from}
use Rattle.task_machine.specs.Policy.{of_priority}
use Rattle.task_machine.proofs.policy.place.Goals as goal

-- the element that a turn names, by its place
turn_at : (k i : ℕ) (xs : List ℕ) → k % length xs ≡ i → at_turn k xs ≡ slice_get xs i
turn_at k i [] e = refl
turn_at k i (x ∷ xs) e = ap (slice_get (x ∷ xs)) e

turn_none : (k i : ℕ) (xs : List ℕ) → length xs ≡ 0 → at_turn k xs ≡ slice_get xs i
turn_none k i [] e = refl
turn_none k i (x ∷ xs) e = absurd (omega arith)

turn_first : (k : ℕ) (xs : List ℕ) → k ≡ 0 → at_turn k xs ≡ slice_get xs 0
turn_first k [] e = refl
turn_first k (x ∷ xs) e = let h : k % length (x ∷ xs) ≡ 0 = omega arith in ap (slice_get (x ∷ xs)) h

pub returns-then-k-eq0 : goal.returns-then-k-eq0
returns-then-k-eq0 c = turn_first c.args.k (of_priority c.args.priorities.now c.args.top (places_from 0 c.args.ready.now)) c.if-k-eq0.true

pub returns-then-count-eq0 : goal.returns-then-count-eq0
returns-then-count-eq0 c =
    turn_none c.args.k 0 (of_priority c.args.priorities.now c.args.top (places_from 0 c.args.ready.now)) (sym c.count_of_priority-count.ensures ∙ c.if-count-eq0.true)

pub returns-else-count-eq0 : goal.returns-else-count-eq0
returns-else-count-eq0 c =
    turn_at c.args.k _ (of_priority c.args.priorities.now c.args.top (places_from 0 c.args.ready.now)) (ap (λ n. c.args.k % n) (sym c.count_of_priority-count.ensures))
