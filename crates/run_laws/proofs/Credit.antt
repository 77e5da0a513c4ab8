-- The credit of a run: the instructions that its messages may still cost. Each instruction takes from it, and an entry
-- brings no more than its messages cost.
use Rattle.std.proofs.Common.{◌≡◌, ◌≢◌, ◌<◌, ◌≤◌, ℕ, zero, suc, ◌+◌, ◌-◌, ◌*◌, ℤ, Bool, true, false, cond, List, [], ◌∷◌, ◌++◌, map, fold, take, drop, length, Option, Some, None, refl, sym, ap, ◌∙◌, subst, arith, slice_get, slice_set, slice_index, slice_index_or, length-append}
use Rattle.std.specs.Prelude.{All}
use Rattle.std.specs.List.{sum_by}
use Rattle.std.proofs.lemmas.List.Sums.{sum_by-cons}
use Rattle.std.proofs.lemmas.Nat.{mul-le}
use Rattle.tower_types.specs.Value.{Value, flat}
use Rattle.tower_syntax.specs.declared.arch.SourceKind.{SourceKind}
use Rattle.tower_syntax.specs.declared.arch.SourceKind.TheVariants as kind
use Rattle.tower_syntax.specs.Arch.{Entry, Events}
use Rattle.tower_syntax.specs.Arrival.{is_init, ticks, brought, is_full}
use Rattle.task_code.specs.Program.{Program}
use Rattle.task_code.specs.Does.{Does, Stuck, Private, Takes, Locks, Unlocks, Writes, does, executes_at, without_lock}
use Rattle.task_code.specs.Machine.{Machine, queue, task_does, next_does, bring, received, first_machine, first_queue}
use Rattle.task_code.specs.Standing.{IsReady, standing_of, at_queue, held_back}
use Rattle.task_code.specs.declared.program.Task.{Task}
use Rattle.task_code.specs.Own.{first_own}
use Rattle.task_code.specs.Run.{Run, turned}
use Rattle.lock_reduction.specs.Shaped.{BeginsWithTake}
use Rattle.task_alone.proofs.Lists.{get_set_other, get_map, get_within, all_at}
use Rattle.run_laws.specs.Costs.{inits_from}
use Rattle.run_laws.proofs.Sums.{sum_to, sum_zero, sum_same, sum_drop, sum_grow, sum_first}

-- ---- lists

or_set_other : {X : Type 0} (xs : List X) (i j : ℕ) (v d : X) → j ≢ i → slice_index_or (slice_set xs i v) j d ≡ slice_index_or xs j d
or_set_other [] i j v d ne = refl
or_set_other (x ∷ xs) zero zero v d ne = absurd (ne refl)
or_set_other (x ∷ xs) zero (suc j) v d ne = refl
or_set_other (x ∷ xs) (suc i) zero v d ne = refl
or_set_other (x ∷ xs) (suc i) (suc j) v d ne = or_set_other xs i j v d (λ e. ne (ap suc e))

or_set_same : {X : Type 0} (xs : List X) (i : ℕ) (v d : X) → i < length xs → slice_index_or (slice_set xs i v) i d ≡ v
or_set_same [] i v d l = absurd (omega (arith, l))
or_set_same (x ∷ xs) zero v d l = refl
or_set_same (x ∷ xs) (suc i) v d l = or_set_same xs i v d (omega (arith, l))

dropped : {X : Type 0} (qs : List (List X)) (i : ℕ) → slice_index_or (slice_set qs i (drop 1 (slice_index_or qs i []))) i [] ≡ drop 1 (slice_index_or qs i [])
dropped [] i = refl
dropped (q ∷ qs) zero = refl
dropped (q ∷ qs) (suc i) = dropped qs i

pushed : {X : Type 0} (qs : List (List X)) (i : ℕ) (w : X) → length (slice_index_or (slice_set qs i (slice_index_or qs i [] ++ w ∷ [])) i []) ≤ suc (length (slice_index_or qs i []))
pushed [] i w = omega arith
pushed (q ∷ qs) zero w = omega (arith, length-append q (w ∷ []))
pushed (q ∷ qs) (suc i) w = pushed qs i w

-- ---- the credit of a task

-- what the message that a task has taken may still cost, after n instructions
abbrev owed : Does → ℕ → ℕ → ℕ
owed (Takes f) c n = 0
owed _ c n = c - n

owed_most : (d : Does) (c n : ℕ) → owed d c n ≤ c - n
owed_most Stuck c n = omega arith
owed_most (Private own) c n = omega arith
owed_most (Takes f) c n = omega arith
owed_most (Locks m f) c n = omega arith
owed_most (Unlocks h own) c n = omega arith
owed_most (Writes o ws own) c n = omega arith

module _ (cost : ℕ → ℕ) (p : Program) where
  abbrev credit : Machine → List ℕ → ℕ → ℕ
  credit m since x = cost x * length (queue m x) + owed (next_does p m x) (cost x) (slice_index since x)

  -- the credits of all tasks
  abbrev pub credits : Machine → List ℕ → ℕ
  credits m since = sum_to (length p.tasks) (credit m since)

  -- ---- an instruction

  -- it leaves the other tasks alone
  pub record Other (r r' : Run) (y : ℕ) : Type 0 where
    pub tasks : slice_get r'.machine.tasks y ≡ slice_get r.machine.tasks y
    pub queues : queue r'.machine y ≡ queue r.machine y
    pub since : slice_index r'.since y ≡ slice_index r.since y

  other : (r : Run) (x y : ℕ) (d : Does) → y ≢ x → Other r (turned r x d) y
  other r x y Stuck n = record { tasks = refl; queues = refl; since = or_set_other r.since x y _ 0 n }
  other r x y (Private own) n = record { tasks = get_set_other r.machine.tasks x y _ (λ e. n (sym e)); queues = refl; since = or_set_other r.since x y _ 0 n }
  other r x y (Takes f) n = record { tasks = get_set_other r.machine.tasks x y _ (λ e. n (sym e)); queues = or_set_other r.machine.queues x y _ [] n; since = or_set_other r.since x y _ 0 n }
  other r x y (Locks m f) n = record { tasks = get_set_other r.machine.tasks x y _ (λ e. n (sym e)); queues = refl; since = or_set_other r.since x y _ 0 n }
  other r x y (Unlocks h own) n = record { tasks = get_set_other r.machine.tasks x y _ (λ e. n (sym e)); queues = refl; since = or_set_other r.since x y _ 0 n }
  other r x y (Writes o ws own) n = record { tasks = get_set_other r.machine.tasks x y _ (λ e. n (sym e)); queues = refl; since = or_set_other r.since x y _ 0 n }

  other_same : (r r' : Run) (y : ℕ) → Other r r' y → credit r'.machine r'.since y ≡ credit r.machine r.since y
  other_same r r' y o =
      let q : cost y * length (queue r'.machine y) ≡ cost y * length (queue r.machine y) = ap (λ q. cost y * length q) o.queues in
      let w : owed (next_does p r'.machine y) (cost y) (slice_index r'.since y) ≡ owed (next_does p r.machine y) (cost y) (slice_index r.since y) =
      ap (λ t. owed (task_does p (slice_get p.tasks y) t) (cost y) (slice_index r'.since y)) o.tasks
      ∙ ap (owed (next_does p r.machine y) (cost y)) o.since in
      omega (arith, q, w)

  -- a ready task at TAKE has a message
  has_message : (b : Bool) (q : List (List ℤ)) → at_queue b q ≡ IsReady → length q ≡ suc (length (drop 1 q))
  has_message true q e = cc
  has_message false [] e = cc
  has_message false (m ∷ rest) e = refl

  -- task x goes on in its message
  went : (r r' : Run) (x : ℕ) → owed (next_does p r.machine x) (cost x) (slice_index r.since x) ≡ cost x - slice_index r.since x
      → queue r'.machine x ≡ queue r.machine x → slice_index r'.since x ≡ suc (slice_index r.since x) → slice_index r'.since x ≤ cost x
      → suc (credit r'.machine r'.since x) ≤ credit r.machine r.since x
  went r r' x owes same more few =
      let q : cost x * length (queue r'.machine x) ≡ cost x * length (queue r.machine x) = ap (λ q. cost x * length q) same in
      omega (arith, q, owes, more, few, owed_most (next_does p r'.machine x) (cost x) (slice_index r'.since x))

  took : (r r' : Run) (x : ℕ) → length (queue r.machine x) ≡ suc (length (queue r'.machine x)) → slice_index r'.since x ≡ 1 → slice_index r'.since x ≤ cost x
      → suc (credit r'.machine r'.since x) ≤ credit r.machine r.since x
  took r r' x fewer one few =
      let q : cost x * length (queue r.machine x) ≡ cost x * suc (length (queue r'.machine x)) = ap (λ n. cost x * n) fewer in
      omega (arith, q, one, few, owed_most (next_does p r'.machine x) (cost x) (slice_index r'.since x))

  turns : (events : Events) (r : Run) (x : ℕ) (d : Does) → next_does p r.machine x ≡ d → standing_of p events r.machine x d ≡ IsReady → x < length r.since
      → slice_index (turned r x d).since x ≤ cost x → suc (credit (turned r x d).machine (turned r x d).since x) ≤ credit r.machine r.since x
  turns events r x Stuck is ready there few = cc
  turns events r x (Private own) is ready there few =
      went r (turned r x (Private own)) x (ap (λ d. owed d (cost x) (slice_index r.since x)) is) refl (or_set_same r.since x _ 0 there) few
  turns events r x (Takes f) is ready there few =
      took r (turned r x (Takes f)) x (has_message (held_back p events r.machine x) (queue r.machine x) ready ∙ ap (λ q. suc (length q)) (sym (dropped r.machine.queues x)))
      (or_set_same r.since x 1 0 there) few
  turns events r x (Locks m f) is ready there few =
      went r (turned r x (Locks m f)) x (ap (λ d. owed d (cost x) (slice_index r.since x)) is) refl (or_set_same r.since x _ 0 there) few
  turns events r x (Unlocks h own) is ready there few =
      went r (turned r x (Unlocks h own)) x (ap (λ d. owed d (cost x) (slice_index r.since x)) is) refl (or_set_same r.since x _ 0 there) few
  turns events r x (Writes o ws own) is ready there few =
      went r (turned r x (Writes o ws own)) x (ap (λ d. owed d (cost x) (slice_index r.since x)) is) refl (or_set_same r.since x _ 0 there) few

  -- an instruction of a ready task takes from the credits
  pub turn_takes : (events : Events) (r : Run) (x : ℕ) → standing_of p events r.machine x (next_does p r.machine x) ≡ IsReady → x < length p.tasks → length r.since ≡ length p.tasks
      → let r' = turned r x (next_does p r.machine x) in slice_index r'.since x ≤ cost x → suc (credits r'.machine r'.since) ≤ credits r.machine r.since
  turn_takes events r x ready there sized few =
      let d = next_does p r.machine x in
      sum_drop (length p.tasks) x (credit r.machine r.since) (credit (turned r x d).machine (turned r x d).since) there
      (turns events r x d refl ready (omega (arith, there, sized)) few)
      (λ y n. other_same r (turned r x d) y (other r x y d n))

  -- ---- an entry

  abbrev lost_one : Machine → ℕ → Machine
  lost_one m x = record m { lost = slice_set m.lost x (suc (slice_index m.lost x)) }

  abbrev queued_one : Machine → ℕ → List ℤ → Machine
  queued_one m x w = record m { queues = slice_set m.queues x (queue m x ++ w ∷ []) }

  queued_adds : (m : Machine) (since : List ℕ) (x : ℕ) (w : List ℤ) → credits (queued_one m x w) since ≤ credits m since + cost x
  queued_adds m since x w =
      sum_grow (length p.tasks) x (cost x) (credit m since) (credit (queued_one m x w) since)
      (let more : cost x * length (queue (queued_one m x w) x) ≤ cost x * suc (length (queue m x)) = mul-le (cost x) _ (cost x) _ (omega arith) (pushed m.queues x w) in omega (arith, more))
      (λ y n. let q : cost y * length (queue (queued_one m x w) y) ≡ cost y * length (queue m y) = ap (λ q. cost y * length q) (or_set_other m.queues x y _ [] n) in omega (arith, q))

  one_adds : (full : Bool) (m : Machine) (since : List ℕ) (x : ℕ) (w : List ℤ) → credits (cond full (lost_one m x) (queued_one m x w)) since ≤ credits m since + cost x
  one_adds true m since x w = omega arith
  one_adds false m since x w = queued_adds m since x w

  bring_adds : (depths : List (Option ℕ)) (bs : List (ℕ × List ℤ)) (m : Machine) (since : List ℕ)
      → credits (fold (bring depths) m bs) since ≤ credits m since + sum_by cost (map (λ b. b.0) bs)
  bring_adds depths [] m since = omega arith
  bring_adds depths (b ∷ bs) m since =
      omega (
        arith,
        one_adds (is_full (slice_index_or depths b.0 None) (length (queue m b.0))) m since b.0 b.1,
        bring_adds depths bs (bring depths m b) since,
        sum_by-cons cost b.0 (map (λ b. b.0) bs),
      )

  abbrev as_words : List (ℕ × Value) → List (ℕ × List ℤ)
  as_words bs = map (λ b. (b.0, flat b.1)) bs

  sources_of : (bs : List (ℕ × Value)) → map (λ b. b.0) (as_words bs) ≡ map (λ b. b.0) bs
  sources_of [] = refl
  sources_of (b ∷ bs) = ap (λ xs. b.0 ∷ xs) (sources_of bs)

  -- an entry adds no more than its messages cost
  pub entry_adds : (events : Events) (m : Machine) (since : List ℕ) (e : Entry)
      → credits (received events m e) since ≤ credits m since + sum_by cost (map (λ b. b.0) (brought events.kinds (ticks (take (suc m.place) events.entries)) e))
  entry_adds events m since e =
      let bs = brought events.kinds (ticks (take (suc m.place) events.entries)) e in
      subst (λ xs. credits (received events m e) since ≤ credits m since + sum_by cost xs) (sources_of bs)
      (bring_adds events.depths (as_words bs) (record m { place = suc m.place }) since)

  -- ---- the start

  first_adds : (k : SourceKind) (x : ℕ) (rest : List ℕ) → cost x * length (first_queue k) + sum_by cost rest ≤ sum_by cost (cond (is_init k) (x ∷ []) [] ++ rest)
  first_adds kind.Init x rest = omega (arith, sum_by-cons cost x rest)
  first_adds (kind.Period ms) x rest = omega arith
  first_adds kind.Signal x rest = omega arith

  first_messages : (kinds : List SourceKind) (x n : ℕ) → sum_to n (λ y. cost (x + y) * length (slice_index_or (map first_queue kinds) y [])) ≤ sum_by cost (inits_from x kinds)
  first_messages [] x n = omega (arith, sum_zero n (λ y. cost (x + y) * length (slice_index_or (map first_queue []) y [])) (λ y. omega arith))
  first_messages (k ∷ ks) x zero = omega arith
  first_messages (k ∷ ks) x (suc n) =
      let f : ℕ → ℕ = λ y. cost (x + y) * length (slice_index_or (map first_queue (k ∷ ks)) y []) in
      let g : ℕ → ℕ = λ y. cost (x + 1 + y) * length (slice_index_or (map first_queue ks) y []) in
      let here : f 0 ≡ cost x * length (first_queue k) = let e : x + 0 ≡ x = omega arith in ap (λ z. cost z * length (first_queue k)) e in
      let same : sum_to n (λ y. f (suc y)) ≡ sum_to n g =
      sum_same n (λ y. f (suc y)) g (λ y l. let e : x + suc y ≡ x + 1 + y = omega arith in ap (λ z. cost z * length (slice_index_or (map first_queue ks) y [])) e) in
      omega (arith, sum_first n f, here, same, first_messages ks (x + 1) n, first_adds k x (inits_from (x + 1) ks))

  -- the first instruction of each task is TAKE
  takes_first : (t : Task) → BeginsWithTake t → (c n : ℕ) → owed (does p t (first_own t)) c n ≡ 0
  unfolding does without_lock
  takes_first t b c n = ap (λ i. owed (executes_at p t (first_own t) i) c n) b.1

  first_credit : (events : Events) → All BeginsWithTake p.tasks → (x : ℕ) → x < length p.tasks
      → credit (first_machine p events) (map (λ t. 0) p.tasks) x ≡ cost (0 + x) * length (slice_index_or (map first_queue events.kinds) x [])
  first_credit events all x l =
      let n = slice_index (map (λ t. 0) p.tasks) x in
      let k = get_within p.tasks x l in
      let own = get_map first_own p.tasks x k.0 k.1 in
      let none : owed (next_does p (first_machine p events) x) (cost x) n ≡ 0 =
      ap (λ t. owed (task_does p t (slice_get (map first_own p.tasks) x)) (cost x) n) k.1
      ∙ ap (λ o. owed (task_does p (Some k.0) o) (cost x) n) own
      ∙ takes_first k.0 (all_at BeginsWithTake p.tasks x k.0 all k.1) (cost x) n in
      let same : 0 + x ≡ x = omega arith in
      let product : cost (0 + x) * length (slice_index_or (map first_queue events.kinds) x []) ≡ cost x * length (slice_index_or (map first_queue events.kinds) x []) =
      ap (λ z. cost z * length (slice_index_or (map first_queue events.kinds) x [])) same in
      omega (arith, none, product)

  -- at the start there are the messages of the init sources
  pub first_credits : (events : Events) → All BeginsWithTake p.tasks → credits (first_machine p events) (map (λ t. 0) p.tasks) ≤ sum_by cost (inits_from 0 events.kinds)
  first_credits events all =
      let n = length p.tasks in
      omega (
        arith,
        first_messages events.kinds 0 n,
        sum_same n (credit (first_machine p events) (map (λ t. 0) p.tasks)) (λ y. cost (0 + y) * length (slice_index_or (map first_queue events.kinds) y [])) (first_credit events all),
      )

  -- ---- what an entry leaves

  either_place : (full : Bool) (m : Machine) (x : ℕ) (w : List ℤ) → (cond full (lost_one m x) (queued_one m x w)).place ≡ m.place
  either_place true m x w = refl
  either_place false m x w = refl

  bring_place : (depths : List (Option ℕ)) (bs : List (ℕ × List ℤ)) (m : Machine) → (fold (bring depths) m bs).place ≡ m.place
  bring_place depths [] m = refl
  bring_place depths (b ∷ bs) m = bring_place depths bs (bring depths m b) ∙ either_place (is_full (slice_index_or depths b.0 None) (length (queue m b.0))) m b.0 b.1

  pub received_place : (events : Events) (m : Machine) (e : Entry) → (received events m e).place ≡ suc m.place
  received_place events m e =
      bring_place events.depths (map (λ b. (b.0, flat b.1)) (brought events.kinds (ticks (take (suc m.place) events.entries)) e)) (record m { place = suc m.place })
