-- What is noted of tasks stays so where nothing of theirs changes.
use Rattle.std.proofs.Common.{◌≡◌, ◌==◌, ℕ, zero, suc, ◌<◌, ◌≤◌, ℤ, Bool, true, false, List, [], ◌∷◌, length, replicate, Option, Some, None, slice_get, slice_index_or, slice_set, refl, ap, sym, ◌∙◌, subst, arith, inl, inr, ◌⊎◌}
use Rattle.std.specs.Prelude.{◌&&◌, not, nat_lt}
use Rattle.std.specs.Option.{option_map}
use Rattle.std.proofs.Math.ListN.{length-set}
use Rattle.std.proofs.lemmas.Bool.{cases_eq, cases_lt}
use Rattle.std.proofs.lemmas.Bool.Decides.{nat_tests}
use Rattle.tower_syntax.specs.declared.arch.SourceKind.{SourceKind}
use Rattle.tower_syntax.specs.declared.arch.SourceKind.TheVariants as kind
use Rattle.tower_syntax.specs.declared.event.Events.{Events as EventsValue}
use Rattle.tower_syntax.specs.Arrival.{is_init}
use Rattle.tower_syntax.specs.View.{events_of}
use Rattle.task_code.specs.declared.program.Task.{Task}
use Rattle.task_code.specs.Program.{Program}
use Rattle.task_code.specs.Own.{Own, Held}
use Rattle.task_code.specs.Does.{Does, Stuck, Private, Takes, Locks, Unlocks, Writes, at_take}
use Rattle.task_code.specs.Machine.{Lock, Machine, queue, task_does}
use Rattle.task_code.specs.Standing.{is_ready, is_clear, clear_if_init, inits_clear, kind_at, at_queue, at_lock}
use Rattle.task_machine.specs.declared.action.Action.{Action}
use Rattle.task_machine.specs.declared.action.Action.TheVariants as an
use Rattle.task_machine.specs.Action.{effect, unlocks, IsWithin}
use Rattle.task_machine.specs.State.{State, does_next, turned}
use Rattle.task_machine.specs.Arriving.{Stays}
use Rattle.task_machine.specs.Bits.{words_for, bit, as_bit}
use Rattle.task_machine.specs.Noted.{Notes, clear_in, lock_in, locks_at, touched_by, stands_by, ready_by, IsNext, HasPlaces, IsNoted, IsInNone, AreNoted, IsLeft, IsStale, IsReached, OthersStay}
use Rattle.task_machine.proofs.Lists.{get_within, get_beyond}
use Rattle.task_machine.proofs.Kept.{get_set_same, get_set_other}
use Rattle.task_machine.proofs.Stands.{get_exists}
use Rattle.task_machine.proofs.BitWords.{bit_set, bit_unset, bit_true, bit_blank}
use Rattle.task_machine.proofs.Noting.{stands_at_lock}

or_default : {X : Type 0} → X → Option X → X
or_default d None = d
or_default d (Some x) = x

index_is : {X : Type 0} (xs : List X) (i : ℕ) (d : X) → slice_index_or xs i d ≡ or_default d (slice_get xs i)
unfolding or_default
index_is [] i d = refl
index_is (x ∷ xs) zero d = refl
index_is (x ∷ xs) (suc i) d = index_is xs i d

index_same : {X : Type 0} (xs ys : List X) (i : ℕ) (d : X) → slice_get xs i ≡ slice_get ys i → slice_index_or xs i d ≡ slice_index_or ys i d
index_same xs ys i d e = index_is xs i d ∙ ap (or_default d) e ∙ sym (index_is ys i d)

equal : (m n : ℕ) → m ≡ n → (m == n) ≡ true
equal m n e = grind (arith, nat_tests)

unequal : (m n : ℕ) → (m ≡ n → ⊥) → (m == n) ≡ false
unequal m n e = grind (arith, nat_tests)

true_false : (b : Bool) → b ≡ true → b ≡ false → ⊥
true_false true e f = cc
true_false false e f = cc

by_cases : (b : Bool) → (b ≡ true) ⊎ (b ≡ false)
by_cases true = inl refl
by_cases false = inr refl

one_not_zero : (n : ℕ) → n ≡ 1 → n ≡ 0 → ⊥
one_not_zero n e f = absurd (omega arith)

-- two states with the same program and events, and the same part of task y
record IsSame (y : ℕ) (s t : State) : Type 0 where
  program : t.program ≡ s.program
  count : length t.machine.tasks ≡ length s.machine.tasks
  part : slice_get t.machine.tasks y ≡ slice_get s.machine.tasks y

does_same : (y : ℕ) (s t : State) → IsSame y s t → does_next t y ≡ does_next s y
does_same y s t is =
    ap (λ (p : Program). task_does p (slice_get p.tasks y) (slice_get t.machine.tasks y)) is.program
    ∙ ap (task_does s.program (slice_get s.program.tasks y)) is.part

next_same : (y : ℕ) (s t : State) (a : Action) → IsSame y s t → IsNext s y a → IsNext t y a
next_same y s t a is next = record {
  effect = λ own at. next.effect own (sym is.part ∙ at) ∙ sym (does_same y s t is);
  within = λ own task there at.
      rw is.program (next.within own task (ap (λ (p : Program). slice_get p.tasks y) (sym is.program) ∙ there) (sym is.part ∙ at));
  place = λ own at. next.place own (sym is.part ∙ at);
  part = let a = next.part in let b = is.count in omega (arith, a, b);
}

noted_same : (y : ℕ) (s t : State) (n : Notes) → IsSame y s t → IsNoted s n y → IsNoted t n y
noted_same y s t n is noted = record {
  action = λ a at. next_same y s t a is (noted.action a at);
  bits = λ m row at. noted.bits m row at ∙ ap (λ d. as_bit (locks_at m d)) (sym (does_same y s t is));
}

places_same : (s t : State) (n : Notes) → t.program ≡ s.program → HasPlaces s n → HasPlaces t n
places_same s t n e is = record {
  actions = is.actions ∙ ap (λ (p : Program). length p.tasks) (sym e);
  flags = is.flags ∙ ap (λ (p : Program). length p.tasks) (sym e);
  rows = is.rows ∙ ap (λ (p : Program). length p.monitors) (sym e);
  words = λ m row at. is.words m row at ∙ ap (λ (p : Program). words_for (length p.tasks)) (sym e);
  blank = rw e is.blank;
}

-- how task y stands, which does d, where its queue and the lock that it may wait for are the same
stands_same : (c : Bool) (y : ℕ) (s t : State) (d : Does) → t.events ≡ s.events → slice_get t.machine.queues y ≡ slice_get s.machine.queues y
    → ((k : ℕ) → locks_at k d ≡ true → slice_get t.machine.locks k ≡ slice_get s.machine.locks k) → stands_by c t y d ≡ stands_by c s y d
stands_same c y s t Stuck e q l = refl
stands_same c y s t (Private own) e q l = refl
stands_same c y s t (Takes f) e q l =
    ap (λ (v : EventsValue). at_queue (not (is_init (kind_at (events_of v) y)) && not c) (queue t.machine y)) e
    ∙ ap (at_queue (not (is_init (kind_at (events_of s.events) y)) && not c)) (index_same t.machine.queues s.machine.queues y [] q)
stands_same c y s t (Locks k f) e q l = ap (at_lock k) (l k (equal k k refl))
stands_same c y s t (Unlocks h own) e q l = refl
stands_same c y s t (Writes o ws own) e q l = refl

ready_same : (c : Bool) (y : ℕ) (s t : State) → IsSame y s t → t.events ≡ s.events → slice_get t.machine.queues y ≡ slice_get s.machine.queues y
    → ((k : ℕ) → locks_at k (does_next s y) ≡ true → slice_get t.machine.locks k ≡ slice_get s.machine.locks k) → ready_by c t y ≡ ready_by c s y
ready_same c y s t is e q l =
    ap (λ d. is_ready (stands_by c t y d)) (does_same y s t is) ∙ ap is_ready (stands_same c y s t (does_next s y) e q l)

-- the initialisation
init_same : (k : SourceKind) (t : Task) (o o' : Own) (q q' : List (List ℤ)) → (is_init k ≡ true → (Some o' ≡ Some o) × (Some q' ≡ Some q)) → clear_if_init k t o' q' ≡ clear_if_init k t o q
init_same kind.Init t o o' q q' h =
    let both = h refl in
    let e : o' ≡ o = let f = both.0 in cc in
    let g : q' ≡ q = let f = both.1 in cc in
    rw (e, g) refl
init_same (kind.Period ms) t o o' q q' h = refl
init_same kind.Signal t o o' q q' h = refl

clear_alike : (ks : List SourceKind) (ts : List Task) (owns owns' : List Own) (qs qs' : List (List (List ℤ))) → length owns' ≡ length owns → length qs' ≡ length qs
    → ((y : ℕ) → is_init (slice_index_or ks y kind.Signal) ≡ true → (slice_get owns' y ≡ slice_get owns y) × (slice_get qs' y ≡ slice_get qs y))
    → inits_clear ks ts owns' qs' ≡ inits_clear ks ts owns qs
clear_alike [] ts owns owns' qs qs' l n h = refl
clear_alike (k ∷ ks) [] owns owns' qs qs' l n h = refl
clear_alike (k ∷ ks) (t ∷ ts) [] [] qs qs' l n h = refl
clear_alike (k ∷ ks) (t ∷ ts) [] (o ∷ owns') qs qs' l n h = absurd (omega arith)
clear_alike (k ∷ ks) (t ∷ ts) (o ∷ owns) [] qs qs' l n h = absurd (omega arith)
clear_alike (k ∷ ks) (t ∷ ts) (o ∷ owns) (o' ∷ owns') [] [] l n h = refl
clear_alike (k ∷ ks) (t ∷ ts) (o ∷ owns) (o' ∷ owns') [] (q ∷ qs') l n h = absurd (omega arith)
clear_alike (k ∷ ks) (t ∷ ts) (o ∷ owns) (o' ∷ owns') (q ∷ qs) [] l n h = absurd (omega arith)
clear_alike (k ∷ ks) (t ∷ ts) (o ∷ owns) (o' ∷ owns') (q ∷ qs) (q' ∷ qs') l n h =
    let rest = clear_alike ks ts owns owns' qs qs' (omega arith) (omega arith) (λ y e. h (suc y) e) in
    ap (λ b. b && inits_clear ks ts owns' qs') (init_same k t o o' q q' (λ e. h 0 e)) ∙ ap (λ b. clear_if_init k t o q && b) rest

clear_same : (s t : State) → t.program ≡ s.program → t.events ≡ s.events → length t.machine.tasks ≡ length s.machine.tasks → length t.machine.queues ≡ length s.machine.queues
    → ((y : ℕ) → is_init (kind_at (events_of s.events) y) ≡ true → (slice_get t.machine.tasks y ≡ slice_get s.machine.tasks y) × (slice_get t.machine.queues y ≡ slice_get s.machine.queues y))
    → clear_in t ≡ clear_in s
clear_same s t p e l n h =
    ap (λ (v : EventsValue). inits_clear (events_of v).kinds t.program.tasks t.machine.tasks t.machine.queues) e
    ∙ ap (λ (r : Program). inits_clear (events_of s.events).kinds r.tasks t.machine.tasks t.machine.queues) p
    ∙ clear_alike (events_of s.events).kinds s.program.tasks s.machine.tasks t.machine.tasks s.machine.queues t.machine.queues l n h

-- an instruction of task x, which took or gave back the lock of `touched`, leaves all else as it was
record Passes (x : ℕ) (touched : Option ℕ) (s t : State) : Type 0 where
  program : t.program ≡ s.program
  events : t.events ≡ s.events
  tasks_count : length t.machine.tasks ≡ length s.machine.tasks
  queues_count : length t.machine.queues ≡ length s.machine.queues
  tasks : (y : ℕ) → (y ≡ x → ⊥) → slice_get t.machine.tasks y ≡ slice_get s.machine.tasks y
  queues : (y : ℕ) → (y ≡ x → ⊥) → slice_get t.machine.queues y ≡ slice_get s.machine.queues y
  locks : (k : ℕ) → (touched ≡ Some k → ⊥) → slice_get t.machine.locks k ≡ slice_get s.machine.locks k

passes : (s : State) (x : ℕ) (d : Does) → Passes x (touched_by d) s (turned s x d)
passes s x Stuck = record { program = refl; events = refl; tasks_count = refl; queues_count = refl; tasks = λ y o. refl; queues = λ y o. refl; locks = λ k o. refl }
passes s x (Private own) = record {
  program = refl;
  events = refl;
  tasks_count = length-set s.machine.tasks x own;
  queues_count = refl;
  tasks = λ y o. get_set_other s.machine.tasks x y own o;
  queues = λ y o. refl;
  locks = λ k o. refl;
}
passes s x (Takes f) = record {
  program = refl;
  events = refl;
  tasks_count = length-set s.machine.tasks x _;
  queues_count = length-set s.machine.queues x _;
  tasks = λ y o. get_set_other s.machine.tasks x y _ o;
  queues = λ y o. get_set_other s.machine.queues x y _ o;
  locks = λ k o. refl;
}
passes s x (Locks m f) = record {
  program = refl;
  events = refl;
  tasks_count = length-set s.machine.tasks x _;
  queues_count = refl;
  tasks = λ y o. get_set_other s.machine.tasks x y _ o;
  queues = λ y o. refl;
  locks = λ k o. get_set_other s.machine.locks m k _ (λ e. o (ap Some (sym e)));
}
passes s x (Unlocks h own) = record {
  program = refl;
  events = refl;
  tasks_count = length-set s.machine.tasks x own;
  queues_count = refl;
  tasks = λ y o. get_set_other s.machine.tasks x y own o;
  queues = λ y o. refl;
  locks = λ k o. get_set_other s.machine.locks h.monitor k _ (λ e. o (ap Some (sym e)));
}
passes s x (Writes o ws own) = record {
  program = refl;
  events = refl;
  tasks_count = length-set s.machine.tasks x own;
  queues_count = refl;
  tasks = λ y o. get_set_other s.machine.tasks x y own o;
  queues = λ y o. refl;
  locks = λ k o. refl;
}

untouched : (m : ℕ) (d : Does) → (touched_by d ≡ Some m → ⊥) → locks_at m d ≡ false
untouched m Stuck h = refl
untouched m (Private own) h = refl
untouched m (Takes f) h = refl
untouched m (Locks k f) h = unequal k m (λ e. h (ap Some e))
untouched m (Unlocks l own) h = refl
untouched m (Writes o ws own) h = refl

-- what is noted, after an instruction of task x that does d
pub left_by : (s : State) (n : Notes) (x : ℕ) (d : Does) → does_next s x ≡ d → AreNoted s n → IsLeft x (touched_by d) (turned s x d) n
left_by s n x d e is =
    let t : State = turned s x d in
    let by = passes s x d in
    let same : (y : ℕ) → (y ≡ x → ⊥) → IsSame y s t = λ y o. record { program = by.program; count = by.tasks_count; part = by.tasks y o } in
    record {
      places = places_same s t n by.program is.places;
      each = λ y o. noted_same y s t n (same y o) (is.each y);
      rows = λ m row at o. bit_unset _ _ ((is.each x).bits m row at) (ap (locks_at m) e ∙ untouched m d o);
      clear = λ init.
          is.clear ∙ sym (clear_same s t by.program by.events by.tasks_count by.queues_count (λ y h.
          let o : y ≡ x → ⊥ = λ same. true_false (is_init (kind_at (events_of s.events) x)) (ap (λ z. is_init (kind_at (events_of s.events) z)) (sym same) ∙ h) init in
          (by.tasks y o, by.queues y o)));
      flags = λ y o within apart.
          is.flags y within ∙ ap Some (sym (ready_same n.clear y s t (same y o) by.events (by.queues y o) (λ k l.
          by.locks k (λ touched. true_false (locks_at k (does_next s y)) l (ap (locks_at k) (sym (does_same y s t (same y o))) ∙ apart k touched)))));
    }

-- and after an entry came
pub reached_by : (reached : ℕ → Bool) (s t : State) (n : Notes) → Stays reached s t → AreNoted s n → IsReached reached t n
reached_by reached s t n by is =
    let same : (y : ℕ) → IsSame y s t = λ y. record { program = by.program; count = ap length by.tasks; part = ap (λ (owns : List Own). slice_get owns y) by.tasks } in
    record {
      places = places_same s t n by.program is.places;
      each = λ y. noted_same y s t n (same y) (is.each y);
      clear = is.clear ∙ sym (clear_same s t by.program by.events (ap length by.tasks) by.count (λ y h. ((same y).part, by.queues y (by.inits y h))));
      flags = λ y o within.
          let there : y < length s.program.tasks = rw (← by.program) within in
          is.flags y there ∙ ap Some (sym (ready_same n.clear y s t (same y) by.events (by.queues y o) (λ k l. ap (λ (locks : List Lock). slice_get locks k) by.locks)));
    }

-- what is noted of the others stays so
pub noted_stays : (s : State) (x y : ℕ) (n n' : Notes) → OthersStay x n n' → (y ≡ x → ⊥) → IsNoted s n y → IsNoted s n' y
noted_stays s x y n n' stay o noted = record {
  action = λ a at. noted.action a (sym (stay.actions y o) ∙ at);
  bits = λ m row at. let was = stay.rows m row at in was.2 y o ∙ noted.bits m was.0 was.1;
}

pub in_none : (s : State) (x : ℕ) (n : Notes) → IsLeft x None s n → IsInNone n x
in_none s x n is = λ m row at. is.rows m row at (λ e. differ m e)
  where
    differ : (m : ℕ) → None ≡ Some m → ⊥
    differ m e = cc

-- once the next instruction of task x is noted
pub stale : (s : State) (x : ℕ) (n n' : Notes) → IsLeft x None s n → HasPlaces s n' → IsNoted s n' x → OthersStay x n n' → IsStale x s n'
stale s x n n' is places here stay = record {
  places = places;
  each = λ y. elim (cases_eq y x) [
    | inl same ↦ subst (IsNoted s n') (sym same) here
    | inr o ↦ noted_stays s x y n n' stay o (is.each y o)
  ];
  clear = λ init. stay.clear ∙ is.clear init;
  flags = λ y o within.
      ap (λ bs. slice_get bs y) stay.ready ∙ is.flags y o within (λ m e. absurd (differ m e)) ∙ ap (λ c. Some (ready_by c s y)) (sym stay.clear);
}
  where
    differ : (m : ℕ) → None ≡ Some m → ⊥
    differ m e = cc

-- a task that is not there is at no LOCK
pub beyond : (s : State) (y : ℕ) → length s.program.tasks ≤ y → does_next s y ≡ Stuck
beyond s y h = ap (λ (o : Option Task). task_does s.program o (slice_get s.machine.tasks y)) (get_beyond s.program.tasks y h)

pub lock_within : (s : State) (m y : ℕ) → locks_at m (does_next s y) ≡ true → y < length s.program.tasks
lock_within s m y e = elim (cases_lt y (length s.program.tasks)) [
  | inl h ↦ h
  | inr h ↦ absurd (true_false (locks_at m (does_next s y)) e (ap (locks_at m) (beyond s y h)))
]

-- task x leaves the row of monitor m, and those in it are marked
module _ (s : State) (x m : ℕ) (n : Notes) (is : IsLeft x (Some m) s n) (row later : List ℕ) (at : slice_get n.rows m ≡ Some row)
    (here : bit later x ≡ 0) (others : (y : ℕ) → (y ≡ x → ⊥) → bit later y ≡ bit row y) (count : length later ≡ length row) where
  row_bit : (y : ℕ) → (y ≡ x → ⊥) → bit later y ≡ as_bit (locks_at m (does_next s y))
  row_bit y o = others y o ∙ (is.each y o).bits m row at

  pub marked_within : (y : ℕ) → bit later y ≡ 1 → y < length n.ready
  marked_within y e = elim (cases_eq y x) [
    | inl same ↦ absurd (one_not_zero (bit later y) e (ap (bit later) same ∙ here))
    | inr o ↦
        let l = lock_within s m y (bit_true _ (sym (row_bit y o) ∙ e)) in
        let places = is.places.flags in
        omega (arith, l, places)
  ]

  row_of : (k : ℕ) (r : List ℕ) → slice_get (slice_set n.rows m later) k ≡ Some r → ((k ≡ m) × (later ≡ r)) ⊎ ((k ≡ m → ⊥) × (slice_get n.rows k ≡ Some r))
  row_of k r there = elim (cases_eq k m) [
    | inl same ↦
        let f : Some later ≡ Some r = sym (get_set_same n.rows m later (get_within n.rows m row at)) ∙ ap (slice_get (slice_set n.rows m later)) (sym same) ∙ there in
        inl (same, cc)
    | inr o ↦ inr (o, sym (get_set_other n.rows m k later o) ∙ there)
  ]

  pub released : (flags : List Bool) (free : Bool) → free ≡ is_ready (at_lock m (slice_get s.machine.locks m))
      → ((y : ℕ) → bit later y ≡ 1 → slice_get flags y ≡ Some free) → ((y : ℕ) → bit later y ≡ 0 → slice_get flags y ≡ slice_get n.ready y) → length flags ≡ length n.ready
      → IsLeft x None s (record n { rows = slice_set n.rows m later; ready = flags })
  released flags free is_free marks stays same = record {
    places = record {
      actions = is.places.actions;
      flags = same ∙ is.places.flags;
      rows = length-set n.rows m later ∙ is.places.rows;
      words = λ k r there. elim (row_of k r there) [
        | inl here ↦ ap length (sym here.1) ∙ count ∙ is.places.words m row at
        | inr o ↦ is.places.words k r o.1
      ];
      blank = is.places.blank;
    };
    each = λ y o. record {
      action = (is.each y o).action;
      bits = λ k r there. elim (row_of k r there) [
        | inl h ↦ ap (λ ws. bit ws y) (sym h.1) ∙ row_bit y o ∙ ap (λ j. as_bit (locks_at j (does_next s y))) (sym h.0)
        | inr h ↦ (is.each y o).bits k r h.1
      ];
    };
    rows = λ k r there _. elim (row_of k r there) [
      | inl h ↦ ap (λ ws. bit ws x) (sym h.1) ∙ here
      | inr h ↦ is.rows k r h.1 (λ e. h.0 (some_same m k e))
    ];
    clear = is.clear;
    flags = λ y o within _. elim (by_cases (locks_at m (does_next s y))) [
      | inl l ↦
          let marked = marks y (bit_set _ _ (row_bit y o) l) in
          marked ∙ ap Some (is_free ∙ ap is_ready (sym (stands_at_lock s n.clear y m (does_next s y) l)))
      | inr l ↦ stays y (bit_unset _ _ (row_bit y o) l) ∙ is.flags y o within (λ k e. ap (λ j. locks_at j (does_next s y)) (some_same m k e) ∙ l)
    ];
  }
    where
      some_same : (m k : ℕ) → Some m ≡ Some k → k ≡ m
      some_same m k e = cc

free_of : (a : Action) (own : Own) → lock_in a ≡ None → (m : ℕ) → locks_at m (effect a own) ≡ false
free_of an.Stuck own e m = refl
free_of (an.Private c) own e m = refl
free_of (an.Take at) own e m = refl
free_of (an.Lock k) own e m = cc
free_of an.Unlock own e m = by_held own.held
  where
    by_held : (held : Option Held) → locks_at m (unlocks held own) ≡ false
    by_held None = refl
    by_held (Some h) = refl
free_of (an.Out o at k) own e m = refl

locked_of : (a : Action) (own : Own) (k m : ℕ) → lock_in a ≡ Some k → locks_at m (effect a own) ≡ (k == m)
locked_of an.Stuck own k m e = cc
locked_of (an.Private c) own k m e = cc
locked_of (an.Take at) own k m e = cc
locked_of (an.Lock j) own k m e = let h : j ≡ k = cc in ap (λ i. i == m) h
locked_of an.Unlock own k m e = cc
locked_of (an.Out o at n) own k m e = cc

within_of : (p : Program) (t : Task) (own : Own) (a : Action) (k : ℕ) → lock_in a ≡ Some k → IsWithin p t own a → k < length p.monitors
within_of p t own an.Stuck k e h = cc
within_of p t own (an.Private c) k e h = cc
within_of p t own (an.Take at) k e h = cc
within_of p t own (an.Lock j) k e h = let f : j ≡ k = cc in rw (← f) h
within_of p t own an.Unlock k e h = cc
within_of p t own (an.Out o at n) k e h = cc

-- what comes of noting the next instruction of a task
pub record Comes (x : ℕ) (s : State) (n later : Notes) : Type 0 where
  pub places : HasPlaces s later
  pub here : IsNoted s later x
  pub others : OthersStay x n later

module _ (s : State) (x : ℕ) (n : Notes) (a : Action) (next : IsNext s x a) (task : x < length s.program.tasks) (is : HasPlaces s n) (none : IsInNone n x) where
  within : x < length n.actions
  within = let e = is.actions in omega (arith, e, task)

  own : (o : Own) × (slice_get s.machine.tasks x ≡ Some o)
  own = get_exists s.machine.tasks x next.part

  action_here : (b : Action) → slice_get (slice_set n.actions x a) x ≡ Some b → IsNext s x b
  action_here b at =
      let f : Some a ≡ Some b = sym (get_set_same n.actions x a within) ∙ at in
      let e : a ≡ b = cc in
      let P : Action → Type 0 = IsNext s x in
      subst P e next

  pub monitor_within : (k : ℕ) → lock_in a ≡ Some k → k < length n.rows
  monitor_within k e =
      let t = get_exists s.program.tasks x task in
      let h = within_of s.program t.0 own.0 a k e (next.within own.0 t.0 t.1 own.1) in
      let r = is.rows in
      omega (arith, h, r)

  pub noted_free : lock_in a ≡ None → Comes x s n (record n { actions = slice_set n.actions x a })
  noted_free e = record {
    places = record { actions = length-set n.actions x a ∙ is.actions; flags = is.flags; rows = is.rows; words = is.words; blank = is.blank };
    here = record {
      action = action_here;
      bits = λ m row at. none m row at ∙ ap as_bit (sym (ap (locks_at m) (sym (next.effect own.0 own.1)) ∙ free_of a own.0 e m));
    };
    others = record {
      actions = λ y o. get_set_other n.actions x y a o;
      rows = λ m row at. (row, at, λ y o. refl);
      ready = refl;
      clear = refl;
    };
  }

  pub noted_lock : (k : ℕ) (row later : List ℕ) → lock_in a ≡ Some k → slice_get n.rows k ≡ Some row
      → bit later x ≡ 1 → ((y : ℕ) → (y ≡ x → ⊥) → bit later y ≡ bit row y) → length later ≡ length row
      → Comes x s n (record n { actions = slice_set n.actions x a; rows = slice_set n.rows k later })
  noted_lock k row later e at one same count = record {
    places = record {
      actions = length-set n.actions x a ∙ is.actions;
      flags = is.flags;
      rows = length-set n.rows k later ∙ is.rows;
      words = λ m r there. elim (row_of m r there) [
        | inl h ↦ ap length (sym h.1) ∙ count ∙ is.words k row at
        | inr h ↦ is.words m r h.1
      ];
      blank = is.blank;
    };
    here = record {
      action = action_here;
      bits = λ m r there. elim (row_of m r there) [
        | inl h ↦ ap (λ ws. bit ws x) (sym h.1) ∙ one ∙ ap as_bit (sym (locks m ∙ equal k m (sym h.0)))
        | inr h ↦ none m r h.1 ∙ ap as_bit (sym (locks m ∙ unequal k m (λ d. h.0 (sym d))))
      ];
    };
    others = record {
      actions = λ y o. get_set_other n.actions x y a o;
      rows = λ m r there. elim (row_of m r there) [
        | inl h ↦ (row, ap (slice_get n.rows) h.0 ∙ at, λ y o. ap (λ ws. bit ws y) (sym h.1) ∙ same y o)
        | inr h ↦ (r, h.1, λ y o. refl)
      ];
      ready = refl;
      clear = refl;
    };
  }
    where
      row_of : (m : ℕ) (r : List ℕ) → slice_get (slice_set n.rows k later) m ≡ Some r → ((m ≡ k) × (later ≡ r)) ⊎ ((m ≡ k → ⊥) × (slice_get n.rows m ≡ Some r))
      row_of m r there = elim (cases_eq m k) [
        | inl h ↦
            let f : Some later ≡ Some r = sym (get_set_same n.rows k later (get_within n.rows k row at)) ∙ ap (slice_get (slice_set n.rows k later)) (sym h) ∙ there in
            inl (h, cc)
        | inr o ↦ inr (o, sym (get_set_other n.rows k m later o) ∙ there)
      ]

      locks : (m : ℕ) → locks_at m (does_next s x) ≡ (k == m)
      locks m = ap (locks_at m) (sym (next.effect own.0 own.1)) ∙ locked_of a own.0 k m e

-- a task that is not there, and is in no row, is noted
pub noted_beyond : (s : State) (n : Notes) (y : ℕ) → HasPlaces s n → IsInNone n y → length s.program.tasks ≤ y → IsNoted s n y
noted_beyond s n y is none h = record {
  action = λ a at. let l = get_within n.actions y a at in let e = is.actions in absurd (omega (arith, l, e, h));
  bits = λ m row at. none m row at ∙ ap (λ d. as_bit (locks_at m d)) (sym (beyond s y h));
}

-- other flags change nothing of that
pub noted_flags : (s : State) (n : Notes) (flags : List Bool) (clear : Bool) (y : ℕ) → IsNoted s n y → IsNoted s (record n { ready = flags; clear = clear }) y
noted_flags s n flags clear y is = record { action = is.action; bits = is.bits }

places_flags : (s : State) (n : Notes) (flags : List Bool) (clear : Bool) → length flags ≡ length n.ready → HasPlaces s n → HasPlaces s (record n { ready = flags; clear = clear })
places_flags s n flags clear e is = record { actions = is.actions; flags = e ∙ is.flags; rows = is.rows; words = is.words; blank = is.blank }

-- all flags are noted
pub all_noted : (s : State) (n : Notes) (flags : List Bool) (clear : Bool) → HasPlaces s n → ((y : ℕ) → IsNoted s n y) → clear ≡ clear_in s → length flags ≡ length n.ready
    → ((y : ℕ) → y < length s.program.tasks → slice_get flags y ≡ Some (ready_by clear s y)) → AreNoted s (record n { ready = flags; clear = clear })
all_noted s n flags clear is each e l h = record {
  places = places_flags s n flags clear l is;
  each = λ y. noted_flags s n flags clear y (each y);
  clear = e;
  flags = h;
}

-- that of task x is
pub one_noted : (s : State) (x : ℕ) (n : Notes) (clear : Bool) → IsStale x s n → clear ≡ clear_in s → n.clear ≡ clear → AreNoted s (record n { ready = slice_set n.ready x (ready_by clear s x) })
one_noted s x n clear is e f =
    all_noted s n (slice_set n.ready x (ready_by clear s x)) n.clear is.places is.each (f ∙ e) (length-set n.ready x _) (λ y within. elim (cases_eq y x) [
      | inl same ↦
          let l : x < length n.ready = let a = is.places.flags in omega (arith, a, within, same) in
          ap (slice_get (slice_set n.ready x (ready_by clear s x))) same ∙ get_set_same n.ready x _ l ∙ ap (λ z. Some (ready_by clear s z)) (sym same)
          ∙ ap (λ c. Some (ready_by c s y)) (sym f)
      | inr o ↦ get_set_other n.ready x y _ o ∙ is.flags y o within
    ])

-- those of the tasks that an entry reached are
pub reached_noted : (reached : ℕ → Bool) (s : State) (n : Notes) (flags : List Bool) → IsReached reached s n → length flags ≡ length n.ready
    → ((y : ℕ) → y < length s.program.tasks → reached y ≡ true → slice_get flags y ≡ Some (ready_by n.clear s y))
    → ((y : ℕ) → reached y ≡ false → slice_get flags y ≡ slice_get n.ready y) → AreNoted s (record n { ready = flags })
reached_noted reached s n flags is l marked stays =
    all_noted s n flags n.clear is.places is.each is.clear l (λ y within. elim (by_cases (reached y)) [
      | inl h ↦ marked y within h
      | inr h ↦ stays y h ∙ is.flags y h within
    ])

-- the initialisation is not over where the task of one is not clear
all_clear : (ks : List SourceKind) (ts : List Task) (owns : List Own) (qs : List (List (List ℤ))) (x : ℕ) (t : Task) (own : Own) → slice_get ts x ≡ Some t → slice_get owns x ≡ Some own
    → is_init (slice_index_or ks x kind.Signal) ≡ true → x < length qs → is_clear t own (slice_index_or qs x []) ≡ false → inits_clear ks ts owns qs ≡ false
all_clear [] ts owns qs x t own e f i l h = cc
all_clear (k ∷ ks) [] owns qs x t own e f i l h = cc
all_clear (k ∷ ks) (u ∷ ts) [] qs x t own e f i l h = cc
all_clear (k ∷ ks) (u ∷ ts) (o ∷ owns) [] x t own e f i l h = absurd (omega arith)
all_clear (k ∷ ks) (u ∷ ts) (o ∷ owns) (q ∷ qs) zero t own e f i l h =
    let g : u ≡ t = cc in
    let j : o ≡ own = cc in
    first (clear_if_init k u o q) (inits_clear ks ts owns qs) (is_first k i ∙ rw (g, j) h)
  where
    first : (a b : Bool) → a ≡ false → (a && b) ≡ false
    first true b e = cc
    first false b e = refl

    is_first : (k : SourceKind) → is_init k ≡ true → clear_if_init k u o q ≡ is_clear u o q
    is_first kind.Init e = refl
    is_first (kind.Period ms) e = cc
    is_first kind.Signal e = cc
all_clear (k ∷ ks) (u ∷ ts) (o ∷ owns) (q ∷ qs) (suc x) t own e f i l h =
    second (clear_if_init k u o q) (inits_clear ks ts owns qs) (all_clear ks ts owns qs x t own e f i (omega arith) h)
  where
    second : (a b : Bool) → b ≡ false → (a && b) ≡ false
    second true b e = e
    second false b e = refl

pub not_clear : (s : State) (x : ℕ) (t : Task) (own : Own) → slice_get s.program.tasks x ≡ Some t → slice_get s.machine.tasks x ≡ Some own
    → is_init (kind_at (events_of s.events) x) ≡ true → x < length s.machine.queues → is_clear t own (queue s.machine x) ≡ false → clear_in s ≡ false
not_clear s x t own e f i l h = all_clear (events_of s.events).kinds s.program.tasks s.machine.tasks s.machine.queues x t own e f i l h

blank_of : (k m : ℕ) (blank row : List ℕ) → slice_get (replicate k blank) m ≡ Some row → blank ≡ row
blank_of zero m blank row e = cc
blank_of (suc k) zero blank row e = cc
blank_of (suc k) (suc m) blank row e = blank_of k m blank row e

-- no task is in rows that are blank
pub none_in : (k w x m : ℕ) (row : List ℕ) → slice_get (replicate k (replicate w 0)) m ≡ Some row → bit row x ≡ 0
none_in k w x m row e = ap (λ ws. bit ws x) (sym (blank_of k m (replicate w 0) row e)) ∙ bit_blank w x

-- the monitor that an UNLOCK gives back
pub unlock_touches : (held : Option Held) (own : Own) → touched_by (unlocks held own) ≡ option_map (λ h. h.monitor) held
unlock_touches None own = refl
unlock_touches (Some h) own = refl

-- a task is clear that is at TAKE, where no message waits
pub clear_by : (t : Task) (own : Own) (q : List (List ℤ)) (a : Bool) → at_take t own ≡ a → is_clear t own q ≡ (a && not (nat_lt 0 (length q)))
clear_by t own [] true e = e
clear_by t own [] false e = e
clear_by t own (message ∷ rest) true e = let h : nat_lt 0 (length (message ∷ rest)) ≡ true = grind (arith, nat_tests) in rw h refl
clear_by t own (message ∷ rest) false e = refl
