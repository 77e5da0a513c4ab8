-- The theorem for the machine that runs a program.
use Rattle.std.proofs.Common.{◌≡◌, ℕ, suc, ◌<◌, ◌≤◌, ℤ, true, false, List, [], ◌∷◌, ◌++◌, Option, Some, None, refl, sym, ap, ap₂, ◌∙◌, subst, arith, slice_index, slice_get, length}
use Rattle.std.specs.Prelude.{◌==◌}
use Rattle.std.proofs.lemmas.Bool.{eq-eqb}
use Rattle.std.proofs.lemmas.Option.{same_Some}
use Rattle.tower_syntax.specs.Arch.{Arch, Entry, tick, signal, Events}
use Rattle.tower_syntax.specs.Typed.{IsTyped}
use Rattle.tower_syntax.specs.WellNumbered.{IsWellNumbered}
use Rattle.tower_meaning.specs.Atomic.{Fit}
use Rattle.task_code.specs.Program.{Program}
use Rattle.task_code.specs.declared.program.Task.{Task}
use Rattle.task_code.specs.Own.{Own}
use Rattle.task_code.specs.Does.{Does, Stuck, Private, Takes, Locks, Unlocks, Writes, at_take}
use Rattle.task_code.specs.Machine.{queue, next_does}
use Rattle.task_code.specs.Standing.{standing, is_clear}
use Rattle.task_code.specs.Run.{Run, Step, step, steps_from, reached, first_run, came, turned}
use Rattle.task_code.specs.Run as run
use Rattle.task_code.specs.Ceiling.{source_priority}
use Rattle.lock_reduction.specs.Reduce.{Sound}
use Rattle.stretch_law.specs.Machine.{Period, Tasks, Move, Turn, Tick, Sent, Clear}
use Rattle.stretch_law.specs.Machine as bounds
use Rattle.stretch_law.specs.Rules.{Clock, first_clock, passed, Then, Each, IsOrderly, IsTimely}
use Rattle.stretch_law.specs.Facts.{Facts}
use Rattle.stretch_law.proofs.Laws.{middle, bounded}
use Rattle.bound_law.specs.Seen.{tasks_of, seen_of, see, if_tick, if_signal, next, machine_of}
use Rattle.bound_law.specs.Moves.{move_of, moves_from}
use Rattle.bound_law.proofs.Arrivals.{entry_got}
use Rattle.bound_law.proofs.Reached.{came_is, sized}
use Rattle.bound_law.specs.Timed.{IsTimed, IsOrdered, IsBetween, Throughout, Meets}
use Rattle.bound_law.proofs.HasFacts.{Reached, TouchesDue, has_facts}
use Rattle.bound_law.proofs.Named.{named}
use Rattle.bound_law.specs.Bounds.{HasWindow, IsDue, IsAtRest, IsTimelyRun}
use Rattle.ceiling_law.proofs.Held.{if_ready_is}
use Rattle.ceiling_law.proofs.Named.{same_count}
use Rattle.ceiling_law.proofs.Due.{touches_due}
use Rattle.task_alone.proofs.Lists.{get_within}

module _ (arch : Arch) (p : Program) (events : Events) (numbered : IsWellNumbered arch) (typed : IsTyped arch) (sound : Sound arch p) (fit : Fit arch events) where
  abbrev T : Tasks
  T = tasks_of arch

  abbrev V : bounds.Machine Run
  V = machine_of p events

  there : TouchesDue arch p events
  there steps r a e ag x m due = touches_due arch events numbered r.marks a ag.replayed x m due

  facts : Facts T Run V (Reached p events)
  facts = has_facts arch p events sound fit there typed

  timely : (n rate gap : ℕ) (k : Clock) (r : Run) (m : Move) → Reached p events r → IsTimed arch p events n rate gap k r m → IsTimely T n Run V rate gap k r m
  timely n rate gap k r (Turn x) g h = (h.0, (h.1, h.2, named arch p events numbered sound fit there facts r g n h.3.0 x h.3.1))
  timely n rate gap k r Tick g h = (h.0, (h.1, h.2, h.3))
  timely n rate gap k r (Sent x) g h = (h.0, (h.1, h.2, h.3))

  then_more : (n : ℕ) (o : Option Run) (P Q : Run → Type 0) → ((r : Run) → o ≡ Some r → P r → Q r) → Then T n Run V o P → Then T n Run V o Q
  then_more n None P Q h x = x
  then_more n (Some r) P Q h x = h r refl x

  all_timely : (n rate gap : ℕ) (ms : List Move) (k : Clock) (r : Run) → Reached p events r → Each T n Run V (IsTimed arch p events n rate gap) k r ms → Each T n Run V (IsTimely T n Run V rate gap) k r ms
  all_timely n rate gap [] k r g h = tt
  all_timely n rate gap (m ∷ ms) k r g h = (
    timely n rate gap k r m g h.0,
    then_more n (V.next r m) (λ r'. Each T n Run V (IsTimed arch p events n rate gap) (passed T n Run V r m k) r' ms) (λ r'. Each T n Run V (IsTimely T n Run V rate gap) (passed T n Run V r m k) r' ms)
        (λ r' e. all_timely n rate gap ms (passed T n Run V r m k) r' (facts.goes_on r r' m g e)) h.1,
  )

  ordered : (n gap : ℕ) (k : Clock) (r : Run) (m : Move) → Reached p events r → IsOrdered arch p events n gap k r m → IsOrderly T n Run V gap k r m
  ordered n gap k r (Turn x) g h = (h.0, h.1, named arch p events numbered sound fit there facts r g n h.2.0 x h.2.1)
  ordered n gap k r Tick g h = (h.0, h.1, h.2)
  ordered n gap k r (Sent x) g h = (h.0, h.1, h.2)

  all_ordered : (n gap : ℕ) (ms : List Move) (k : Clock) (r : Run) → Reached p events r → Each T n Run V (IsOrdered arch p events n gap) k r ms → Each T n Run V (IsOrderly T n Run V gap) k r ms
  all_ordered n gap [] k r g h = tt
  all_ordered n gap (m ∷ ms) k r g h = (
    ordered n gap k r m g h.0,
    then_more n (V.next r m) (λ r'. Each T n Run V (IsOrdered arch p events n gap) (passed T n Run V r m k) r' ms) (λ r'. Each T n Run V (IsOrderly T n Run V gap) (passed T n Run V r m k) r' ms)
        (λ r' e. all_ordered n gap ms (passed T n Run V r m k) r' (facts.goes_on r r' m g e)) h.1,
  )

  pub between : (n gap : ℕ) (steps : List Step) → 1 ≤ gap → Throughout arch p events n (IsOrdered arch p events n gap) steps → Throughout arch p events n (IsBetween arch p events n gap) steps
  between n gap steps l h =
      middle T n Run V (Reached p events) facts gap l (moves_from events 0 steps)
      (all_ordered n gap (moves_from events 0 steps) first_clock (first_run p events) ([], refl) h)

  pub meets : (i ms rate gap w : ℕ) (steps : List Step) → 1 ≤ gap → i < length arch.sources → T.kind i ≡ Period ms → HasWindow arch rate gap i ms w → IsTimelyRun arch p events rate gap i steps
      → Throughout arch p events (source_priority arch i) (Meets arch p events (source_priority arch i) i ms) steps
  meets i ms rate gap w steps l inside k window h =
      bounded T (source_priority arch i) Run V (Reached p events) facts gap l i ms rate w inside k (omega arith) window (moves_from events 0 steps)
      (all_timely (source_priority arch i) rate gap (moves_from events 0 steps) first_clock (first_run p events) ([], refl) h)

  tick_same : (r : Run) (o : Option Entry) → slice_get events.entries r.machine.place ≡ o → next p events r (move_of o) ≡ step p events r run.Event
  tick_same r None e = ap (λ w. came events r (if_tick w)) e ∙ sym (ap (came events r) e)
  tick_same r (Some tick) e = ap (λ w. came events r (if_tick w)) e ∙ sym (ap (came events r) e)
  tick_same r (Some (signal x v)) e =
      let same : (x == x) ≡ true = eq-eqb x x refl in
      ap (λ w. came events r (if_signal x w)) e ∙ ap (λ b. came events r (elim b [ true ↦ Some (signal x v) | false ↦ None ])) same ∙ sym (ap (came events r) e)

  place_of : (x : ℕ) (r : Run) (d : Does) → (turned r x d).machine.place ≡ r.machine.place
  place_of x r Stuck = refl
  place_of x r (Private own) = refl
  place_of x r (Takes f) = refl
  place_of x r (Locks m f) = refl
  place_of x r (Unlocks h own) = refl
  place_of x r (Writes o ws own) = refl

  place_turn : (r r' : Run) (x : ℕ) → step p events r (run.Turn x) ≡ Some r' → r'.machine.place ≡ r.machine.place
  place_turn r r' x e =
      let k = if_ready_is (standing p events r.machine x) (turned r x (next_does p r.machine x)) r' e in
      sym (ap (λ w. w.machine.place) k.1) ∙ place_of x r (next_does p r.machine x)

  place_event : (r r' : Run) → step p events r run.Event ≡ Some r' → r'.machine.place ≡ suc r.machine.place
  place_event r r' e =
      let k = came_is events r r' (slice_get events.entries r.machine.place) e in
      ap (λ m. m.place) k.2 ∙ (entry_got events r.machine k.0).place

  some_of : (n : ℕ) (o : Option Run) (P : Run → Type 0) → Then T n Run V o P → (s : Run) × (o ≡ Some s) × P s
  some_of n None P h = absurd h
  some_of n (Some s) P h = (s, refl, h)

  module _ (n : ℕ) (P : Clock → Run → Move → Type 0) where
    abbrev Rest : ℕ → List Step → Clock → Run → Type 0
    Rest at ss k r = Each T n Run V P k r (moves_from events at ss)

    at_prefix : (pre post : List Step) (at : ℕ) (k : Clock) (q r : Run) → q.machine.place ≡ at → Rest at (pre ++ run.Event ∷ post) k q → steps_from p events (Some q) pre ≡ Some r → (k' : Clock) × P k' r (move_of (slice_get events.entries r.machine.place))
    at_prefix [] post at k q r l h e =
        let same : q ≡ r = same_Some q r e in
        (k, subst (λ w. P k w (move_of (slice_get events.entries w.machine.place))) same (subst (λ i. P k q (move_of (slice_get events.entries i))) (sym l) h.0))
    at_prefix (run.Turn x ∷ pre) post at k q r l h e =
        let s = some_of n (step p events q (run.Turn x)) (λ s. Rest at (pre ++ run.Event ∷ post) (passed T n Run V q (Turn x) k) s) h.1 in
        at_prefix pre post at (passed T n Run V q (Turn x) k) s.0 r (place_turn q s.0 x s.1 ∙ l) s.2 (subst (λ o. steps_from p events o pre ≡ Some r) s.1 e)
    at_prefix (run.Event ∷ pre) post at k q r l h e =
        let k' : Clock = passed T n Run V q (move_of (slice_get events.entries at)) k in
        let now = subst (λ o. Then T n Run V o (λ s. Rest (suc at) (pre ++ run.Event ∷ post) k' s)) (ap (λ i. next p events q (move_of (slice_get events.entries i))) (sym l) ∙ tick_same q (slice_get events.entries q.machine.place) refl) h.1 in
        let s = some_of n (step p events q run.Event) (λ s. Rest (suc at) (pre ++ run.Event ∷ post) k' s) now in
        at_prefix pre post (suc at) k' s.0 r (place_event q s.0 s.1 ∙ ap suc l) s.2 (subst (λ o. steps_from p events o pre ≡ Some r) s.1 e)

  is_empty : (t : Task) (own : Own) (q : List (List ℤ)) → at_take t own ≡ true → length q ≡ 0 → is_clear t own q ≡ true
  is_empty t own [] a e = a
  is_empty t own (m ∷ q) a e = absurd (omega (arith, e))

  -- task i rests just before each tick that brings i a message
  pub met_before : (i ms rate gap w : ℕ) (pre post : List Step) (r : Run) → 1 ≤ gap → i < length arch.sources → T.kind i ≡ Period ms → HasWindow arch rate gap i ms w
      → IsTimelyRun arch p events rate gap i (pre ++ run.Event ∷ post) → reached p events pre ≡ Some r → IsDue events ms r → IsAtRest p i r
  met_before i ms rate gap w pre post r l inside kd window h e d =
      let q : ℕ = source_priority arch i in
      let all = meets i ms rate gap w (pre ++ run.Event ∷ post) l inside kd window h in
      let here = at_prefix q (Meets arch p events q i ms) pre post 0 first_clock (first_run p events) r refl all e in
      let clear : Clear (see p r i) = subst (λ o. Meets arch p events q i ms here.0 r (move_of o)) d.entry here.1 d.due in
      let t = get_within p.tasks i (omega (arith, inside, same_count arch p sound)) in
      let own = get_within r.machine.tasks i (omega (arith, inside, same_count arch p sound, (sized p events pre r e).tasks)) in
      let sees : see p r i ≡ seen_of (Some t.0) (Some own.0) (queue r.machine i) (slice_index r.since i) = ap₂ (λ t own. seen_of t own (queue r.machine i) (slice_index r.since i)) t.1 own.1 in
      record {
        task = t.0;
        own = own.0;
        is = t.1;
        has = own.1;
        clear = is_empty t.0 own.0 (queue r.machine i) (sym (ap (λ o. o.rests) sees) ∙ clear.0) (sym (ap (λ o. o.queued) sees) ∙ clear.1);
      }

  -- ---- the moves of steps that are reached are defined

  some_step : (o : Option Run) (ss : List Step) (r : Run) → steps_from p events o ss ≡ Some r → (s : Run) × (o ≡ Some s)
  some_step (Some s) ss r e = (s, refl)
  some_step None [] r e = cc
  some_step None (x ∷ ss) r e = cc

  abbrev Any : Clock → Run → Move → Type 0
  Any k r m = Unit {0}

  defined_from : (n : ℕ) (ss : List Step) (at : ℕ) (k : Clock) (q r : Run) → q.machine.place ≡ at → steps_from p events (Some q) ss ≡ Some r → Each T n Run V Any k q (moves_from events at ss)
  defined_from n [] at k q r l e = tt
  defined_from n (run.Turn x ∷ ss) at k q r l e =
      let s = some_step (step p events q (run.Turn x)) ss r e in
      let rest = defined_from n ss at (passed T n Run V q (Turn x) k) s.0 r (place_turn q s.0 x s.1 ∙ l) (subst (λ o. steps_from p events o ss ≡ Some r) s.1 e) in
      (tt, subst (λ o. Then T n Run V o (λ w. Each T n Run V Any (passed T n Run V q (Turn x) k) w (moves_from events at ss))) (sym s.1) rest)
  defined_from n (run.Event ∷ ss) at k q r l e =
      let s = some_step (step p events q run.Event) ss r e in
      let k' : Clock = passed T n Run V q (move_of (slice_get events.entries at)) k in
      let rest = defined_from n ss (suc at) k' s.0 r (place_event q s.0 s.1 ∙ ap suc l) (subst (λ o. steps_from p events o ss ≡ Some r) s.1 e) in
      let same = ap (λ i. next p events q (move_of (slice_get events.entries i))) (sym l) ∙ tick_same q (slice_get events.entries q.machine.place) refl ∙ s.1 in
      (tt, subst (λ o. Then T n Run V o (λ w. Each T n Run V Any k' w (moves_from events (suc at) ss))) (sym same) rest)

  pub defined : (n : ℕ) (steps : List Step) (r : Run) → reached p events steps ≡ Some r → Throughout arch p events n Any steps
  defined n steps r e = defined_from n steps 0 first_clock (first_run p events) r refl e
