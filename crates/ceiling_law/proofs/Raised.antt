-- By the ceiling rule at most one task that is less urgent than a number holds a monitor whose ceiling is that or more.
use Rattle.std.proofs.Common.{◌≡◌, ◌∙◌, inl, inr, ℕ, zero, suc, ◌<◌, ℤ, Bool, true, false, cond, List, [], ◌∷◌, ◌++◌, map, fold, take, length, Option, Some, None, refl, sym, ap, subst, arith, slice_get, slice_set, slice_index, slice_index_or, option_map}
use Rattle.std.specs.Prelude.{is_some}
use Rattle.std.proofs.lemmas.Bool.{cases_eq}
use Rattle.std.proofs.lemmas.Option.{same_Some, get_or_from_slice_get, slice_get_within, slice_get-map}
use Rattle.tower_types.specs.Value.{flat}
use Rattle.tower_syntax.specs.Arch.{Arch, Entry, Events}
use Rattle.tower_syntax.specs.Arrival.{ticks, brought, is_full}
use Rattle.tower_syntax.specs.WellNumbered.{IsWellNumbered}
use Rattle.tower_meaning.specs.Atomic.{Fit}
use Rattle.task_code.specs.declared.program.Task.{Task}
use Rattle.task_code.specs.Program.{Program}
use Rattle.task_code.specs.Own.{Own, held_monitor, first_own}
use Rattle.task_code.specs.Does.{Does, Stuck, Private, Takes, Locks, Unlocks, Writes, does, at_take}
use Rattle.task_code.specs.Machine.{Machine, queue, task_does, next_does, bring, received}
use Rattle.task_code.specs.Standing.{IsStuck, IsReady, standing, standing_of, is_ready}
use Rattle.task_code.specs.Run.{Run, Step, Turn, Event, turned, came, step, steps_from, first_run, reached}
use Rattle.task_code.specs.Policy.{priorities}
use Rattle.task_code.specs.Ceiling.{is_holder, ceiling}
use Rattle.task_alone.proofs.Lists.{get_set_same, get_set_other, get_map}
use Rattle.lock_reduction.specs.Reduce.{Sound}
use Rattle.lock_reduction.proofs.Kept.{Keeps, does_keeps, at_private, at_takes, at_locks, at_unlocks, at_writes}
use Rattle.channel_graph.proofs.Members.{has_filter, below_number}
use Rattle.ceiling_law.specs.ByPolicy.{IsNamed, GoBy}
use Rattle.ceiling_law.specs.Ceilings.{Holds, IsRaised, OneIsRaised, OneIsRaisedByRule}
use Rattle.ceiling_law.proofs.Held.{if_ready_is, ready_there, holder_is, goes_on}
use Rattle.ceiling_law.proofs.Named.{goes, numbers, active_of_holder, active_of_other, named_is}

-- ---- what is held after a step

held_other : (tasks : List Own) (x y : ℕ) (v : Own) → (x ≡ y → ⊥) → slice_get (map held_monitor (slice_set tasks x v)) y ≡ slice_get (map held_monitor tasks) y
held_other tasks x y v n = slice_get-map held_monitor (slice_set tasks x v) y ∙ ap (option_map held_monitor) (get_set_other tasks x y v n) ∙ sym (slice_get-map held_monitor tasks y)

held_here : (tasks : List Own) (x : ℕ) (old v : Own) → slice_get tasks x ≡ Some old → slice_get (map held_monitor (slice_set tasks x v)) x ≡ Some (held_monitor v)
held_here tasks x old v e = get_map held_monitor (slice_set tasks x v) x v (get_set_same tasks x old v e)

not_some : (m : ℕ) (o : Option ℕ) → o ≡ None → Some o ≡ Some (Some m) → ⊥
not_some m None e h = cc
not_some m (Some k) e h = cc

none_monitor : (own : Own) → own.held ≡ None → held_monitor own ≡ None
none_monitor own e = ap (option_map (λ h. h.monitor)) e

-- who holds a monitor after a step held it before, or has stepped and held none
data Holding (r : Run) (x y m : ℕ) : Type 0 where
  before : Holds r y m → Holding r x y m
  fresh : y ≡ x → is_holder (map held_monitor r.machine.tasks) x ≡ false → Holding r x y m

module _ (r : Run) (x : ℕ) (own : Own) (has : slice_get r.machine.tasks x ≡ Some own) where
  -- the task that stepped holds what it held
  same_hold : (v : Own) (y m : ℕ) → held_monitor v ≡ held_monitor own → slice_get (map held_monitor (slice_set r.machine.tasks x v)) y ≡ Some (Some m) → Holding r x y m
  same_hold v y m e h = elim (cases_eq x y) [
    | inl s ↦
        let now : Some (held_monitor v) ≡ Some (Some m) = sym (held_here r.machine.tasks x own v has) ∙ ap (slice_get (map held_monitor (slice_set r.machine.tasks x v))) s ∙ h in
        before (ap (slice_get (map held_monitor r.machine.tasks)) (sym s) ∙ get_map held_monitor r.machine.tasks x own has ∙ ap Some (sym e) ∙ now)
    | inr n ↦ before (sym (held_other r.machine.tasks x y v n) ∙ h)
  ]

  -- it holds none
  no_hold : (v : Own) (y m : ℕ) → v.held ≡ None → slice_get (map held_monitor (slice_set r.machine.tasks x v)) y ≡ Some (Some m) → Holding r x y m
  no_hold v y m e h = elim (cases_eq x y) [
    | inl s ↦
        let now : Some (held_monitor v) ≡ Some (Some m) = sym (held_here r.machine.tasks x own v has) ∙ ap (slice_get (map held_monitor (slice_set r.machine.tasks x v))) s ∙ h in
        absurd (not_some m (held_monitor v) (none_monitor v e) now)
    | inr n ↦ before (sym (held_other r.machine.tasks x y v n) ∙ h)
  ]

  -- it held none
  new_hold : (v : Own) (y m : ℕ) → own.held ≡ None → slice_get (map held_monitor (slice_set r.machine.tasks x v)) y ≡ Some (Some m) → Holding r x y m
  new_hold v y m e h = elim (cases_eq x y) [
    | inl s ↦ fresh (sym s) (ap is_some (get_or_from_slice_get (map held_monitor r.machine.tasks) x (held_monitor own) None (get_map held_monitor r.machine.tasks x own has) ∙ none_monitor own e))
    | inr n ↦ before (sym (held_other r.machine.tasks x y v n) ∙ h)
  ]

  after_turn : (p : Program) (t : Task) (d : Does) → (d ≡ Stuck → ⊥) → Keeps t.buffers own (at_take t own) d → (y m : ℕ) → Holds (turned r x d) y m → Holding r x y m
  after_turn p t Stuck n k y m h = absurd (n refl)
  after_turn p t (Private v) n k y m h = same_hold v y m (at_private k).0 h
  after_turn p t (Takes f) n k y m h = no_hold _ y m ((at_takes k).2 _) h
  after_turn p t (Locks j f) n k y m h = new_hold _ y m (at_locks k).0 h
  after_turn p t (Unlocks w v) n k y m h = no_hold v y m (at_unlocks k).1 h
  after_turn p t (Writes o ws v) n k y m h = no_hold v y m (at_writes k).1 h

-- ---- an entry changes no task

either_tasks : (b : Bool) (u w m : Machine) → u.tasks ≡ m.tasks → w.tasks ≡ m.tasks → (cond b u w).tasks ≡ m.tasks
either_tasks true u w m e h = e
either_tasks false u w m e h = h

brought_tasks : (depths : List (Option ℕ)) (bs : List (ℕ × List ℤ)) (m : Machine) → (fold (bring depths) m bs).tasks ≡ m.tasks
brought_tasks depths [] m = refl
brought_tasks depths (b ∷ bs) m =
    brought_tasks depths bs (bring depths m b) ∙ either_tasks (is_full (slice_index_or depths b.0 None) (length (queue m b.0))) _ _ m refl refl

received_tasks : (events : Events) (m : Machine) (e : Entry) → (received events m e).tasks ≡ m.tasks
received_tasks events m e = brought_tasks events.depths (map (λ b. (b.0, flat b.1)) (brought events.kinds (ticks (take (suc m.place) events.entries)) e)) (record m { place = suc m.place })

came_tasks : (events : Events) (r r' : Run) (o : Option Entry) → came events r o ≡ Some r' → r'.machine.tasks ≡ r.machine.tasks
came_tasks events r r' None e = cc
came_tasks events r r' (Some n) e = sym (ap (λ r. r.machine.tasks) (same_Some _ r' e)) ∙ received_tasks events r.machine n

-- ---- a ready task

own_there : (p : Program) (events : Events) (m : Machine) (x : ℕ) (a : Option Task) (b : Option Own) → slice_get m.tasks x ≡ b → task_does p a b ≡ next_does p m x → standing p events m x ≡ IsReady
    → (own : Own) × (slice_get m.tasks x ≡ Some own)
own_there p events m x None b i e s = let u : IsStuck ≡ IsReady = ap (standing_of p events m x) e ∙ s in cc
own_there p events m x (Some t) None i e s = let u : IsStuck ≡ IsReady = ap (standing_of p events m x) e ∙ s in cc
own_there p events m x (Some t) (Some own) i e s = (own, i)

module _ (arch : Arch) (p : Program) (events : Events) (numbered : IsWellNumbered arch) (sound : Sound arch p) (fit : Fit arch events) where
  module _ (steps : List Step) (r : Run) (e : reached p events steps ≡ Some r) (one : OneIsRaised arch p r) where
    -- a task that steps by the rule and held nothing is at least as urgent as each that holds
    low_steps : (x y n : ℕ) → IsNamed (ceiling arch p) p events r (Turn x) → is_holder (map held_monitor r.machine.tasks) x ≡ false → slice_index (priorities p) x < n → IsRaised arch p n r y → ⊥
    low_steps x y n named free low raised =
        let f = named_is arch p events numbered sound fit steps r e named.0 x named.1 in
        let o = holder_is arch p events numbered sound fit steps r e y raised.monitor raised.holds in
        let t = ready_there p events r.machine y o.ready in
        let i = has_filter (goes arch p events numbered sound fit steps r e) (numbers arch p events numbered sound fit steps r e) y (below_number (length p.tasks) y (slice_get_within p.tasks y t.0 t.1)) (ap is_ready o.ready) in
        omega (
          arith,
          f.greatest y i,
          low,
          raised.high,
          active_of_holder arch p events numbered sound fit steps r e y raised.monitor raised.holds,
          active_of_other arch p events numbered sound fit steps r e x free,
        )

    one_after : (r' : Run) (x : ℕ) → IsNamed (ceiling arch p) p events r (Turn x) → ((y m : ℕ) → Holds r' y m → Holding r x y m) → OneIsRaised arch p r'
    one_after r' x named h n a b ra rb = elim (h a ra.monitor ra.holds) [
      | before ha ↦ elim (h b rb.monitor rb.holds) [
        | before hb ↦
            one n a b (record { low = ra.low; monitor = ra.monitor; holds = ha; high = ra.high }) (record { low = rb.low; monitor = rb.monitor; holds = hb; high = rb.high })
        | fresh eb free ↦
            absurd (low_steps x a n named free (subst (λ z. slice_index (priorities p) z < n) eb rb.low) (record { low = ra.low; monitor = ra.monitor; holds = ha; high = ra.high }))
      ]
      | fresh ea free ↦ elim (h b rb.monitor rb.holds) [
        | before hb ↦
            absurd (low_steps x b n named free (subst (λ z. slice_index (priorities p) z < n) ea ra.low) (record { low = rb.low; monitor = rb.monitor; holds = hb; high = rb.high }))
        | fresh eb free' ↦ ea ∙ sym eb
      ]
    ]

    turn_keeps : (r' : Run) (x : ℕ) → IsNamed (ceiling arch p) p events r (Turn x) → step p events r (Turn x) ≡ Some r' → OneIsRaised arch p r'
    turn_keeps r' x named s =
        let k = if_ready_is (standing p events r.machine x) (turned r x (next_does p r.machine x)) r' s in
        let t = ready_there p events r.machine x k.0 in
        let o = own_there p events r.machine x (slice_get p.tasks x) (slice_get r.machine.tasks x) refl refl k.0 in
        let ag = sound.agrees events steps r fit e in
        let same : next_does p r.machine x ≡ does p t.0 o.0 = ap (λ a. task_does p a (slice_get r.machine.tasks x)) t.1 ∙ ap (task_does p (Some t.0)) o.1 in
        let ready : standing_of p events r.machine x (does p t.0 o.0) ≡ IsReady = sym (ap (standing_of p events r.machine x) same) ∙ k.0 in
        let kept : Keeps t.0.buffers o.0 (at_take t.0 o.0) (does p t.0 o.0) = does_keeps p t.0 o.0 (ag.1.buffers x t.0 o.0 t.1 o.1) in
        one_after r' x named (λ y m h. after_turn r x o.0 o.1 p t.0 (does p t.0 o.0)
        (λ stuck. let u : IsStuck ≡ IsReady = sym (ap (standing_of p events r.machine x) stuck) ∙ ready in cc)
        kept y m (subst (λ w. Holds w y m) (sym k.1 ∙ ap (turned r x) same) h))

    event_keeps : (r' : Run) → step p events r Event ≡ Some r' → OneIsRaised arch p r'
    event_keeps r' s n a b ra rb =
        let same = came_tasks events r r' (slice_get events.entries r.machine.place) s in
        one n a b
        (record { low = ra.low; monitor = ra.monitor; holds = sym (ap (λ ts. slice_get (map held_monitor ts) a) same) ∙ ra.holds; high = ra.high })
        (record { low = rb.low; monitor = rb.monitor; holds = sym (ap (λ ts. slice_get (map held_monitor ts) b) same) ∙ rb.holds; high = rb.high })

    step_keeps : (r' : Run) (s : Step) → IsNamed (ceiling arch p) p events r s → step p events r s ≡ Some r' → OneIsRaised arch p r'
    step_keeps r' (Turn x) named s = turn_keeps r' x named s
    step_keeps r' Event named s = event_keeps r' s

  record Kept (r : Run) : Type 0 where
    steps : List Step
    reaches : reached p events steps ≡ Some r
    one : OneIsRaised arch p r

  keeps : (ss : List Step) (o : Option Run) (r' : Run) → ((r : Run) → o ≡ Some r → Kept r) → GoBy (ceiling arch p) p events o ss → steps_from p events o ss ≡ Some r' → OneIsRaised arch p r'
  keeps [] o r' h g e = (h r' e).one
  keeps (s ∷ ss) None r' h g e = cc
  keeps (s ∷ ss) (Some r) r' h g e =
      let k = h r refl in
      keeps ss (step p events r s) r'
      (λ q i. record { steps = k.steps ++ s ∷ []; reaches = goes_on p events k.steps (Some (first_run p events)) r q s k.reaches i; one = step_keeps k.steps r k.reaches k.one q s g.0 i })
      g.1 e

  -- at the start no task holds a monitor
  none_first : (ts : List Task) (x m : ℕ) → slice_get (map held_monitor (map first_own ts)) x ≡ Some (Some m) → ⊥
  none_first [] x m e = cc
  none_first (t ∷ ts) zero m e = cc
  none_first (t ∷ ts) (suc x) m e = none_first ts x m e

  first_kept : (r : Run) → Some (first_run p events) ≡ Some r → Kept r
  first_kept r e = subst Kept (same_Some (first_run p events) r e) (record { steps = []; reaches = refl; one = λ n a b ra rb. absurd (none_first p.tasks a ra.monitor ra.holds) })

pub one_is_raised : (arch : Arch) (p : Program) → IsWellNumbered arch → Sound arch p → OneIsRaisedByRule arch p
one_is_raised arch p numbered sound events steps r fit g e = keeps arch p events numbered sound fit steps (Some (first_run p events)) r (first_kept arch p events numbered sound fit) g e
