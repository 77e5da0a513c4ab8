-- How the locks stand in each state that a sound program reaches.
use Rattle.std.proofs.Common.{◌≡◌, ◌≢◌, ◌∙◌, ℕ, suc, ◌<◌, ℤ, Bool, true, false, cond, List, [], ◌∷◌, ◌++◌, map, fold, take, length, Option, Some, None, refl, sym, ap, subst, arith, slice_get, slice_index_or, length-set}
use Rattle.std.proofs.lemmas.List.{length-map}
use Rattle.std.proofs.lemmas.Option.{same_Some, none-some}
use Rattle.tower_types.specs.Value.{flat}
use Rattle.tower_syntax.specs.Arch.{Arch, Entry, Events}
use Rattle.tower_syntax.specs.Arrival.{ticks, brought, is_full}
use Rattle.tower_syntax.specs.WellNumbered.{IsWellNumbered}
use Rattle.tower_syntax.specs.Weights.{monitor_words}
use Rattle.tower_meaning.specs.Atomic.{Atomic, Fit}
use Rattle.task_code.specs.declared.program.Task.{Task}
use Rattle.task_code.specs.Program.{Program}
use Rattle.task_code.specs.Own.{Own}
use Rattle.task_code.specs.Does.{Does, Stuck, Private, Takes, Locks, Unlocks, Writes, does}
use Rattle.task_code.specs.Machine.{Lock, Free, HeldBy, Machine, queue, task_does, next_does, after, bring, received}
use Rattle.task_code.specs.Standing.{Standing, IsStuck, IsIdle, IsWaiting, IsReady, standing, standing_of, at_queue, at_lock, held_back}
use Rattle.task_code.specs.Run.{Run, Step, Turn, Event, turned, if_ready, came, step, steps_from, first_run, reached}
use Rattle.task_code.specs.Ceiling.{touches}
use Rattle.task_alone.specs.SettingOf.{setting_of}
use Rattle.task_alone.proofs.Lists.{get_within}
use Rattle.lock_reduction.specs.Reduce.{Sound}
use Rattle.lock_reduction.specs.Sound.{Agrees}
use Rattle.ceiling_law.specs.Ceilings.{Holds}
use Rattle.ceiling_law.proofs.Due.{touches_due}

-- ---- each monitor has a lock

after_locks : (m : Machine) (x : ℕ) (d : Does) → length (after m x d).locks ≡ length m.locks
after_locks m x Stuck = refl
after_locks m x (Private own) = refl
after_locks m x (Takes f) = refl
after_locks m x (Locks k f) = length-set m.locks k _
after_locks m x (Unlocks h own) = length-set m.locks h.monitor _
after_locks m x (Writes o ws own) = refl

either_locks : (b : Bool) (u w m : Machine) → u.locks ≡ m.locks → w.locks ≡ m.locks → (cond b u w).locks ≡ m.locks
either_locks true u w m e h = e
either_locks false u w m e h = h

brought_locks : (depths : List (Option ℕ)) (bs : List (ℕ × List ℤ)) (m : Machine) → (fold (bring depths) m bs).locks ≡ m.locks
brought_locks depths [] m = refl
brought_locks depths (b ∷ bs) m =
    brought_locks depths bs (bring depths m b) ∙ either_locks (is_full (slice_index_or depths b.0 None) (length (queue m b.0))) _ _ m refl refl

received_locks : (events : Events) (m : Machine) (e : Entry) → (received events m e).locks ≡ m.locks
received_locks events m e = brought_locks events.depths (map (λ b. (b.0, flat b.1)) (brought events.kinds (ticks (take (suc m.place) events.entries)) e)) (record m { place = suc m.place })

pub if_ready_is : (k : Standing) (r r' : Run) → if_ready k r ≡ Some r' → (k ≡ IsReady) × (r ≡ r')
if_ready_is IsStuck r r' e = cc
if_ready_is IsIdle r r' e = cc
if_ready_is (IsWaiting m) r r' e = cc
if_ready_is IsReady r r' e = (refl, same_Some r r' e)

module _ (p : Program) (events : Events) where
  came_locks : (r r' : Run) (o : Option Entry) → came events r o ≡ Some r' → length r'.machine.locks ≡ length r.machine.locks
  came_locks r r' None e = cc
  came_locks r r' (Some n) e = sym (ap (λ r. length r.machine.locks) (same_Some _ r' e)) ∙ ap length (received_locks events r.machine n)

  step_locks : (r r' : Run) (s : Step) → step p events r s ≡ Some r' → length r'.machine.locks ≡ length r.machine.locks
  step_locks r r' (Turn x) e =
      let k = if_ready_is (standing p events r.machine x) (turned r x (next_does p r.machine x)) r' e in
      sym (ap (λ r. length r.machine.locks) k.1) ∙ after_locks r.machine x (next_does p r.machine x)
  step_locks r r' Event e = came_locks r r' (slice_get events.entries r.machine.place) e

  locks_from : (ss : List Step) (o : Option Run) (r' : Run) → ((r : Run) → o ≡ Some r → length r.machine.locks ≡ length p.monitors) → steps_from p events o ss ≡ Some r' → length r'.machine.locks ≡ length p.monitors
  locks_from [] o r' h e = h r' e
  locks_from (s ∷ ss) None r' h e = cc
  locks_from (s ∷ ss) (Some r) r' h e = locks_from ss (step p events r s) r' (λ q k. step_locks r q s k ∙ h r refl) e

  locks_there : (ss : List Step) (r : Run) → reached p events ss ≡ Some r → length r.machine.locks ≡ length p.monitors
  locks_there ss r e =
      locks_from ss (Some (first_run p events)) r (λ q k. sym (ap (λ r. length r.machine.locks) (same_Some (first_run p events) q k)) ∙ length-map p.monitors _) e

-- ---- what a standing says

record DoesLock (p : Program) (m : Machine) (x k : ℕ) : Type 0 where
  t : Task
  own : Own
  f : List ℤ → Own
  is : slice_get p.tasks x ≡ Some t
  has : slice_get m.tasks x ≡ Some own
  locks : does p t own ≡ Locks k f
  waits : at_lock k (slice_get m.locks k) ≡ IsWaiting k

not_waiting : (b : Bool) (q : List (List ℤ)) (k : ℕ) → at_queue b q ≡ IsWaiting k → ⊥
not_waiting true q k e = cc
not_waiting false [] k e = cc
not_waiting false (m ∷ rest) k e = cc

same_lock : (j k : ℕ) (o : Option Lock) → at_lock j o ≡ IsWaiting k → j ≡ k
same_lock j k None e = cc
same_lock j k (Some (Free ws)) e = cc
same_lock j k (Some (HeldBy y)) e = cc

waits_at : (p : Program) (events : Events) (m : Machine) (x k : ℕ) (d : Does) → standing_of p events m x d ≡ IsWaiting k → (f : (List ℤ → Own)) × (d ≡ Locks k f) × (at_lock k (slice_get m.locks k) ≡ IsWaiting k)
waits_at p events m x k Stuck e = cc
waits_at p events m x k (Private own) e = cc
waits_at p events m x k (Takes f) e = absurd (not_waiting (held_back p events m x) (queue m x) k e)
waits_at p events m x k (Locks j f) e =
    let s : j ≡ k = same_lock j k (slice_get m.locks j) e in
    (f, ap (λ j. Locks j f) s, subst (λ j. at_lock j (slice_get m.locks j) ≡ IsWaiting k) s e)
waits_at p events m x k (Unlocks h own) e = cc
waits_at p events m x k (Writes o ws own) e = cc

does_lock : (p : Program) (m : Machine) (x k : ℕ) (f : List ℤ → Own) (a : Option Task) (b : Option Own) → slice_get p.tasks x ≡ a → slice_get m.tasks x ≡ b → task_does p a b ≡ Locks k f
    → at_lock k (slice_get m.locks k) ≡ IsWaiting k → DoesLock p m x k
does_lock p m x k f None b i h e w = cc
does_lock p m x k f (Some t) None i h e w = cc
does_lock p m x k f (Some t) (Some own) i h e w = record { t = t; own = own; f = f; is = i; has = h; locks = e; waits = w }

waits_to_lock : (p : Program) (events : Events) (m : Machine) (x k : ℕ) → standing p events m x ≡ IsWaiting k → DoesLock p m x k
waits_to_lock p events m x k e =
    let w = waits_at p events m x k (next_does p m x) e in
    does_lock p m x k w.0 (slice_get p.tasks x) (slice_get m.tasks x) refl refl w.1 w.2

stuck_past : (p : Program) (a : Option Task) (b : Option Own) → a ≡ None → task_does p a b ≡ Stuck
stuck_past p None b e = refl
stuck_past p (Some t) b e = cc

there_or_not : (p : Program) (events : Events) (m : Machine) (x : ℕ) (a : Option Task) → slice_get p.tasks x ≡ a → standing p events m x ≡ IsReady → (t : Task) × (slice_get p.tasks x ≡ Some t)
there_or_not p events m x None i e =
    let s : IsStuck ≡ IsReady = sym (ap (standing_of p events m x) (stuck_past p (slice_get p.tasks x) (slice_get m.tasks x) i)) ∙ e in
    cc
there_or_not p events m x (Some t) i e = (t, i)

-- a ready task is one of the program
pub ready_there : (p : Program) (events : Events) (m : Machine) (x : ℕ) → standing p events m x ≡ IsReady → (t : Task) × (slice_get p.tasks x ≡ Some t)
ready_there p events m x e = there_or_not p events m x (slice_get p.tasks x) refl e

-- ---- holders, and those who wait for them

pub record IsHolder (arch : Arch) (p : Program) (events : Events) (r : Run) (x m : ℕ) : Type 0 where
  pub ready : standing p events r.machine x ≡ IsReady
  pub exists : m < length arch.monitors
  pub touches : touches arch x m ≡ true

pub record WaitsFor (arch : Arch) (r : Run) (x m : ℕ) : Type 0 where
  pub exists : m < length arch.monitors
  pub touches : touches arch x m ≡ true
  pub holder : ℕ
  pub holds : Holds r holder m

module _ (arch : Arch) (p : Program) (events : Events) (numbered : IsWellNumbered arch) (sound : Sound arch p) (fit : Fit arch events) (steps : List Step) (r : Run) (e : reached p events steps ≡ Some r) where
  agreement : (a : Atomic) × Agrees (setting_of arch) p events r a
  agreement = sound.agrees events steps r fit e

  abbrev agrees : Agrees (setting_of arch) p events r agreement.0
  agrees = agreement.1

  pub holder_is : (x m : ℕ) → Holds r x m → IsHolder arch p events r x m
  holder_is x m h =
      let d = touches_due arch events numbered r.marks agreement.0 agrees.replayed x m (agrees.holds_due x m h) in
      record { ready = agrees.holder_ready x m h; exists = d.0; touches = d.1 }

  held_by : (x m : ℕ) → m < length arch.monitors → touches arch x m ≡ true → (o : Option Lock) → slice_get r.machine.locks m ≡ o → at_lock m o ≡ IsWaiting m → WaitsFor arch r x m
  held_by x m l t None i w =
      let long : length p.monitors ≡ length arch.monitors = ap length sound.shaped.monitors ∙ length-map arch.monitors (monitor_words arch) in
      let there = get_within r.machine.locks m (omega (arith, l, long, locks_there p events steps r e)) in
      absurd (none-some there.0 (sym i ∙ there.1))
  held_by x m l t (Some (Free ws)) i w = cc
  held_by x m l t (Some (HeldBy y)) i w = record { exists = l; touches = t; holder = y; holds = agrees.holders m y i }

  pub waiter_is : (x m : ℕ) → standing p events r.machine x ≡ IsWaiting m → WaitsFor arch r x m
  waiter_is x m w =
      let k = waits_to_lock p events r.machine x m w in
      let d = touches_due arch events numbered r.marks agreement.0 agrees.replayed x m (agrees.locks_due x k.t k.own m k.f k.is k.has k.locks) in
      held_by x m d.0 d.1 (slice_get r.machine.locks m) refl k.waits

  pub never_stuck : (x : ℕ) → x < length p.tasks → standing p events r.machine x ≢ IsStuck
  never_stuck = agrees.never_stuck

-- what is reached goes on
pub goes_on : (p : Program) (events : Events) (ss : List Step) (o : Option Run) (r r' : Run) (s : Step) → steps_from p events o ss ≡ Some r → step p events r s ≡ Some r' → steps_from p events o (ss ++ s ∷ []) ≡ Some r'
goes_on p events [] o r r' s e h = subst (λ o. steps_from p events o (s ∷ []) ≡ Some r') (sym e) h
goes_on p events (x ∷ ss) None r r' s e h = cc
goes_on p events (x ∷ ss) (Some q) r r' s e h = goes_on p events ss (step p events q x) r r' s e h
