-- Steps of the machine: what has a length keeps it, and an instruction changes only its task.
use Rattle.std.proofs.Common.{◌≡◌, ◌<◌, ℕ, zero, suc, List, [], ◌∷◌, length, Option, Some, None, refl, sym, ap, ◌∙◌, subst, arith, slice_get, slice_set, slice_index, slice_index_or, length-set}
use Rattle.std.proofs.lemmas.List.{length-map}
use Rattle.std.proofs.lemmas.Option.{same_Some}
use Rattle.tower_syntax.specs.Arch.{Entry, Events}
use Rattle.task_code.specs.Program.{Program}
use Rattle.task_code.specs.Own.{first_own}
use Rattle.task_code.specs.Does.{Does, Stuck, Private, Takes, Locks, Unlocks, Writes}
use Rattle.task_code.specs.Machine.{queue, next_does, received, first_queue}
use Rattle.task_code.specs.Standing.{standing}
use Rattle.task_code.specs.Run.{Run, Step, Turn, Event, step, steps_from, reached, first_run, came, turned}
use Rattle.task_alone.proofs.Lists.{get_set_other}
use Rattle.ceiling_law.proofs.Held.{if_ready_is}
use Rattle.bound_law.proofs.Arrivals.{entry_got}

pub or_set_other : {X : Type 0} (xs : List X) (i j : ℕ) (v d : X) → (i ≡ j → ⊥) → slice_index_or (slice_set xs i v) j d ≡ slice_index_or xs j d
or_set_other [] i j v d ne = refl
or_set_other (x ∷ xs) zero zero v d ne = absurd (ne refl)
or_set_other (x ∷ xs) zero (suc j) v d ne = refl
or_set_other (x ∷ xs) (suc i) zero v d ne = refl
or_set_other (x ∷ xs) (suc i) (suc j) v d ne = or_set_other xs i j v d (λ e. ne (ap suc e))

pub or_set_same : {X : Type 0} (xs : List X) (i : ℕ) (v d : X) → i < length xs → slice_index_or (slice_set xs i v) i d ≡ v
or_set_same [] i v d l = absurd (omega (arith, l))
or_set_same (x ∷ xs) zero v d l = refl
or_set_same (x ∷ xs) (suc i) v d l = or_set_same xs i v d (omega (arith, l))

pub record Sized (p : Program) (events : Events) (r : Run) : Type 0 where
  pub tasks : length r.machine.tasks ≡ length p.tasks
  pub since : length r.since ≡ length p.tasks
  pub locks : length r.machine.locks ≡ length p.monitors
  pub queues : length r.machine.queues ≡ length events.kinds

sized_turned : (p : Program) (events : Events) (r : Run) (x : ℕ) (d : Does) → Sized p events r → Sized p events (turned r x d)
sized_turned p events r x Stuck s = record { tasks = s.tasks; since = length-set r.since x _ ∙ s.since; locks = s.locks; queues = s.queues }
sized_turned p events r x (Private own) s = record { tasks = length-set r.machine.tasks x _ ∙ s.tasks; since = length-set r.since x _ ∙ s.since; locks = s.locks; queues = s.queues }
sized_turned p events r x (Takes f) s = record { tasks = length-set r.machine.tasks x _ ∙ s.tasks; since = length-set r.since x _ ∙ s.since; locks = s.locks; queues = length-set r.machine.queues x _ ∙ s.queues }
sized_turned p events r x (Locks m f) s = record { tasks = length-set r.machine.tasks x _ ∙ s.tasks; since = length-set r.since x _ ∙ s.since; locks = length-set r.machine.locks m _ ∙ s.locks; queues = s.queues }
sized_turned p events r x (Unlocks h own) s = record { tasks = length-set r.machine.tasks x _ ∙ s.tasks; since = length-set r.since x _ ∙ s.since; locks = length-set r.machine.locks h.monitor _ ∙ s.locks; queues = s.queues }
sized_turned p events r x (Writes o ws own) s = record { tasks = length-set r.machine.tasks x _ ∙ s.tasks; since = length-set r.since x _ ∙ s.since; locks = s.locks; queues = s.queues }

pub came_is : (events : Events) (r r' : Run) (o : Option Entry) → came events r o ≡ Some r' → (e : Entry) × (o ≡ Some e) × (r'.machine ≡ received events r.machine e) × (r'.since ≡ r.since)
came_is events r r' None e = cc
came_is events r r' (Some n) e = let k = same_Some _ r' e in (n, refl, sym (ap (λ r. r.machine) k), sym (ap (λ r. r.since) k))

module _ (p : Program) (events : Events) where
  sized_came : (r r' : Run) (o : Option Entry) → Sized p events r → came events r o ≡ Some r' → Sized p events r'
  sized_came r r' o s e =
      let k = came_is events r r' o e in
      let got = entry_got events r.machine k.0 in
      record {
        tasks = ap (λ m. length m.tasks) k.2 ∙ ap length got.tasks ∙ s.tasks;
        since = ap length k.3 ∙ s.since;
        locks = ap (λ m. length m.locks) k.2 ∙ ap length got.locks ∙ s.locks;
        queues = ap (λ m. length m.queues) k.2 ∙ got.long ∙ s.queues;
      }

  sized_step : (r r' : Run) (s : Step) → Sized p events r → step p events r s ≡ Some r' → Sized p events r'
  sized_step r r' (Turn x) s e =
      let k = if_ready_is (standing p events r.machine x) (turned r x (next_does p r.machine x)) r' e in
      subst (Sized p events) k.1 (sized_turned p events r x (next_does p r.machine x) s)
  sized_step r r' Event s e = sized_came r r' (slice_get events.entries r.machine.place) s e

  sized_from : (ss : List Step) (o : Option Run) (r' : Run) → ((r : Run) → o ≡ Some r → Sized p events r) → steps_from p events o ss ≡ Some r' → Sized p events r'
  sized_from [] o r' s e = s r' e
  sized_from (x ∷ ss) None r' s e = cc
  sized_from (x ∷ ss) (Some r) r' s e = sized_from ss (step p events r x) r' (λ r'' h. sized_step r r'' x (s r refl) h) e

  first_sized : Sized p events (first_run p events)
  first_sized = record {
    tasks = length-map p.tasks first_own;
    since = length-map p.tasks _;
    locks = length-map p.monitors _;
    queues = length-map events.kinds first_queue;
  }

  pub sized : (ss : List Step) (r : Run) → reached p events ss ≡ Some r → Sized p events r
  sized ss r e = sized_from ss (Some (first_run p events)) r (λ r' h. subst (Sized p events) (same_Some _ r' h) first_sized) e

-- ---- an instruction leaves the other tasks alone

pub record Other (r r' : Run) (y : ℕ) : Type 0 where
  pub tasks : slice_get r'.machine.tasks y ≡ slice_get r.machine.tasks y
  pub queues : queue r'.machine y ≡ queue r.machine y
  pub since : slice_index r'.since y ≡ slice_index r.since y

pub other : (r : Run) (x y : ℕ) (d : Does) → (x ≡ y → ⊥) → Other r (turned r x d) y
other r x y Stuck n = record { tasks = refl; queues = refl; since = or_set_other r.since x y _ 0 n }
other r x y (Private own) n = record { tasks = get_set_other r.machine.tasks x y _ n; queues = refl; since = or_set_other r.since x y _ 0 n }
other r x y (Takes f) n = record { tasks = get_set_other r.machine.tasks x y _ n; queues = or_set_other r.machine.queues x y _ [] n; since = or_set_other r.since x y _ 0 n }
other r x y (Locks m f) n = record { tasks = get_set_other r.machine.tasks x y _ n; queues = refl; since = or_set_other r.since x y _ 0 n }
other r x y (Unlocks h own) n = record { tasks = get_set_other r.machine.tasks x y _ n; queues = refl; since = or_set_other r.since x y _ 0 n }
other r x y (Writes o ws own) n = record { tasks = get_set_other r.machine.tasks x y _ n; queues = refl; since = or_set_other r.since x y _ 0 n }
