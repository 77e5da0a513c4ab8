-- The facts of the bounds hold of the landed machine, for a sound program.
use Rattle.std.proofs.Common.{◌≡◌, ◌≢◌, inl, inr, ◌<◌, ◌≤◌, ℕ, zero, suc, ◌+◌, ℤ, Bool, true, false, not, ◌&&◌, List, [], ◌∷◌, ◌++◌, map, take, drop, length, Option, Some, None, refl, sym, ap, ap₂, ◌∙◌, subst, arith, slice_get, slice_set, slice_index, slice_index_or, option_map}
use Rattle.std.specs.Prelude.{All, ◌==◌}
use Rattle.std.proofs.lemmas.Bool.{cases_Bool, eqb-true, and_parts, and_cases}
use Rattle.std.proofs.lemmas.Option.{same_Some, none-some, slice_get_within, get_or_from_slice_get}
use Rattle.tower_types.specs.Value.{Value}
use Rattle.tower_syntax.specs.declared.arch.SourceKind.{SourceKind}
use Rattle.tower_syntax.specs.declared.arch.SourceKind.TheVariants as kind
use Rattle.tower_syntax.specs.Arch.{Arch, Source, Entry, tick, signal, Events}
use Rattle.tower_syntax.specs.Arrival.{is_init, ticks, brought}
use Rattle.tower_syntax.specs.Weights.{monitor_words}
use Rattle.tower_syntax.specs.Typed.{IsTyped, HasItsMessage}
use Rattle.std.proofs.lemmas.List.{length-map}
use Rattle.std.proofs.lemmas.List.Elements.{All-head, All-tail}
use Rattle.lock_reduction.specs.Shaped.{BeginsWithTake, priority_and_words}
use Rattle.tower_meaning.specs.Atomic.{Atomic, Fit, FitsEntry, FitsSource}
use Rattle.task_code.specs.declared.program.Task.{Task}
use Rattle.task_code.specs.Program.{Program}
use Rattle.task_code.specs.Own.{Own, held_monitor, first_own}
use Rattle.task_code.specs.Does.{Does, Stuck, Private, Takes, Locks, Unlocks, Writes, does, at_take, is_take}
use Rattle.task_code.specs.Machine.{Lock, Free, HeldBy, Machine, queue, next_does, task_does, received, first_queue}
use Rattle.task_code.specs.Standing.{Standing, IsStuck, IsIdle, IsWaiting, IsReady, standing, standing_of, at_queue, at_lock, held_back, kind_at, is_clear, clear_if_init, inits_clear}
use Rattle.task_code.specs.Run.{Run, Step, step, reached, first_run, if_ready, came, turned, counted}
use Rattle.task_code.specs.Run as run
use Rattle.lock_reduction.specs.Reduce.{Sound}
use Rattle.task_alone.specs.SettingOf.{setting_of}
use Rattle.lock_reduction.specs.Sound.{Agrees, IsDue}
use Rattle.task_alone.proofs.Lists.{get_within, get_map, get_unmap, all_at, queue_there}
use Rattle.lock_reduction.proofs.Barrier.{clear_at}
use Rattle.lock_reduction.proofs.Kept.{Keeps, does_keeps, at_takes, TakesOrSticks, sticks, takes_then, take_or_stuck}
use Rattle.stretch_law.specs.Machine as bounds
use Rattle.stretch_law.specs.Machine.{Kind, Init, Period, Signal, Tasks, Seen, Clear}
use Rattle.stretch_law.specs.Facts.{Turned, took, went, Brought, due, one_at, Waits, Starts, Idles, empty, Readies, runs, takes, Means, Holder, Facts}
use Rattle.stretch_law.specs.Facts as facts
use Rattle.task_code.specs.Policy.{priorities}
use Rattle.task_code.specs.Ceiling.{touches}
use Rattle.ceiling_law.proofs.Held.{if_ready_is, goes_on}
use Rattle.ceiling_law.proofs.Named.{touches_below, same_priorities, same_count}
use Rattle.bound_law.specs.Seen.{kind_of, tasks_with, tasks_of, seen_of, see, standing_as, if_tick, if_signal, next, machine_of}
use Rattle.bound_law.proofs.Arrivals.{Got, entry_got, count_for, as_words, tick_brings, ticks_more, ticks_same}
use Rattle.bound_law.proofs.Reached.{or_set_same, Sized, sized, came_is, Other, other}

-- ---- the pieces of what is seen

seen_queued : (a : Option Task) (b : Option Own) (q : List (List ℤ)) (n : ℕ) → (seen_of a b q n).queued ≡ length q
seen_queued None b q n = refl
seen_queued (Some t) None q n = refl
seen_queued (Some t) (Some own) q n = refl

seen_since : (a : Option Task) (b : Option Own) (q : List (List ℤ)) (n : ℕ) → (seen_of a b q n).since ≡ n
seen_since None b q n = refl
seen_since (Some t) None q n = refl
seen_since (Some t) (Some own) q n = refl

seen_rests : (a : Option Task) (b : Option Own) (q q' : List (List ℤ)) (n n' : ℕ) → (seen_of a b q n).rests ≡ (seen_of a b q' n').rests
seen_rests None b q q' n n' = refl
seen_rests (Some t) None q q' n n' = refl
seen_rests (Some t) (Some own) q q' n n' = refl

seen_holds : (a : Option Task) (b : Option Own) (q q' : List (List ℤ)) (n n' : ℕ) → (seen_of a b q n).holds ≡ (seen_of a b q' n').holds
seen_holds None b q q' n n' = refl
seen_holds (Some t) None q q' n n' = refl
seen_holds (Some t) (Some own) q q' n n' = refl

-- ---- instructions that are not TAKE

abbrev May : Does → Type 0
May Stuck = Unit {0}
May (Takes f) = Unit {0}
May _ = ⊥

may : {d : Does} → TakesOrSticks d → May d
may sticks = tt
may (takes_then f) = tt

not_take : (p : Program) (t : Task) (own : Own) (d : Does) → does p t own ≡ d → (May d → ⊥) → at_take t own ≡ false
not_take p t own d e n = elim (cases_Bool (at_take t own)) [
  | inl h ↦ absurd (n (subst May e (may (take_or_stuck p t own h))))
  | inr h ↦ h
]

-- ---- standings

as_ready : (k : Standing) → standing_as k ≡ bounds.IsReady → k ≡ IsReady
as_ready IsStuck e = cc
as_ready IsIdle e = cc
as_ready (IsWaiting m) e = cc
as_ready IsReady e = refl

as_stuck : IsStuck ≡ IsReady → ⊥
as_stuck e = cc

-- a task at TAKE that is ready has a message
has_message : (b : Bool) (q : List (List ℤ)) → at_queue b q ≡ IsReady → length q ≡ suc (length (drop 1 q))
has_message true q e = cc
has_message false [] e = cc
has_message false (m ∷ rest) e = refl

has_first : (b : Bool) (q : List (List ℤ)) → at_queue b q ≡ IsReady → (m : List ℤ) × (rest : List (List ℤ)) × (q ≡ m ∷ rest)
has_first true q e = cc
has_first false [] e = cc
has_first false (m ∷ rest) e = (m, rest, refl)

-- ---- init tasks

record Unclear (ks : List SourceKind) (ts : List Task) (owns : List Own) (qs : List (List (List ℤ))) : Type 0 where
  z : ℕ
  t : Task
  own : Own
  q : List (List ℤ)
  kind_is : slice_get ks z ≡ Some kind.Init
  task_is : slice_get ts z ≡ Some t
  own_is : slice_get owns z ≡ Some own
  queue_is : slice_get qs z ≡ Some q
  unclear : is_clear t own q ≡ false

unclear_one : (k : SourceKind) (t : Task) (own : Own) (q : List (List ℤ)) → clear_if_init k t own q ≡ false → (k ≡ kind.Init) × (is_clear t own q ≡ false)
unclear_one kind.Init t own q e = (refl, e)
unclear_one (kind.Period ms) t own q e = cc
unclear_one kind.Signal t own q e = cc

unclear_some : (ks : List SourceKind) (ts : List Task) (owns : List Own) (qs : List (List (List ℤ))) → inits_clear ks ts owns qs ≡ false → Unclear ks ts owns qs
unclear_some [] ts owns qs e = cc
unclear_some (k ∷ ks) [] owns qs e = cc
unclear_some (k ∷ ks) (t ∷ ts) [] qs e = cc
unclear_some (k ∷ ks) (t ∷ ts) (own ∷ owns) [] e = cc
unclear_some (k ∷ ks) (t ∷ ts) (own ∷ owns) (q ∷ qs) e = elim (and_cases (clear_if_init k t own q) (inits_clear ks ts owns qs) e) [
  | inl h ↦
      let u = unclear_one k t own q h in
      record { z = 0; t = t; own = own; q = q; kind_is = ap Some u.0; task_is = refl; own_is = refl; queue_is = refl; unclear = u.1 }
  | inr h ↦
      let u = unclear_some ks ts owns qs h in
      record { z = suc u.z; t = u.t; own = u.own; q = u.q; kind_is = u.kind_is; task_is = u.task_is; own_is = u.own_is; queue_is = u.queue_is; unclear = u.unclear }
]

not_unclear : (t : Task) (own : Own) (q : List (List ℤ)) → is_clear t own q ≡ false → at_take t own ≡ true → length q ≡ 0 → ⊥
not_unclear t own [] e h l = elim (cases_Bool (at_take t own)) [ inl a ↦ both_ways a e | inr a ↦ both_ways h a ]
  where
    both_ways : {b : Bool} → b ≡ true → b ≡ false → ⊥
    both_ways e h = cc
not_unclear t own (m ∷ q) e h l = absurd (omega (arith, l))

clear_parts : (t : Task) (own : Own) (q : List (List ℤ)) → clear_if_init kind.Init t own q ≡ true → (at_take t own ≡ true) × (length q ≡ 0)
clear_parts t own [] e = (e, refl)
clear_parts t own (m ∷ q) e = cc

kind_init : (k : SourceKind) → kind_of k ≡ Init → k ≡ kind.Init
kind_init kind.Init e = refl
kind_init (kind.Period ms) e = cc
kind_init kind.Signal e = cc

is_not_init : (k : SourceKind) → is_init k ≡ false → kind_of k ≡ Init → ⊥
is_not_init kind.Init e h = cc
is_not_init (kind.Period ms) e h = cc
is_not_init kind.Signal e h = cc

-- not held back, and no init task: all init tasks are clear
free_then : (b c : Bool) → (not b && not c) ≡ false → b ≡ false → c ≡ true
free_then true c e h = cc
free_then false true e h = refl
free_then false false e h = cc

not_false : (b : Bool) → not b ≡ true → b ≡ false
not_false true e = cc
not_false false e = refl

is_init_of : (k : SourceKind) → (kind_of k ≡ Init → ⊥) → is_init k ≡ false
is_init_of kind.Init n = absurd (n refl)
is_init_of (kind.Period ms) n = refl
is_init_of kind.Signal n = refl

-- ---- entries

if_tick_is : (o : Option Entry) (e : Entry) → if_tick o ≡ Some e → o ≡ Some tick
if_tick_is None e h = cc
if_tick_is (Some tick) e h = refl
if_tick_is (Some (signal x v)) e h = cc

signal_is : (x y : ℕ) (v : Value) (e : Entry) (b : Bool) → (y == x) ≡ b → (elim b [ true ↦ Some (signal y v) | false ↦ None ]) ≡ Some e → Some (signal y v) ≡ Some (signal x v)
signal_is x y v e true h k = ap (λ z. Some (signal z v)) (eqb-true y x h)
signal_is x y v e false h k = cc

if_signal_is : (x : ℕ) (o : Option Entry) (e : Entry) → if_signal x o ≡ Some e → (v : Value) × (o ≡ Some (signal x v))
if_signal_is x None e h = cc
if_signal_is x (Some tick) e h = cc
if_signal_is x (Some (signal y v)) e h = (v, signal_is x y v e (y == x) refl h)

pub first_count : (ks : List SourceKind) (x : ℕ) → length (slice_index_or (map first_queue ks) x []) ≤ facts.at_start (kind_of (slice_index_or ks x kind.Signal))
first_count [] x = omega arith
first_count (kind.Init ∷ ks) zero = omega arith
first_count (kind.Period ms ∷ ks) zero = omega arith
first_count (kind.Signal ∷ ks) zero = omega arith
first_count (k ∷ ks) (suc x) = first_count ks x

-- ---- one reached state

-- what the replay says of the monitors: what is due in a task is of a monitor that its source touches
abbrev pub TouchesDue : Arch → Program → Events → Type 0
TouchesDue arch p events =
    (steps : List Step) (r : Run) (a : Atomic) → reached p events steps ≡ Some r → Agrees (setting_of arch) p events r a
    → (x m : ℕ) → IsDue (setting_of arch) a x m → (m < length arch.monitors) × (touches arch x m ≡ true)

abbrev pub Reached : Program → Events → Run → Type 0
Reached p events r = (steps : List Step) × (reached p events steps ≡ Some r)

module _ (arch : Arch) (p : Program) (events : Events) (sound : Sound arch p) (fit : Fit arch events) (due_there : TouchesDue arch p events) where
  abbrev T : Tasks
  T = tasks_with arch (length p.tasks) events.kinds (priorities p)

  abbrev V : bounds.Machine Run
  V = machine_of p events

  kinds_long : length events.kinds ≡ length p.tasks
  kinds_long =
      ap length fit.kinds ∙ length-map arch.sources (λ (s : Source). s.kind)
      ∙ sym (sym (length-map p.tasks (λ (t : Task). (t.priority, t.message))) ∙ ap length sound.shaped.tasks ∙ length-map arch.sources (priority_and_words arch))

  monitors_long : length p.monitors ≡ length arch.monitors
  monitors_long = ap length sound.shaped.monitors ∙ length-map arch.monitors (monitor_words arch)

  module _ (r : Run) (g : Reached p events r) where
    size : Sized p events r
    size = sized p events g.0 r g.1

    agreement : (a : Atomic) × Agrees (setting_of arch) p events r a
    agreement = sound.agrees events g.0 r fit g.1

    abbrev ag : Agrees (setting_of arch) p events r agreement.0
    ag = agreement.1

    -- task x, as it stands
    record There (x : ℕ) : Type 0 where
      t : Task
      own : Own
      is : slice_get p.tasks x ≡ Some t
      has : slice_get r.machine.tasks x ≡ Some own
      sees : see p r x ≡ seen_of (Some t) (Some own) (queue r.machine x) (slice_index r.since x)
      stands : standing p events r.machine x ≡ standing_of p events r.machine x (does p t own)
      does_is : next_does p r.machine x ≡ does p t own

    there : (x : ℕ) → x < length p.tasks → There x
    there x l =
        let a = get_within p.tasks x l in
        let b = get_within r.machine.tasks x (omega (arith, size.tasks, l)) in
        let same : next_does p r.machine x ≡ does p a.0 b.0 = ap₂ (task_does p) a.1 b.1 in
        record {
          t = a.0;
          own = b.0;
          is = a.1;
          has = b.1;
          sees = ap₂ (λ t own. seen_of t own (queue r.machine x) (slice_index r.since x)) a.1 b.1;
          stands = ap (standing_of p events r.machine x) same;
          does_is = same;
        }

    holds_there : (x m : ℕ) → x < length p.tasks → (see p r x).holds ≡ Some m → slice_get (map held_monitor r.machine.tasks) x ≡ Some (Some m)
    holds_there x m l e =
        let k = there x l in
        get_map held_monitor r.machine.tasks x k.own k.has ∙ ap Some (sym (ap (λ o. o.holds) k.sees) ∙ e)

    there_holds : (x m : ℕ) → slice_get (map held_monitor r.machine.tasks) x ≡ Some (Some m) → (x < length p.tasks) × ((see p r x).holds ≡ Some m)
    there_holds x m e =
        let o = get_unmap held_monitor r.machine.tasks x (Some m) e in
        let l : x < length p.tasks = omega (arith, slice_get_within r.machine.tasks x o.0 o.1, size.tasks) in
        let k = there x l in
        (l, ap (λ o. o.holds) k.sees ∙ ap held_monitor (same_Some k.own o.0 (sym k.has ∙ o.1)) ∙ o.2)

    pub holds_list : (x : ℕ) → x < length p.tasks → slice_index_or (map held_monitor r.machine.tasks) x None ≡ (see p r x).holds
    holds_list x l =
        let k = there x l in
        get_or_from_slice_get (map held_monitor r.machine.tasks) x (held_monitor k.own) None (get_map held_monitor r.machine.tasks x k.own k.has) ∙ sym (ap (λ o. o.holds) k.sees)

    -- ---- who is clear

    starts : inits_clear events.kinds p.tasks r.machine.tasks r.machine.queues ≡ false → Starts T Run V r
    starts e =
        let u = unclear_some events.kinds p.tasks r.machine.tasks r.machine.queues e in
        let l : u.z < length p.tasks = slice_get_within p.tasks u.z u.t u.task_is in
        let k = there u.z l in
        let same_t : k.t ≡ u.t = same_Some k.t u.t (sym k.is ∙ u.task_is) in
        let same_own : k.own ≡ u.own = same_Some k.own u.own (sym k.has ∙ u.own_is) in
        let same_q : queue r.machine u.z ≡ u.q = get_or_from_slice_get r.machine.queues u.z u.q [] u.queue_is in
        record {
          z = u.z;
          inside = l;
          is_init = ap kind_of (get_or_from_slice_get events.kinds u.z kind.Init kind.Signal u.kind_is);
          busy = λ c. not_unclear u.t u.own u.q u.unclear
              (sym (ap₂ at_take same_t same_own) ∙ sym (ap (λ o. o.rests) k.sees) ∙ c.0)
              (sym (ap length same_q) ∙ sym (ap (λ o. o.queued) k.sees) ∙ c.1);
        }

    all_inits : inits_clear events.kinds p.tasks r.machine.tasks r.machine.queues ≡ true → facts.InitsClear T Run V r
    all_inits e z l i =
        let k = there z l in
        let kd = get_within events.kinds z (omega (arith, l, kinds_long)) in
        let q = get_within r.machine.queues z (omega (arith, l, kinds_long, size.queues)) in
        let at : kind_at events z ≡ kd.0 = get_or_from_slice_get events.kinds z kd.0 kind.Signal kd.1 in
        let is : kd.0 ≡ kind.Init = kind_init kd.0 (sym (ap kind_of at) ∙ i) in
        let same_q : queue r.machine z ≡ q.0 = get_or_from_slice_get r.machine.queues z q.0 [] q.1 in
        let c = clear_parts k.t k.own q.0 (subst (λ w. clear_if_init w k.t k.own q.0 ≡ true) is (clear_at events.kinds p.tasks r.machine.tasks r.machine.queues e z kd.0 k.t k.own q.0 kd.1 k.is k.has q.1)) in
        (ap (λ o. o.rests) k.sees ∙ c.0, ap (λ o. o.queued) k.sees ∙ ap length same_q ∙ c.1)

    -- ---- what a standing means

    module _ (x : ℕ) (l : x < length p.tasks) (k : There x) where
      runs_so : (d : Does) → does p k.t k.own ≡ d → (May d → ⊥) → (see p r x).rests ≡ false
      runs_so d e n = ap (λ o. o.rests) k.sees ∙ not_take p k.t k.own d e n

      rests_so : (f : List ℤ → Own) → does p k.t k.own ≡ Takes f → (see p r x).rests ≡ true
      rests_so f e = ap (λ o. o.rests) k.sees ∙ (at_takes (subst (Keeps k.t.buffers k.own (at_take k.t k.own)) e (does_keeps p k.t k.own (ag.buffers x k.t k.own k.is k.has)))).0

      takes_means : (f : List ℤ → Own) → does p k.t k.own ≡ Takes f → (b : Bool) → held_back p events r.machine x ≡ b → (q : List (List ℤ)) → queue r.machine x ≡ q → Means T Run V r x (standing_as (at_queue b q))
      takes_means f e true h q w =
          let parts = and_parts (not (is_init (kind_at events x))) (not (inits_clear events.kinds p.tasks r.machine.tasks r.machine.queues)) h in
          facts.held_back (rests_so f e) (is_not_init (kind_at events x) (not_false _ parts.0)) (starts (not_false _ parts.1))
      takes_means f e false h [] w = empty (rests_so f e, ap (λ o. o.queued) k.sees ∙ ap length w)
      takes_means f e false h (m ∷ rest) w =
          let some : (see p r x).queued ≡ suc (length rest) = ap (λ o. o.queued) k.sees ∙ ap length w in
          takes (rests_so f e) (λ z. omega (arith, z, some))
          (λ n. all_inits (free_then (is_init (kind_at events x)) (inits_clear events.kinds p.tasks r.machine.tasks r.machine.queues) h (is_init_of (kind_at events x) n)))

      lock_means : (m : ℕ) (f : List ℤ → Own) → does p k.t k.own ≡ Locks m f → (o : Option Lock) → slice_get r.machine.locks m ≡ o → Means T Run V r x (standing_as (at_lock m o))
      lock_means m f e None h =
          let d = due_there g.0 r agreement.0 g.1 ag x m (ag.locks_due x k.t k.own m f k.is k.has e) in
          let w = get_within r.machine.locks m (omega (arith, d.0, size.locks, monitors_long)) in
          absurd (none-some w.0 (sym h ∙ w.1))
      lock_means m f e (Some (Free ws)) h = runs (runs_so (Locks m f) e (λ z. z))
      lock_means m f e (Some (HeldBy y)) h =
          let d = due_there g.0 r agreement.0 g.1 ag x m (ag.locks_due x k.t k.own m f k.is k.has e) in
          let held = there_holds y m (ag.holders m y h) in
          record { busy = runs_so (Locks m f) e (λ z. z); inside = d.0; touches = d.1; y = y; y_inside = held.0; held = held.1 }

      means_of : (d : Does) → does p k.t k.own ≡ d → Means T Run V r x (standing_as (standing_of p events r.machine x d))
      means_of Stuck e = ag.never_stuck x l (k.stands ∙ ap (standing_of p events r.machine x) e)
      means_of (Private own) e = runs (runs_so (Private own) e (λ z. z))
      means_of (Takes f) e = takes_means f e (held_back p events r.machine x) refl (queue r.machine x) refl
      means_of (Locks m f) e = lock_means m f e (slice_get r.machine.locks m) refl
      means_of (Unlocks h own) e = runs (runs_so (Unlocks h own) e (λ z. z))
      means_of (Writes o ws own) e = runs (runs_so (Writes o ws own) e (λ z. z))

      -- ---- what an instruction does to its task

      since_more : (n : ℕ) → slice_index (slice_set r.since x n) x ≡ n
      since_more n = or_set_same r.since x n 0 (omega (arith, l, size.since))

      one_more : (r' : Run) → r'.since ≡ slice_set r.since x (suc (slice_index r.since x)) → (see p r' x).since ≡ suc (see p r x).since
      one_more r' e =
          seen_since (slice_get p.tasks x) (slice_get r'.machine.tasks x) (queue r'.machine x) (slice_index r'.since x)
          ∙ ap (λ s. slice_index s x) e ∙ since_more (suc (slice_index r.since x))
          ∙ ap suc (sym (seen_since (slice_get p.tasks x) (slice_get r.machine.tasks x) (queue r.machine x) (slice_index r.since x)))

      same_queue : (r' : Run) → r'.machine.queues ≡ r.machine.queues → (see p r' x).queued ≡ (see p r x).queued
      same_queue r' e =
          seen_queued (slice_get p.tasks x) (slice_get r'.machine.tasks x) (queue r'.machine x) (slice_index r'.since x)
          ∙ ap (λ q. length (slice_index_or q x [])) e
          ∙ sym (seen_queued (slice_get p.tasks x) (slice_get r.machine.tasks x) (queue r.machine x) (slice_index r.since x))

      own_turn : (d : Does) → does p k.t k.own ≡ d → standing_of p events r.machine x d ≡ IsReady → Turned (see p r x) (see p (turned r x d) x)
      own_turn Stuck e h = absurd (as_stuck h)
      own_turn (Private own) e h = went (runs_so (Private own) e (λ z. z)) (same_queue (turned r x (Private own)) refl) (one_more (turned r x (Private own)) refl)
      own_turn (Locks m f) e h = went (runs_so (Locks m f) e (λ z. z)) (same_queue (turned r x (Locks m f)) refl) (one_more (turned r x (Locks m f)) refl)
      own_turn (Unlocks w own) e h = went (runs_so (Unlocks w own) e (λ z. z)) (same_queue (turned r x (Unlocks w own)) refl) (one_more (turned r x (Unlocks w own)) refl)
      own_turn (Writes o ws own) e h = went (runs_so (Writes o ws own) e (λ z. z)) (same_queue (turned r x (Writes o ws own)) refl) (one_more (turned r x (Writes o ws own)) refl)
      own_turn (Takes f) e h =
          let first = has_first (held_back p events r.machine x) (queue r.machine x) h in
          let in_queue = slice_get_within r.machine.queues x (first.0 ∷ first.1) (queue_there r.machine.queues x first.0 first.1 first.2) in
          let r' : Run = turned r x (Takes f) in
          let now : queue r'.machine x ≡ drop 1 (queue r.machine x) = or_set_same r.machine.queues x (drop 1 (queue r.machine x)) [] in_queue in
          took (rests_so f e)
          (ap (λ o. o.queued) k.sees ∙ has_message (held_back p events r.machine x) (queue r.machine x) h
          ∙ ap suc (sym (ap length now) ∙ sym (seen_queued (slice_get p.tasks x) (slice_get r'.machine.tasks x) (queue r'.machine x) (slice_index r'.since x))))
          (seen_since (slice_get p.tasks x) (slice_get r'.machine.tasks x) (queue r'.machine x) (slice_index r'.since x) ∙ since_more 1)

      free_so : (d : Does) → does p k.t k.own ≡ d → TakesOrSticks d → (see p r x).holds ≡ None
      free_so Stuck e h = absurd (ag.never_stuck x l (k.stands ∙ ap (standing_of p events r.machine x) e))
      free_so (Takes f) e h =
          ap (λ o. o.holds) k.sees
          ∙ ap (option_map (λ h. h.monitor)) (at_takes (subst (Keeps k.t.buffers k.own (at_take k.t k.own)) e (does_keeps p k.t k.own (ag.buffers x k.t k.own k.is k.has)))).1
      free_so (Private own) e h = absurd (may h)
      free_so (Locks m f) e h = absurd (may h)
      free_so (Unlocks w own) e h = absurd (may h)
      free_so (Writes o ws own) e h = absurd (may h)

      rest_free : (see p r x).rests ≡ true → (see p r x).holds ≡ None
      rest_free e = free_so (does p k.t k.own) refl (take_or_stuck p k.t k.own (sym (ap (λ o. o.rests) k.sees) ∙ e))

    -- ---- steps

    turn_is : (r' : Run) (x : ℕ) → next p events r (bounds.Turn x) ≡ Some r' → (standing p events r.machine x ≡ IsReady) × (turned r x (next_does p r.machine x) ≡ r')
    turn_is r' x e = if_ready_is (standing p events r.machine x) (turned r x (next_does p r.machine x)) r' e

    turn_seen : (r' : Run) (x : ℕ) → x < length p.tasks → next p events r (bounds.Turn x) ≡ Some r' → Turned (see p r x) (see p r' x)
    turn_seen r' x l e =
        let k = there x l in
        let s = turn_is r' x e in
        subst (λ w. Turned (see p r x) (see p w x)) (ap (turned r x) (sym k.does_is) ∙ s.1)
        (own_turn x l k (does p k.t k.own) refl (sym k.stands ∙ s.0))

    see_same : (r' : Run) (y : ℕ) → Other r r' y → see p r' y ≡ see p r y
    see_same r' y o =
        ap (λ t. seen_of (slice_get p.tasks y) t (queue r'.machine y) (slice_index r'.since y)) o.tasks
        ∙ ap (λ q. seen_of (slice_get p.tasks y) (slice_get r.machine.tasks y) q (slice_index r'.since y)) o.queues
        ∙ ap (λ n. seen_of (slice_get p.tasks y) (slice_get r.machine.tasks y) (queue r.machine y) n) o.since

    turn_other : (r' : Run) (x y : ℕ) → next p events r (bounds.Turn x) ≡ Some r' → y ≢ x → see p r' y ≡ see p r y
    turn_other r' x y e n =
        let s = turn_is r' x e in
        subst (λ w. see p w y ≡ see p r y) s.1 (see_same (turned r x (next_does p r.machine x)) y (other r x y (next_does p r.machine x) (λ h. n (sym h))))

    place_turned : (x : ℕ) (d : Does) → (turned r x d).machine.place ≡ r.machine.place
    place_turned x Stuck = refl
    place_turned x (Private own) = refl
    place_turned x (Takes f) = refl
    place_turned x (Locks m f) = refl
    place_turned x (Unlocks h own) = refl
    place_turned x (Writes o ws own) = refl

    turn_ticks : (r' : Run) (x : ℕ) → next p events r (bounds.Turn x) ≡ Some r' → ticks (take r'.machine.place events.entries) ≡ ticks (take r.machine.place events.entries)
    turn_ticks r' x e =
        let s = turn_is r' x e in
        ap (λ n. ticks (take n events.entries)) (sym (ap (λ w. w.machine.place) s.1) ∙ place_turned x (next_does p r.machine x))

    -- an entry
    brought_so : (r' : Run) (m : Machine) (n : ℕ → ℕ) (y d : ℕ) → r'.machine ≡ m → r'.since ≡ r.since → Got n (record r.machine { place = suc r.machine.place }) m → n y ≤ d → Brought d (see p r y) (see p r' y)
    brought_so r' m n y d e s got l =
        let t : slice_get r'.machine.tasks y ≡ slice_get r.machine.tasks y = ap (λ w. slice_get w.tasks y) e ∙ ap (λ ts. slice_get ts y) got.tasks in
        let q : length (queue r'.machine y) ≡ length (queue m y) = ap (λ w. length (queue w y)) e in
        let a = slice_get p.tasks y in
        let b = slice_get r.machine.tasks y in
        record {
          rests = ap (λ t. (seen_of a t (queue r'.machine y) (slice_index r'.since y)).rests) t ∙ seen_rests a b _ _ _ _;
          holds = ap (λ t. (seen_of a t (queue r'.machine y) (slice_index r'.since y)).holds) t ∙ seen_holds a b _ _ _ _;
          since = seen_since a (slice_get r'.machine.tasks y) (queue r'.machine y) (slice_index r'.since y) ∙ ap (λ l. slice_index l y) s ∙ sym (seen_since a b (queue r.machine y) (slice_index r.since y));
          queued = omega (arith, seen_queued a (slice_get r'.machine.tasks y) (queue r'.machine y) (slice_index r'.since y), seen_queued a b (queue r.machine y) (slice_index r.since y), q, got.queues y, l);
        }

    tick_is : (r' : Run) → next p events r bounds.Tick ≡ Some r' → (e : Entry) × (slice_get events.entries r.machine.place ≡ Some tick) × (r'.machine ≡ received events r.machine tick) × (r'.since ≡ r.since)
    tick_is r' e =
        let k = came_is events r r' (if_tick (slice_get events.entries r.machine.place)) e in
        let is = if_tick_is (slice_get events.entries r.machine.place) k.0 k.1 in
        let what : k.0 ≡ tick = sym (same_Some tick k.0 (sym (ap if_tick is) ∙ k.1)) in
        (k.0, is, k.2 ∙ ap (received events r.machine) what, k.3)

    signal_same : (x : ℕ) (v : Value) (e : Entry) (b : Bool) → (x == x) ≡ b → (elim b [ true ↦ Some (signal x v) | false ↦ None ]) ≡ Some e → e ≡ signal x v
    signal_same x v e true h k = sym (same_Some (signal x v) e k)
    signal_same x v e false h k = cc

    sent_is : (r' : Run) (x : ℕ) → next p events r (bounds.Sent x) ≡ Some r' → (v : Value) × (slice_get events.entries r.machine.place ≡ Some (signal x v)) × (r'.machine ≡ received events r.machine (signal x v)) × (r'.since ≡ r.since)
    sent_is r' x e =
        let k = came_is events r r' (if_signal x (slice_get events.entries r.machine.place)) e in
        let is = if_signal_is x (slice_get events.entries r.machine.place) k.0 k.1 in
        let what : k.0 ≡ signal x is.0 = signal_same x is.0 k.0 (x == x) refl (sym (ap (if_signal x) is.1) ∙ k.1) in
        (is.0, is.1, k.2 ∙ ap (received events r.machine) what, k.3)

    place_came : (r' : Run) (e : Entry) → r'.machine ≡ received events r.machine e → r'.machine.place ≡ suc r.machine.place
    place_came r' e h = ap (λ m. m.place) h ∙ (entry_got events r.machine e).place

    tick_ticks : (r' : Run) → next p events r bounds.Tick ≡ Some r' → ticks (take r'.machine.place events.entries) ≡ suc (ticks (take r.machine.place events.entries))
    tick_ticks r' e =
        let k = tick_is r' e in
        ap (λ n. ticks (take n events.entries)) (place_came r' tick k.2) ∙ ticks_more events.entries r.machine.place k.1

    sent_ticks : (r' : Run) (x : ℕ) → next p events r (bounds.Sent x) ≡ Some r' → ticks (take r'.machine.place events.entries) ≡ ticks (take r.machine.place events.entries)
    sent_ticks r' x e =
        let k = sent_is r' x e in
        ap (λ n. ticks (take n events.entries)) (place_came r' (signal x k.0) k.2) ∙ ticks_same events.entries r.machine.place x k.0 k.1

    tick_seen : ((z ms : ℕ) → slice_index_or events.kinds z kind.Signal ≡ kind.Period ms → 1 ≤ ms) → (r' : Run) (y : ℕ) → next p events r bounds.Tick ≡ Some r' → Brought (due (kind_of (kind_at events y)) (suc (ticks (take r.machine.place events.entries)))) (see p r y) (see p r' y)
    tick_seen periods r' y e =
        let k = tick_is r' e in
        let now = ticks (take (suc r.machine.place) events.entries) in
        let most : count_for y (as_words (brought events.kinds now tick)) ≤ due (kind_of (kind_at events y)) now = tick_brings now events.kinds y periods in
        let same : now ≡ suc (ticks (take r.machine.place events.entries)) = ticks_more events.entries r.machine.place k.1 in
        subst (λ n. Brought (due (kind_of (kind_at events y)) n) (see p r y) (see p r' y)) same
        (brought_so r' (received events r.machine tick) (λ y. count_for y (as_words (brought events.kinds now tick))) y (due (kind_of (kind_at events y)) now) k.2 k.3 (entry_got events r.machine tick) most)

    sent_seen : (r' : Run) (x y : ℕ) → next p events r (bounds.Sent x) ≡ Some r' → Brought (one_at x y) (see p r y) (see p r' y)
    sent_seen r' x y e =
        let k = sent_is r' x e in
        brought_so r' (received events r.machine (signal x k.0)) (λ y. one_at x y + 0) y (one_at x y) k.2 k.3 (entry_got events r.machine (signal x k.0)) (omega arith)

    signal_kind : (x : ℕ) (v : Value) (o : Option Source) → slice_get arch.sources x ≡ o → FitsSource arch v o → kind_of (kind_at events x) ≡ Signal
    signal_kind x v None e h = absurd h
    signal_kind x v (Some s) e h =
        let there : slice_get events.kinds x ≡ Some s.kind = ap (λ ks. slice_get ks x) fit.kinds ∙ get_map (λ (s : Source). s.kind) arch.sources x s e in
        ap kind_of (get_or_from_slice_get events.kinds x s.kind kind.Signal there ∙ h.0)

    sent_kind : (r' : Run) (x : ℕ) → next p events r (bounds.Sent x) ≡ Some r' → kind_of (kind_at events x) ≡ Signal
    sent_kind r' x e =
        let k = sent_is r' x e in
        signal_kind x k.0 (slice_get arch.sources x) refl (all_at (FitsEntry arch) events.entries r.machine.place (signal x k.0) fit.entries k.1)

    -- each step is one of the landed machine
    landed : (r' : Run) (m : bounds.Move) → next p events r m ≡ Some r' → (s : Step) × (step p events r s ≡ Some r')
    landed r' (bounds.Turn x) e = (run.Turn x, e)
    landed r' bounds.Tick e =
        let k = came_is events r r' (if_tick (slice_get events.entries r.machine.place)) e in
        let is = if_tick_is (slice_get events.entries r.machine.place) k.0 k.1 in
        (run.Event, ap (came events r) is ∙ sym (ap (λ o. came events r (if_tick o)) is) ∙ e)
    landed r' (bounds.Sent x) e =
        let k = came_is events r r' (if_signal x (slice_get events.entries r.machine.place)) e in
        let is = if_signal_is x (slice_get events.entries r.machine.place) k.0 k.1 in
        let what : k.0 ≡ signal x is.0 = signal_same x is.0 k.0 (x == x) refl (sym (ap (if_signal x) is.1) ∙ k.1) in
        (run.Event, ap (came events r) (is.1 ∙ ap Some (sym what) ∙ sym k.1) ∙ e)

    reached_next : (r' : Run) (m : bounds.Move) → next p events r m ≡ Some r' → Reached p events r'
    reached_next r' m e =
        let s = landed r' m e in
        (g.0 ++ s.0 ∷ [], goes_on p events g.0 (Some (first_run p events)) r r' s.0 g.1 s.1)

    can : (x : ℕ) → standing_as (standing p events r.machine x) ≡ bounds.IsReady → (r' : Run) × (next p events r (bounds.Turn x) ≡ Some r')
    can x e = (turned r x (next_does p r.machine x), ap (λ k. if_ready k (turned r x (next_does p r.machine x))) (as_ready (standing p events r.machine x) e))

    holder_so : (x m : ℕ) → x < length p.tasks → (see p r x).holds ≡ Some m → Holder T Run V r x m
    holder_so x m l e =
        let h = holds_there x m l e in
        let d = due_there g.0 r agreement.0 g.1 ag x m (ag.holds_due x m h) in
        record { ready = ap standing_as (ag.holder_ready x m h); inside = d.0; touches = d.1 }

  periods_in : (ss : List Source) → All (λ s. HasItsMessage arch s s.kind) ss → (z ms : ℕ) → slice_index_or (map (λ s. s.kind) ss) z kind.Signal ≡ kind.Period ms → 1 ≤ ms
  periods_in [] h z ms e = cc
  periods_in (s ∷ ss) h zero ms e =
      let k : HasItsMessage arch s (kind.Period ms) = subst (HasItsMessage arch s) e (All-head (λ s. HasItsMessage arch s s.kind) s ss h) in
      k.1
  periods_in (s ∷ ss) h (suc z) ms e = periods_in ss (All-tail (λ s. HasItsMessage arch s s.kind) s ss h) z ms e

  as_period : (k : SourceKind) (ms : ℕ) → kind_of k ≡ Period ms → k ≡ kind.Period ms
  as_period kind.Init ms e = cc
  as_period (kind.Period n) ms e = cc
  as_period kind.Signal ms e = cc

  -- the tasks of the program are those of the system
  pub same_tasks : T ≡ tasks_of arch
  same_tasks =
      ap (λ n. tasks_with arch n events.kinds (priorities p)) (same_count arch p sound)
      ∙ ap (λ ks. tasks_with arch (length arch.sources) ks (priorities p)) fit.kinds
      ∙ ap (tasks_with arch (length arch.sources) (map (λ s. s.kind) arch.sources)) (same_priorities arch p sound)

  touched : (x m : ℕ) → x < length p.tasks → touches arch x m ≡ true → T.priority x ≤ T.ceiling m
  touched x m l t =
      let same : slice_index (priorities p) x ≡ slice_index (map (λ (s : Source). s.priority) arch.sources) x = ap (λ ps. slice_index ps x) (same_priorities arch p sound) in
      omega (arith, same, touches_below arch x m (omega (arith, l, same_count arch p sound)) t)

  told : IsTyped arch → Facts T Run V (Reached p events)
  told typed =
      let periods : (z ms : ℕ) → slice_index_or events.kinds z kind.Signal ≡ kind.Period ms → 1 ≤ ms =
      subst (λ ks. (z ms : ℕ) → slice_index_or ks z kind.Signal ≡ kind.Period ms → 1 ≤ ms) (sym fit.kinds) (periods_in arch.sources typed.sources) in
      record {
        touched = touched;
        periods = λ x ms e. periods x ms (as_period (kind_at events x) ms e);
        start_good = ([], refl);
        start_ticks = refl;
        start_rests = λ x l.
            let k = get_within p.tasks x l in
            let own = get_map first_own p.tasks x k.0 k.1 in
            let b = all_at BeginsWithTake p.tasks x k.0 sound.shaped.begins k.1 in
            ap (λ o. o.rests) (ap₂ (λ t own. seen_of t own (queue (first_run p events).machine x) (slice_index (first_run p events).since x)) k.1 own) ∙ ap is_take b.1;
        start_queued = λ x l. omega (arith, first_count events.kinds x, seen_queued (slice_get p.tasks x) (slice_get (first_run p events).machine.tasks x) (queue (first_run p events).machine x) (slice_index (first_run p events).since x));
        goes_on = λ r r' m g e. reached_next r g r' m e;
        counts = λ r x g l. omega (arith, sound.counts events g.0 r fit g.1 x l, seen_since (slice_get p.tasks x) (slice_get r.machine.tasks x) (queue r.machine x) (slice_index r.since x));
        rest_free = λ r x g l e. rest_free r g x l (there r g x l) e;
        holder = λ r x m g l e. holder_so r g x m l e;
        means = λ r x g l. let k = there r g x l in subst (λ s. Means T Run V r x (standing_as s)) (sym k.stands) (means_of r g x l k (does p k.t k.own) refl);
        can = λ r x g l e. can r g x e;
        turn_ticks = λ r r' x g e. turn_ticks r g r' x e;
        turn_own = λ r r' x g l e. turn_seen r g r' x l e;
        turn_other = λ r r' x y g e n. turn_other r g r' x y e n;
        tick_ticks = λ r r' g e. tick_ticks r g r' e;
        tick_seen = λ r r' x g e l. tick_seen r g periods r' x e;
        sent_ticks = λ r r' x g e. sent_ticks r g r' x e;
        sent_kind = λ r r' x g e. sent_kind r g r' x e;
        sent_seen = λ r r' x y g e l. sent_seen r g r' x y e;
      }

  pub has_facts : IsTyped arch → Facts (tasks_of arch) Run V (Reached p events)
  has_facts typed = subst (λ t. Facts t Run V (Reached p events)) same_tasks (told typed)
