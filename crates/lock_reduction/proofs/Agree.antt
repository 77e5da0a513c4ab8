-- What the invariant says of a run and the replay of its marks.
use Rattle.std.proofs.Common.{◌≡◌, ◌≢◌, ◌∙◌, ℕ, ◌<◌, ◌≤◌, ℤ, Bool, true, false, not, ◌&&◌, List, [], ◌∷◌, length, map, Option, Some, None, refl, sym, ap, subst, slice_get, slice_index}
use Rattle.std.proofs.lemmas.List.Elements.{All-head}
use Rattle.std.proofs.lemmas.Option.{get_or_from_slice_get, same_Some, none-some, slice_get_within}
use Rattle.tower_syntax.specs.declared.arch.SourceKind.{SourceKind}
use Rattle.tower_syntax.specs.declared.arch.SourceKind.TheVariants as kind
use Rattle.tower_syntax.specs.declared.arch.Listener.TheVariants as to
use Rattle.tower_syntax.specs.Arch.{Events}
use Rattle.tower_syntax.specs.Arrival.{is_init}
use Rattle.tower_meaning.specs.System.{Item}
use Rattle.tower_meaning.specs.Atomic.{Atomic}
use Rattle.task_code.specs.declared.program.Task.{Task}
use Rattle.task_code.specs.Program.{Program}
use Rattle.task_code.specs.Own.{Own, held_monitor}
use Rattle.task_code.specs.Does.{Does, Stuck, Private, Takes, Locks, Unlocks, Writes, does, at_take}
use Rattle.task_code.specs.Machine.{Lock, Free, HeldBy, task_does, queue}
use Rattle.task_code.specs.Standing.{IsStuck, IsIdle, IsReady, is_clear, inits_clear, kind_at, held_back, at_queue, at_lock, standing_of, standing}
use Rattle.task_code.specs.Run.{Run}
use Rattle.task_alone.specs.Setting.{Setting, KeepsTypes, IsFor, Fits, FitItems}
use Rattle.task_alone.specs.Alone.{FirstIsOf, Asks, Safe}
use Rattle.lock_reduction.specs.Sound.{Agrees, IsWithin}
use Rattle.task_alone.proofs.Lists.{get_unmap, get_within}
use Rattle.lock_reduction.proofs.Barrier.{clear_all, init_clears}
use Rattle.lock_reduction.proofs.Kept.{Keeps, does_keeps, at_takes, at_locks, at_writes}
use Rattle.lock_reduction.proofs.Invariant.{LockFits, TaskFits, Invariant}
use Rattle.lock_reduction.proofs.Turns.{not_held}

take_not_stuck : (b : Bool) (q : List (List ℤ)) → at_queue b q ≡ IsStuck → ⊥
take_not_stuck true q e = cc
take_not_stuck false [] e = cc
take_not_stuck false (ws ∷ rest) e = cc

lock_not_stuck : (m : ℕ) (l : Option Lock) → at_lock m l ≡ IsStuck → ⊥
lock_not_stuck m None e = cc
lock_not_stuck m (Some (Free ws)) e = cc
lock_not_stuck m (Some (HeldBy y)) e = cc

lock_not_idle : (m : ℕ) (l : Option Lock) → at_lock m l ≡ IsIdle → ⊥
lock_not_idle m None e = cc
lock_not_idle m (Some (Free ws)) e = cc
lock_not_idle m (Some (HeldBy y)) e = cc

ready_not_stuck : IsReady ≡ IsStuck → ⊥
ready_not_stuck e = cc

ready_not_idle : IsReady ≡ IsIdle → ⊥
ready_not_idle e = cc

stuck_not_idle : IsStuck ≡ IsIdle → ⊥
stuck_not_idle e = cc

-- a task that is idle though nothing holds it back has no message
nothing_waits : (b : Bool) (q : List (List ℤ)) → b ≡ false → at_queue b q ≡ IsIdle → q ≡ []
nothing_waits true q e h = cc
nothing_waits false [] e h = refl
nothing_waits false (ws ∷ rest) e h = cc

not_back : (b c : Bool) → b ≡ true → (not b && c) ≡ false
not_back true c e = refl
not_back false c e = cc

not_back_then : (b c : Bool) → c ≡ true → (not b && not c) ≡ false
not_back_then true c e = refl
not_back_then false true e = refl
not_back_then false false e = cc

first_within : (s : Setting) (m : ℕ) (items : List Item) → KeepsTypes s → FitItems s items → FirstIsOf s m items → m < length s.system.zeros
first_within s m [] keeps_types fit first = absurd first
first_within s m ((to.Output o, v) ∷ rest) keeps_types fit first = absurd first
first_within s m ((to.Handler h, v) ∷ rest) keeps_types fit first =
    subst (λ m. m < length s.system.zeros) first (keeps_types.has_monitor h v (All-head (λ i. s.fits_item i ≡ true) (to.Handler h, v) rest fit))

module _ (s : Setting) (p : Program) (events : Events) (keeps_types : KeepsTypes s) (for : IsFor s p) (fits : Fits s events) (r : Run) (a : Atomic) (inv : Invariant s p events r a) where
  asked : (x : ℕ) (t : Task) (f : TaskFits s p x t r a) (d : Does) → does p t f.own ≡ d → Asks s x (record { own = f.own; pending = f.items; handed = f.handed; since = f.count }) d (Safe s p t x 0)
  asked x t f d e = subst (λ d. Asks s x (record { own = f.own; pending = f.items; handed = f.handed; since = f.count }) d (Safe s p t x 0)) e (f.safe 1).1

  keeps : (x : ℕ) (t : Task) (f : TaskFits s p x t r a) (d : Does) → does p t f.own ≡ d → Keeps t.buffers f.own (at_take t f.own) d
  keeps x t f d e = subst (Keeps t.buffers f.own (at_take t f.own)) e (does_keeps p t f.own f.within)

  stands : (x : ℕ) (t : Task) → slice_get p.tasks x ≡ Some t → (f : TaskFits s p x t r a) → standing p events r.machine x ≡ standing_of p events r.machine x (does p t f.own)
  stands x t is f =
      ap (λ o. standing_of p events r.machine x (task_does p o (slice_get r.machine.tasks x))) is
      ∙ ap (λ o. standing_of p events r.machine x (task_does p (Some t) o)) f.has_own

  not_stuck : (x : ℕ) (t : Task) (f : TaskFits s p x t r a) (d : Does) → does p t f.own ≡ d → standing_of p events r.machine x d ≡ IsStuck → ⊥
  not_stuck x t f Stuck e h = asked x t f Stuck e
  not_stuck x t f (Private own) e h = ready_not_stuck h
  not_stuck x t f (Takes g) e h = take_not_stuck (held_back p events r.machine x) (queue r.machine x) h
  not_stuck x t f (Locks m g) e h = lock_not_stuck m (slice_get r.machine.locks m) h
  not_stuck x t f (Unlocks w own) e h = ready_not_stuck h
  not_stuck x t f (Writes o ws own) e h = ready_not_stuck h

  -- an idle task is at TAKE, with nothing pending
  record IdleAt (x : ℕ) (t : Task) (f : TaskFits s p x t r a) : Type 0 where
    takes : at_take t f.own ≡ true
    none : f.items ≡ []
    queued : at_queue (held_back p events r.machine x) (queue r.machine x) ≡ IsIdle

  idle_at : (x : ℕ) (t : Task) (f : TaskFits s p x t r a) (d : Does) → does p t f.own ≡ d → standing_of p events r.machine x d ≡ IsIdle → IdleAt x t f
  idle_at x t f Stuck e h = absurd (stuck_not_idle h)
  idle_at x t f (Private own) e h = absurd (ready_not_idle h)
  idle_at x t f (Takes g) e h = record { takes = (at_takes (keeps x t f (Takes g) e)).0; none = (asked x t f (Takes g) e).0; queued = h }
  idle_at x t f (Locks m g) e h = absurd (lock_not_idle m (slice_get r.machine.locks m) h)
  idle_at x t f (Unlocks w own) e h = absurd (ready_not_idle h)
  idle_at x t f (Writes o ws own) e h = absurd (ready_not_idle h)

  idle_so : (x : ℕ) (t : Task) → slice_get p.tasks x ≡ Some t → (f : TaskFits s p x t r a) → standing p events r.machine x ≡ IsIdle → IdleAt x t f
  idle_so x t is f h = idle_at x t f (does p t f.own) refl (sym (stands x t is f) ∙ h)

  holder_goes : (x m : ℕ) (t : Task) (f : TaskFits s p x t r a) (d : Does) → does p t f.own ≡ d → held_monitor f.own ≡ Some m → standing_of p events r.machine x d ≡ IsReady
  holder_goes x m t f Stuck e h = absurd (asked x t f Stuck e)
  holder_goes x m t f (Private own) e h = refl
  holder_goes x m t f (Takes g) e h = absurd (none-some m (sym (not_held f.own (at_takes (keeps x t f (Takes g) e)).1) ∙ h))
  holder_goes x m t f (Locks n g) e h = absurd (none-some m (sym (not_held f.own (at_locks (keeps x t f (Locks n g) e)).0) ∙ h))
  holder_goes x m t f (Unlocks w own) e h = refl
  holder_goes x m t f (Writes o ws own) e h = absurd (none-some m (sym (not_held f.own (at_writes (keeps x t f (Writes o ws own) e)).0) ∙ h))

  task_at : (x : ℕ) (own : Own) → slice_get r.machine.tasks x ≡ Some own → (t : Task) × (slice_get p.tasks x ≡ Some t)
  task_at x own e = get_within p.tasks x (subst (λ n. x < n) inv.task_count (slice_get_within r.machine.tasks x own e))

  -- a task that holds m, as the invariant has it
  record HolderFits (x m : ℕ) : Type 0 where
    t : Task
    is : slice_get p.tasks x ≡ Some t
    f : TaskFits s p x t r a
    has : held_monitor f.own ≡ Some m
    lock : LockFits s x f.items f.handed r.machine.locks a.monitors (Some m)

  holder : (x m : ℕ) → slice_get (map held_monitor r.machine.tasks) x ≡ Some (Some m) → HolderFits x m
  holder x m e =
      let o = get_unmap held_monitor r.machine.tasks x (Some m) e in
      let k = task_at x o.0 o.1 in
      let f = inv.tasks x k.0 k.1 in
      let mine : o.0 ≡ f.own = same_Some o.0 f.own (sym o.1 ∙ f.has_own) in
      let has : held_monitor f.own ≡ Some m = sym (ap held_monitor mine) ∙ o.2 in
      record { t = k.0; is = k.1; f = f; has = has; lock = subst (LockFits s x f.items f.handed r.machine.locks a.monitors) has f.lock_fits }

  holder_ready : (x m : ℕ) → slice_get (map held_monitor r.machine.tasks) x ≡ Some (Some m) → standing p events r.machine x ≡ IsReady
  holder_ready x m e = let h = holder x m e in stands x h.t h.is h.f ∙ holder_goes x m h.t h.f (does p h.t h.f.own) refl h.has

  lock_idle : (x m : ℕ) (l : Option Lock) → slice_get r.machine.locks m ≡ l → m < length s.system.zeros → ((y : ℕ) → y < length p.tasks → standing p events r.machine y ≢ IsReady) → x < length p.tasks → standing p events r.machine x ≡ at_lock m l → standing p events r.machine x ≡ IsIdle
  lock_idle x m None eq lt none within e = let g = get_within r.machine.locks m (subst (λ n. m < n) (sym inv.lock_count) lt) in absurd (none-some g.0 (sym eq ∙ g.1))
  lock_idle x m (Some (Free ws)) eq lt none within e = absurd (none x within e)
  lock_idle x m (Some (HeldBy y)) eq lt none within e =
      let there = inv.held m y eq in
      let h = holder y m there in
      absurd (none y (slice_get_within p.tasks y h.t h.is) (holder_ready y m there))

  take_idle : (x : ℕ) (b : Bool) (q : List (List ℤ)) → standing p events r.machine x ≢ IsReady → standing p events r.machine x ≡ at_queue b q → standing p events r.machine x ≡ IsIdle
  take_idle x true q none e = e
  take_idle x false [] none e = e
  take_idle x false (ws ∷ rest) none e = absurd (none e)

  all_idle : ((y : ℕ) → y < length p.tasks → standing p events r.machine y ≢ IsReady) → (x : ℕ) → x < length p.tasks → (t : Task) (f : TaskFits s p x t r a) (d : Does) → does p t f.own ≡ d → standing p events r.machine x ≡ standing_of p events r.machine x d → standing p events r.machine x ≡ IsIdle
  all_idle none x lt t f Stuck e h = absurd (asked x t f Stuck e)
  all_idle none x lt t f (Private own) e h = absurd (none x lt h)
  all_idle none x lt t f (Takes g) e h = take_idle x (held_back p events r.machine x) (queue r.machine x) (none x lt) h
  all_idle none x lt t f (Locks m g) e h = lock_idle x m (slice_get r.machine.locks m) refl (first_within s m f.items keeps_types f.items_fit (asked x t f (Locks m g) e).0) none lt h
  all_idle none x lt t f (Unlocks w own) e h = absurd (none x lt h)
  all_idle none x lt t f (Writes o ws own) e h = absurd (none x lt h)

  -- where all tasks are idle each init task is clear, so that nobody is held back
  module _ (all : (x : ℕ) → x < length p.tasks → standing p events r.machine x ≡ IsIdle) where
    idle_of : (x : ℕ) (t : Task) (is : slice_get p.tasks x ≡ Some t) → IdleAt x t (inv.tasks x t is)
    idle_of x t is = idle_so x t is (inv.tasks x t is) (all x (slice_get_within p.tasks x t is))

    clear_of : (t : Task) (own : Own) (q : List (List ℤ)) → at_take t own ≡ true → q ≡ [] → is_clear t own q ≡ true
    clear_of t own q e h = subst (λ q. is_clear t own q ≡ true) (sym h) e

    init_clear : (x : ℕ) (k : SourceKind) (t : Task) (own : Own) (q : List (List ℤ)) → slice_get events.kinds x ≡ Some k → slice_get p.tasks x ≡ Some t → slice_get r.machine.tasks x ≡ Some own → slice_get r.machine.queues x ≡ Some q → is_init k ≡ true → is_clear t own q ≡ true
    init_clear x k t own q is_k is has is_q init =
        let f = inv.tasks x t is in
        let i = idle_of x t is in
        let mine : f.own ≡ own = same_Some f.own own (sym f.has_own ∙ has) in
        let its_kind : is_init (kind_at events x) ≡ true = ap is_init (get_or_from_slice_get events.kinds x k kind.Signal is_k) ∙ init in
        let none : queue r.machine x ≡ [] = nothing_waits _ (queue r.machine x) (not_back _ _ its_kind) i.queued in
        clear_of t own q (sym (ap (at_take t) mine) ∙ i.takes) (sym (get_or_from_slice_get r.machine.queues x q [] is_q) ∙ none)

    inits_clear_now : inits_clear events.kinds p.tasks r.machine.tasks r.machine.queues ≡ true
    inits_clear_now = clear_all events.kinds p.tasks r.machine.tasks r.machine.queues
        (λ x k t own q is_k is has is_q. init_clears k t own q (init_clear x k t own q is_k is has is_q))

    no_message : (x : ℕ) → x < length p.tasks → queue r.machine x ≡ []
    no_message x lt =
        let k = get_within p.tasks x lt in
        nothing_waits _ (queue r.machine x) (not_back_then (is_init (kind_at events x)) _ inits_clear_now) (idle_of x k.0 k.1).queued

  pub agrees : Agrees s p events r a
  agrees = record {
    replayed = inv.replayed;
    outputs = inv.outputs;
    queues = inv.queues;
    lost = inv.lost;
    place = inv.place;
    monitors = inv.free;
    holders = inv.held;
    held = λ x m e. (holder x m e).lock.1;
    holds_due = λ x m e. let h = holder x m e in (h.f.items, h.f.has_items, h.lock.0);
    locks_due = λ x t own m g is has e. let f = inv.tasks x t is in
        let mine : f.own ≡ own = same_Some f.own own (sym f.has_own ∙ has) in
        (f.items, f.has_items, (asked x t f (Locks m g) (ap (does p t) mine ∙ e)).0);
    never_stuck = λ x lt h. let k = get_within p.tasks x lt in let f = inv.tasks x k.0 k.1 in not_stuck x k.0 f (does p k.0 f.own) refl (sym (stands x k.0 k.1 f) ∙ h);
    buffers = λ x t own is has. let f = inv.tasks x t is in subst (λ o. IsWithin t.buffers o.buffers) (same_Some f.own own (sym f.has_own ∙ has)) f.within;
    idle = λ x lt h. let k = get_within p.tasks x lt in let f = inv.tasks x k.0 k.1 in f.has_items ∙ ap Some (idle_so x k.0 k.1 f h).none;
    all_idle = λ none x lt. let k = get_within p.tasks x lt in let f = inv.tasks x k.0 k.1 in all_idle none x lt k.0 f (does p k.0 f.own) refl (stands x k.0 k.1 f);
    last = inv.last;
    holder_ready = holder_ready;
    none_waits = no_message;
  }

  pub counts_fit : (x : ℕ) → x < length p.tasks → slice_index r.since x ≤ s.cost x
  counts_fit x lt =
      let k = get_within p.tasks x lt in let f = inv.tasks x k.0 k.1 in
      subst (λ n. n ≤ s.cost x) (sym (get_or_from_slice_get r.since x f.count 0 f.has_count)) (f.safe 1).0
