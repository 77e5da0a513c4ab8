-- Each kind of step keeps the invariant.
use Rattle.std.proofs.Common.{◌≡◌, ◌∙◌, ℕ, suc, ◌+◌, ◌<◌, ℤ, Bool, true, false, not, ◌||◌, ◌&&◌, List, [], ◌∷◌, ◌++◌, map, fold, take, drop, length, cond, Option, Some, None, refl, sym, ap, ap₂, subst, add-one, slice_get, slice_set, slice_index, slice_index_or, option_map, length-set}
use Rattle.std.specs.Prelude.{All}
use Rattle.std.proofs.lemmas.List.{map-set, map-append, append-nil}
use Rattle.std.proofs.lemmas.List.Elements.{All-append, All-head, All-tail}
use Rattle.std.proofs.lemmas.Option.{same_Some, none-some, get_or_from_slice_get, slice_get_within}
use Rattle.tower_types.specs.Value.{Value, parts, no_values, flat}
use Rattle.tower_syntax.specs.declared.arch.SourceKind.{SourceKind}
use Rattle.tower_syntax.specs.declared.arch.SourceKind.TheVariants as kind
use Rattle.tower_syntax.specs.declared.arch.Listener.TheVariants as to
use Rattle.tower_syntax.specs.declared.event.Mark.{Mark}
use Rattle.tower_syntax.specs.declared.event.Mark.TheVariants as mark
use Rattle.tower_syntax.specs.Arch.{Entry, Events}
use Rattle.tower_syntax.specs.Arrival.{is_init, ticks, brought}
use Rattle.tower_meaning.specs.System.{Item}
use Rattle.tower_meaning.specs.Atomic.{Atomic, act, is_none_left, are_inits_done, may_start}
use Rattle.tower_meaning.specs.Atomic as meaning
use Rattle.task_code.specs.declared.program.Task.{Task}
use Rattle.task_code.specs.Program.{Program}
use Rattle.task_code.specs.Own.{Held, Own, held_monitor}
use Rattle.task_code.specs.Does.{Does, Stuck, Private, Takes, Locks, Unlocks, Writes, does, at_take}
use Rattle.task_code.specs.Machine.{Lock, Free, HeldBy, Machine, task_does, next_does, queue, words_of, received}
use Rattle.task_code.specs.Machine as machine
use Rattle.task_code.specs.Standing.{is_clear, inits_clear, kind_at, held_back, at_queue, at_lock, standing_of}
use Rattle.task_code.specs.Run.{Run, Step, Turn, Event, turned, if_ready, came, step}
use Rattle.task_alone.specs.Setting.{Setting, KeepsTypes, IsFor, Fits, FitItems}
use Rattle.task_alone.specs.Alone.{FirstIsOf, Asks, WriteAsks, UnlockAsks, Safe}
use Rattle.task_alone.proofs.Lists.{get_set_same, get_set_other, get_map, get_unmap, get_within, after_set, after_set_apart, queue_there}
use Rattle.lock_reduction.proofs.Arrivals.{all_received}
use Rattle.lock_reduction.proofs.Barrier.{clear_at, done_all, clear_of_init}
use Rattle.lock_reduction.proofs.Kept.{Keeps, does_keeps, at_private, at_takes, at_locks, at_unlocks, at_writes, TakesOrSticks, sticks, takes_then, take_or_stuck}
use Rattle.lock_reduction.proofs.Invariant.{LockFits, TaskFits, Invariant, carry, all_fit, counted_is, replay_more, held_same, others_hold}

-- the message that a queue of words hands on, in the replay
queue_parts : (qs : List (List Value)) (x : ℕ) (ws : List ℤ) (rest : List (List ℤ)) → slice_get (map (map flat) qs) x ≡ Some (ws ∷ rest) → (v : Value) × (vs : List Value) × (slice_get qs x ≡ Some (v ∷ vs)) × (flat v ≡ ws) × (map flat vs ≡ rest)
queue_parts qs x ws rest e = go (get_unmap (map flat) qs x (ws ∷ rest) e)
  where
    by : (q : List Value) → slice_get qs x ≡ Some q → map flat q ≡ ws ∷ rest → (v : Value) × (vs : List Value) × (slice_get qs x ≡ Some (v ∷ vs)) × (flat v ≡ ws) × (map flat vs ≡ rest)
    by [] h g = cc
    by (v ∷ vs) h g = (v, vs, h, cc, cc)

    go : (q : List Value) × (slice_get qs x ≡ Some q) × (map flat q ≡ ws ∷ rest) → (v : Value) × (vs : List Value) × (slice_get qs x ≡ Some (v ∷ vs)) × (flat v ≡ ws) × (map flat vs ≡ rest)
    go s = by s.0 s.1 s.2

pub unlike : (t : ℕ) (ws : List ℤ) → HeldBy t ≡ Free ws → ⊥
unlike t ws e = cc

same_holder : (t u : ℕ) → HeldBy t ≡ HeldBy u → t ≡ u
same_holder t u e = cc

pub same_words : (ws us : List ℤ) → Free ws ≡ Free us → ws ≡ us
same_words ws us e = cc

pub held_is : (own : Own) (h : Held) → own.held ≡ Some h → held_monitor own ≡ Some h.monitor
held_is own h e = ap (option_map (λ h. h.monitor)) e

none_some : (n : ℕ) → None ≡ Some n → ⊥
none_some n e = cc

pub not_held : (own : Own) → own.held ≡ None → held_monitor own ≡ None
not_held own e = cc

-- with nothing pending and no message, an init source is done
done_of : (q : List Value) (items : List Item) → map flat q ≡ [] → items ≡ [] → is_none_left q items ≡ true
done_of [] [] e h = refl
done_of [] (i ∷ items) e h = cc
done_of (v ∷ q) items e h = cc

clear_queue : (t : Task) (own : Own) (q : List (List ℤ)) → is_clear t own q ≡ true → (q ≡ []) × (at_take t own ≡ true)
clear_queue t own [] e = (refl, e)
clear_queue t own (m ∷ q) e = cc

module _ (s : Setting) (p : Program) (events : Events) (keeps_types : KeepsTypes s) (for : IsFor s p) (fits : Fits s events) (r : Run) (a : Atomic) (inv : Invariant s p events r a) where
  asked : (x : ℕ) (t : Task) (f : TaskFits s p x t r a) (d : Does) → does p t f.own ≡ d → (n : ℕ) → Asks s x (record { own = f.own; pending = f.items; handed = f.handed; since = f.count }) d (Safe s p t x n)
  asked x t f d e n = subst (λ d. Asks s x (record { own = f.own; pending = f.items; handed = f.handed; since = f.count }) d (Safe s p t x n)) e (f.safe (suc n)).1

  -- a task at TAKE has nothing pending
  at_take_none : (x : ℕ) (t : Task) (f : TaskFits s p x t r a) → at_take t f.own ≡ true → f.items ≡ []
  at_take_none x t f e = by (does p t f.own) refl (take_or_stuck p t f.own e)
    where
      by : (d : Does) → does p t f.own ≡ d → TakesOrSticks d → f.items ≡ []
      by Stuck is sticks = absurd (asked x t f Stuck is 0)
      by (Takes g) is (takes_then g') = (asked x t f (Takes g) is 0).0
      by (Private own) is h = elim h [ ]
      by (Locks m g) is h = elim h [ ]
      by (Unlocks h own) is g = elim g [ ]
      by (Writes o ws own) is h = elim h [ ]

  -- where nothing holds a task back, the replay lets its source start
  init_done : inits_clear events.kinds p.tasks r.machine.tasks r.machine.queues ≡ true → (x : ℕ) (k : SourceKind) (q : List Value) (items : List Item) → slice_get s.system.kinds x ≡ Some k → slice_get a.queues x ≡ Some q → slice_get a.pending x ≡ Some items → is_init k ≡ true → is_none_left q items ≡ true
  init_done clear x k q items is_k is_q is_items init =
      let there = get_within p.tasks x (subst (λ n. x < n) (sym for.tasks) (slice_get_within s.system.kinds x k is_k)) in
      let f = inv.tasks x there.0 there.1 in
      let words : slice_get r.machine.queues x ≡ Some (map flat q) = ap (λ qs. slice_get qs x) inv.queues ∙ get_map (map flat) a.queues x q is_q in
      let is_kind : slice_get events.kinds x ≡ Some k = ap (λ ks. slice_get ks x) fits.kinds ∙ is_k in
      let cleared = clear_queue there.0 f.own (map flat q) (clear_of_init k there.0 f.own (map flat q) init (clear_at events.kinds p.tasks r.machine.tasks r.machine.queues clear x k there.0 f.own (map flat q) is_kind there.1 f.has_own words)) in
      let mine : f.items ≡ items = same_Some f.items items (sym f.has_items ∙ is_items) in
      done_of q items cleared.0 (sym mine ∙ at_take_none x there.0 f cleared.1)

  inits_done : inits_clear events.kinds p.tasks r.machine.tasks r.machine.queues ≡ true → are_inits_done s.system.kinds a.queues a.pending ≡ true
  inits_done clear = done_all s.system.kinds a.queues a.pending (init_done clear)

  may : (x : ℕ) → held_back p events r.machine x ≡ false → may_start s.system a x ≡ true
  may x e = subst (λ ks. (is_init (slice_index_or ks x kind.Signal) || are_inits_done s.system.kinds a.queues a.pending) ≡ true) fits.kinds
      (by (is_init (kind_at events x)) (inits_clear events.kinds p.tasks r.machine.tasks r.machine.queues) inits_done e)
    where
      by : (b c : Bool) → (c ≡ true → are_inits_done s.system.kinds a.queues a.pending ≡ true) → (not b && not c) ≡ false → (b || are_inits_done s.system.kinds a.queues a.pending) ≡ true
      by true c done e = refl
      by false true done e = done refl
      by false false done e = cc

  module _ (x : ℕ) (t : Task) (is : slice_get p.tasks x ≡ Some t) (f : TaskFits s p x t r a) where
    keeps : (d : Does) → does p t f.own ≡ d → Keeps t.buffers f.own (at_take t f.own) d
    keeps d e = subst (Keeps t.buffers f.own (at_take t f.own)) e (does_keeps p t f.own f.within)

    asked_here : (d : Does) → does p t f.own ≡ d → (n : ℕ) → Asks s x (record { own = f.own; pending = f.items; handed = f.handed; since = f.count }) d (Safe s p t x n)
    asked_here d e n = asked x t f d e n

    private_turn : (own : Own) → does p t f.own ≡ Private own → Invariant s p events (record { machine = machine.moved r.machine x own; marks = r.marks; written = r.written; ran = None; since = slice_set r.since x (suc (slice_index r.since x)) }) a
    private_turn own e =
        let r' : Run = record { machine = machine.moved r.machine x own; marks = r.marks; written = r.written; ran = None; since = slice_set r.since x (suc (slice_index r.since x)) } in
        let k = at_private (keeps (Private own) e) in
        record {
          replayed = inv.replayed;
          outputs = inv.outputs;
          queues = inv.queues;
          lost = inv.lost;
          place = inv.place;
          tasks = all_fit r' a x t is inv.tasks
              (λ y ne. record { tasks = get_set_other r.machine.tasks x y own ne; pending = refl; since = get_set_other r.since x y _ ne; locks = λ m h. h; values = λ m h. refl })
              (record {
                own = own;
                items = f.items;
                handed = f.handed;
                count = suc f.count;
                has_own = get_set_same r.machine.tasks x f.own own f.has_own;
                has_items = f.has_items;
                has_count = counted_is r.since x f.count f.has_count;
                safe = asked_here (Private own) e;
                items_fit = f.items_fit;
                within = k.1;
                lock_fits = subst (LockFits s x f.items f.handed r.machine.locks a.monitors) (sym k.0) f.lock_fits;
              });
          free = inv.free;
          held = λ m y h. subst (λ l. slice_get l y ≡ Some (Some m)) (sym (held_same r.machine.tasks x f.own own f.has_own k.0)) (inv.held m y h);
          lock_count = inv.lock_count;
          task_count = length-set r.machine.tasks x own ∙ inv.task_count;
          last = tt;
          values_fit = inv.values_fit;
          queued_fit = inv.queued_fit;
        }

    take_turn : (g : List ℤ → Own) (ws : List ℤ) (rest : List (List ℤ)) → does p t f.own ≡ Takes g → held_back p events r.machine x ≡ false → queue r.machine x ≡ ws ∷ rest → (a' : Atomic) × Invariant s p events (record { machine = record (machine.moved r.machine x (g ws)) { queues = slice_set r.machine.queues x rest }; marks = r.marks ++ mark.Start x ∷ []; written = r.written; ran = None; since = slice_set r.since x 1 }) a'
    take_turn g ws rest e free_to q =
        let parts_of = queue_parts a.queues x ws rest (subst (λ l. slice_get l x ≡ Some (ws ∷ rest)) inv.queues (queue_there r.machine.queues x ws rest q)) in
        let v : Value = parts_of.0 in
        let vs : List Value = parts_of.1 in
        let queued : slice_get a.queues x ≡ Some (v ∷ vs) = parts_of.2 in
        let words : flat v ≡ ws = parts_of.3 in
        let fit_all = inv.queued_fit x (v ∷ vs) queued in
        let fit_first : s.fits_message x v ≡ true = All-head (λ v. s.fits_message x v ≡ true) v vs fit_all in
        let ask = asked_here (Takes g) e in
        let nothing : f.items ≡ [] = (ask 0).0 in
        let k = at_takes (keeps (Takes g) e) in
        let free : held_monitor (g ws) ≡ None = not_held (g ws) (k.2 ws) in
        let same : held_monitor (g ws) ≡ held_monitor f.own = free ∙ sym (not_held f.own k.1) in
        let a' : Atomic = record a { queues = slice_set a.queues x vs; pending = slice_set a.pending x (s.system.subscribers x v) } in
        let r' : Run = record { machine = record (machine.moved r.machine x (g ws)) { queues = slice_set r.machine.queues x rest }; marks = r.marks ++ mark.Start x ∷ []; written = r.written; ran = None; since = slice_set r.since x 1 } in
        let acts : act s.system events a (mark.Start x) ≡ Some a' = ap₂ (meaning.begin s.system a x) (f.has_items ∙ ap Some nothing) queued ∙ ap (λ b. cond b (Some a') None) (may x free_to) in (
          a',
          record {
            replayed = replay_more s.system events r.marks (mark.Start x) a a' inv.replayed acts;
            outputs = inv.outputs;
            queues = ap₂ (λ l i. slice_set l x i) inv.queues (sym parts_of.4) ∙ sym (map-set (map flat) a.queues x vs);
            lost = inv.lost;
            place = inv.place;
            tasks = all_fit r' a' x t is inv.tasks
                (λ y ne. record { tasks = get_set_other r.machine.tasks x y (g ws) ne; pending = get_set_other a.pending x y _ ne; since = get_set_other r.since x y 1 ne; locks = λ m h. h; values = λ m h. refl })
                (record {
                  own = g ws;
                  items = s.system.subscribers x v;
                  handed = f.handed;
                  count = 1;
                  has_own = get_set_same r.machine.tasks x f.own (g ws) f.has_own;
                  has_items = get_set_same a.pending x f.items (s.system.subscribers x v) f.has_items;
                  has_count = get_set_same r.since x f.count 1 f.has_count;
                  safe = λ n. subst (λ ws. Safe s p t x n (record { own = g ws; pending = s.system.subscribers x v; handed = f.handed; since = 1 })) words ((ask n).1 v fit_first);
                  items_fit = keeps_types.delivered x v fit_first;
                  within = k.3 ws;
                  lock_fits = subst (LockFits s x (s.system.subscribers x v) f.handed r.machine.locks a.monitors) (sym free) tt;
                });
            free = inv.free;
            held = λ m y h. subst (λ l. slice_get l y ≡ Some (Some m)) (sym (held_same r.machine.tasks x f.own (g ws) f.has_own same)) (inv.held m y h);
            lock_count = inv.lock_count;
            task_count = length-set r.machine.tasks x (g ws) ∙ inv.task_count;
            last = tt;
            values_fit = inv.values_fit;
            queued_fit = after_set (λ y q. All (λ v. s.fits_message y v ≡ true) q) a.queues x vs inv.queued_fit (All-tail (λ v. s.fits_message x v ≡ true) v vs fit_all);
          },
        )

    lock_turn : (m : ℕ) (g : List ℤ → Own) (ws : List ℤ) → does p t f.own ≡ Locks m g → slice_get r.machine.locks m ≡ Some (Free ws) → Invariant s p events (record { machine = record (machine.moved r.machine x (g ws)) { locks = slice_set r.machine.locks m (HeldBy x) }; marks = r.marks; written = r.written; ran = None; since = slice_set r.since x (suc (slice_index r.since x)) }) a
    lock_turn m g ws e l =
        let known = get_unmap flat a.monitors m ws (inv.free m ws l) in
        let v : Value = known.0 in
        let has : slice_get a.monitors m ≡ Some v = known.1 in
        let words : flat v ≡ ws = known.2 in
        let ask = asked_here (Locks m g) e in
        let first : FirstIsOf s m f.items = (ask 0).0 in
        let k = at_locks (keeps (Locks m g) e) in
        let none : held_monitor f.own ≡ None = not_held f.own k.0 in
        let r' : Run = record { machine = record (machine.moved r.machine x (g ws)) { locks = slice_set r.machine.locks m (HeldBy x) }; marks = r.marks; written = r.written; ran = None; since = slice_set r.since x (suc (slice_index r.since x)) } in
        let none_there : slice_get (map held_monitor r.machine.tasks) x ≡ Some None = get_map held_monitor r.machine.tasks x f.own f.has_own ∙ ap Some none in
        let now_there : slice_get (map held_monitor (slice_set r.machine.tasks x (g ws))) x ≡ Some (Some m) =
        get_map held_monitor (slice_set r.machine.tasks x (g ws)) x (g ws) (get_set_same r.machine.tasks x f.own (g ws) f.has_own) ∙ ap Some (k.1 ws) in
        record {
          replayed = inv.replayed;
          outputs = inv.outputs;
          queues = inv.queues;
          lost = inv.lost;
          place = inv.place;
          tasks = all_fit r' a x t is inv.tasks
              (λ y ne. record {
                tasks = get_set_other r.machine.tasks x y (g ws) ne;
                pending = refl;
                since = get_set_other r.since x y _ ne;
                locks = λ n h. get_set_other r.machine.locks m n (HeldBy x) (λ same. unlike y ws (same_Some (HeldBy y) (Free ws) (sym h ∙ ap (slice_get r.machine.locks) (sym same) ∙ l))) ∙ h;
                values = λ n h. refl;
              })
              (record {
                own = g ws;
                items = f.items;
                handed = v;
                count = suc f.count;
                has_own = get_set_same r.machine.tasks x f.own (g ws) f.has_own;
                has_items = f.has_items;
                has_count = counted_is r.since x f.count f.has_count;
                safe = λ n. subst (λ ws. Safe s p t x n (record { own = g ws; pending = f.items; handed = v; since = suc f.count })) words ((ask n).1 v (inv.values_fit m v has));
                items_fit = f.items_fit;
                within = k.2 ws;
                lock_fits = subst (LockFits s x f.items v (slice_set r.machine.locks m (HeldBy x)) a.monitors) (sym (k.1 ws)) (first, get_set_same r.machine.locks m (Free ws) (HeldBy x) l, has);
              });
          free = λ n us h. after_set (λ n lock. (us : List ℤ) → lock ≡ Free us → slice_get (map flat a.monitors) n ≡ Some us) r.machine.locks m (HeldBy x) (λ j lock h us c. inv.free j us (h ∙ ap Some c)) (λ us c. absurd (unlike x us c)) n (Free us) h us refl;
          held = λ n y h. after_set (λ n lock. (y : ℕ) → lock ≡ HeldBy y → slice_get (map held_monitor (slice_set r.machine.tasks x (g ws))) y ≡ Some (Some n)) r.machine.locks m (HeldBy x)
              (λ j lock h y c. others_hold r.machine.tasks x y (g ws) j None none_there (λ c. none_some j c) (inv.held j y (h ∙ ap Some c)))
              (λ y c. subst (λ y. slice_get (map held_monitor (slice_set r.machine.tasks x (g ws))) y ≡ Some (Some m)) (same_holder x y c) now_there) n (HeldBy y) h y refl;
          lock_count = length-set r.machine.locks m (HeldBy x) ∙ inv.lock_count;
          task_count = length-set r.machine.tasks x (g ws) ∙ inv.task_count;
          last = tt;
          values_fit = inv.values_fit;
          queued_fit = inv.queued_fit;
        }

    write_with : (o : ℕ) (ws : List ℤ) (own : Own) → does p t f.own ≡ Writes o ws own → (items : List Item) → f.items ≡ items → ((n : ℕ) → WriteAsks (record { own = f.own; pending = f.items; handed = f.handed; since = f.count }) o ws own items (Safe s p t x n)) → (a' : Atomic) × Invariant s p events (turned r x (Writes o ws own)) a'
    write_with o ws own e [] eq ask = absurd (ask 0)
    write_with o ws own e ((to.Handler h, v) ∷ rest) eq ask = absurd (ask 0)
    write_with o ws own e ((to.Output out, v) ∷ rest) eq ask =
        let k = at_writes (keeps (Writes o ws own) e) in
        let free : held_monitor own ≡ None = not_held own k.1 in
        let same : held_monitor own ≡ held_monitor f.own = free ∙ sym (not_held f.own k.0) in
        let a' : Atomic = record a { pending = slice_set a.pending x rest; outputs = a.outputs ++ (out, v) ∷ [] } in
        let r' : Run = turned r x (Writes o ws own) in
        let acts : act s.system events a (mark.Out x) ≡ Some a' = ap (meaning.put a x) (f.has_items ∙ ap Some eq) in
        let fit : FitItems s ((to.Output out, v) ∷ rest) = subst (FitItems s) eq f.items_fit in (
          a',
          record {
            replayed = replay_more s.system events r.marks (mark.Out x) a a' inv.replayed acts;
            outputs = ap₂ (λ l i. l ++ i ∷ []) inv.outputs (ap₂ (λ (n : ℕ) (l : List ℤ). (n, l)) (sym (ask 0).0) (ask 0).1) ∙ sym (map-append (λ o. (o.0, flat o.1)) a.outputs ((out, v) ∷ []));
            queues = inv.queues;
            lost = inv.lost;
            place = inv.place;
            tasks = all_fit r' a' x t is inv.tasks
                (λ y ne. record { tasks = get_set_other r.machine.tasks x y own ne; pending = get_set_other a.pending x y _ ne; since = get_set_other r.since x y _ ne; locks = λ m h. h; values = λ m h. refl })
                (record {
                  own = own;
                  items = rest;
                  handed = f.handed;
                  count = suc f.count;
                  has_own = get_set_same r.machine.tasks x f.own own f.has_own;
                  has_items = get_set_same a.pending x f.items rest f.has_items;
                  has_count = counted_is r.since x f.count f.has_count;
                  safe = λ n. (ask n).2;
                  items_fit = All-tail (λ i. s.fits_item i ≡ true) (to.Output out, v) rest fit;
                  within = k.2;
                  lock_fits = subst (LockFits s x rest f.handed r.machine.locks a.monitors) (sym free) tt;
                });
            free = inv.free;
            held = λ m y h. subst (λ l. slice_get l y ≡ Some (Some m)) (sym (held_same r.machine.tasks x f.own own f.has_own same)) (inv.held m y h);
            lock_count = inv.lock_count;
            task_count = length-set r.machine.tasks x own ∙ inv.task_count;
            last = tt;
            values_fit = inv.values_fit;
            queued_fit = inv.queued_fit;
          },
        )

    write_turn : (o : ℕ) (ws : List ℤ) (own : Own) → does p t f.own ≡ Writes o ws own → (a' : Atomic) × Invariant s p events (turned r x (Writes o ws own)) a'
    write_turn o ws own e = write_with o ws own e f.items refl (asked_here (Writes o ws own) e)

    unlock_with : (h : Held) (own : Own) → does p t f.own ≡ Unlocks h own → (items : List Item) → f.items ≡ items → LockFits s x items f.handed r.machine.locks a.monitors (Some h.monitor) → ((n : ℕ) → UnlockAsks s x (record { own = f.own; pending = f.items; handed = f.handed; since = f.count }) h own items (Safe s p t x n)) → (a' : Atomic) × Invariant s p events (record (turned r x (Unlocks h own)) { written = r.written }) a'
    unlock_with h own e [] eq lock ask = absurd (ask 0)
    unlock_with h own e ((to.Output o, v) ∷ rest) eq lock ask = absurd (ask 0)
    unlock_with h own e ((to.Handler n, msg) ∷ rest) eq lock ask =
        let k = at_unlocks (keeps (Unlocks h own) e) in
        let free : held_monitor own ≡ None = not_held own k.1 in
        let of : s.system.monitor n ≡ h.monitor = lock.0 in
        let here : slice_get r.machine.locks h.monitor ≡ Some (HeldBy x) = lock.1 in
        let value : slice_get a.monitors (s.system.monitor n) ≡ Some f.handed = ap (slice_get a.monitors) of ∙ lock.2 in
        let fit : FitItems s ((to.Handler n, msg) ∷ rest) = subst (FitItems s) eq f.items_fit in
        let fit_first : s.fits_item (to.Handler n, msg) ≡ true = All-head (λ i. s.fits_item i ≡ true) (to.Handler n, msg) rest fit in
        let value_fits : s.fits_monitor (s.system.monitor n) f.handed ≡ true = inv.values_fit (s.system.monitor n) f.handed value in
        let new : Value = (s.system.effect n f.handed msg).states in
        let sent : List Item = s.system.follow n (s.system.effect n f.handed msg).lists in
        let later : List Item = sent ++ rest in
        let a' : Atomic = record a { monitors = slice_set a.monitors (s.system.monitor n) new; pending = slice_set a.pending x later } in
        let r' : Run = record (turned r x (Unlocks h own)) { written = r.written } in
        let acts : act s.system events a (mark.Run x) ≡ Some a' =
        ap (meaning.run s.system a x) (f.has_items ∙ ap Some eq)
        ∙ ap (λ w. Some (record a { monitors = slice_set a.monitors (s.system.monitor n) (s.system.effect n w msg).states; pending = slice_set a.pending x (s.system.follow n (s.system.effect n w msg).lists ++ rest) }))
        (get_or_from_slice_get a.monitors (s.system.monitor n) f.handed (parts no_values) value) in
        -- a lock that is not with x is another one
        let apart : (j : ℕ) (lock : Lock) → slice_get r.machine.locks j ≡ Some lock → (HeldBy x ≡ lock → ⊥) → h.monitor ≡ j → ⊥ = λ j lock has ne same. ne (same_Some (HeldBy x) lock (sym here ∙ ap (slice_get r.machine.locks) same ∙ has)) in
        let held_there : slice_get (map held_monitor r.machine.tasks) x ≡ Some (Some h.monitor) = get_map held_monitor r.machine.tasks x f.own f.has_own ∙ ap (λ o. Some o) (held_is f.own h k.0) in (
          a',
          record {
            replayed = replay_more s.system events r.marks (mark.Run x) a a' inv.replayed acts;
            outputs = inv.outputs;
            queues = inv.queues;
            lost = inv.lost;
            place = inv.place;
            tasks = all_fit r' a' x t is inv.tasks
                (λ y ne. record {
                  tasks = get_set_other r.machine.tasks x y own ne;
                  pending = get_set_other a.pending x y _ ne;
                  since = get_set_other r.since x y _ ne;
                  locks = λ m has. get_set_other r.machine.locks h.monitor m (Free h.words) (apart m (HeldBy y) has (λ c. ne (same_holder x y c))) ∙ has;
                  values = λ m has. get_set_other a.monitors (s.system.monitor n) m new (λ c. apart m (HeldBy y) has (λ c. ne (same_holder x y c)) (sym of ∙ c));
                })
                (record {
                  own = own;
                  items = later;
                  handed = f.handed;
                  count = suc f.count;
                  has_own = get_set_same r.machine.tasks x f.own own f.has_own;
                  has_items = get_set_same a.pending x f.items later f.has_items;
                  has_count = counted_is r.since x f.count f.has_count;
                  safe = λ n. (ask n).2;
                  items_fit = All-append (λ i. s.fits_item i ≡ true) sent rest (keeps_types.sent_fit n f.handed msg value_fits fit_first) (All-tail (λ i. s.fits_item i ≡ true) (to.Handler n, msg) rest fit);
                  within = k.2;
                  lock_fits = subst (LockFits s x later f.handed (slice_set r.machine.locks h.monitor (Free h.words)) (slice_set a.monitors (s.system.monitor n) new)) (sym free) tt;
                });
            free = λ m us has. after_set (λ m lock. (us : List ℤ) → lock ≡ Free us → slice_get (map flat (slice_set a.monitors (s.system.monitor n) new)) m ≡ Some us) r.machine.locks h.monitor (Free h.words)
                (λ j lock has us c. subst (λ l. slice_get l j ≡ Some us) (sym (map-set flat a.monitors (s.system.monitor n) new)) (get_set_other (map flat a.monitors) (s.system.monitor n) j (flat new) (λ d. apart j (Free us) (has ∙ ap Some c) (unlike x us) (sym of ∙ d)) ∙ inv.free j us (has ∙ ap Some c)))
                (λ us c. subst (λ m. slice_get (map flat (slice_set a.monitors (s.system.monitor n) new)) m ≡ Some us) of (get_map flat (slice_set a.monitors (s.system.monitor n) new) (s.system.monitor n) new (get_set_same a.monitors (s.system.monitor n) f.handed new value) ∙ ap Some (sym (ask 0).0 ∙ same_words h.words us c)))
                m (Free us) has us refl;
            held = λ m y has. after_set_apart (λ m lock. (y : ℕ) → lock ≡ HeldBy y → slice_get (map held_monitor (slice_set r.machine.tasks x own)) y ≡ Some (Some m)) r.machine.locks h.monitor (Free h.words)
                (λ j lock ne has y c. others_hold r.machine.tasks x y own j (Some h.monitor) held_there (λ d. ne (same_Some h.monitor j d)) (inv.held j y (has ∙ ap Some c)))
                (λ y c. absurd (unlike y h.words (sym c))) m (HeldBy y) has y refl;
            lock_count = length-set r.machine.locks h.monitor (Free h.words) ∙ inv.lock_count;
            task_count = length-set r.machine.tasks x own ∙ inv.task_count;
            last = record {
              earlier = r.marks;
              marks_are = refl;
              before = a;
              replayed = inv.replayed;
              h = n;
              message = msg;
              rest = rest;
              value = f.handed;
              own = own;
              first = f.has_items ∙ ap Some eq;
              has_value = value;
              has_own = get_set_same r.machine.tasks x f.own own f.has_own;
              holds = (ask 0).1;
            };
            values_fit = after_set (λ m v. s.fits_monitor m v ≡ true) a.monitors (s.system.monitor n) new inv.values_fit (keeps_types.after_fits n f.handed msg value_fits fit_first);
            queued_fit = inv.queued_fit;
          },
        )

    unlock_turn : (h : Held) (own : Own) → does p t f.own ≡ Unlocks h own → (a' : Atomic) × Invariant s p events (record (turned r x (Unlocks h own)) { written = r.written }) a'
    unlock_turn h own e =
        let k = at_unlocks (keeps (Unlocks h own) e) in
        unlock_with h own e f.items refl (subst (LockFits s x f.items f.handed r.machine.locks a.monitors) (held_is f.own h k.0) f.lock_fits) (asked_here (Unlocks h own) e)

  here : (q q' : Run) → Some q ≡ Some q' → (a' : Atomic) × Invariant s p events q a' → (a' : Atomic) × Invariant s p events q' a'
  here q q' e g = subst (λ q. (a' : Atomic) × Invariant s p events q a') (same_Some q q' e) g

  -- a step that makes no mark, or writes nothing, appends nothing
  no_mark : (q : Run) (ms : List Mark) (a' : Atomic) → Invariant s p events (record q { marks = ms }) a' → Invariant s p events (record q { marks = ms ++ [] }) a'
  no_mark q ms a' i = subst (λ l. Invariant s p events (record q { marks = l }) a') (sym (append-nil ms)) i

  no_writing : (q : Run) (ws : List (ℕ × List ℤ)) (a' : Atomic) → Invariant s p events (record q { written = ws }) a' → Invariant s p events (record q { written = ws ++ [] }) a'
  no_writing q ws a' i = subst (λ l. Invariant s p events (record q { written = l }) a') (sym (append-nil ws)) i

  module _ (x : ℕ) (t : Task) (is : slice_get p.tasks x ≡ Some t) (f : TaskFits s p x t r a) (r' : Run) where
    private_goes : (own : Own) → does p t f.own ≡ Private own → Some (turned r x (Private own)) ≡ Some r' → (a' : Atomic) × Invariant s p events r' a'
    private_goes own e h =
        let q : Run = record r { machine = machine.moved r.machine x own; ran = None; since = slice_set r.since x (suc (slice_index r.since x)) } in
        here (turned r x (Private own)) r' h (a, no_writing (record q { marks = r.marks ++ [] }) r.written a (no_mark q r.marks a (private_turn x t is f own e)))

    -- the run after a task took the oldest message of a queue
    abbrev taken : (List ℤ → Own) → List (List ℤ) → Run
    taken g q = record (turned r x (Takes g)) { machine = record (machine.moved r.machine x (g (slice_index_or q 0 []))) { queues = slice_set r.machine.queues x (drop 1 q) } }

    takes_goes : (g : List ℤ → Own) → does p t f.own ≡ Takes g → (b : Bool) → held_back p events r.machine x ≡ b → (q : List (List ℤ)) → queue r.machine x ≡ q → if_ready (at_queue b q) (turned r x (Takes g)) ≡ Some r' → (a' : Atomic) × Invariant s p events r' a'
    takes_goes g e true back q is_q h = absurd (none-some r' h)
    takes_goes g e false back [] is_q h = absurd (none-some r' h)
    takes_goes g e false back (ws ∷ rest) is_q h =
        let k = take_turn x t is f g ws rest e back is_q in
        let q : Run = record (taken g (ws ∷ rest)) { written = r.written } in
        here (taken g (ws ∷ rest)) r' (ap (λ q. Some (taken g q)) (sym is_q) ∙ h) (k.0, no_writing q r.written k.0 k.1)

    -- the run after a task took a lock that was so
    abbrev locked : ℕ → (List ℤ → Own) → Option Lock → Run
    locked m g l = record (turned r x (Locks m g)) { machine = record (machine.moved r.machine x (g (words_of l))) { locks = slice_set r.machine.locks m (HeldBy x) } }

    locks_goes : (m : ℕ) (g : List ℤ → Own) → does p t f.own ≡ Locks m g → (l : Option Lock) → slice_get r.machine.locks m ≡ l → if_ready (at_lock m l) (turned r x (Locks m g)) ≡ Some r' → (a' : Atomic) × Invariant s p events r' a'
    locks_goes m g e None is_l h = absurd (none-some r' h)
    locks_goes m g e (Some (HeldBy y)) is_l h = absurd (none-some r' h)
    locks_goes m g e (Some (Free ws)) is_l h =
        let q : Run = record (locked m g (Some (Free ws))) { marks = r.marks; written = r.written } in
        here (locked m g (Some (Free ws))) r' (ap (λ l. Some (locked m g l)) (sym is_l) ∙ h) (a, no_writing (record q { marks = r.marks ++ [] }) r.written a (no_mark q r.marks a (lock_turn x t is f m g ws e is_l)))

    unlock_goes : (w : Held) (own : Own) → does p t f.own ≡ Unlocks w own → Some (turned r x (Unlocks w own)) ≡ Some r' → (a' : Atomic) × Invariant s p events r' a'
    unlock_goes w own e h =
        let k = unlock_turn x t is f w own e in
        here (turned r x (Unlocks w own)) r' h (k.0, no_writing (record (turned r x (Unlocks w own)) { written = r.written }) r.written k.0 k.1)

    turn_goes : (d : Does) → does p t f.own ≡ d → if_ready (standing_of p events r.machine x d) (turned r x d) ≡ Some r' → (a' : Atomic) × Invariant s p events r' a'
    turn_goes Stuck e h = absurd (none-some r' h)
    turn_goes (Private own) e h = private_goes own e h
    turn_goes (Takes g) e h = takes_goes g e (held_back p events r.machine x) refl (queue r.machine x) refl h
    turn_goes (Locks m g) e h = locks_goes m g e (slice_get r.machine.locks m) refl h
    turn_goes (Unlocks w own) e h = unlock_goes w own e h
    turn_goes (Writes o ws own) e h = here (turned r x (Writes o ws own)) r' h (write_turn x t is f o ws own e)

  task_goes : (x : ℕ) (o : Option Task) → slice_get p.tasks x ≡ o → (r' : Run) → if_ready (standing_of p events r.machine x (task_does p o (slice_get r.machine.tasks x))) (turned r x (task_does p o (slice_get r.machine.tasks x))) ≡ Some r' → (a' : Atomic) × Invariant s p events r' a'
  task_goes x None eq r' h = absurd (none-some r' h)
  task_goes x (Some t) eq r' h =
      let f = inv.tasks x t eq in
      turn_goes x t eq f r' (does p t f.own) refl (subst (λ o. if_ready (standing_of p events r.machine x (task_does p (Some t) o)) (turned r x (task_does p (Some t) o)) ≡ Some r') f.has_own h)

  entry_comes : (e : Entry) → slice_get events.entries r.machine.place ≡ Some e → (a' : Atomic) × Invariant s p events (record r { machine = received events r.machine e; marks = r.marks ++ mark.Arrive ∷ []; ran = None }) a'
  entry_comes e eq =
      let m0 : Machine = record r.machine { place = suc r.machine.place } in
      let a0 : Atomic = record a { place = a.place + 1 } in
      let bs : List (ℕ × Value) = brought s.system.kinds (ticks (take (suc r.machine.place) events.entries)) e in
      let m' : Machine = fold (machine.bring events.depths) m0 (map (λ b. (b.0, flat b.1)) bs) in
      let a' : Atomic = fold (meaning.bring s.system) a0 bs in
      let g = all_received s events.depths fits.depths bs m0 a0 inv.queues inv.lost inv.queued_fit (fits.messages r.machine.place e eq) in
      let on_one : a.place + 1 ≡ suc r.machine.place = add-one a.place ∙ ap suc (sym inv.place) in
      let acts : act s.system events a mark.Arrive ≡ Some a' =
      ap (meaning.arrive s.system events a) (sym (ap (slice_get events.entries) inv.place) ∙ eq)
      ∙ ap (λ n. Some (fold (meaning.bring s.system) a0 (brought s.system.kinds (ticks (take n events.entries)) e))) on_one in
      let r' : Run = record r { machine = m'; marks = r.marks ++ mark.Arrive ∷ []; ran = None } in (
        a',
        subst (λ ks. Invariant s p events (record r { machine = fold (machine.bring events.depths) m0 (map (λ b. (b.0, flat b.1)) (brought ks (ticks (take (suc r.machine.place) events.entries)) e)); marks = r.marks ++ mark.Arrive ∷ []; ran = None }) a')
            (sym fits.kinds)
            (record {
              replayed = replay_more s.system events r.marks mark.Arrive a a' inv.replayed acts;
              outputs = inv.outputs ∙ ap (map (λ o. (o.0, flat o.1))) (sym g.outputs);
              queues = g.queues;
              lost = g.lost;
              place = g.place ∙ sym on_one ∙ sym g.record_place;
              tasks = λ y t is. carry r' a' (inv.tasks y t is) (record {
                tasks = ap (λ l. slice_get l y) g.tasks;
                pending = ap (λ l. slice_get l y) g.pending;
                since = refl;
                locks = λ m h. ap (λ l. slice_get l m) g.locks ∙ h;
                values = λ m h. ap (λ l. slice_get l m) g.monitors;
              });
              free = λ m ws h. ap (λ l. slice_get (map flat l) m) g.monitors ∙ inv.free m ws (ap (λ l. slice_get l m) (sym g.locks) ∙ h);
              held = λ m y h. ap (λ l. slice_get (map held_monitor l) y) g.tasks ∙ inv.held m y (ap (λ l. slice_get l m) (sym g.locks) ∙ h);
              lock_count = ap length g.locks ∙ inv.lock_count;
              task_count = ap length g.tasks ∙ inv.task_count;
              last = tt;
              values_fit = λ m v h. inv.values_fit m v (ap (λ l. slice_get l m) (sym g.monitors) ∙ h);
              queued_fit = g.fit;
            }),
      )

  event_goes : (o : Option Entry) → slice_get events.entries r.machine.place ≡ o → (r' : Run) → came events r o ≡ Some r' → (a' : Atomic) × Invariant s p events r' a'
  event_goes None eq r' h = absurd (none-some r' h)
  event_goes (Some e) eq r' h = here _ r' h (entry_comes e eq)

  pub step_keeps : (z : Step) (r' : Run) → step p events r z ≡ Some r' → (a' : Atomic) × Invariant s p events r' a'
  step_keeps (Turn x) r' h = task_goes x (slice_get p.tasks x) refl r' h
  step_keeps Event r' h = event_goes (slice_get events.entries r.machine.place) refl r' h
