-- What a running machine keeps stays, whatever a task does.
use Rattle.std.proofs.Common.{◌≡◌, ℕ, zero, suc, ◌+◌, ◌<◌, ◌≤◌, ℤ, Bool, List, [], ◌∷◌, length, map, drop, Option, Some, None, slice_get, slice_index_or, slice_set, refl, ap, sym, ◌∙◌, subst, arith, inl, inr, length-drop, length-append}
use Rattle.std.specs.Prelude.{All, IsSomeAnd, slice_index}
use Rattle.std.specs.Option.{option_map}
use Rattle.std.proofs.Math.ListN.{length-set}
use Rattle.std.proofs.lemmas.List.{length-take}
use Rattle.std.proofs.lemmas.List.Elements.{All-drop, All-set}
use Rattle.std.proofs.lemmas.Bool.{cases_eq}
use Rattle.tower_syntax.specs.Arch.{Events}
use Rattle.task_code.specs.declared.program.Task.{Task}
use Rattle.task_code.specs.Program.{Program}
use Rattle.task_code.specs.Own.{Own, Held, held_monitor}
use Rattle.task_code.specs.Does.{laid}
use Rattle.task_code.specs.Machine.{Lock, Free, HeldBy, words_of}
use Rattle.task_code.specs.Standing.{at_lock, IsReady}
use Rattle.task_machine.specs.Lock.{free_words}
use Rattle.task_machine.specs.Policy.{IsBelow}
use Rattle.task_machine.specs.declared.action.Change.{Change}
use Rattle.task_machine.specs.declared.action.Change.TheVariants.{Pop, Push, Store, StoreHeld, Jump, Call, Return, Fill, Count}
use Rattle.task_machine.specs.Action.{changed, with_held_word}
use Rattle.task_machine.specs.Queue.{Queue, waiting, lost, capped, is_numbered, IsQueue}
use Rattle.task_machine.specs.Kept.{HaveRoom, HasWords, HaveWords, HoldsWords, HoldWords, AreQueues, IsKept, coming, kind_of, depth_of}
use Rattle.task_machine.proofs.Lists.{get_at, get_some, get_within, set_same, get_map, set_map}

module _ {X : Type 0} where
  pub get_set_same : (xs : List X) (i : ℕ) (x : X) → i < length xs → slice_get (slice_set xs i x) i ≡ Some x
  get_set_same [] i x h = absurd (omega arith)
  get_set_same (y ∷ xs) zero x h = refl
  get_set_same (y ∷ xs) (suc i) x h = get_set_same xs i x (omega arith)

  pub get_set_other : (xs : List X) (i j : ℕ) (x : X) → (j ≡ i → ⊥) → slice_get (slice_set xs i x) j ≡ slice_get xs j
  get_set_other [] i j x h = refl
  get_set_other (y ∷ xs) zero zero x h = absurd (h refl)
  get_set_other (y ∷ xs) zero (suc j) x h = refl
  get_set_other (y ∷ xs) (suc i) zero x h = refl
  get_set_other (y ∷ xs) (suc i) (suc j) x h = get_set_other xs i j x (λ e. h (ap suc e))

  -- an element that was read is the one that stands there
  pub read_is : (xs : List X) (i : ℕ) (r x : X) → i < length xs → r ≡ slice_index_or xs i r → slice_get xs i ≡ Some x → r ≡ x
  read_is xs i r x h e g =
      let f = get_at xs i r h in
      let k : Some (slice_index_or xs i r) ≡ Some x = sym f ∙ g in
      e ∙ cc

  pub get_read : (xs : List X) (i : ℕ) (r : X) → i < length xs → r ≡ slice_index_or xs i r → slice_get xs i ≡ Some r
  get_read xs i r h e = get_at xs i r h ∙ ap Some (sym e)

-- no change but a write to the private words touches them, and that keeps their number
pub length_changed : (c : Change) (own : Own) → length (changed c own).words ≡ length own.words
length_changed (Pop n) own = refl
length_changed (Push n w) own = refl
length_changed (Store n a w) own = length-set own.words a w
length_changed (StoreHeld n a w) own = refl
length_changed (Jump n to) own = refl
length_changed (Call to) own = refl
length_changed (Return to) own = refl
length_changed (Fill n b j v) own = refl
length_changed (Count b n) own = refl

held_stored : (a : ℕ) (w : ℤ) (held : Option Held) → option_map (λ h. h.monitor) (option_map (with_held_word a w) held) ≡ option_map (λ h. h.monitor) held
held_stored a w None = refl
held_stored a w (Some h) = refl

-- and the lock that is held stays
pub held_changed : (c : Change) (own : Own) → held_monitor (changed c own) ≡ held_monitor own
held_changed (Pop n) own = refl
held_changed (Push n w) own = refl
held_changed (Store n a w) own = refl
held_changed (StoreHeld n a w) own = held_stored a w own.held
held_changed (Jump n to) own = refl
held_changed (Call to) own = refl
held_changed (Return to) own = refl
held_changed (Fill n b j v) own = refl
held_changed (Count b n) own = refl

held_words_stored : (p : Program) (a : ℕ) (w : ℤ) (held : Option Held) → HoldsWords p held → HoldsWords p (option_map (with_held_word a w) held)
held_words_stored p a w None is = tt
held_words_stored p a w (Some h) is = length-set h.words a w ∙ is

-- and so does the number of its words
pub held_words_changed : (p : Program) (c : Change) (own : Own) → HoldsWords p own.held → HoldsWords p (changed c own).held
held_words_changed p (Pop n) own is = is
held_words_changed p (Push n w) own is = is
held_words_changed p (Store n a w) own is = is
held_words_changed p (StoreHeld n a w) own is = held_words_stored p a w own.held is
held_words_changed p (Jump n to) own is = is
held_words_changed p (Call to) own is = is
held_words_changed p (Return to) own is = is
held_words_changed p (Fill n b j v) own is = is
held_words_changed p (Count b n) own is = is

pub length_laid : (a : ℕ) (message ws : List ℤ) → a + length message ≤ length ws → length (laid a message ws) ≡ length ws
length_laid a message ws h = simp (length-append, length-take, length-drop) (omega arith)

have_room : (p : Program) (owns : List Own) (x : ℕ) (own later : Own) → HaveRoom p owns → slice_get owns x ≡ Some own → x < length owns
    → length later.words ≡ length own.words → HaveRoom p (slice_set owns x later)
have_room p owns x own later h g l e = λ y t o at there.
    elim (cases_eq y x) [
      | inl same ↦
          let f : slice_get (slice_set owns x later) x ≡ Some o = subst (λ (z : ℕ). slice_get (slice_set owns x later) z ≡ Some o) same there in
          let k : later ≡ o = let q = sym (get_set_same owns x later l) ∙ f in cc in
          let r : slice_get p.tasks x ≡ Some t = subst (λ (z : ℕ). slice_get p.tasks z ≡ Some t) same at in
          rw (← k) (e ∙ h x t own r g)
      | inr other ↦ h y t o at (sym (get_set_other owns x y later other) ∙ there)
    ]

-- what holds of each element of a list still does, once one is written that it holds of
each_set : {X : Type 0} (P : ℕ → X → Type 0) (xs : List X) (i : ℕ) (x : X) → i < length xs → P i x → ((j : ℕ) (y : X) → slice_get xs j ≡ Some y → P j y)
    → (j : ℕ) (y : X) → slice_get (slice_set xs i x) j ≡ Some y → P j y
each_set P xs i x l here each = λ j y at.
    elim (cases_eq j i) [
      | inl same ↦
          let f : slice_get (slice_set xs i x) i ≡ Some y = rw same at at in
          let k : x ≡ y = let q = sym (get_set_same xs i x l) ∙ f in cc in
          rw (same, ← k) here
      | inr other ↦ each j y (sym (get_set_other xs i j x other) ∙ at)
    ]

hold_words : (p : Program) (owns : List Own) (x : ℕ) (later : Own) → x < length owns → HoldsWords p later.held → HoldWords p owns → HoldWords p (slice_set owns x later)
hold_words p owns x later l here each = each_set (λ j own. HoldsWords p own.held) owns x later l here each

pub have_words : (p : Program) (locks : List Lock) (m : ℕ) (l : Lock) → m < length locks → HasWords (slice_index p.monitors m) l → HaveWords p locks → HaveWords p (slice_set locks m l)
have_words p locks m l within here each = each_set (λ j lock. HasWords (slice_index p.monitors j) lock) locks m l within here each

pub free_words_has : (n : ℕ) (l : Lock) (ws : List ℤ) → HasWords n l → Some ws ≡ free_words l → length ws ≡ n
free_words_has n (Free vs) ws is e = let f : ws ≡ vs = cc in ap length f ∙ is
free_words_has n (HeldBy t) ws is e = cc

less_capped : (d : Option ℕ) (m n : ℕ) → m ≤ n → capped d m ≤ capped d n
less_capped None m n h = h
less_capped (Some d) m n h = omega arith

less_within : (d : Option ℕ) (m n : ℕ) → m ≤ n → n ≡ capped d n → m ≡ capped d m
less_within None m n h e = refl
less_within (Some d) m n h e = omega arith

-- a queue without its oldest message is one
shorter_queue : (width : ℕ) (depth : Option ℕ) (b : Bool) (n place : ℕ) (q rest : Queue) → IsQueue width depth b n place q
    → waiting rest ≡ drop 1 (waiting q) → lost rest ≡ lost q → rest.room ≡ q.room → rest.numbered ≡ q.numbered → IsQueue width depth b n place rest
shorter_queue width depth b n place q rest is w m r k =
    let short : length (waiting rest) ≤ length (waiting q) = rw (w, length-drop) (omega arith) in
    let P : List (List ℤ) → Type 0 = All (λ m. length m ≡ width) in
    let less = less_capped depth (length (waiting rest) + n) (length (waiting q) + n) (omega arith) in
    record {
      messages = subst P (sym w) (All-drop (λ m. length m ≡ width) 1 (waiting q) is.messages);
      within = less_within depth (length (waiting rest)) (length (waiting q)) short is.within;
      room = let a = is.room in omega (arith, less, r, a);
      few_lost = let a = is.few_lost in omega (arith, m, a);
      numbered = k ∙ is.numbered;
    }

shorter : (p : Program) (events : Events) (k place : ℕ) (qs : List Queue) (x : ℕ) (q rest : Queue) → AreQueues p events k place qs → slice_get qs x ≡ Some q → x < length qs
    → waiting rest ≡ drop 1 (waiting q) → lost rest ≡ lost q → rest.room ≡ q.room → rest.numbered ≡ q.numbered → AreQueues p events k place (slice_set qs x rest)
shorter p events k place qs x q rest are at l w m r n = λ y t later g there.
    elim (cases_eq y x) [
      | inl same ↦
          let f : slice_get (slice_set qs x rest) x ≡ Some later = subst (λ (z : ℕ). slice_get (slice_set qs x rest) z ≡ Some later) same there in
          let e : rest ≡ later = let u = sym (get_set_same qs x rest l) ∙ f in cc in
          let s : slice_get qs y ≡ Some q = subst (λ (z : ℕ). slice_get qs z ≡ Some q) (sym same) at in
          let is = are y t q g s in
          subst (λ (z : Queue). IsQueue t.message (depth_of events y) (is_numbered (kind_of events y)) (coming (kind_of events y) y k (drop place events.entries)) place z) e (shorter_queue _ _ _ _ place q rest is w m r n)
      | inr other ↦ are y t later g (sym (get_set_other qs x y rest other) ∙ there)
    ]

-- a lock that is free, and the words of its monitor
pub ready_within : (locks : List Lock) (j k : ℕ) → at_lock j (slice_get locks k) ≡ IsReady → k < length locks
ready_within [] j k e = cc
ready_within (l ∷ locks) j zero e = omega arith
ready_within (l ∷ locks) j (suc k) e = let h = ready_within locks j k e in omega arith

free_words_of : (l : Lock) (ws : List ℤ) → Some ws ≡ free_words l → words_of (Some l) ≡ ws
free_words_of (Free vs) ws e = cc
free_words_of (HeldBy t) ws e = cc

pub words_free : (locks : List Lock) (k : ℕ) (l : Lock) (ws : List ℤ) → k < length locks → l ≡ slice_index_or locks k l → Some ws ≡ free_words l → words_of (slice_get locks k) ≡ ws
words_free locks k l ws h e f = ap words_of (get_read locks k l h e) ∙ free_words_of l ws f

abbrev parts_of : Held → ℕ × List ℤ
parts_of h = (h.monitor, h.words)

-- the parts of a lock that is held
pub held_is : (held : Option Held) (parts : ℕ × List ℤ) → Some parts ≡ option_map parts_of held → held ≡ Some (record { monitor = parts.0; words = parts.1 })
held_is None parts e = cc
held_is (Some h) parts e =
    let both : parts_of h ≡ parts = cc in
    ap (λ (r : ℕ × List ℤ). Some (record { monitor = r.0; words = r.1 })) both

pub none_held : (held : Option Held) (P : ℕ → Type 0) → None ≡ option_map parts_of held → IsSomeAnd (option_map (λ h. h.monitor) held) P → ⊥
none_held None P e h = h
none_held (Some h) P e g = cc

-- the queues after the oldest message of one of them is taken
pub queue_is : (qs : List Queue) (x : ℕ) (q : Queue) → slice_get qs x ≡ Some q → slice_index_or (map waiting qs) x [] ≡ waiting q
queue_is qs x q e = get_some (map waiting qs) x [] (waiting q) (get_map waiting qs x ∙ ap (option_map waiting) e)

pub oldest_is : (qs : List Queue) (x : ℕ) (q : Queue) (message : List ℤ) → slice_get qs x ≡ Some q → Some message ≡ slice_get (waiting q) 0 → slice_index_or (slice_index_or (map waiting qs) x []) 0 [] ≡ message
oldest_is qs x q message e f = rw (queue_is qs x q e) (get_some (waiting q) 0 [] message (sym f))

pub waiting_taken : (qs : List Queue) (x : ℕ) (q rest : Queue) → slice_get qs x ≡ Some q → waiting rest ≡ drop 1 (waiting q)
    → map waiting (slice_set qs x rest) ≡ slice_set (map waiting qs) x (drop 1 (slice_index_or (map waiting qs) x []))
waiting_taken qs x q rest e f = sym (rw (queue_is qs x q e, ← f) (set_map waiting qs x rest))

pub lost_taken : (qs : List Queue) (x : ℕ) (q rest : Queue) → slice_get qs x ≡ Some q → lost rest ≡ lost q → map lost (slice_set qs x rest) ≡ map lost qs
lost_taken qs x q rest e f =
    let at : slice_get (map lost qs) x ≡ Some (lost rest) = get_map lost qs x ∙ ap (option_map lost) e ∙ ap Some (sym f) in
    sym (set_map lost qs x rest) ∙ set_same (map lost qs) x (lost rest) at

module _ {p : Program} {events : Events} {owns : List Own} {locks : List Lock} {qs : List Queue} {messages : List (List ℤ)} {held : List (Option ℕ)} {k place : ℕ} where
  -- a task's own part changes, and the lock that it holds stays
  pub kept_own : IsKept p events owns locks qs messages held k place → (x : ℕ) (own later : Own) → slice_get owns x ≡ Some own → x < length owns
      → length later.words ≡ length own.words → held_monitor later ≡ held_monitor own → (HoldsWords p own.held → HoldsWords p later.held)
      → IsKept p events (slice_set owns x later) locks qs messages held k place
  kept_own kept x own later g l e f h = record {
    fits = kept.fits;
    owns_count = length-set owns x later ∙ kept.owns_count;
    locks_count = kept.locks_count;
    queues_count = kept.queues_count;
    words = have_room p owns x own later kept.words g l e;
    free = kept.free;
    held_words = hold_words p owns x later l (h (kept.held_words x own g)) kept.held_words;
    queues = kept.queues;
    to_come = kept.to_come;
    holds =
        let at : slice_get (map held_monitor owns) x ≡ Some (held_monitor later) = get_map held_monitor owns x ∙ ap (option_map held_monitor) g ∙ ap Some (sym f) in
        kept.holds ∙ sym (set_same (map held_monitor owns) x (held_monitor later) at) ∙ set_map held_monitor owns x later;
    below = kept.below;
    count = kept.count;
    at = kept.at;
  }

  -- the lock that it holds changes too, and the locks
  pub kept_held : IsKept p events owns locks qs messages held k place → (x : ℕ) (own later : Own) (m : Option ℕ) (locks' : List Lock) → slice_get owns x ≡ Some own → x < length owns
      → length later.words ≡ length own.words → held_monitor later ≡ m → IsBelow (length p.monitors) m → HoldsWords p later.held → length locks' ≡ length locks → HaveWords p locks'
      → IsKept p events (slice_set owns x later) locks' qs messages (slice_set held x m) k place
  kept_held kept x own later m locks' g l e f b h n free = record {
    fits = kept.fits;
    owns_count = length-set owns x later ∙ kept.owns_count;
    locks_count = n ∙ kept.locks_count;
    queues_count = kept.queues_count;
    words = have_room p owns x own later kept.words g l e;
    free = free;
    held_words = hold_words p owns x later l h kept.held_words;
    queues = kept.queues;
    to_come = kept.to_come;
    holds = rw (kept.holds, ← f) (set_map held_monitor owns x later);
    below = All-set (IsBelow (length p.monitors)) held x m b kept.below;
    count = kept.count;
    at = kept.at;
  }

  -- and a task takes the oldest message of its source
  pub kept_take : IsKept p events owns locks qs messages held k place → (x : ℕ) (own later : Own) (q rest : Queue) → slice_get owns x ≡ Some own → x < length owns
      → slice_get qs x ≡ Some q → length later.words ≡ length own.words → held_monitor later ≡ held_monitor own → (HoldsWords p own.held → HoldsWords p later.held)
      → waiting rest ≡ drop 1 (waiting q) → lost rest ≡ lost q → rest.room ≡ q.room → rest.numbered ≡ q.numbered
      → IsKept p events (slice_set owns x later) locks (slice_set qs x rest) messages held k place
  kept_take kept x own later q rest g l at e f h w n r b =
      let parts = kept_own kept x own later g l e f h in record {
        fits = kept.fits;
        owns_count = parts.owns_count;
        locks_count = kept.locks_count;
        queues_count = length-set qs x rest ∙ kept.queues_count;
        words = parts.words;
        free = kept.free;
        held_words = parts.held_words;
        queues = shorter p events k place qs x q rest kept.queues at (get_within qs x q at) w n r b;
        to_come = kept.to_come;
        holds = parts.holds;
        below = kept.below;
        count = kept.count;
        at = kept.at;
      }

  -- the oldest message of a source fits where its task has room for one
  pub message_fits : IsKept p events owns locks qs messages held k place → (x a : ℕ) (t : Task) (own : Own) (q : Queue) (message : List ℤ) → slice_get p.tasks x ≡ Some t → slice_get owns x ≡ Some own
      → slice_get qs x ≡ Some q → Some message ≡ slice_get (waiting q) 0 → a + t.message ≤ t.room → a + length message ≤ length own.words
  message_fits kept x a t own q message at g there first within =
      let room = kept.words x t own at g in
      let is = kept.queues x t q at there in
      let width : length message ≡ t.message = each (waiting q) message first is.messages in
      omega (arith, room, width, within)
    where
      each : {n : ℕ} (ms : List (List ℤ)) (m : List ℤ) → Some m ≡ slice_get ms 0 → All (λ m. length m ≡ n) ms → length m ≡ n
      each [] m e all = cc
      each {n = n} (v ∷ ms) m e all = let h : v ≡ m = cc in subst (λ (z : List ℤ). length z ≡ n) h (all 0 v (omega arith))
