-- What a running machine keeps when an entry of the record comes.
use Rattle.std.proofs.Common.{◌≡◌, ℕ, zero, suc, ◌+◌, ◌<◌, ◌≤◌, ◌^◌, ℤ, pos, Bool, true, false, cond, List, [], ◌∷◌, ◌++◌, length, take, drop, Option, Some, None, slice_get, map, refl, ap, sym, ◌∙◌, subst, arith, add-one, inl, inr, length-append}
use Rattle.std.specs.Prelude.{fold, All, ◌==◌}
use Rattle.std.proofs.lemmas.Bool.{cases_eq}
use Rattle.std.proofs.lemmas.Bool.Decides.{nat_tests}
use Rattle.std.proofs.lemmas.List.Elements.{All-push}
use Rattle.tower_types.specs.Value.{Value, flat}
use Rattle.tower_syntax.specs.declared.arch.SourceKind.{SourceKind}
use Rattle.tower_syntax.specs.declared.arch.SourceKind.TheVariants as kind
use Rattle.tower_syntax.specs.Arch.{Entry, tick, signal, Events}
use Rattle.tower_syntax.specs.Arrival.{ticks, is_tick, is_full, is_init, is_due}
use Rattle.tower_syntax.specs.declared.event.Events.{Events as EventsValue}
use Rattle.tower_syntax.specs.View.{events_of}
use Rattle.std.specs.Option.{option_map}
use Rattle.std.proofs.lemmas.List.{length-map}
use Rattle.task_code.specs.declared.program.Task.{Task}
use Rattle.task_code.specs.Program.{Program}
use Rattle.task_code.specs.Fits.{FitsKind, FitsSignal, FitsEntry}
use Rattle.task_code.specs.Own.{Own}
use Rattle.task_code.specs.Machine.{Lock, Machine, bring, received}
use Rattle.task_machine.specs.Queue.{Queue, waiting, lost, capped, is_numbered, IsQueue}
use Rattle.task_machine.specs.Brought.{with_queues, depth_at, kind_in, CanBring, Brought, tick_messages}
use Rattle.task_machine.specs.Kept.{IsKept, coming, signals, kind_of, depth_of}
use Rattle.task_machine.specs.declared.running.Turn.{Turn}
use Rattle.task_machine.specs.declared.running.Arrival.TheVariants.{Tick, Signal}
use Rattle.task_machine.specs.Arriving.{IsSignal, Stays, reaches}
use Rattle.task_machine.specs.State.{State}
use Rattle.task_machine.specs.View.{machine_of, state_of}
use Rattle.task_machine.proofs.Lists.{get_at, get_some, get_within, get_map, drop_at}
use Rattle.task_machine.proofs.Stands.{get_exists}

ticks_more : (es : List Entry) (n : ℕ) (e : Entry) → slice_get es n ≡ Some e → ticks (take (suc n) es) ≡ cond (is_tick e) 1 0 + ticks (take n es)
ticks_more [] n e h = cc
ticks_more (d ∷ es) zero e h = let f : d ≡ e = cc in rw f refl
ticks_more (d ∷ es) (suc n) e h = let f = ticks_more es n e h in omega (arith, f)

pub ticks_few : (es : List Entry) (n : ℕ) → ticks (take n es) ≤ n
ticks_few es zero = omega arith
ticks_few [] (suc n) = omega arith
ticks_few (tick ∷ es) (suc n) = let h = ticks_few es n in omega (arith, h)
ticks_few (signal x v ∷ es) (suc n) = let h = ticks_few es n in omega (arith, h)

module _ (events : Events) (owns : List Own) (locks : List Lock) (qs later : List Queue) (place : ℕ) where
  pub received_tick : (k : ℕ) → slice_get events.entries place ≡ Some tick → k ≡ ticks (take place events.entries)
      → ((m : Machine) → with_queues m later ≡ fold (bring events.depths) (with_queues m qs) (tick_messages events.kinds (k + 1) 0))
      → machine_of owns locks later (place + 1) ≡ received events (machine_of owns locks qs place) tick
  received_tick k at count is =
      let e : ticks (take (suc place) events.entries) ≡ k + 1 = ticks_more events.entries place tick at ∙ let c = count in omega (arith, c) in
      rw (add-one, e) (is (machine_of owns locks qs (suc place)))

  pub received_signal : (x : ℕ) (v : Value) → ((m : Machine) → with_queues m later ≡ bring events.depths (with_queues m qs) (x, flat v))
      → machine_of owns locks later (place + 1) ≡ received events (machine_of owns locks qs place) (signal x v)
  received_signal x v is = rw add-one (is (machine_of owns locks qs (suc place)))

-- a queue that is not full has room for one of the messages that are still to come
room_of : (depth : Option ℕ) (n c room : ℕ) → n ≡ capped depth n → capped depth (n + (1 + c)) ≤ room → is_full depth n ≡ false → n < room
room_of None n c room w r f = omega arith
room_of (Some d) n c room w r f =
    let other : n ≡ d → ⊥ = λ e. let t : (n == d) ≡ true = grind (arith, nat_tests) in let a : true ≡ false = sym t ∙ f in cc in
    omega (arith, other)

pub can_bring : (width : ℕ) (depth : Option ℕ) (b : Bool) (c place : ℕ) (q : Queue) → IsQueue width depth b (1 + c) place q → place + 1 < 2 ^ 64 → CanBring depth b q
can_bring width depth b c place q is h = record {
  room = room_of depth (length (waiting q)) c q.room is.within is.room;
  count = let l = is.few_lost in omega (arith, l, h);
  kind = is.numbered;
}

capped_less : (d : Option ℕ) (n c room : ℕ) → capped d (n + (1 + c)) ≤ room → capped d (n + c) ≤ room
capped_less None n c room h = omega arith
capped_less (Some d) n c room h = omega arith

capped_same : (d : Option ℕ) (n c room : ℕ) → capped d (n + (1 + c)) ≤ room → capped d ((n + 1) + c) ≤ room
capped_same None n c room h = omega arith
capped_same (Some d) n c room h = omega arith

within_more : (d : Option ℕ) (n : ℕ) → n ≡ capped d n → is_full d n ≡ false → n + 1 ≡ capped d (n + 1)
within_more None n w f = refl
within_more (Some d) n w f =
    let other : n ≡ d → ⊥ = λ e. let t : (n == d) ≡ true = grind (arith, nat_tests) in let a : true ≡ false = sym t ∙ f in cc in
    omega (arith, other)

-- a queue after one of them came
by_full : (width : ℕ) (depth : Option ℕ) (k : Bool) (c place : ℕ) (q r : Queue) (message : List ℤ) (b : Bool) → is_full depth (length (waiting q)) ≡ b → length message ≡ width
    → IsQueue width depth k (1 + c) place q
    → waiting r ≡ cond b (waiting q) (waiting q ++ message ∷ []) → lost r ≡ cond b (suc (lost q)) (lost q) → r.room ≡ q.room → r.numbered ≡ q.numbered
    → IsQueue width depth k c (suc place) r
by_full width depth k c place q r message true f l is w d s m =
    let n : length (waiting r) ≡ length (waiting q) = ap length w in record {
      messages = subst (λ (ms : List (List ℤ)). All (λ m. length m ≡ width) ms) (sym w) is.messages;
      within = rw n is.within;
      room = rw (n, s) (capped_less depth (length (waiting q)) c q.room is.room);
      few_lost = let a = is.few_lost in omega (arith, a, d);
      numbered = m ∙ is.numbered;
    }
by_full width depth k c place q r message false f l is w d s m =
    let n : length (waiting r) ≡ length (waiting q) + 1 = ap length w ∙ length-append (waiting q) (message ∷ []) in record {
      messages = subst (λ (ms : List (List ℤ)). All (λ m. length m ≡ width) ms) (sym w) (All-push (λ m. length m ≡ width) (waiting q) message is.messages l);
      within = rw n (within_more depth (length (waiting q)) is.within f);
      room = rw (n, s) (capped_same depth (length (waiting q)) c q.room is.room);
      few_lost = let a = is.few_lost in omega (arith, a, d);
      numbered = m ∙ is.numbered;
    }

brought_queue : (width : ℕ) (depth : Option ℕ) (k : Bool) (c place : ℕ) (q r : Queue) (message : List ℤ) → length message ≡ width
    → IsQueue width depth k (1 + c) place q → Brought depth message q r → IsQueue width depth k c (suc place) r
brought_queue width depth k c place q r message l is b =
    by_full width depth k c place q r message (is_full depth (length (waiting q))) refl l is b.waits b.drops b.room b.kind

-- and one to which none came
passed_queue : (width : ℕ) (depth : Option ℕ) (b : Bool) (c place : ℕ) (q : Queue) → IsQueue width depth b (0 + c) place q → IsQueue width depth b c (suc place) q
passed_queue width depth b c place q is = record {
  messages = is.messages;
  within = is.within;
  room = let e : 0 + c ≡ c = omega arith in rw e at is.room;
  few_lost = let a = is.few_lost in omega (arith, a);
  numbered = is.numbered;
}

-- a message of a tick is one word
period_width : (kind : SourceKind) (k : ℕ) (t : Task) (depth : Option ℕ) → FitsKind kind t depth → is_due k kind ≡ true → t.message ≡ 1
period_width kind.Init k t depth fits due = fits.0
period_width (kind.Period ms) k t depth fits due = fits.0
period_width kind.Signal k t depth fits due = cc

coming_tick : (kind : SourceKind) (x k place : ℕ) (es : List Entry) → slice_get es place ≡ Some tick
    → coming kind x k (drop place es) ≡ cond (is_due (suc k) kind) 1 0 + coming kind x (suc k) (drop (suc place) es)
coming_tick kind x k place es at = rw (drop_at es place tick at) refl

coming_signal : (kind : SourceKind) (x y k place : ℕ) (v : Value) (es : List Entry) → slice_get es place ≡ Some (signal y v)
    → coming kind x k (drop place es) ≡ cond (y == x) 1 0 + coming kind x k (drop (suc place) es)
coming_signal kind x y k place v es at = rw (drop_at es place (signal y v) at) refl

tick_queue : (t : Task) (kind : SourceKind) (depth : Option ℕ) (k c place : ℕ) (q r : Queue) (b : Bool) → is_due (suc k) kind ≡ b → FitsKind kind t depth
    → IsQueue t.message depth (is_numbered kind) (cond b 1 0 + c) place q → (is_due (suc k) kind ≡ true → Brought depth (pos (suc k) ∷ []) q r) → (is_due (suc k) kind ≡ false → r ≡ q)
    → IsQueue t.message depth (is_numbered kind) c (suc place) r
tick_queue t kind depth k c place q r true due fits is comes stays =
    brought_queue t.message depth (is_numbered kind) c place q r (pos (suc k) ∷ []) (sym (period_width kind (suc k) t depth fits due)) is (comes due)
tick_queue t kind depth k c place q r false due fits is comes stays =
    subst (λ (z : Queue). IsQueue t.message depth (is_numbered kind) c (suc place) z) (sym (stays due)) (passed_queue t.message depth (is_numbered kind) c place q is)

-- the signal that an entry is
pub is_signal : (x : ℕ) (o : Option Entry) → IsSignal x o → (v : Value) × (o ≡ Some (signal x v))
is_signal x None h = absurd h
is_signal x (Some tick) h = absurd h
is_signal x (Some (signal y v)) h = (v, ap (λ (z : ℕ). Some (signal z v)) h)

signal_only : (v : Value) (k : Option SourceKind) (o : Option Task) → FitsSignal v k o → k ≡ Some kind.Signal
signal_only v None o h = absurd h
signal_only v (Some kind.Init) o h = absurd h
signal_only v (Some (kind.Period ms)) o h = absurd h
signal_only v (Some kind.Signal) o h = refl

due_numbered : (k : ℕ) (kind : SourceKind) → is_due k kind ≡ true → is_numbered kind ≡ true
due_numbered k kind.Init e = cc
due_numbered k (kind.Period ms) e = refl
due_numbered k kind.Signal e = cc

fits_signal : (v : Value) (k : Option SourceKind) (o : Option Task) → FitsSignal v k o → (t : Task) × (o ≡ Some t) × (length (flat v) ≡ t.message)
fits_signal v None o h = absurd h
fits_signal v (Some kind.Init) o h = absurd h
fits_signal v (Some (kind.Period ms)) o h = absurd h
fits_signal v (Some kind.Signal) None h = absurd h
fits_signal v (Some kind.Signal) (Some t) h = (t, refl, h.0)

signal_queue : (t : Task) (depth : Option ℕ) (b : Bool) (x y c place : ℕ) (q r : Queue) (message : List ℤ)
    → (y ≡ x → length message ≡ t.message) → IsQueue t.message depth b (cond (x == y) 1 0 + c) place q
    → (y ≡ x → Brought depth message q r) → ((y ≡ x → ⊥) → r ≡ q)
    → IsQueue t.message depth b c (suc place) r
signal_queue t depth b x y c place q r message width is comes stays =
    elim (cases_eq y x) [
      | inl here ↦
          let e : (x == y) ≡ true = grind (arith, nat_tests) in
          brought_queue t.message depth b c place q r message (width here) (rw e at is) (comes here)
      | inr other ↦
          let e : (x == y) ≡ false = grind (arith, nat_tests) in
          subst (λ (z : Queue). IsQueue t.message depth b c (suc place) z) (sym (stays other)) (passed_queue t.message depth b c place q (rw e at is))
    ]

module _ {p : Program} {events : Events} {owns : List Own} {locks : List Lock} {qs : List Queue} {messages : List (List ℤ)} {held : List (Option ℕ)} {k place : ℕ}
    (kept : IsKept p events owns locks qs messages held k place) where
  fits_at : (x : ℕ) (t : Task) → slice_get p.tasks x ≡ Some t → FitsKind (kind_of events x) t (depth_of events x)
  fits_at x t at =
      let a = get_within p.tasks x t at in
      let in_kinds : x < length events.kinds = let e = kept.fits.tasks in omega (arith, a, e) in
      let in_depths : x < length events.depths = let e = kept.fits.depths in omega (arith, in_kinds, e) in
      kept.fits.sources x (kind_of events x) t (depth_of events x) (get_at events.kinds x kind.Signal in_kinds) at (get_at events.depths x None in_depths)

  pub tick_room : slice_get events.entries place ≡ Some tick → place + 1 < 2 ^ 64 → (x : ℕ) (q : Queue) → slice_get qs x ≡ Some q → is_due (k + 1) (kind_in events.kinds x) ≡ true → CanBring (depth_at events.depths x) true q
  tick_room here h x q at due =
      let a = get_within qs x q at in
      let in_tasks : x < length p.tasks = let e = kept.queues_count in omega (arith, a, e) in
      let t = get_exists p.tasks x in_tasks in
      let is = kept.queues x t.0 q t.1 at in
      let due' : is_due (suc k) (kind_of events x) ≡ true = rw add-one at due in
      let can = can_bring t.0.message (depth_of events x) (is_numbered (kind_of events x)) (coming (kind_of events x) x (suc k) (drop (suc place) events.entries)) place q
      (rw (coming_tick (kind_of events x) x k place events.entries here, due') at is) h in
      subst (λ (b : Bool). CanBring (depth_of events x) b q) (due_numbered (suc k) (kind_of events x) due') can

  pub kept_tick : (later : List Queue) → slice_get events.entries place ≡ Some tick → length later ≡ length qs
      → ((x : ℕ) (q r : Queue) → slice_get qs x ≡ Some q → slice_get later x ≡ Some r → is_due (k + 1) (kind_in events.kinds x) ≡ true → Brought (depth_at events.depths x) (pos (k + 1) ∷ []) q r)
      → ((x : ℕ) → is_due (k + 1) (kind_in events.kinds x) ≡ false → slice_get later x ≡ slice_get qs x)
      → IsKept p events owns locks later messages held (k + 1) (place + 1)
  kept_tick later here n comes stays = rw (add-one k, add-one place) (record {
    fits = kept.fits;
    owns_count = kept.owns_count;
    locks_count = kept.locks_count;
    queues_count = n ∙ kept.queues_count;
    words = kept.words;
    free = kept.free;
    held_words = kept.held_words;
    queues = λ x t r at there.
        let a = get_within later x r there in
        let q = get_exists qs x (omega (arith, a, n)) in
        let is = rw (coming_tick (kind_of events x) x k place events.entries here) at (kept.queues x t q.0 at q.1) in
        let come : is_due (suc k) (kind_of events x) ≡ true → Brought (depth_of events x) (pos (suc k) ∷ []) q.0 r =
        λ due. rw add-one at (comes x q.0 r q.1 there (rw add-one due)) in
        let stay : is_due (suc k) (kind_of events x) ≡ false → r ≡ q.0 =
        λ due. let f : Some r ≡ Some q.0 = sym there ∙ stays x (rw add-one due) ∙ q.1 in cc in
        tick_queue t (kind_of events x) (depth_of events x) k (coming (kind_of events x) x (suc k) (drop (suc place) events.entries)) place q.0 r
        (is_due (suc k) (kind_of events x)) refl (fits_at x t at) is come stay;
    to_come = kept.to_come ∙ rw (drop_at events.entries place tick here) refl;
    holds = kept.holds;
    below = kept.below;
    count = let c = kept.count in sym (ticks_more events.entries place tick here ∙ omega (arith, c));
    at = get_within events.entries place tick here;
  })

  -- what fits of a signal that comes
  signal_fits : (x : ℕ) (v : Value) → slice_get events.entries place ≡ Some (signal x v) → (t : Task) × (slice_get p.tasks x ≡ Some t) × (length (flat v) ≡ t.message)
  signal_fits x v here =
      let a = get_within events.entries place (signal x v) here in
      let P : Entry → Type 0 = FitsEntry events.kinds p.tasks in
      let fits : FitsEntry events.kinds p.tasks (signal x v) = subst P (get_some events.entries place tick (signal x v) here) (kept.fits.entries place tick a) in
      fits_signal v (slice_get events.kinds x) (slice_get p.tasks x) fits

  signal_kind : (x : ℕ) (v : Value) → slice_get events.entries place ≡ Some (signal x v) → kind_of events x ≡ kind.Signal
  signal_kind x v here =
      let a = get_within events.entries place (signal x v) here in
      let P : Entry → Type 0 = FitsEntry events.kinds p.tasks in
      let fits : FitsEntry events.kinds p.tasks (signal x v) = subst P (get_some events.entries place tick (signal x v) here) (kept.fits.entries place tick a) in
      get_some events.kinds x kind.Signal kind.Signal (signal_only v (slice_get events.kinds x) (slice_get p.tasks x) fits)

  pub signal_source : (x : ℕ) (v : Value) → slice_get events.entries place ≡ Some (signal x v) → x < length qs
  signal_source x v here =
      let t = signal_fits x v here in
      let a = get_within p.tasks x t.0 t.1 in
      let e = kept.queues_count in
      omega (arith, a, e)

  pub signal_room : (x : ℕ) (v : Value) → slice_get events.entries place ≡ Some (signal x v) → place + 1 < 2 ^ 64 → (q : Queue) → slice_get qs x ≡ Some q → CanBring (depth_at events.depths x) false q
  signal_room x v here h q at =
      let t = signal_fits x v here in
      let is = kept.queues x t.0 q t.1 at in
      let e : (x == x) ≡ true = grind (arith, nat_tests) in
      let can = can_bring t.0.message (depth_of events x) (is_numbered (kind_of events x)) (coming (kind_of events x) x k (drop (suc place) events.entries)) place q
      (rw (coming_signal (kind_of events x) x x k place v events.entries here, e) at is) h in
      subst (λ (b : Bool). CanBring (depth_of events x) b q) (ap is_numbered (signal_kind x v here)) can

  pub next_messages : (x : ℕ) (v : Value) → slice_get events.entries place ≡ Some (signal x v) → messages ≡ flat v ∷ signals (drop (suc place) events.entries)
  next_messages x v here = kept.to_come ∙ rw (drop_at events.entries place (signal x v) here) refl

  pub kept_signal : (x : ℕ) (v : Value) (later : List Queue) (rest : List (List ℤ)) → slice_get events.entries place ≡ Some (signal x v) → rest ≡ signals (drop (suc place) events.entries) → length later ≡ length qs
      → ((q r : Queue) → slice_get qs x ≡ Some q → slice_get later x ≡ Some r → Brought (depth_at events.depths x) (flat v) q r)
      → ((y : ℕ) → (y ≡ x → ⊥) → slice_get later y ≡ slice_get qs y)
      → IsKept p events owns locks later rest held k (place + 1)
  kept_signal x v later rest here left n comes stays = rw (add-one place) (record {
    fits = kept.fits;
    owns_count = kept.owns_count;
    locks_count = kept.locks_count;
    queues_count = n ∙ kept.queues_count;
    words = kept.words;
    free = kept.free;
    held_words = kept.held_words;
    queues = λ y t r at there.
        let a = get_within later y r there in
        let q = get_exists qs y (omega (arith, a, n)) in
        let is = rw (coming_signal (kind_of events y) y x k place v events.entries here) at (kept.queues y t q.0 at q.1) in
        let width : y ≡ x → length (flat v) ≡ t.message = λ same.
        let s = signal_fits x v here in
        let o : Some s.0 ≡ Some t = sym s.1 ∙ ap (slice_get p.tasks) (sym same) ∙ at in
        let e : s.0 ≡ t = cc in
        s.2 ∙ ap (λ (z : Task). z.message) e in
        let come : y ≡ x → Brought (depth_of events y) (flat v) q.0 r = λ same.
        subst (λ (z : ℕ). Brought (depth_of events z) (flat v) q.0 r) (sym same) (comes q.0 r (ap (slice_get qs) (sym same) ∙ q.1) (ap (slice_get later) (sym same) ∙ there)) in
        let stay : (y ≡ x → ⊥) → r ≡ q.0 = λ other.
        let f : Some r ≡ Some q.0 = sym there ∙ stays y other ∙ q.1 in cc in
        signal_queue t (depth_of events y) (is_numbered (kind_of events y)) x y (coming (kind_of events y) y k (drop (suc place) events.entries)) place q.0 r (flat v) width is come stay;
    to_come = left;
    holds = kept.holds;
    below = kept.below;
    count = let c = kept.count in sym (ticks_more events.entries place (signal x v) here ∙ omega (arith, c));
    at = get_within events.entries place (signal x v) here;
  })

init_not_due : (k : ℕ) (kind : SourceKind) → is_init kind ≡ true → is_due k kind ≡ false
init_not_due k kind.Init e = refl
init_not_due k (kind.Period ms) e = cc
init_not_due k kind.Signal e = cc

alike : (later qs : List Queue) (y : ℕ) → slice_get later y ≡ slice_get qs y → slice_get (map waiting later) y ≡ slice_get (map waiting qs) y
alike later qs y e = get_map waiting later y ∙ ap (option_map waiting) e ∙ sym (get_map waiting qs y)

as_many : (later qs : List Queue) → length later ≡ length qs → length (map waiting later) ≡ length (map waiting qs)
as_many later qs n = length-map later waiting ∙ n ∙ sym (length-map qs waiting)

module _ {p : Program} {events : EventsValue} {owns : List Own} {locks : List Lock} {qs : List Queue} {messages : List (List ℤ)} {held : List (Option ℕ)} {k place : ℕ}
    (kept : IsKept p (events_of events) owns locks qs messages held k place) (later : List Queue) (turn : Option Turn) (n : length later ≡ length qs) where
  -- what a tick leaves as it was
  pub tick_stays : k + 1 ≡ ticks (take (place + 1) (events_of events).entries)
      → ((y : ℕ) → is_due (k + 1) (kind_in (events_of events).kinds y) ≡ false → slice_get later y ≡ slice_get qs y)
      → Stays (reaches (Some Tick) (state_of p events (machine_of owns locks later (place + 1)) owns None))
      (state_of p events (machine_of owns locks qs place) owns turn) (state_of p events (machine_of owns locks later (place + 1)) owns None)
  tick_stays count stays = record {
    program = refl;
    events = refl;
    tasks = refl;
    locks = refl;
    count = as_many later qs n;
    queues = λ y h. alike later qs y (stays y (ap (λ j. is_due j (kind_in (events_of events).kinds y)) count ∙ h));
    inits = λ y h. init_not_due _ (kind_in (events_of events).kinds y) h;
  }

  -- and a signal
  pub signal_stays : (x : ℕ) (v : Value) → slice_get (events_of events).entries place ≡ Some (signal x v)
      → ((y : ℕ) → (y ≡ x → ⊥) → slice_get later y ≡ slice_get qs y)
      → Stays (reaches (Some (Signal x)) (state_of p events (machine_of owns locks later (place + 1)) owns None))
      (state_of p events (machine_of owns locks qs place) owns turn) (state_of p events (machine_of owns locks later (place + 1)) owns None)
  signal_stays x v here stays = record {
    program = refl;
    events = refl;
    tasks = refl;
    locks = refl;
    count = as_many later qs n;
    queues = λ y h. alike later qs y (stays y (λ e. let f : (x == y) ≡ true = grind (arith, nat_tests) in let a : true ≡ false = sym f ∙ h in cc));
    inits = λ y h. elim (cases_eq y x) [
      | inl same ↦
          let is : kind_in (events_of events).kinds y ≡ kind.Signal = ap (kind_in (events_of events).kinds) same ∙ signal_kind kept x v here in
          let a : true ≡ false = sym h ∙ ap is_init is in
          cc
      | inr o ↦ let other : x ≡ y → ⊥ = λ e. o (sym e) in grind (arith, nat_tests)
    ];
  }
