-- The middle statement in every orderly run, and the theorem in every timely one.
use Rattle.std.proofs.Common.{◌≡◌, ◌⊎◌, inl, inr, ◌<◌, ◌≤◌, ℕ, suc, ◌+◌, ◌-◌, ◌*◌, Bool, true, false, List, [], ◌∷◌, Option, Some, None, refl, sym, ap, subst, arith}
use Rattle.std.specs.Prelude.{nat_le, ◌%◌, ◌||◌}
use Rattle.std.proofs.lemmas.Bool.{cases_eq, le-leb}
use Rattle.stretch_law.specs.Machine.{Kind, Init, Period, Signal, Tasks, Move, Turn, Tick, Sent, Machine, Clear}
use Rattle.stretch_law.specs.Demand.{is_init, urgent, demand, IsWindow}
use Rattle.stretch_law.specs.Rules.{Track, Open, Ended, Clock, turned, ticked, first_clock, all_clear, passed, Then, Each, Named, AllIdle, Apart, IsOrderly, IsTimely, MostOf, FewerOf, IsMiddle, IsMet}
use Rattle.stretch_law.specs.Facts.{Facts}
use Rattle.stretch_law.proofs.Sums.{multiples_apart}
use Rattle.stretch_law.proofs.Credit.{both}
use Rattle.stretch_law.proofs.Steady.{Steady, idle_clear, ready_busy, clear_at, clear_all}
use Rattle.stretch_law.proofs.Keeps.{steady_start, steady_turn, steady_tick, steady_sent}
use Rattle.stretch_law.proofs.Counted.{Ticks, no_ticks, last_tick, Came, Counted, at_most, fewer, count_turn, count_tick, count_begin, count_sent, count_start}

or_second : (a b : Bool) → b ≡ true → (a || b) ≡ true
or_second true b e = refl
or_second false b e = e

module _ (t : Tasks) (p : ℕ) (S : Type 0) (v : Machine S) (Good : S → Type 0) (f : Facts t S v Good) (gap : ℕ) (g : 1 ≤ gap) where
  abbrev At : (ℕ → Option ℕ) → ℕ → S → Track → Type 0
  At last ran s Ended = (all_clear t p S v s ≡ true) × (0 < ran)
  At last ran s (Open b n) = Counted t p S v Good f gap last s b n

  record Invariant (k : Clock) (s : S) : Type 0 where
    steady : Steady t p S v Good f s
    at : At k.last k.ran s k.track

  abbrev Orderly : Clock → S → Move → Type 0
  Orderly = IsOrderly t p S v gap

  -- ---- each move keeps the invariant

  turn_clear : (s s' : S) (x : ℕ) → Steady t p S v Good f s → Named t p S v s x → v.next s (Turn x) ≡ Some s' → all_clear t p S v s ≡ true → all_clear t p S v s' ≡ true
  turn_clear s s' x st n e a = clear_all t p S v Good f s' (λ y l u. elim (cases_eq y x) [
    | inl h ↦ absurd (ready_busy t p S v Good f s x st.good n.inside n.ready (subst (λ z. Clear (v.see s z)) h (clear_at t p S v Good f s a y l u)))
    | inr h ↦ subst Clear (sym (f.turn_other s s' x y st.good e h)) (clear_at t p S v Good f s a y l u)
  ])

  at_turn : (last : ℕ → Option ℕ) (ran : ℕ) (s s' : S) (x : ℕ) (a : Bool) (k : Track) → Steady t p S v Good f s → Named t p S v s x → v.next s (Turn x) ≡ Some s' → all_clear t p S v s ≡ a → At last ran s k → At last (suc ran) s' (turned a k)
  at_turn last ran s s' x true k st n e a h = (turn_clear s s' x st n e a, omega arith)
  at_turn last ran s s' x false Ended st n e a h = absurd (both (all_clear t p S v s) h.0 a)
  at_turn last ran s s' x false (Open b i) st n e a h = count_turn t p S v Good f gap last s s' x b i st n e a h

  at_tick : (last : ℕ → Option ℕ) (ran : ℕ) (s s' : S) (a : Bool) (k : Track) → Steady t p S v Good f s → v.next s Tick ≡ Some s' → all_clear t p S v s ≡ a → At last ran s k → At last 0 s' (ticked a (suc (v.ticks s)) k)
  at_tick last ran s s' true k st e a h = count_begin t p S v Good f gap last s s' st a e
  at_tick last ran s s' false Ended st e a h = absurd (both (all_clear t p S v s) h.0 a)
  at_tick last ran s s' false (Open b i) st e a h = count_tick t p S v Good f gap last s s' b i st e h

  at_sent : (k : Clock) (s s' : S) (x : ℕ) (tr : Track) → Steady t p S v Good f s → v.next s (Sent x) ≡ Some s' → k.ran ≡ 0 → Apart gap (v.ticks s) (k.last x) → At k.last k.ran s tr → At (passed t p S v s (Sent x) k).last k.ran s' tr
  at_sent k s s' x Ended st e z a h = absurd (omega (arith, h.1, z))
  at_sent k s s' x (Open b i) st e z a h = count_sent t p S v Good f gap k.last s s' x b i st e a h

  keeps : (k : Clock) (s s' : S) (m : Move) → Invariant k s → Orderly k s m → v.next s m ≡ Some s' → Invariant (passed t p S v s m k) s'
  keeps k s s' (Turn x) inv o e = record {
    steady = steady_turn t p S v Good f s s' x inv.steady o.2 e;
    at = at_turn k.last k.ran s s' x (all_clear t p S v s) k.track inv.steady o.2 e refl inv.at;
  }
  keeps k s s' Tick inv o e = record {
    steady = steady_tick t p S v Good f s s' inv.steady e;
    at = at_tick k.last k.ran s s' (all_clear t p S v s) k.track inv.steady e refl inv.at;
  }
  keeps k s s' (Sent x) inv o e = record {
    steady = steady_sent t p S v Good f s s' x inv.steady e;
    at = at_sent k s s' x k.track inv.steady e o.0 o.1 inv.at;
  }

  first : Invariant first_clock v.start
  first = record { steady = steady_start t p S v Good f; at = count_start t p S v Good f gap (λ x. None) }

  -- ---- the middle statement

  most_of : (last : ℕ → Option ℕ) (ran : ℕ) (s : S) (k : Track) → At last ran s k → MostOf t p S v gap (v.ticks s) k
  most_of last ran s Ended h = tt
  most_of last ran s (Open b n) h = at_most t p S v Good f gap g last s b n h

  fewer_of : (last : ℕ → Option ℕ) (ran : ℕ) (s : S) (k : Track) → Steady t p S v Good f s → At last ran s k → all_clear t p S v s ≡ false → FewerOf t p S v gap (v.ticks s) k
  fewer_of last ran s Ended st h a = tt
  fewer_of last ran s (Open b n) st h a = fewer t p S v Good f gap g last s b n st h a

  then_so : (o : Option S) (P Q : S → Type 0) → ((s : S) → o ≡ Some s → P s → Q s) → Then t p S v o P → Then t p S v o Q
  then_so None P Q h x = x
  then_so (Some s) P Q h x = h s refl x

  middle_from : (ms : List Move) (k : Clock) (s : S) → Invariant k s → Each t p S v Orderly k s ms → Each t p S v (IsMiddle t p S v gap) k s ms
  middle_from [] k s inv h = tt
  middle_from (m ∷ ms) k s inv h = (
    (most_of k.last k.ran s k.track inv.at, fewer_of k.last k.ran s k.track inv.steady inv.at),
    then_so (v.next s m) (λ s'. Each t p S v Orderly (passed t p S v s m k) s' ms) (λ s'. Each t p S v (IsMiddle t p S v gap) (passed t p S v s m k) s' ms)
        (λ s' e. middle_from ms (passed t p S v s m k) s' (keeps k s s' m inv h.0 e)) h.1,
  )

  pub middle : (ms : List Move) → Each t p S v Orderly first_clock v.start ms → Each t p S v (IsMiddle t p S v gap) first_clock v.start ms
  middle ms h = middle_from ms first_clock v.start first h

  -- ---- the theorem

  module _ (i T rate w : ℕ) (inside : i < t.count) (kind : t.kind i ≡ Period T) (priority : p ≤ t.priority i) (window : IsWindow t rate gap p T w) where
    abbrev InTime : ℕ → S → Track → Type 0
    InTime ran s Ended = Unit {0}
    InTime ran s (Open b n) = (rate * (v.ticks s - b) + ran ≤ n) × (v.ticks s - b < w)

    abbrev Timely : Clock → S → Move → Type 0
    Timely = IsTimely t p S v rate gap

    i_urgent : urgent t p i ≡ true
    i_urgent = or_second (is_init (t.kind i)) (nat_le p (t.priority i)) (le-leb p (t.priority i) priority)

    enough : (ran : ℕ) (s : S) → Steady t p S v Good f s → all_clear t p S v s ≡ false → (rate ≤ ran) ⊎ AllIdle t p S v s → rate ≤ ran
    enough ran s st a (inl h) = h
    enough ran s st a (inr idle) = absurd (both (all_clear t p S v s) (clear_all t p S v Good f s (λ x l u. idle_clear t p S v Good f s st.good idle x l)) a)

    -- a stretch that goes on has not filled its window
    goes_on : (last : ℕ → Option ℕ) (ran : ℕ) (s : S) (b n : ℕ) → Steady t p S v Good f s → Counted t p S v Good f gap last s b n → all_clear t p S v s ≡ false → rate ≤ ran → InTime ran s (Open b n) → (rate * (suc (v.ticks s) - b) ≤ n) × (suc (v.ticks s) - b < w)
    goes_on last ran s b n st c a l h =
        let one : suc (v.ticks s) - b ≡ suc (v.ticks s - b) = omega (arith, c.began) in
        let more : rate * (suc (v.ticks s) - b) ≡ rate * suc (v.ticks s - b) = ap (λ z. rate * z) one in
        let filled : rate * (suc (v.ticks s) - b) ≤ n = omega (arith, more, h.0, l) in (
          filled,
          elim (cases_eq (suc (v.ticks s) - b) w) [
            | inl e ↦
                let few : n < demand t gap p (suc (v.ticks s) - b) = fewer t p S v Good f gap g last s b n st c a in
                let same : demand t gap p (suc (v.ticks s) - b) ≡ demand t gap p w = ap (demand t gap p) e in
                let product : rate * (suc (v.ticks s) - b) ≡ rate * w = ap (λ z. rate * z) e in
                let holds : demand t gap p w ≤ rate * w = window.holds in
                absurd (omega (few, same, product, holds, filled, arith))
            | inr e ↦ omega (arith, one, h.1, e)
          ],
        )

    time_turn : (last : ℕ → Option ℕ) (ran : ℕ) (s s' : S) (x : ℕ) (a : Bool) (k : Track) → Steady t p S v Good f s → v.next s (Turn x) ≡ Some s' → InTime ran s k → InTime (suc ran) s' (turned a k)
    time_turn last ran s s' x true k st e h = tt
    time_turn last ran s s' x false Ended st e h = tt
    time_turn last ran s s' x false (Open b n) st e h =
        let same : v.ticks s' - b ≡ v.ticks s - b = ap (λ q. q - b) (f.turn_ticks s s' x st.good e) in
        let product : rate * (v.ticks s' - b) ≡ rate * (v.ticks s - b) = ap (λ z. rate * z) same in
        (omega (arith, product, h.0), omega (arith, same, h.1))

    time_tick : (last : ℕ → Option ℕ) (ran : ℕ) (s s' : S) (a : Bool) (k : Track) → Steady t p S v Good f s → v.next s Tick ≡ Some s' → all_clear t p S v s ≡ a → (rate ≤ ran) ⊎ AllIdle t p S v s → At last ran s k → InTime ran s k → InTime 0 s' (ticked a (suc (v.ticks s)) k)
    time_tick last ran s s' true k st e a l c h =
        let same : v.ticks s' - suc (v.ticks s) ≡ 0 = omega (arith, f.tick_ticks s s' st.good e) in
        let product : rate * (v.ticks s' - suc (v.ticks s)) ≡ rate * 0 = ap (λ z. rate * z) same in
        let least : 1 ≤ w = window.least in
        (omega (arith, product), omega (arith, same, least))
    time_tick last ran s s' false Ended st e a l c h = tt
    time_tick last ran s s' false (Open b n) st e a l c h =
        let k = goes_on last ran s b n st c a (enough ran s st a l) h in
        let same : v.ticks s' - b ≡ suc (v.ticks s) - b = ap (λ q. q - b) (f.tick_ticks s s' st.good e) in
        let product : rate * (v.ticks s' - b) ≡ rate * (suc (v.ticks s) - b) = ap (λ z. rate * z) same in
        (omega (arith, product, k.0), omega (arith, same, k.1))

    time_sent : (ran : ℕ) (s s' : S) (x : ℕ) (k : Track) → Steady t p S v Good f s → v.next s (Sent x) ≡ Some s' → InTime ran s k → InTime ran s' k
    time_sent ran s s' x Ended st e h = tt
    time_sent ran s s' x (Open b n) st e h =
        let same : v.ticks s' - b ≡ v.ticks s - b = ap (λ q. q - b) (f.sent_ticks s s' x st.good e) in
        let product : rate * (v.ticks s' - b) ≡ rate * (v.ticks s - b) = ap (λ z. rate * z) same in
        (omega (arith, product, h.0), omega (arith, same, h.1))

    stays : (k : Clock) (s s' : S) (m : Move) → Invariant k s → InTime k.ran s k.track → Timely k s m → v.next s m ≡ Some s' → InTime (passed t p S v s m k).ran s' (passed t p S v s m k).track
    stays k s s' (Turn x) inv h o e = time_turn k.last k.ran s s' x (all_clear t p S v s) k.track inv.steady e h
    stays k s s' Tick inv h o e = time_tick k.last k.ran s s' (all_clear t p S v s) k.track inv.steady e refl o.0 inv.at h
    stays k s s' (Sent x) inv h o e = time_sent k.ran s s' x k.track inv.steady e h

    -- in a stretch that has not filled its window before a tick that is due, no message has come to i
    none_came : (b q n : ℕ) → Ticks T b q n → b ≤ q → suc q - b < w → suc q % T ≡ 0 → n ≡ 0
    none_came b q n (no_ticks e) l h d = e
    none_came b q n (last_tick e z s) l h d =
        let most : w ≤ T = window.most in
        absurd (omega (arith, multiples_apart e (suc q) T z d (omega (arith, s.before)), s.after, h, most))

    not_init : t.kind i ≡ Init → ⊥
    not_init e = apart (t.kind i) e kind
      where
        apart : (k : Kind) → k ≡ Init → k ≡ Period T → ⊥
        apart Init a b = cc
        apart (Period ms) a b = cc
        apart Signal a b = cc

    met_of : (last : ℕ → Option ℕ) (ran : ℕ) (s : S) (a : Bool) (k : Track) → Steady t p S v Good f s → all_clear t p S v s ≡ a → (rate ≤ ran) ⊎ AllIdle t p S v s → At last ran s k → InTime ran s k → suc (v.ticks s) % T ≡ 0 → Clear (v.see s i)
    met_of last ran s true k st a l c h d = clear_at t p S v Good f s a i inside i_urgent
    met_of last ran s false Ended st a l c h d = absurd (both (all_clear t p S v s) c.0 a)
    met_of last ran s false (Open b n) st a l c h d =
        let short = (goes_on last ran s b n st c a (enough ran s st a l) h).1 in
        let came : Ticks T b (v.ticks s) (c.sent i) = subst (λ k. Came gap k (last i) b (v.ticks s) (c.sent i)) kind (c.came i inside) in
        c.still i inside i_urgent not_init (none_came b (v.ticks s) (c.sent i) came c.began short d)

    met : (k : Clock) (s : S) (m : Move) → Invariant k s → InTime k.ran s k.track → Timely k s m → IsMet t p S v i T k s m
    met k s (Turn x) inv h o = tt
    met k s Tick inv h o = met_of k.last k.ran s (all_clear t p S v s) k.track inv.steady refl o.0 inv.at h
    met k s (Sent x) inv h o = tt

    bounded_from : (ms : List Move) (k : Clock) (s : S) → Invariant k s → InTime k.ran s k.track → Each t p S v Timely k s ms → Each t p S v (IsMet t p S v i T) k s ms
    bounded_from [] k s inv h o = tt
    bounded_from (m ∷ ms) k s inv h o = (
      met k s m inv h o.0,
      then_so (v.next s m) (λ s'. Each t p S v Timely (passed t p S v s m k) s' ms) (λ s'. Each t p S v (IsMet t p S v i T) (passed t p S v s m k) s' ms)
          (λ s' e. bounded_from ms (passed t p S v s m k) s' (keeps k s s' m inv o.0.1 e) (stays k s s' m inv h o.0 e)) o.1,
    )

    first_time : InTime 0 v.start (Open 0 0)
    first_time =
        let none : v.ticks v.start - 0 ≡ 0 = omega (arith, f.start_ticks) in
        let product : rate * (v.ticks v.start - 0) ≡ rate * 0 = ap (λ z. rate * z) none in
        let least : 1 ≤ w = window.least in
        (omega (arith, product), omega (arith, none, least))

    pub bounded : (ms : List Move) → Each t p S v Timely first_clock v.start ms → Each t p S v (IsMet t p S v i T) first_clock v.start ms
    bounded ms h = bounded_from ms first_clock v.start first first_time h
