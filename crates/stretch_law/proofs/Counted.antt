-- A stretch: its instructions with the credits that are left are at most what its messages may cost.
use Rattle.std.proofs.Common.{◌≡◌, inl, inr, ◌<◌, ◌≤◌, ℕ, suc, ◌+◌, ◌-◌, ◌*◌, Bool, true, false, cond, Option, Some, None, refl, sym, ap, ◌∙◌, subst, arith}
use Rattle.std.specs.Prelude.{◌==◌, ◌%◌}
use Rattle.std.proofs.lemmas.Bool.{cases_eq, eqb-true}
use Rattle.std.proofs.lemmas.Nat.{mul-le}
use Rattle.stretch_law.specs.Counts.{sum_to, up}
use Rattle.stretch_law.specs.Machine.{Kind, Init, Period, Signal, Tasks, Seen, Turn, Tick, Sent, Machine, Clear}
use Rattle.stretch_law.specs.Demand.{urgent, block, most, share, demand}
use Rattle.stretch_law.specs.Rules.{all_clear, Named, Apart}
use Rattle.stretch_law.specs.Facts.{Brought, due, one_at, at_start, Facts}
use Rattle.stretch_law.proofs.Sums.{sum_le, up_is, multiples_apart}
use Rattle.stretch_law.proofs.Credit.{credit_of, credit, weight_of, weight, left, phi, phi_drop, phi_arrived}
use Rattle.stretch_law.proofs.Steady.{Steady, not_clear, counted, some_left, ready_busy, clear_at, blocked}
use Rattle.stretch_law.proofs.Keeps.{still_clear}

-- ---- how many messages come

-- n messages of which the last came in interval e, and of which each two are apart by g, within b .. q
pub record Spread (g b q n e : ℕ) : Type 0 where
  pub after : b ≤ e
  pub before : e ≤ q
  pub apart : n * g + b ≤ e + g

-- the last of them came with tick e, if there is one
pub data Ticks (ms b q n : ℕ) : Type 0 where
  no_ticks : n ≡ 0 → Ticks ms b q n
  last_tick : (e : ℕ) → e % ms ≡ 0 → Spread ms b q n e → Ticks ms b q n

pub data Entries (g b q n : ℕ) (l : Option ℕ) : Type 0 where
  no_entries : n ≡ 0 → Entries g b q n l
  last_entry : (e : ℕ) → l ≡ Some e → Spread g b q n e → Entries g b q n l

-- n messages of a source of this kind came in the intervals b .. q
abbrev pub Came : ℕ → Kind → Option ℕ → ℕ → ℕ → ℕ → Type 0
Came gap Init l b q n = n ≤ 1
Came gap (Period ms) l b q n = Ticks ms b q n
Came gap Signal l b q n = Entries gap b q n l

spread_most : (g b q n e : ℕ) → 1 ≤ g → Spread g b q n e → n ≤ up (suc q - b) g
spread_most g b q n e l s = up_is n g (suc q - b) l (omega (arith, s.after, s.before, s.apart))

ticks_most : (ms b q n : ℕ) → 1 ≤ ms → Ticks ms b q n → n ≤ up (suc q - b) ms
ticks_most ms b q n l (no_ticks e) = omega (arith, e)
ticks_most ms b q n l (last_tick e h s) = spread_most ms b q n e l s

entries_most : (g b q n : ℕ) (l : Option ℕ) → 1 ≤ g → Entries g b q n l → n ≤ up (suc q - b) g
entries_most g b q n l i (no_entries e) = omega (arith, e)
entries_most g b q n l i (last_entry e h s) = spread_most g b q n e i s

came_most : (gap : ℕ) (k : Kind) (l : Option ℕ) (b q n : ℕ) → 1 ≤ gap → ((ms : ℕ) → k ≡ Period ms → 1 ≤ ms) → Came gap k l b q n → n ≤ most k gap (suc q - b)
came_most gap Init l b q n i p c = c
came_most gap (Period ms) l b q n i p c = ticks_most ms b q n (p ms refl) c
came_most gap Signal l b q n i p c = entries_most gap b q n l i c

-- ---- a tick

ticks_tick : (ms b q n : ℕ) (now : Bool) → (suc q % ms == 0) ≡ now → b ≤ suc q → Ticks ms b q n → Ticks ms b (suc q) (n + cond now 1 0)
ticks_tick ms b q n true h l (no_ticks e) =
    last_tick (suc q) (eqb-true (suc q % ms) 0 h) (record { after = l; before = omega arith; apart = omega (arith, ap (λ z. (z + 1) * ms) e, l) })
ticks_tick ms b q n true h l (last_tick e d s) =
    last_tick (suc q) (eqb-true (suc q % ms) 0 h) (record {
      after = l;
      before = omega arith;
      apart = omega (arith, s.apart, multiples_apart e (suc q) ms d (eqb-true (suc q % ms) 0 h) (omega (arith, s.before)));
    })
ticks_tick ms b q n false h l (no_ticks e) = no_ticks (omega (arith, e))
ticks_tick ms b q n false h l (last_tick e d s) =
    last_tick e d (record { after = s.after; before = omega (arith, s.before); apart = omega (arith, s.apart) })

entries_later : (g b q n : ℕ) (l : Option ℕ) → Entries g b q n l → Entries g b (suc q) (n + 0) l
entries_later g b q n l (no_entries e) = no_entries (omega (arith, e))
entries_later g b q n l (last_entry e h s) = last_entry e h (record { after = s.after; before = omega (arith, s.before); apart = omega (arith, s.apart) })

-- from a stretch that begins with the tick, or before it
came_tick : (gap : ℕ) (k : Kind) (l : Option ℕ) (b q n : ℕ) → b ≤ suc q → Came gap k l b q n → Came gap k l b (suc q) (n + due k (suc q))
came_tick gap Init l b q n i c = omega (arith, c)
came_tick gap (Period ms) l b q n i c = ticks_tick ms b q n (suc q % ms == 0) refl i c
came_tick gap Signal l b q n i c = entries_later gap b q n l c

came_none : (gap : ℕ) (k : Kind) (l : Option ℕ) (b q : ℕ) → Came gap k l b q (at_start k)
came_none gap Init l b q = omega arith
came_none gap (Period ms) l b q = no_ticks refl
came_none gap Signal l b q = no_entries refl

-- ---- an entry of a signal

entries_entry : (g b q n : ℕ) (l : Option ℕ) → b ≤ q → Apart g q l → Entries g b q n l → Entries g b q (n + 1) (Some q)
entries_entry g b q n l i a (no_entries e) =
    last_entry q refl (record { after = i; before = omega arith; apart = omega (arith, ap (λ z. (z + 1) * g) e, i) })
entries_entry g b q n l i a (last_entry e h s) =
    let far : e + g ≤ q = subst (Apart g q) h a in
    last_entry q refl (record { after = i; before = omega arith; apart = omega (arith, s.apart, far) })

came_entry : (gap : ℕ) (k : Kind) (l : Option ℕ) (b q n : ℕ) → k ≡ Signal → b ≤ q → Apart gap q l → Came gap k l b q n → Came gap k (Some q) b q (n + 1)
came_entry gap Init l b q n e i a c = cc
came_entry gap (Period ms) l b q n e i a c = cc
came_entry gap Signal l b q n e i a c = entries_entry gap b q n l i a c

-- the entries so far, where x's last one is now in interval q
abbrev pub then_last : (ℕ → Option ℕ) → ℕ → ℕ → ℕ → Option ℕ
then_last last x q y = cond (x == y) (Some q) (last y)

came_sent : (gap : ℕ) (k : ℕ → Kind) (last : ℕ → Option ℕ) (x y b q n : ℕ) (same : Bool) → (x == y) ≡ same → k x ≡ Signal → b ≤ q → Apart gap q (last x) → Came gap (k y) (last y) b q n → Came gap (k y) (cond same (Some q) (last y)) b q (n + cond same 1 0)
came_sent gap k last x y b q n true e s i a c =
    let is : x ≡ y = eqb-true x y e in
    came_entry gap (k y) (last y) b q n (ap k (sym is) ∙ s) i (subst (λ z. Apart gap q (last z)) is a) c
came_sent gap k last x y b q n false e s i a c =
    let more : n ≡ n + 0 = omega arith in
    subst (Came gap (k y) (last y) b q) more c

-- ---- the stretch

module _ (t : Tasks) (p : ℕ) (S : Type 0) (v : Machine S) (Good : S → Type 0) (f : Facts t S v Good) (gap : ℕ) where
  -- the messages that have come, and what they may cost
  pub record Counted (last : ℕ → Option ℕ) (s : S) (b n : ℕ) : Type 0 where
    pub sent : ℕ → ℕ
    pub began : b ≤ v.ticks s
    pub budget : n + phi t p S v Good f s ≤ block t p + sum_to t.count (λ x. weight t p x * sent x)
    pub came : (x : ℕ) → x < t.count → Came gap (t.kind x) (last x) b (v.ticks s) (sent x)
    pub still : (x : ℕ) → x < t.count → urgent t p x ≡ true → (t.kind x ≡ Init → ⊥) → sent x ≡ 0 → Clear (v.see s x)

  weighed : (c n w : ℕ) (u : Bool) → n ≤ w → weight_of c u * n ≤ cond u (c * w) 0
  weighed c n w true l = mul-le c n c w (omega arith) l
  weighed c n w false l = omega arith

  within : 1 ≤ gap → (last : ℕ → Option ℕ) (s : S) (b n : ℕ) (c : Counted last s b n) → sum_to t.count (λ x. weight t p x * c.sent x) ≤ sum_to t.count (share t gap p (suc (v.ticks s) - b))
  within i last s b n c =
      sum_le t.count (λ x. weight t p x * c.sent x) (share t gap p (suc (v.ticks s) - b))
      (λ x l. weighed (t.cost x) (c.sent x) (most (t.kind x) gap (suc (v.ticks s) - b)) (urgent t p x)
      (came_most gap (t.kind x) (last x) b (v.ticks s) (c.sent x) i (f.periods x) (c.came x l)))

  -- ---- the middle statement

  pub at_most : 1 ≤ gap → (last : ℕ → Option ℕ) (s : S) (b n : ℕ) → Counted last s b n → n ≤ demand t gap p (suc (v.ticks s) - b)
  at_most i last s b n c = omega (arith, within i last s b n c, c.budget)

  pub fewer : 1 ≤ gap → (last : ℕ → Option ℕ) (s : S) (b n : ℕ) → Steady t p S v Good f s → Counted last s b n → all_clear t p S v s ≡ false → n < demand t gap p (suc (v.ticks s) - b)
  fewer i last s b n st c e =
      let k = not_clear t p S v Good f s e in
      omega (arith, within i last s b n c, c.budget, some_left t p S v Good f s k.u st k.inside k.is_urgent k.busy)

  -- ---- each step keeps the count

  pub count_turn : (last : ℕ → Option ℕ) (s s' : S) (x b n : ℕ) → Steady t p S v Good f s → Named t p S v s x → v.next s (Turn x) ≡ Some s' → all_clear t p S v s ≡ false → Counted last s b n → Counted last s' b (suc n)
  count_turn last s s' x b n st m e a c =
      let k = not_clear t p S v Good f s a in
      let same : v.ticks s' ≡ v.ticks s = f.turn_ticks s s' x st.good e in
      record {
        sent = c.sent;
        began = omega (arith, same, c.began);
        budget = omega (arith, c.budget, phi_drop t p S v Good f s s' x st.good m.inside e (counted t p S v Good f s x k.u st m k.inside k.is_urgent k.busy));
        came = λ y l. subst (λ q. Came gap (t.kind y) (last y) b q (c.sent y)) (sym same) (c.came y l);
        still = λ y l u i z. elim (cases_eq y x) [
          | inl h ↦ absurd (ready_busy t p S v Good f s x st.good m.inside m.ready (subst (λ w. Clear (v.see s w)) h (c.still y l u i z)))
          | inr h ↦ subst Clear (sym (f.turn_other s s' x y st.good e h)) (c.still y l u i z)
        ];
      }

  -- what comes
  still_after : (n d : ℕ) (o o' : Seen) → Brought d o o' → (n ≡ 0 → Clear o) → n + d ≡ 0 → Clear o'
  still_after n d o o' b h e = still_clear d o o' b (omega (arith, e)) (h (omega (arith, e)))

  pub count_tick : (last : ℕ → Option ℕ) (s s' : S) (b n : ℕ) → Steady t p S v Good f s → v.next s Tick ≡ Some s' → Counted last s b n → Counted last s' b n
  count_tick last s s' b n st e c =
      let same : v.ticks s' ≡ suc (v.ticks s) = f.tick_ticks s s' st.good e in
      let d : ℕ → ℕ = λ x. due (t.kind x) (suc (v.ticks s)) in
      record {
        sent = λ x. c.sent x + d x;
        began = omega (arith, same, c.began);
        budget = omega (arith, c.budget, phi_arrived t p S v Good f s s' d c.sent (λ x l. f.tick_seen s s' x st.good e l));
        came = λ y l. subst (λ q. Came gap (t.kind y) (last y) b q (c.sent y + d y)) (sym same) (came_tick gap (t.kind y) (last y) b (v.ticks s) (c.sent y) (omega (arith, c.began)) (c.came y l));
        still = λ y l u i z. still_after (c.sent y) (d y) (v.see s y) (v.see s' y) (f.tick_seen s s' y st.good e l) (c.still y l u i) z;
      }

  -- a stretch begins with a tick
  pub count_begin : (last : ℕ → Option ℕ) (s s' : S) → Steady t p S v Good f s → all_clear t p S v s ≡ true → v.next s Tick ≡ Some s' → Counted last s' (suc (v.ticks s)) 0
  count_begin last s s' st a e =
      let same : v.ticks s' ≡ suc (v.ticks s) = f.tick_ticks s s' st.good e in
      let d : ℕ → ℕ = λ x. due (t.kind x) (suc (v.ticks s)) in
      let sent : ℕ → ℕ = λ x. at_start (t.kind x) in
      record {
        sent = λ x. sent x + d x;
        began = omega (arith, same);
        budget = omega (arith, blocked t p S v Good f s st a, phi_arrived t p S v Good f s s' d sent (λ x l. f.tick_seen s s' x st.good e l));
        came = λ y l. subst (λ q. Came gap (t.kind y) (last y) (suc (v.ticks s)) q (sent y + d y)) (sym same) (came_tick gap (t.kind y) (last y) (suc (v.ticks s)) (v.ticks s) (sent y) (omega arith) (came_none gap (t.kind y) (last y) (suc (v.ticks s)) (v.ticks s)));
        still = λ y l u i z. still_after (sent y) (d y) (v.see s y) (v.see s' y) (f.tick_seen s s' y st.good e l) (λ h. clear_at t p S v Good f s a y l u) z;
      }

  pub count_sent : (last : ℕ → Option ℕ) (s s' : S) (x b n : ℕ) → Steady t p S v Good f s → v.next s (Sent x) ≡ Some s' → Apart gap (v.ticks s) (last x) → Counted last s b n → Counted (then_last last x (v.ticks s)) s' b n
  count_sent last s s' x b n st e a c =
      let same : v.ticks s' ≡ v.ticks s = f.sent_ticks s s' x st.good e in
      record {
        sent = λ y. c.sent y + one_at x y;
        began = omega (arith, same, c.began);
        budget = omega (arith, c.budget, phi_arrived t p S v Good f s s' (one_at x) c.sent (λ y l. f.sent_seen s s' x y st.good e l));
        came = λ y l. subst (λ q. Came gap (t.kind y) (then_last last x (v.ticks s) y) b q (c.sent y + one_at x y)) (sym same)
            (came_sent gap t.kind last x y b (v.ticks s) (c.sent y) (x == y) refl (f.sent_kind s s' x st.good e) c.began a (c.came y l));
        still = λ y l u i z. still_after (c.sent y) (one_at x y) (v.see s y) (v.see s' y) (f.sent_seen s s' x y st.good e l) (c.still y l u i) z;
      }

  -- ---- the start of the run

  first_credit : (x : ℕ) (u : Bool) (q : ℕ) → (v.see v.start x).rests ≡ true → (v.see v.start x).holds ≡ None → (v.see v.start x).queued ≤ q → credit_of t p (t.cost x) (v.see v.start x) u ≤ weight_of (t.cost x) u * q
  first_credit x true q r h l =
      let none : left (v.see v.start x).rests (t.cost x) (v.see v.start x).since ≡ 0 = ap (λ b. left b (t.cost x) (v.see v.start x).since) r in
      omega (arith, none, mul-le (t.cost x) (v.see v.start x).queued (t.cost x) q (omega arith) l)
  first_credit x false q r h l =
      let none : credit_of t p (t.cost x) (v.see v.start x) false ≡ 0 = ap (λ o. credit_of t p (t.cost x) (record { rests = true; queued = 0; since = (v.see v.start x).since; holds = o }) false) h in
      omega (arith, none)

  none_queued : (k : Kind) → (k ≡ Init → ⊥) → at_start k ≡ 0
  none_queued Init n = absurd (n refl)
  none_queued (Period ms) n = refl
  none_queued Signal n = refl

  pub count_start : (last : ℕ → Option ℕ) → Counted last v.start 0 0
  count_start last = record {
    sent = λ x. at_start (t.kind x);
    began = omega arith;
    budget =
        let most : phi t p S v Good f v.start ≤ sum_to t.count (λ x. weight t p x * at_start (t.kind x)) =
        sum_le t.count (λ x. credit t p x (v.see v.start x)) (λ x. weight t p x * at_start (t.kind x))
        (λ x l. first_credit x (urgent t p x) (at_start (t.kind x)) (f.start_rests x l) (f.rest_free v.start x f.start_good l (f.start_rests x l)) (f.start_queued x l)) in
        omega (arith, most);
    came = λ y l. came_none gap (t.kind y) (last y) 0 (v.ticks v.start);
    still = λ y l u i z. (f.start_rests y l, omega (arith, f.start_queued y l, none_queued (t.kind y) i));
  }
