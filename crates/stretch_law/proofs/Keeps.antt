-- Each step keeps what is steady.
use Rattle.std.proofs.Common.{◌≡◌, ◌≢◌, inl, inr, ◌<◌, ℕ, suc, Bool, false, cond, Some, refl, sym, ap, ◌∙◌, subst, arith}
use Rattle.std.specs.Prelude.{◌==◌}
use Rattle.std.proofs.lemmas.Bool.{cases_eq, leb-true, ne_eqb}
use Rattle.stretch_law.specs.Machine.{Kind, Init, Period, Signal, Tasks, Seen, Turn, Tick, Sent, Machine, Clear}
use Rattle.stretch_law.specs.Demand.{urgent}
use Rattle.stretch_law.specs.Rules.{Named}
use Rattle.stretch_law.specs.Facts.{Brought, due, one_at, Starts, Facts}
use Rattle.stretch_law.proofs.Credit.{none_some, Raised}
use Rattle.stretch_law.proofs.Steady.{Steady, ready_busy, not_yet, active_named, active_held}

pub due_init : (k : Kind) (q : ℕ) → k ≡ Init → due k q ≡ 0
due_init Init q e = refl
due_init (Period ms) q e = cc
due_init Signal q e = cc

abbrev one_if : Bool → ℕ
one_if b = cond b 1 0

pub no_at : (x y : ℕ) → x ≢ y → one_at x y ≡ 0
no_at x y n =
    let same : (x == y) ≡ false = ne_eqb x y n in
    ap one_if same

pub kinds_apart : (k : Kind) → k ≡ Signal → k ≡ Init → ⊥
kinds_apart Init e h = cc
kinds_apart (Period ms) e h = cc
kinds_apart Signal e h = cc

-- a task to which nothing comes stays clear
pub still_clear : (n : ℕ) (o o' : Seen) → Brought n o o' → n ≡ 0 → Clear o → Clear o'
still_clear n o o' b e c = (b.rests ∙ c.0, omega (arith, b.queued, e, c.1))

module _ (t : Tasks) (p : ℕ) (S : Type 0) (v : Machine S) (Good : S → Type 0) (f : Facts t S v Good) where
  pub steady_start : Steady t p S v Good f v.start
  steady_start = record {
    good = f.start_good;
    one = λ x y l m u w a b. absurd (none_some (v.see v.start x).holds a.m (f.rest_free v.start x f.start_good l (f.start_rests x l)) a.held);
    barrier = λ z x l n. f.start_rests x l;
  }

  same_raised : (s s' : S) (y : ℕ) → v.see s' y ≡ v.see s y → Raised t p (v.see s' y) → Raised t p (v.see s y)
  same_raised s s' y e r = subst (Raised t p) e r

  -- a lower task that is named is raised where another is
  already : (s : S) (x y : ℕ) → Steady t p S v Good f s → Named t p S v s x → urgent t p x ≡ false → y < t.count → Raised t p (v.see s y) → Raised t p (v.see s x)
  already s x y st n u l r =
      active_named t p S v Good f s x y n l (f.holder s y r.m st.good l r.held).ready
      (omega (arith, leb-true p (t.ceiling r.m) r.high, active_held t p (t.priority y) (v.see s y).holds r.m r.held)) u

  pub steady_turn : (s s' : S) (x : ℕ) → Steady t p S v Good f s → Named t p S v s x → v.next s (Turn x) ≡ Some s' → Steady t p S v Good f s'
  steady_turn s s' x st n e =
      let other : (y : ℕ) → y ≢ x → v.see s' y ≡ v.see s y = λ y. f.turn_other s s' x y st.good e in
      record {
        good = f.goes_on s s' (Turn x) st.good e;
        one = λ a b l m u w ra rb. elim (cases_eq a x) [
          | inl ea ↦ elim (cases_eq b x) [
            | inl eb ↦ ea ∙ sym eb
            | inr nb ↦
                let rb' = same_raised s s' b (other b nb) rb in
                let ux : urgent t p x ≡ false = subst (λ z. urgent t p z ≡ false) ea u in
                ea ∙ st.one x b n.inside m ux w (already s x b st n ux m rb') rb'
          ]
          | inr na ↦
              let ra' = same_raised s s' a (other a na) ra in
              elim (cases_eq b x) [
                | inl eb ↦
                    let ux : urgent t p x ≡ false = subst (λ z. urgent t p z ≡ false) eb w in
                    st.one a x l n.inside u ux ra' (already s x a st n ux l ra') ∙ sym eb
                | inr nb ↦ st.one a b l m u w ra' (same_raised s s' b (other b nb) rb)
              ]
        ];
        barrier = λ z y l k.
            let starts : Starts t S v s = elim (cases_eq z.z x) [
              | inl ez ↦ record { z = x; inside = n.inside; is_init = ap t.kind (sym ez) ∙ z.is_init; busy = ready_busy t p S v Good f s x st.good n.inside n.ready }
              | inr nz ↦ record { z = z.z; inside = z.inside; is_init = z.is_init; busy = λ c. z.busy (subst Clear (sym (other z.z nz)) c) }
            ] in
            elim (cases_eq y x) [
              | inl ey ↦ absurd (not_yet t p S v Good f s x st n.inside n.ready starts (λ i. k (ap t.kind ey ∙ i)))
              | inr ny ↦ ap (λ o. o.rests) (other y ny) ∙ st.barrier starts y l k
            ];
      }

  steady_arrived : (s s' : S) (d : ℕ → ℕ) → Steady t p S v Good f s → Good s' → ((x : ℕ) → x < t.count → Brought (d x) (v.see s x) (v.see s' x)) → ((x : ℕ) → t.kind x ≡ Init → d x ≡ 0) → Steady t p S v Good f s'
  steady_arrived s s' d st g b none =
      let raised : (x : ℕ) → x < t.count → Raised t p (v.see s' x) → Raised t p (v.see s x) = λ x l r. record { m = r.m; held = sym (b x l).holds ∙ r.held; high = r.high } in
      record {
        good = g;
        one = λ x y l m u w rx ry. st.one x y l m u w (raised x l rx) (raised y m ry);
        barrier = λ z y l k.
            let starts : Starts t S v s = record { z = z.z; inside = z.inside; is_init = z.is_init; busy = λ c. z.busy (still_clear (d z.z) (v.see s z.z) (v.see s' z.z) (b z.z z.inside) (none z.z z.is_init) c) } in
            (b y l).rests ∙ st.barrier starts y l k;
      }

  pub steady_tick : (s s' : S) → Steady t p S v Good f s → v.next s Tick ≡ Some s' → Steady t p S v Good f s'
  steady_tick s s' st e =
      steady_arrived s s' (λ x. due (t.kind x) (suc (v.ticks s))) st (f.goes_on s s' Tick st.good e)
      (λ x l. f.tick_seen s s' x st.good e l) (λ x i. due_init (t.kind x) (suc (v.ticks s)) i)

  pub steady_sent : (s s' : S) (x : ℕ) → Steady t p S v Good f s → v.next s (Sent x) ≡ Some s' → Steady t p S v Good f s'
  steady_sent s s' x st e =
      steady_arrived s s' (one_at x) st (f.goes_on s s' (Sent x) st.good e)
      (λ y l. f.sent_seen s s' x y st.good e l)
      (λ y i. no_at x y (λ h. kinds_apart (t.kind y) (ap t.kind (sym h) ∙ f.sent_kind s s' x st.good e) i))
