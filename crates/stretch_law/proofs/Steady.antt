-- What holds in each reached state under the ceiling rule: at most one lower task is raised, and no task but an init
-- task has begun before all init tasks are clear.
use Rattle.std.proofs.Common.{◌≡◌, ◌⊎◌, inl, inr, ◌<◌, ◌≤◌, ℕ, ◌-◌, Bool, true, false, ◌&&◌, cond, Option, Some, None, refl, sym, ap, ◌∙◌, subst, arith}
use Rattle.std.specs.Prelude.{nat_le, not, ◌||◌, ◌==◌}
use Rattle.std.proofs.lemmas.Bool.{cases_Bool, cases_lt, or_cases, and_parts, and_from, leb-true, leb-false, le-leb, eqb-true, eq-eqb}
use Rattle.std.proofs.lemmas.Option.{same_Some}
use Rattle.stretch_law.specs.Machine.{Kind, Init, Period, Signal, Tasks, Seen, Standing, IsStuck, IsIdle, IsWaiting, IsReady, Machine, active_of, active, Clear}
use Rattle.stretch_law.specs.Demand.{is_init, urgent, rises, block_of, block}
use Rattle.stretch_law.specs.Rules.{is_clear, all_clear, Named, AllIdle}
use Rattle.stretch_law.specs.Facts.{Starts, empty, held_back, runs, takes, Means, Facts}
use Rattle.stretch_law.proofs.Sums.{sum_most, greatest_is, any_is, all_is, all_from, all_not}
use Rattle.stretch_law.proofs.Credit.{both, none_some, lent, credit_of, credit, Raised, credit_clear, phi, phi_some}

init_is : (k : Kind) → is_init k ≡ true → k ≡ Init
init_is Init e = refl
init_is (Period ms) e = cc
init_is Signal e = cc

init_not : (k : Kind) → is_init k ≡ false → k ≡ Init → ⊥
init_not Init e h = cc
init_not (Period ms) e h = cc
init_not Signal e h = cc

or_not : (a b : Bool) → (a || b) ≡ false → (a ≡ false) × (b ≡ false)
or_not true b e = cc
or_not false b e = (refl, e)

or_is : (a b : Bool) → a ≡ true → (a || b) ≡ true
or_is true b e = refl
or_is false b e = cc

-- a task that is not clear, as a test
pub clear_is : (o : Seen) → is_clear o ≡ true → Clear o
clear_is o e =
    let parts = and_parts o.rests (o.queued == 0) e in
    (parts.0, eqb-true o.queued 0 parts.1)

pub clear_from : (o : Seen) → Clear o → is_clear o ≡ true
clear_from o c = and_from o.rests (o.queued == 0) c.0 (eq-eqb o.queued 0 c.1)

clear_not : (o : Seen) → is_clear o ≡ false → Clear o → ⊥
clear_not o e c = both (is_clear o) (clear_from o c) e

not_or : (a b : Bool) → (not a || b) ≡ true → a ≡ true → b ≡ true
not_or true b e h = e
not_or false b e h = cc

or_from : (a b : Bool) → (a ≡ true → b ≡ true) → (not a || b) ≡ true
or_from true b h = h refl
or_from false b h = refl

not_both : (a b : Bool) → (not a || b) ≡ false → (a ≡ true) × (b ≡ false)
not_both true b e = (refl, e)
not_both false b e = cc

active_least : (t : Tasks) (n : ℕ) (h : Option ℕ) → n ≤ active_of t n h
active_least t n None = omega arith
active_least t n (Some m) = omega arith

module _ (t : Tasks) (p : ℕ) where
  -- what is a lower task
  pub lower : (x : ℕ) → urgent t p x ≡ false → (t.kind x ≡ Init → ⊥) × (t.priority x < p)
  lower x e =
      let parts = or_not (is_init (t.kind x)) (nat_le p (t.priority x)) e in
      (init_not (t.kind x) parts.0, leb-false p (t.priority x) parts.1)

  -- a task of p is an init task, or its priority is at least p
  pub which : (x : ℕ) → urgent t p x ≡ true → (t.kind x ≡ Init) ⊎ (p ≤ t.priority x)
  which x e = elim (or_cases (is_init (t.kind x)) (nat_le p (t.priority x)) e) [
    | inl h ↦ inl (init_is (t.kind x) h)
    | inr h ↦ inr (leb-true p (t.priority x) h)
  ]

  init_urgent : (x : ℕ) → t.kind x ≡ Init → urgent t p x ≡ true
  init_urgent x e = or_is (is_init (t.kind x)) (nat_le p (t.priority x)) (ap is_init e)

  -- a task whose active priority is higher than its own holds a monitor
  raised_of : (o : Seen) (n : ℕ) (h : Option ℕ) → o.holds ≡ h → n < p → p ≤ active_of t n h → Raised t p o
  raised_of o n None e l a = absurd (omega (arith, l, a))
  raised_of o n (Some m) e l a = record { m = m; held = e; high = le-leb p (t.ceiling m) (omega (arith, l, a)) }

  pub active_held : (n : ℕ) (h : Option ℕ) (m : ℕ) → h ≡ Some m → t.ceiling m ≤ active_of t n h
  active_held n None m e = cc
  active_held n (Some k) m e =
      let same : t.ceiling k ≡ t.ceiling m = ap t.ceiling (same_Some k m e) in
      omega (arith, same)

module _ (t : Tasks) (p : ℕ) (S : Type 0) (v : Machine S) (Good : S → Type 0) (f : Facts t S v Good) where
  pub record Steady (s : S) : Type 0 where
    pub good : Good s
    pub one : (x y : ℕ) → x < t.count → y < t.count → urgent t p x ≡ false → urgent t p y ≡ false → Raised t p (v.see s x) → Raised t p (v.see s y) → x ≡ y
    pub barrier : Starts t S v s → (x : ℕ) → x < t.count → (t.kind x ≡ Init → ⊥) → (v.see s x).rests ≡ true

  means_at : (s : S) (x : ℕ) (k : Standing) → Good s → x < t.count → v.stands s x ≡ k → Means t S v s x k
  means_at s x k g l e = subst (Means t S v s x) e (f.means s x g l)

  pub ready_busy : (s : S) (x : ℕ) → Good s → x < t.count → v.stands s x ≡ IsReady → Clear (v.see s x) → ⊥
  ready_busy s x g l e c = elim (means_at s x IsReady g l e) [
    | runs b ↦ both (v.see s x).rests c.0 b
    | takes r q i ↦ q c.1
  ]

  -- before all init tasks are clear only init tasks go
  pub not_yet : (s : S) (x : ℕ) → Steady s → x < t.count → v.stands s x ≡ IsReady → Starts t S v s → (t.kind x ≡ Init → ⊥) → ⊥
  not_yet s x st l e z n = elim (means_at s x IsReady st.good l e) [
    | runs b ↦ both (v.see s x).rests (st.barrier z x l n) b
    | takes r q i ↦ z.busy (i n z.z z.inside z.is_init)
  ]

  pub active_named : (s : S) (x y : ℕ) → Named t p S v s x → y < t.count → v.stands s y ≡ IsReady → p ≤ active t y (v.see s y) → urgent t p x ≡ false → Raised t p (v.see s x)
  active_named s x y n l r a e =
      raised_of t p (v.see s x) (t.priority x) (v.see s x).holds refl (lower t p x e).1 (omega (arith, a, n.greatest y l r))

  -- where u with a priority of at least p is not clear, a lower task that is named is raised
  by_standing : (s : S) (x u : ℕ) (k : Standing) → Steady s → Named t p S v s x → urgent t p x ≡ false → u < t.count → p ≤ t.priority u → (Clear (v.see s u) → ⊥) → v.stands s u ≡ k → Means t S v s u k → Raised t p (v.see s x)
  by_standing s x u IsStuck st n e l h b is m = absurd m
  by_standing s x u IsIdle st n e l h b is (empty c) = absurd (b c)
  by_standing s x u IsIdle st n e l h b is (held_back r k z) = absurd (not_yet s x st n.inside n.ready z (lower t p x e).0)
  by_standing s x u (IsWaiting m) st n e l h b is w =
      let holder = f.holder s w.y m st.good w.y_inside w.held in
      active_named s x w.y n w.y_inside holder.ready
      (omega (arith, h, f.touched u m l w.touches, active_held t p (t.priority w.y) (v.see s w.y).holds m w.held)) e
  by_standing s x u IsReady st n e l h b is m =
      active_named s x u n l is (omega (arith, h, active_least t (t.priority u) (v.see s u).holds)) e

  -- where a task of p is not clear, the task that is named is one of p, or raised
  pub counted : (s : S) (x u : ℕ) → Steady s → Named t p S v s x → u < t.count → urgent t p u ≡ true → (Clear (v.see s u) → ⊥) → (urgent t p x ≡ true) ⊎ Raised t p (v.see s x)
  counted s x u st n l e b = elim (cases_Bool (urgent t p x)) [
    | inl h ↦ inl h
    | inr h ↦ elim (which t p u e) [
      | inl i ↦ absurd (not_yet s x st n.inside n.ready (record { z = u; inside = l; is_init = i; busy = b }) (lower t p x h).0)
      | inr k ↦ inr (by_standing s x u (v.stands s u) st n h l k b refl (f.means s u st.good l))
    ]
  ]

  -- ---- where a task of p is not clear, some credit is left

  holder_counts : (s : S) (y m : ℕ) → Steady s → y < t.count → (v.see s y).holds ≡ Some m → (p ≤ t.ceiling m) ⊎ Starts t S v s → 1 ≤ phi t p S v Good f s
  holder_counts s y m st l h w =
      let ready = (f.holder s y m st.good l h).ready in
      elim (cases_Bool (urgent t p y)) [
        | inl e ↦ phi_some t p S v Good f s y st.good l ready (inl e)
        | inr e ↦ elim w [
          | inl a ↦ phi_some t p S v Good f s y st.good l ready (inr (record { m = m; held = h; high = le-leb p (t.ceiling m) a }))
          | inr z ↦ absurd (none_some (v.see s y).holds m (f.rest_free s y st.good l (st.barrier z y l (lower t p y e).0)) h)
        ]
      ]

  init_some : (s : S) (z : ℕ) (k : Standing) → Steady s → z < t.count → t.kind z ≡ Init → (Clear (v.see s z) → ⊥) → v.stands s z ≡ k → Means t S v s z k → 1 ≤ phi t p S v Good f s
  init_some s z IsStuck st l i b is m = absurd m
  init_some s z IsIdle st l i b is (empty c) = absurd (b c)
  init_some s z IsIdle st l i b is (held_back r k w) = absurd (k i)
  init_some s z (IsWaiting m) st l i b is w =
      holder_counts s w.y m st w.y_inside w.held (inr (record { z = z; inside = l; is_init = i; busy = b }))
  init_some s z IsReady st l i b is m = phi_some t p S v Good f s z st.good l is (inl (init_urgent t p z i))

  other_some : (s : S) (u : ℕ) (k : Standing) → Steady s → u < t.count → urgent t p u ≡ true → p ≤ t.priority u → (Clear (v.see s u) → ⊥) → v.stands s u ≡ k → Means t S v s u k → 1 ≤ phi t p S v Good f s
  other_some s u IsStuck st l e h b is m = absurd m
  other_some s u IsIdle st l e h b is (empty c) = absurd (b c)
  other_some s u IsIdle st l e h b is (held_back r k z) =
      init_some s z.z (v.stands s z.z) st z.inside z.is_init z.busy refl (f.means s z.z st.good z.inside)
  other_some s u (IsWaiting m) st l e h b is w =
      holder_counts s w.y m st w.y_inside w.held (inl (omega (arith, h, f.touched u m l w.touches)))
  other_some s u IsReady st l e h b is m = phi_some t p S v Good f s u st.good l is (inl e)

  pub some_left : (s : S) (u : ℕ) → Steady s → u < t.count → urgent t p u ≡ true → (Clear (v.see s u) → ⊥) → 1 ≤ phi t p S v Good f s
  some_left s u st l e b = elim (which t p u e) [
    | inl i ↦ init_some s u (v.stands s u) st l i b refl (f.means s u st.good l)
    | inr h ↦ other_some s u (v.stands s u) st l e h b refl (f.means s u st.good l)
  ]

  -- ---- all idle is all clear

  pub idle_clear : (s : S) → Good s → AllIdle t p S v s → (x : ℕ) → x < t.count → Clear (v.see s x)
  idle_clear s g idle x l = elim (means_at s x IsIdle g l (idle x l)) [
    | empty c ↦ c
    | held_back r k z ↦ elim (means_at s z.z IsIdle g z.inside (idle z.z z.inside)) [
      | empty c ↦ absurd (z.busy c)
      | held_back r' k' z' ↦ absurd (k' z.is_init)
    ]
  ]

  -- ---- the test for all tasks of p

  pub clear_at : (s : S) → all_clear t p S v s ≡ true → (x : ℕ) → x < t.count → urgent t p x ≡ true → Clear (v.see s x)
  clear_at s e x l u = clear_is (v.see s x) (not_or (urgent t p x) (is_clear (v.see s x)) (all_is t.count x (λ x. not (urgent t p x) || is_clear (v.see s x)) e l) u)

  pub clear_all : (s : S) → ((x : ℕ) → x < t.count → urgent t p x ≡ true → Clear (v.see s x)) → all_clear t p S v s ≡ true
  clear_all s h = all_from t.count (λ x. not (urgent t p x) || is_clear (v.see s x)) (λ x l. or_from (urgent t p x) (is_clear (v.see s x)) (λ u. clear_from (v.see s x) (h x l u)))

  pub record Busy (s : S) : Type 0 where
    pub u : ℕ
    pub inside : u < t.count
    pub is_urgent : urgent t p u ≡ true
    pub busy : Clear (v.see s u) → ⊥

  pub not_clear : (s : S) → all_clear t p S v s ≡ false → Busy s
  not_clear s e =
      let k = all_not t.count (λ x. not (urgent t p x) || is_clear (v.see s x)) e in
      let parts = not_both (urgent t p k.0) (is_clear (v.see s k.0)) k.2 in
      record { u = k.0; inside = k.1; is_urgent = parts.0; busy = clear_not (v.see s k.0) parts.1 }

  -- ---- where all tasks of p are clear, at most the block is left

  block_at : (x : ℕ) → x < t.count → urgent t p x ≡ false → rises t p x ≡ true → t.cost x ≤ block t p
  block_at x l u r =
      let here : block_of t p x ≡ t.cost x = ap (λ b. cond b 0 (cond (rises t p x) (t.cost x) 0)) u ∙ ap (λ b. cond b (t.cost x) 0) r in
      omega (arith, here, greatest_is t.count x (block_of t p) l)

  raised_lent : (o : Seen) (c : ℕ) (h : Option ℕ) → o.holds ≡ h → 0 < lent t p c o.since h → Raised t p o
  raised_lent o c None e l = absurd (omega (arith, l))
  raised_lent o c (Some m) e l = elim (cases_Bool (nat_le p (t.ceiling m))) [
    | inl b ↦ record { m = m; held = e; high = b }
    | inr b ↦
        let no : cond (nat_le p (t.ceiling m)) (c - o.since) 0 ≡ 0 = ap (λ b. cond b (c - o.since) 0) b in
        absurd (omega (arith, no, l))
  ]

  lent_cost : (c n : ℕ) (h : Option ℕ) → lent t p c n h ≤ c
  lent_cost c n None = omega arith
  lent_cost c n (Some m) = elim (cases_Bool (nat_le p (t.ceiling m))) [
    | inl b ↦
        let is : cond (nat_le p (t.ceiling m)) (c - n) 0 ≡ c - n = ap (λ b. cond b (c - n) 0) b in
        omega (arith, is)
    | inr b ↦
        let is : cond (nat_le p (t.ceiling m)) (c - n) 0 ≡ 0 = ap (λ b. cond b (c - n) 0) b in
        omega (arith, is)
  ]

  raised_rises : (s : S) (x : ℕ) → Good s → x < t.count → Raised t p (v.see s x) → rises t p x ≡ true
  raised_rises s x g l h =
      let k = f.holder s x h.m g l h.held in
      any_is t.monitors h.m (λ m. t.touches x m && nat_le p (t.ceiling m)) k.inside (and_from (t.touches x h.m) (nat_le p (t.ceiling h.m)) k.touches h.high)

  small : (s : S) (x : ℕ) (u : Bool) → Good s → x < t.count → urgent t p x ≡ u → (u ≡ true → Clear (v.see s x)) → credit_of t p (t.cost x) (v.see s x) u ≤ block t p
  small s x true g l e c =
      let none : credit t p x (v.see s x) ≡ 0 = credit_clear t p x (v.see s x) e (c refl).0 (c refl).1 in
      let same : credit_of t p (t.cost x) (v.see s x) true ≡ 0 = ap (credit_of t p (t.cost x) (v.see s x)) (sym e) ∙ none in
      omega (arith, same)
  small s x false g l e c = elim (cases_lt 0 (lent t p (t.cost x) (v.see s x).since (v.see s x).holds)) [
    | inl some ↦ omega (arith, lent_cost (t.cost x) (v.see s x).since (v.see s x).holds, block_at x l e (raised_rises s x g l (raised_lent (v.see s x) (t.cost x) (v.see s x).holds refl some)))
    | inr none ↦ omega (arith, none)
  ]

  who : (s : S) (x : ℕ) (u : Bool) → urgent t p x ≡ u → (urgent t p x ≡ true → Clear (v.see s x)) → 0 < credit_of t p (t.cost x) (v.see s x) u → (urgent t p x ≡ false) × Raised t p (v.see s x)
  who s x true e c l =
      let none : credit t p x (v.see s x) ≡ 0 = credit_clear t p x (v.see s x) e (c e).0 (c e).1 in
      let same : credit_of t p (t.cost x) (v.see s x) true ≡ 0 = ap (credit_of t p (t.cost x) (v.see s x)) (sym e) ∙ none in
      absurd (omega (arith, same, l))
  who s x false e c l = (e, raised_lent (v.see s x) (t.cost x) (v.see s x).holds refl l)

  pub blocked : (s : S) → Steady s → all_clear t p S v s ≡ true → phi t p S v Good f s ≤ block t p
  blocked s st e =
      sum_most t.count (block t p) (λ x. credit t p x (v.see s x))
      (λ x l. small s x (urgent t p x) st.good l refl (clear_at s e x l))
      (λ x y l m a b.
      let one = who s x (urgent t p x) refl (clear_at s e x l) a in
      let two = who s y (urgent t p y) refl (clear_at s e y m) b in
      st.one x y l m one.0 two.0 one.1 two.1)
