-- The credit of a task: the instructions that it may still execute in a stretch.
use Rattle.std.proofs.Common.{◌≡◌, ◌⊎◌, inl, inr, ◌<◌, ◌≤◌, ℕ, suc, ◌+◌, ◌-◌, ◌*◌, Bool, true, false, cond, Option, Some, None, refl, ap, ◌∙◌, arith}
use Rattle.std.specs.Prelude.{nat_le}
use Rattle.std.proofs.lemmas.Bool.{cases_Bool}
use Rattle.std.proofs.lemmas.Nat.{mul-le}
use Rattle.stretch_law.specs.Counts.{sum_to}
use Rattle.stretch_law.specs.Machine.{Tasks, Seen, IsReady, Turn, Machine}
use Rattle.stretch_law.specs.Demand.{urgent}
use Rattle.stretch_law.specs.Facts.{Turned, took, went, Brought, Facts}
use Rattle.stretch_law.proofs.Sums.{sum_drop, sum_four}

-- of the event that a task is in
abbrev pub left : Bool → ℕ → ℕ → ℕ
left true c n = 0
left false c n = c - n

-- of a lower task
abbrev pub lent : Tasks → ℕ → ℕ → ℕ → Option ℕ → ℕ
lent t p c n None = 0
lent t p c n (Some m) = cond (nat_le p (t.ceiling m)) (c - n) 0

abbrev pub credit_of : Tasks → ℕ → ℕ → Seen → Bool → ℕ
credit_of t p c o true = c * o.queued + left o.rests c o.since
credit_of t p c o false = lent t p c o.since o.holds

abbrev pub credit : Tasks → ℕ → ℕ → Seen → ℕ
credit t p x o = credit_of t p (t.cost x) o (urgent t p x)

abbrev pub weight_of : ℕ → Bool → ℕ
weight_of c true = c
weight_of c false = 0

-- what a message of task x adds
abbrev pub weight : Tasks → ℕ → ℕ → ℕ
weight t p x = weight_of (t.cost x) (urgent t p x)

-- a task that holds a monitor whose ceiling is at least p
pub record Raised (t : Tasks) (p : ℕ) (o : Seen) : Type 0 where
  pub m : ℕ
  pub held : o.holds ≡ Some m
  pub high : nat_le p (t.ceiling m) ≡ true

left_most : (b : Bool) (c n : ℕ) → left b c n ≤ c - n
left_most true c n = omega arith
left_most false c n = omega arith

left_rests : (b : Bool) (c n : ℕ) → b ≡ true → left b c n ≡ 0
left_rests true c n e = refl
left_rests false c n e = cc

left_busy : (b : Bool) (c n : ℕ) → b ≡ false → left b c n ≡ c - n
left_busy true c n e = cc
left_busy false c n e = refl

pub both : (b : Bool) → b ≡ true → b ≡ false → ⊥
both true e h = cc
both false e h = cc

pub none_some : (a : Option ℕ) (m : ℕ) → a ≡ None → a ≡ Some m → ⊥
none_some None m e h = cc
none_some (Some n) m e h = cc

drop_urgent : (c : ℕ) (o o' : Seen) → Turned o o' → o'.since ≤ c → suc (c * o'.queued + left o'.rests c o'.since) ≤ c * o.queued + left o.rests c o.since
drop_urgent c o o' (took r q n) l =
    let product : c * o.queued ≡ c * suc o'.queued = ap (λ z. c * z) q in
    omega (arith, product, left_most o'.rests c o'.since, l, n)
drop_urgent c o o' (went r q n) l =
    let product : c * o'.queued ≡ c * o.queued = ap (λ z. c * z) q in
    omega (arith, product, left_most o'.rests c o'.since, left_busy o.rests c o.since r, l, n)

cond_most : (b : Bool) (n : ℕ) → cond b n 0 ≤ n
cond_most true n = omega arith
cond_most false n = omega arith

cond_true : (b : Bool) (n : ℕ) → b ≡ true → cond b n 0 ≡ n
cond_true true n e = refl
cond_true false n e = cc

lent_most : (t : Tasks) (p c n : ℕ) (h : Option ℕ) → lent t p c n h ≤ c - n
lent_most t p c n None = omega arith
lent_most t p c n (Some m) = cond_most (nat_le p (t.ceiling m)) (c - n)

lent_none : (t : Tasks) (p c n : ℕ) (h : Option ℕ) → h ≡ None → lent t p c n h ≡ 0
lent_none t p c n h e = ap (lent t p c n) e

lent_high : (t : Tasks) (p c n : ℕ) (h : Option ℕ) (m : ℕ) → h ≡ Some m → nat_le p (t.ceiling m) ≡ true → lent t p c n h ≡ c - n
lent_high t p c n h m e l = ap (lent t p c n) e ∙ cond_true (nat_le p (t.ceiling m)) (c - n) l

drop_raised : (t : Tasks) (p c : ℕ) (o o' : Seen) → Turned o o' → o'.since ≤ c → o.rests ≡ false → Raised t p o → suc (lent t p c o'.since o'.holds) ≤ lent t p c o.since o.holds
drop_raised t p c o o' (took r q n) l b h = absurd (both o.rests r b)
drop_raised t p c o o' (went r q n) l b h =
    omega (arith, lent_most t p c o'.since o'.holds, lent_high t p c o.since o.holds h.m h.held h.high, l, n)

arrived : (t : Tasks) (p c n : ℕ) (o o' : Seen) (u : Bool) → Brought n o o' → credit_of t p c o' u ≤ credit_of t p c o u + weight_of c u * n
arrived t p c n o o' true b =
    let more : c * o'.queued ≤ c * (o.queued + n) = mul-le c o'.queued c (o.queued + n) (omega arith) b.queued in
    let same : left o'.rests c o'.since ≡ left o.rests c o.since = ap (λ r. left r c o'.since) b.rests ∙ ap (left o.rests c) b.since in
    omega (arith, more, same)
arrived t p c n o o' false b =
    let same : lent t p c o'.since o'.holds ≡ lent t p c o.since o.holds = ap (λ h. lent t p c o'.since h) b.holds ∙ ap (λ k. lent t p c k o.holds) b.since in
    omega (arith, same)

pub credit_arrived : (t : Tasks) (p x n : ℕ) (o o' : Seen) → Brought n o o' → credit t p x o' ≤ credit t p x o + weight t p x * n
credit_arrived t p x n o o' b = arrived t p (t.cost x) n o o' (urgent t p x) b

-- a clear task of p has none
clear_of : (t : Tasks) (p c : ℕ) (o : Seen) (u : Bool) → u ≡ true → o.rests ≡ true → o.queued ≡ 0 → credit_of t p c o u ≡ 0
clear_of t p c o true e r q =
    let product : c * o.queued ≡ c * 0 = ap (λ z. c * z) q in
    omega (arith, product, left_rests o.rests c o.since r)
clear_of t p c o false e r q = cc

pub credit_clear : (t : Tasks) (p x : ℕ) (o : Seen) → urgent t p x ≡ true → o.rests ≡ true → o.queued ≡ 0 → credit t p x o ≡ 0
credit_clear t p x o e r q = clear_of t p (t.cost x) o (urgent t p x) e r q

module _ (t : Tasks) (p : ℕ) (S : Type 0) (v : Machine S) (Good : S → Type 0) (f : Facts t S v Good) where
  -- all credits together
  abbrev pub phi : S → ℕ
  phi s = sum_to t.count (λ x. credit t p x (v.see s x))

  busy : (s : S) (x : ℕ) → Good s → x < t.count → Raised t p (v.see s x) → (v.see s x).rests ≡ false
  busy s x g l h = elim (cases_Bool (v.see s x).rests) [ inl e ↦ absurd (none_some (v.see s x).holds h.m (f.rest_free s x g l e) h.held) | inr e ↦ e ]

  drop_of : (s s' : S) (x : ℕ) → Good s → Good s' → x < t.count → v.next s (Turn x) ≡ Some s' → (u : Bool) → urgent t p x ≡ u → (u ≡ true) ⊎ Raised t p (v.see s x) → suc (credit_of t p (t.cost x) (v.see s' x) u) ≤ credit_of t p (t.cost x) (v.see s x) u
  drop_of s s' x g g' l e true w h = drop_urgent (t.cost x) (v.see s x) (v.see s' x) (f.turn_own s s' x g l e) (f.counts s' x g' l)
  drop_of s s' x g g' l e false w (inl h) = cc
  drop_of s s' x g g' l e false w (inr h) =
      drop_raised t p (t.cost x) (v.see s x) (v.see s' x) (f.turn_own s s' x g l e) (f.counts s' x g' l) (busy s x g l h) h

  -- an instruction of a task of p, or of a raised one, takes from the credits
  pub phi_drop : (s s' : S) (x : ℕ) → Good s → x < t.count → v.next s (Turn x) ≡ Some s' → (urgent t p x ≡ true) ⊎ Raised t p (v.see s x) → suc (phi s') ≤ phi s
  phi_drop s s' x g l e h =
      sum_drop t.count x (λ x. credit t p x (v.see s x)) (λ x. credit t p x (v.see s' x)) l
      (drop_of s s' x g (f.goes_on s s' (Turn x) g e) l e (urgent t p x) refl h)
      (λ y m ne. ap (credit t p y) (f.turn_other s s' x y g e ne))

  pub phi_some : (s : S) (x : ℕ) → Good s → x < t.count → v.stands s x ≡ IsReady → (urgent t p x ≡ true) ⊎ Raised t p (v.see s x) → 1 ≤ phi s
  phi_some s x g l r h =
      let k = f.can s x g l r in
      omega (arith, phi_drop s k.0 x g l k.1 h)

  pub phi_arrived : (s s' : S) (d sent : ℕ → ℕ) → ((x : ℕ) → x < t.count → Brought (d x) (v.see s x) (v.see s' x)) → phi s' + sum_to t.count (λ x. weight t p x * sent x) ≤ phi s + sum_to t.count (λ x. weight t p x * (sent x + d x))
  phi_arrived s s' d sent b =
      sum_four t.count (λ x. credit t p x (v.see s' x)) (λ x. weight t p x * sent x) (λ x. credit t p x (v.see s x)) (λ x. weight t p x * (sent x + d x))
      (λ x l. omega (arith, credit_arrived t p x (d x) (v.see s x) (v.see s' x) (b x l)))
