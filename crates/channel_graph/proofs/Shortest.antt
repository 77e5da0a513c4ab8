-- First answers in lists of numbers, and what is near a handler.
use Rattle.std.proofs.Common.{◌≡◌, ℕ, zero, suc, ◌+◌, ◌<◌, List, [], ◌∷◌, ◌++◌, length, filter, cond, Option, Some, None, Bool, true, false, ◌||◌, ◌==◌, ◌⊎◌, inl, inr, arith, refl, sym, ◌∙◌, ap, subst}
use Rattle.std.specs.List.{list_any, find}
use Rattle.std.proofs.lemmas.Bool.{false≢true, cases_Bool, or_cases, cases_lt, eqb-true, eq-eqb}
use Rattle.tower_syntax.specs.Arch.{Arch}
use Rattle.tower_syntax.specs.Graph.{numbers_before, handler_numbers, leads}
use Rattle.channel_graph.specs.declared.reach.Start.{Start}
use Rattle.channel_graph.specs.declared.reach.Start.TheVariants as start
use Rattle.channel_graph.specs.Reaching.{Follows, begins, goes}
use Rattle.channel_graph.specs.Circuit.{near, wider, leads_near, walk_if, walk_round, or_else, first_of_all}
use Rattle.channel_graph.specs.Ranked.{is_near}
use Rattle.std.proofs.Common.{zero-add}
use Rattle.tower_syntax.specs.WellNumbered.{AreListeners}
use Rattle.channel_graph.proofs.Linked.{link_of}
use Rattle.channel_graph.proofs.Listed.{numbers_before-suc}
use Rattle.channel_graph.proofs.Members.{In, or_left, or_right, any_has, has_any, filter_has, has_filter, below_number}

-- ---- first answers

first-append : {A : Type 0} (f : ℕ → Option A) (xs ys : List ℕ) → first_of_all f (xs ++ ys) ≡ or_else (first_of_all f xs) (first_of_all f ys)
first-append f [] ys = refl
first-append f (x ∷ xs) ys = ap (or_else (f x)) (first-append f xs ys) ∙ or_else_assoc (f x) (first_of_all f xs) (first_of_all f ys)
  where
    or_else_assoc : {A : Type 0} (a b c : Option A) → or_else a (or_else b c) ≡ or_else (or_else a b) c
    or_else_assoc None b c = refl
    or_else_assoc (Some x) b c = refl

or_else-None : {A : Type 0} (a : Option A) → or_else a None ≡ a
or_else-None None = refl
or_else-None (Some x) = refl

first-suc : {A : Type 0} (f : ℕ → Option A) (n : ℕ) → first_of_all f (numbers_before (suc n) []) ≡ or_else (first_of_all f (numbers_before n [])) (f n)
first-suc f n = ap (first_of_all f) (numbers_before-suc n) ∙ first-append f (numbers_before n []) (n ∷ []) ∙ ap (or_else (first_of_all f (numbers_before n []))) (or_else-None (f n))

-- where the first n numbers have no answer, and n has none
pub first_none : {A : Type 0} (f : ℕ → Option A) (n : ℕ) → first_of_all f (numbers_before n []) ≡ None → f n ≡ None → first_of_all f (numbers_before (n + 1) []) ≡ None
first_none f n before here =
    let next : n + 1 ≡ suc n = omega arith in
    ap (λ m. first_of_all f (numbers_before m [])) next ∙ first-suc f n ∙ ap (λ o. or_else o (f n)) before ∙ here

-- where the numbers before k have no answer, and k has one
pub first_at : {A : Type 0} (f : ℕ → Option A) (n k : ℕ) (x : A) → k < n → first_of_all f (numbers_before k []) ≡ None → f k ≡ Some x → first_of_all f (numbers_before n []) ≡ Some x
first_at f zero k x h before here = absurd (omega arith)
first_at f (suc n) k x h before here = elim (cases_lt k n) [
  | inl below ↦ first-suc f n ∙ ap (λ o. or_else o (f n)) (first_at f n k x below before here)
  | inr above ↦
      let same : k ≡ n = omega arith in
      let P : ℕ → Type 0 = λ m. or_else (first_of_all f (numbers_before m [])) (f m) ≡ Some x in
      first-suc f n ∙ subst P same (ap (λ o. or_else o (f k)) before ∙ here)
]

-- among those that pass a test
abbrev pub passing : {A : Type 0} → (ℕ → Bool) → (ℕ → Option A) → ℕ → Option A
passing p f k = cond (p k) (f k) None

pub first-filter : {A : Type 0} (p : ℕ → Bool) (f : ℕ → Option A) (xs : List ℕ) → first_of_all f (filter p xs) ≡ first_of_all (passing p f) xs
first-filter p f [] = refl
first-filter p f (x ∷ xs) = elim (cases_Bool (p x)) [
  | inl t ↦ rw t (ap (or_else (f x)) (first-filter p f xs))
  | inr t ↦ rw t (first-filter p f xs)
]

pub find-first : (p : ℕ → Bool) (xs : List ℕ) → find p xs ≡ first_of_all (passing p (λ k. Some k)) xs
find-first p [] = refl
find-first p (x ∷ xs) = elim (cases_Bool (p x)) [
  | inl t ↦ rw t refl
  | inr t ↦ rw t (find-first p xs)
]

pub find_at : (p : ℕ → Bool) (n k : ℕ) → k < n → ((j : ℕ) → j < k → p j ≡ false) → p k ≡ true → find p (numbers_before n []) ≡ Some k
find_at p n k h before here =
    find-first p (numbers_before n []) ∙ first_at (passing p (λ j. Some j)) n k k h (none k before) (ap (λ b. cond b (Some k) None) here)
  where
    none : (m : ℕ) → ((j : ℕ) → j < m → p j ≡ false) → first_of_all (passing p (λ j. Some j)) (numbers_before m []) ≡ None
    none zero b = refl
    none (suc m) b = first-suc (passing p (λ j. Some j)) m ∙ ap (λ o. or_else o (passing p (λ j. Some j) m)) (none m (λ j l. b j (omega arith))) ∙ ap (λ t. cond t (Some m) None) (b m (omega arith))

pub find_none : (p : ℕ → Bool) (xs : List ℕ) → ((j : ℕ) → In j xs → p j ≡ false) → find p xs ≡ None
find_none p [] none = refl
find_none p (x ∷ xs) none = rw (none x (inl refl)) (find_none p xs (λ j h. none j (inr h)))

pub find_agree : (p q : ℕ → Bool) (xs : List ℕ) → ((j : ℕ) → In j xs → p j ≡ q j) → find p xs ≡ find q xs
find_agree p q [] same = refl
find_agree p q (x ∷ xs) same = rw (same x (inl refl)) (ap (cond (q x) (Some x)) (find_agree p q xs (λ j h. same j (inr h))))

-- ---- what is near

pub near_wider : (arch : Arch) (h n k : ℕ) → k < length arch.handlers → (is_near arch h n k ≡ true) ⊎ (leads_near arch h n k ≡ true) → is_near arch h (suc n) k ≡ true
near_wider arch h n k below either =
    let js = near arch h n in
    let test : list_any (λ j. j == k || leads arch k j) js ≡ true = elim either [
      | inl e ↦ let r = any_has (λ i. i == k) js e in has_any (λ j. j == k || leads arch k j) js r.element r.has (or_left (r.element == k) (leads arch k r.element) r.passes)
      | inr e ↦ let r = any_has (leads arch k) js e in has_any (λ j. j == k || leads arch k j) js r.element r.has (or_right (r.element == k) (leads arch k r.element) r.passes)
    ] in
    has_any (λ i. i == k) (wider arch js) k (has_filter (λ i. list_any (λ j. j == i || leads arch i j) js) (handler_numbers arch) k (below_number (length arch.handlers) k below) test) (eq-eqb k k refl)

pub wider_near : (arch : Arch) (h n k : ℕ) → is_near arch h (suc n) k ≡ true → (is_near arch h n k ≡ true) ⊎ (leads_near arch h n k ≡ true)
wider_near arch h n k e =
    let js = near arch h n in
    let r = any_has (λ i. i == k) (wider arch js) e in
    let here : In k (wider arch js) = subst (λ i. In i (wider arch js)) (eqb-true r.element k r.passes) r.has in
    let t = filter_has (λ i. list_any (λ j. j == i || leads arch i j) js) (handler_numbers arch) k here in
    let s = any_has (λ j. j == k || leads arch k j) js t.1 in
    elim (or_cases (s.element == k) (leads arch k s.element) s.passes) [
      | inl same ↦ inl (has_any (λ i. i == k) js s.element s.has same)
      | inr link ↦ inr (has_any (leads arch k) js s.element s.has link)
    ]

-- a handler that is near, and to which k leads
pub record Nearby (arch : Arch) (h n k : ℕ) : Type 0 where
  pub number : ℕ
  pub near : is_near arch h n number ≡ true
  pub link : leads arch k number ≡ true

pub nearby : (arch : Arch) (h n k : ℕ) → leads_near arch h n k ≡ true → Nearby arch h n k
nearby arch h n k e =
    let r = any_has (leads arch k) (near arch h n) e in
    record { number = r.element; near = has_any (λ i. i == r.element) (near arch h n) r.element r.has (eq-eqb r.element r.element refl); link = r.passes }

pub from_nearby : (arch : Arch) (h n k j : ℕ) → is_near arch h n j ≡ true → leads arch k j ≡ true → leads_near arch h n k ≡ true
from_nearby arch h n k j e link =
    let r = any_has (λ i. i == j) (near arch h n) e in
    has_any (leads arch k) (near arch h n) r.element r.has (subst (λ i. leads arch k i ≡ true) (sym (eqb-true r.element j r.passes)) link)

-- where nothing new was near, nothing new is nearer later
pub near_stays : (arch : Arch) (h n d : ℕ) → AreListeners arch → ((k : ℕ) → is_near arch h (suc n) k ≡ true → is_near arch h n k ≡ true) → (k : ℕ) → k < length arch.handlers → is_near arch h (d + n) k ≡ true → is_near arch h n k ≡ true
near_stays arch h n zero listed still k below e = subst (λ m. is_near arch h m k ≡ true) (zero-add n) e
near_stays arch h n (suc d) listed still k below e =
    let more : suc d + n ≡ suc (d + n) = omega arith in
    elim (wider_near arch h (d + n) k (subst (λ m. is_near arch h m k ≡ true) more e)) [
      | inl before ↦ near_stays arch h n d listed still k below before
      | inr led ↦
          let j = nearby arch h (d + n) k led in
          let inside : j.number < length arch.handlers = (link_of arch k j.number listed j.link).below in
          still k (near_wider arch h n k below (inr (from_nearby arch h n k j.number (near_stays arch h n d listed still j.number inside j.near) j.link)))
    ]

-- a walk that comes near h comes to h
pub near_follows : (arch : Arch) (from : Start) (h n k : ℕ) → is_near arch h n k ≡ true → Follows arch from k → Follows arch from h
near_follows arch from h zero k e f =
    elim (or_cases (h == k) false e) [
      | inl same ↦ subst (Follows arch from) (sym (eqb-true h k same)) f
      | inr none ↦ absurd (false≢true none)
    ]
near_follows arch from h (suc n) k e f = elim (wider_near arch h n k e) [
  | inl before ↦ near_follows arch from h n k before f
  | inr led ↦ let j = nearby arch h n k led in near_follows arch from h n j.number j.near (goes k j.number f j.link)
]

-- a handler that does not lead back to itself has no walk round
pub no_walk : (arch : Arch) (h : ℕ) → (Follows arch (start.Handler h) h → ⊥) → walk_round arch h ≡ None
no_walk arch h none = ap (walk_if arch h) (find_none (λ n. leads_near arch h n h) (numbers_before (length arch.handlers) []) (λ n m. elim (cases_Bool (leads_near arch h n h)) [
  | inl led ↦ absurd (let j = nearby arch h n h led in none (near_follows arch (start.Handler h) h n j.number j.near (begins j.number j.link)))
  | inr not_led ↦ not_led
]))
