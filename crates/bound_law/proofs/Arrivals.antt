-- What an entry brings to each task of the machine.
use Rattle.std.proofs.Common.{◌≡◌, ◌≢◌, inl, inr, ◌<◌, ◌≤◌, ℕ, zero, suc, ◌+◌, ℤ, pos, Bool, true, false, cond, List, [], ◌∷◌, ◌++◌, map, fold, take, length, Option, Some, None, refl, sym, ap, ◌∙◌, subst, arith, slice_get, slice_set, slice_index, slice_index_or, length-append, length-set}
use Rattle.std.specs.Prelude.{◌==◌, ◌%◌}
use Rattle.std.proofs.lemmas.Bool.{cases_Bool, cases_eq, eq-eqb, ne_eqb}
use Rattle.tower_types.specs.Value.{Value, word, flat}
use Rattle.tower_syntax.specs.declared.arch.SourceKind.{SourceKind}
use Rattle.tower_syntax.specs.declared.arch.SourceKind.TheVariants as kind
use Rattle.tower_syntax.specs.Arch.{Entry, tick, signal, Events}
use Rattle.tower_syntax.specs.Arrival.{ticks, is_due, brought_by_tick, brought, is_full}
use Rattle.task_code.specs.Machine.{Machine, queue, bring, received}
use Rattle.stretch_law.specs.Facts.{due, one_at}
use Rattle.bound_law.specs.Seen.{kind_of}

abbrev one_if : Bool → ℕ
one_if b = cond b 1 0

pub one_is : (x y : ℕ) → x ≡ y → one_at x y ≡ 1
one_is x y e =
    let same : (x == y) ≡ true = eq-eqb x y e in
    ap one_if same

pub one_not : (x y : ℕ) → x ≢ y → one_at x y ≡ 0
one_not x y n =
    let same : (x == y) ≡ false = ne_eqb x y n in
    ap one_if same

one_suc : (x y : ℕ) → one_at (suc x) (suc y) ≡ one_at x y
one_suc x y = elim (cases_eq x y) [
  | inl e ↦ one_is (suc x) (suc y) (ap suc e) ∙ sym (one_is x y e)
  | inr n ↦ one_not (suc x) (suc y) (λ e. n (omega (arith, e))) ∙ sym (one_not x y n)
]

pushed : (qs : List (List (List ℤ))) (i j : ℕ) (w : List ℤ) → length (slice_index_or (slice_set qs i (slice_index_or qs i [] ++ w ∷ [])) j []) ≤ length (slice_index_or qs j []) + one_at i j
pushed [] i j w = omega arith
pushed (q ∷ qs) zero zero w = omega (arith, length-append q (w ∷ []), one_is 0 0 refl)
pushed (q ∷ qs) zero (suc j) w = omega arith
pushed (q ∷ qs) (suc i) zero w = omega arith
pushed (q ∷ qs) (suc i) (suc j) w = omega (arith, pushed qs i j w, one_suc i j)

-- at most so many messages have come to each queue, and nothing else has changed
pub record Got (n : ℕ → ℕ) (m m' : Machine) : Type 0 where
  pub tasks : m'.tasks ≡ m.tasks
  pub locks : m'.locks ≡ m.locks
  pub place : m'.place ≡ m.place
  pub long : length m'.queues ≡ length m.queues
  pub queues : (y : ℕ) → length (queue m' y) ≤ length (queue m y) + n y

-- how many of these messages are for y
abbrev pub count_for : ℕ → List (ℕ × List ℤ) → ℕ
count_for y [] = 0
count_for y (b ∷ bs) = one_at b.0 y + count_for y bs

module _ (depths : List (Option ℕ)) where
  abbrev dropped : Machine → ℕ → Machine
  dropped m x = record m { lost = slice_set m.lost x (suc (slice_index m.lost x)) }

  abbrev queued : Machine → ℕ → List ℤ → Machine
  queued m x w = record m { queues = slice_set m.queues x (queue m x ++ w ∷ []) }

  either : (m : Machine) (b : ℕ × List ℤ) (full : Bool) → Got (one_at b.0) m (cond full (dropped m b.0) (queued m b.0 b.1))
  either m b true = record { tasks = refl; locks = refl; place = refl; long = refl; queues = λ y. omega arith }
  either m b false = record { tasks = refl; locks = refl; place = refl; long = length-set m.queues b.0 _; queues = λ y. pushed m.queues b.0 y b.1 }

  one : (m : Machine) (b : ℕ × List ℤ) → Got (one_at b.0) m (bring depths m b)
  one m b = either m b (is_full (slice_index_or depths b.0 None) (length (queue m b.0)))

  pub all : (bs : List (ℕ × List ℤ)) (m : Machine) → Got (λ y. count_for y bs) m (fold (bring depths) m bs)
  all [] m = record { tasks = refl; locks = refl; place = refl; long = refl; queues = λ y. omega arith }
  all (b ∷ bs) m =
      let f = one m b in
      let g = all bs (bring depths m b) in
      record { tasks = g.tasks ∙ f.tasks; locks = g.locks ∙ f.locks; place = g.place ∙ f.place; long = g.long ∙ f.long; queues = λ y. omega (arith, f.queues y, g.queues y) }

-- ---- what a tick brings

abbrev pub as_words : List (ℕ × Value) → List (ℕ × List ℤ)
as_words bs = map (λ b. (b.0, flat b.1)) bs

same_due : (k ms : ℕ) → 1 ≤ ms → is_due k (kind.Period ms) ≡ (k % ms == 0)
same_due k zero l = absurd (omega (arith, l))
same_due k (suc d) l = refl

due_is : (k : ℕ) (s : SourceKind) → ((ms : ℕ) → s ≡ kind.Period ms → 1 ≤ ms) → is_due k s ≡ true → due (kind_of s) k ≡ 1
due_is k kind.Init l e = cc
due_is k (kind.Period ms) l e =
    let same : (k % ms == 0) ≡ true = sym (same_due k ms (l ms refl)) ∙ e in
    ap one_if same
due_is k kind.Signal l e = cc

-- nothing comes to those before
none_before : (k : ℕ) (ss : List SourceKind) (x y : ℕ) → y < x → count_for y (as_words (brought_by_tick k x ss)) ≡ 0
none_before k [] x y l = refl
none_before k (s ∷ ss) x y l = elim (cases_Bool (is_due k s)) [
  | inl e ↦ subst (λ b. count_for y (as_words (cond b ((x, word (pos k)) ∷ []) [] ++ brought_by_tick k (x + 1) ss)) ≡ 0) (sym e) (omega (arith, one_not x y (λ h. omega (arith, h, l)), none_before k ss (x + 1) y (omega (arith, l))))
  | inr e ↦ subst (λ b. count_for y (as_words (cond b ((x, word (pos k)) ∷ []) [] ++ brought_by_tick k (x + 1) ss)) ≡ 0) (sym e) (none_before k ss (x + 1) y (omega (arith, l)))
]

tick_at : (k : ℕ) (ss : List SourceKind) (x y : ℕ) → ((z ms : ℕ) → slice_index_or ss z kind.Signal ≡ kind.Period ms → 1 ≤ ms) → count_for (x + y) (as_words (brought_by_tick k x ss)) ≤ due (kind_of (slice_index_or ss y kind.Signal)) k
tick_at k [] x y l = omega arith
tick_at k (s ∷ ss) x zero l = elim (cases_Bool (is_due k s)) [
  | inl e ↦ subst (λ b. count_for (x + 0) (as_words (cond b ((x, word (pos k)) ∷ []) [] ++ brought_by_tick k (x + 1) ss)) ≤ due (kind_of s) k) (sym e)
      (omega (arith, one_is x (x + 0) (omega arith), due_is k s (l 0) e, none_before k ss (x + 1) (x + 0) (omega arith)))
  | inr e ↦ subst (λ b. count_for (x + 0) (as_words (cond b ((x, word (pos k)) ∷ []) [] ++ brought_by_tick k (x + 1) ss)) ≤ due (kind_of s) k) (sym e)
      (omega (arith, none_before k ss (x + 1) (x + 0) (omega arith)))
]
tick_at k (s ∷ ss) x (suc y) l =
    let more : count_for (x + 1 + y) (as_words (brought_by_tick k (x + 1) ss)) ≤ due (kind_of (slice_index_or ss y kind.Signal)) k = tick_at k ss (x + 1) y (λ z. l (suc z)) in
    let same : x + 1 + y ≡ x + suc y = omega arith in
    let here : count_for (x + suc y) (as_words (brought_by_tick k (x + 1) ss)) ≤ due (kind_of (slice_index_or ss y kind.Signal)) k = subst (λ z. count_for z (as_words (brought_by_tick k (x + 1) ss)) ≤ due (kind_of (slice_index_or ss y kind.Signal)) k) same more in
    elim (cases_Bool (is_due k s)) [
      | inl e ↦ subst (λ b. count_for (x + suc y) (as_words (cond b ((x, word (pos k)) ∷ []) [] ++ brought_by_tick k (x + 1) ss)) ≤ due (kind_of (slice_index_or ss y kind.Signal)) k) (sym e)
          (omega (arith, one_not x (x + suc y) (λ h. omega (arith, h)), here))
      | inr e ↦ subst (λ b. count_for (x + suc y) (as_words (cond b ((x, word (pos k)) ∷ []) [] ++ brought_by_tick k (x + 1) ss)) ≤ due (kind_of (slice_index_or ss y kind.Signal)) k) (sym e) here
    ]

pub tick_brings : (k : ℕ) (ss : List SourceKind) (y : ℕ) → ((z ms : ℕ) → slice_index_or ss z kind.Signal ≡ kind.Period ms → 1 ≤ ms) → count_for y (as_words (brought ss k tick)) ≤ due (kind_of (slice_index_or ss y kind.Signal)) k
tick_brings k ss y l =
    let same : 0 + y ≡ y = omega arith in
    subst (λ z. count_for z (as_words (brought_by_tick k 0 ss)) ≤ due (kind_of (slice_index_or ss y kind.Signal)) k) same (tick_at k ss 0 y l)

-- ---- the count of ticks

pub ticks_more : (es : List Entry) (i : ℕ) → slice_get es i ≡ Some tick → ticks (take (suc i) es) ≡ suc (ticks (take i es))
ticks_more [] i e = cc
ticks_more (tick ∷ es) zero e = refl
ticks_more (signal x v ∷ es) zero e = cc
ticks_more (tick ∷ es) (suc i) e = omega (arith, ticks_more es i e)
ticks_more (signal x v ∷ es) (suc i) e = omega (arith, ticks_more es i e)

pub ticks_same : (es : List Entry) (i x : ℕ) (v : Value) → slice_get es i ≡ Some (signal x v) → ticks (take (suc i) es) ≡ ticks (take i es)
ticks_same [] i x v e = cc
ticks_same (tick ∷ es) zero x v e = cc
ticks_same (signal y w ∷ es) zero x v e = refl
ticks_same (tick ∷ es) (suc i) x v e = omega (arith, ticks_same es i x v e)
ticks_same (signal y w ∷ es) (suc i) x v e = omega (arith, ticks_same es i x v e)

-- ---- an entry

abbrev pub with_place : Machine → ℕ → Machine
with_place m n = record m { place = n }

pub entry_got : (events : Events) (m : Machine) (e : Entry) → Got (λ y. count_for y (as_words (brought events.kinds (ticks (take (suc m.place) events.entries)) e))) (with_place m (suc m.place)) (received events m e)
entry_got events m e = all events.depths (as_words (brought events.kinds (ticks (take (suc m.place) events.entries)) e)) (with_place m (suc m.place))
