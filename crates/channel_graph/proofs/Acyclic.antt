-- A handler has a walk back to itself exactly where links lead back to it, however many.
use Rattle.std.proofs.Common.{◌≡◌, ℕ, zero, suc, ◌+◌, ◌-◌, ◌<◌, ◌≤◌, ◌↔◌, List, [], ◌∷◌, ◌++◌, length, filter, cond, Option, Some, None, Bool, true, false, ◌||◌, ◌==◌, ◌⊎◌, inl, inr, arith, refl, sym, ◌∙◌, ap, subst}
use Rattle.std.proofs.lemmas.Bool.{false≢true, cases_Bool, or_cases, cases_lt, eqb-true, eq-eqb, ne_eqb}
use Rattle.std.proofs.lemmas.List.Elements.{filter-append}
use Rattle.std.specs.List.{list_any, find}
use Rattle.tower_syntax.specs.Arch.{Arch}
use Rattle.tower_syntax.specs.Graph.{handler_numbers, numbers_before, leads, reached_by}
use Rattle.tower_syntax.specs.Weights.{source_numbers}
use Rattle.tower_syntax.specs.WellNumbered.{AreListeners}
use Rattle.channel_graph.specs.declared.circuit.CycleFound.{CycleFound}
use Rattle.channel_graph.specs.declared.reach.Start.TheVariants as start
use Rattle.channel_graph.specs.Reaching.{Follows, begins, goes}
use Rattle.channel_graph.specs.Circuit.{near, wider, leads_near, circuit, walk_if, walk_round, or_else, first_of_all, found_at, shown_at, shown, LeadsBack, IsAcyclic}
use Rattle.channel_graph.proofs.Listed.{numbers_before-suc}
use Rattle.channel_graph.proofs.Members.{In, or_left, or_right, any_has, has_any, filter_has, has_filter, number_below, below_number, length-numbers, length-filter-le, filter-same}
use Rattle.channel_graph.proofs.Linked.{link_of}
use Rattle.channel_graph.proofs.Closed.{kept, listed_is_reached, reached_is_listed}
use Rattle.channel_graph.proofs.Shortest.{no_walk}

-- ---- what is near in the end

none_equal : (h : ℕ) (n : ℕ) → n ≤ h → filter (λ k. h == k) (numbers_before n []) ≡ []
none_equal h zero le = refl
none_equal h (suc n) le =
    let other : (h == n) ≡ false = ne_eqb h n (λ e. omega arith) in
    ap (filter (λ k. h == k)) (numbers_before-suc n) ∙ filter-append (λ k. h == k) (numbers_before n []) (n ∷ []) ∙ ap (λ b. filter (λ k. h == k) (numbers_before n []) ++ cond b (n ∷ []) []) other ∙ ap (λ ks. ks ++ []) (none_equal h n (omega arith))

one_equal : (h : ℕ) (n : ℕ) → h < n → filter (λ k. h == k) (numbers_before n []) ≡ h ∷ []
one_equal h zero lt = absurd (omega arith)
one_equal h (suc n) lt =
    let split = ap (filter (λ k. h == k)) (numbers_before-suc n) ∙ filter-append (λ k. h == k) (numbers_before n []) (n ∷ []) in
    elim (cases_lt h n) [
      | inl below ↦
          let other : (h == n) ≡ false = ne_eqb h n (λ e. omega arith) in
          split ∙ ap (λ b. filter (λ k. h == k) (numbers_before n []) ++ cond b (n ∷ []) []) other ∙ ap (λ ks. ks ++ []) (one_equal h n below)
      | inr above ↦
          let same : h ≡ n = omega arith in
          split ∙ ap (λ b. filter (λ k. h == k) (numbers_before n []) ++ cond b (n ∷ []) []) (eq-eqb h n same) ∙ ap (λ ks. ks ++ n ∷ []) (none_equal h n (omega arith)) ∙ ap (λ k. k ∷ []) (sym same)
    ]

-- k is one of these, or leads to one
abbrev comes : Arch → List ℕ → ℕ → Bool
comes arch js k = list_any (λ j. j == k || leads arch k j) js

-- whatever leads to one of these is one of these
abbrev IsBackClosed : Arch → List ℕ → Type 0
IsBackClosed arch js = (k j : ℕ) → k < length arch.handlers → In j js → leads arch k j ≡ true → In k js

moves : (arch : Arch) (js : List ℕ) (k j : ℕ) → k < length arch.handlers → In j js → leads arch k j ≡ true → In k (wider arch js)
moves arch js k j below h link =
    has_filter (comes arch js) (handler_numbers arch) k (below_number (length arch.handlers) k below) (has_any (λ i. i == k || leads arch k i) js j h (or_right (j == k) (leads arch k j) link))

stays : (arch : Arch) (js : List ℕ) (k : ℕ) → k < length arch.handlers → In k js → In k (wider arch js)
stays arch js k below h =
    has_filter (comes arch js) (handler_numbers arch) k (below_number (length arch.handlers) k below) (has_any (λ i. i == k || leads arch k i) js k h (or_left (k == k) (leads arch k k) (eq-eqb k k refl)))

wider_has : (arch : Arch) (js : List ℕ) (k : ℕ) → In k (wider arch js) → (k < length arch.handlers) × (j : ℕ) × In j js × ((j ≡ k) ⊎ (leads arch k j ≡ true))
wider_has arch js k h =
    let m = filter_has (comes arch js) (handler_numbers arch) k h in
    let r = any_has (λ j. j == k || leads arch k j) js m.1 in
    let either : (r.element ≡ k) ⊎ (leads arch k r.element ≡ true) = elim (or_cases (r.element == k) (leads arch k r.element) r.passes) [
      | inl same ↦ inl (eqb-true r.element k same)
      | inr link ↦ inr link
    ] in
    (number_below (length arch.handlers) k m.0, r.element, r.has, either)

closed_wider : (arch : Arch) (js : List ℕ) → IsBackClosed arch js → IsBackClosed arch (wider arch js)
closed_wider arch js closed k j below h link =
    let r = wider_has arch js j h in
    let here : In j js = elim r.3 [
      | inl same ↦ subst (λ i. In i js) same r.2
      | inr further ↦ closed j r.1 r.0 r.2 further
    ] in
    moves arch js k j below here link

kept_wider : (arch : Arch) (p : ℕ → Bool) (k : ℕ) → In k (handler_numbers arch) → p k ≡ true → comes arch (kept arch p) k ≡ true
kept_wider arch p k h e =
    has_any (λ i. i == k || leads arch k i) (kept arch p) k (has_filter p (handler_numbers arch) k h e) (or_left (k == k) (leads arch k k) (eq-eqb k k refl))

closed_when_same : (arch : Arch) (p : ℕ → Bool) → length (wider arch (kept arch p)) ≤ length (kept arch p) → IsBackClosed arch (kept arch p)
closed_when_same arch p few k j below h link =
    subst (In k) (filter-same p (comes arch (kept arch p)) (handler_numbers arch) (kept_wider arch p) few) (moves arch (kept arch p) k j below h link)

record NearForm (arch : Arch) (h n : ℕ) : Type 0 where
  test : ℕ → Bool
  is : near arch h n ≡ kept arch test
  more : IsBackClosed arch (kept arch test) ⊎ (n + 1 ≤ length (kept arch test))
  has : In h (kept arch test)

near_form : (arch : Arch) (h n : ℕ) → h < length arch.handlers → NearForm arch h n
near_form arch h zero below =
    let one = one_equal h (length arch.handlers) below in
    record {
      test = λ k. h == k;
      is = sym one;
      more = inr (omega (arith, ap length one));
      has = subst (In h) (sym one) (inl refl);
    }
near_form arch h (suc n) below =
    let r = near_form arch h n below in
    let xs = kept arch r.test in
    record {
      test = comes arch xs;
      is = ap (wider arch) r.is;
      more = elim r.more [
        | inl closed ↦ inl (closed_wider arch xs closed)
        | inr long ↦ elim (cases_lt (length xs) (length (wider arch xs))) [
          | inl grew ↦ inr (omega arith)
          | inr few ↦ inl (closed_wider arch xs (closed_when_same arch r.test few))
        ]
      ];
      has = stays arch xs h below r.has;
    }

length_all : (xs : List ℕ) → length (filter (λ k. true) xs) ≡ length xs
length_all [] = refl
length_all (x ∷ xs) = omega (arith, length_all xs)

near_closed : (arch : Arch) (h n : ℕ) → h < length arch.handlers → length arch.handlers ≤ n + 1 → IsBackClosed arch (near arch h n)
near_closed arch h n below enough =
    let r = near_form arch h n below in
    let xs = kept arch r.test in
    let room : length (wider arch xs) ≤ length arch.handlers = omega (arith, length-filter-le (comes arch xs) (λ k. true) (handler_numbers arch) (λ k i e. refl), length_all (handler_numbers arch), length-numbers (length arch.handlers) []) in
    let closed : IsBackClosed arch xs = elim r.more [
      | inl done ↦ done
      | inr long ↦ closed_when_same arch r.test (omega arith)
    ] in
    subst (IsBackClosed arch) (sym r.is) closed

pub follows_below : (arch : Arch) (h k : ℕ) → AreListeners arch → Follows arch (start.Handler h) k → k < length arch.handlers
follows_below arch h k listed (begins j b) = (link_of arch h j listed b).below
follows_below arch h k listed (goes g j f link) = (link_of arch g j listed link).below

leads_in : (arch : Arch) (h : ℕ) (js : List ℕ) → AreListeners arch → IsBackClosed arch js → (k : ℕ) → Follows arch (start.Handler h) k → In k js → list_any (leads arch h) js ≡ true
leads_in arch h js listed closed k (begins j b) m = has_any (leads arch h) js j m b
leads_in arch h js listed closed k (goes g j f link) m = leads_in arch h js listed closed g f (closed g j (follows_below arch h g listed f) m link)

find_has : (p : ℕ → Bool) (xs : List ℕ) (x : ℕ) → In x xs → p x ≡ true → find p xs ≡ None → ⊥
find_has p [] x m t e = m
find_has p (y ∷ ys) x m t e = elim (cases_Bool (p y)) [
  | inl here ↦ let wrong : Some y ≡ None = subst (λ b. cond b (Some y) (find p ys) ≡ None) here e in cc
  | inr not_here ↦
      let rest : find p ys ≡ None = subst (λ b. cond b (Some y) (find p ys) ≡ None) not_here e in
      elim m [
        | inl same ↦ false≢true (sym not_here ∙ ap p (sym same) ∙ t)
        | inr later ↦ find_has p ys x later t rest
      ]
]

if_none : (arch : Arch) (h : ℕ) (o : Option ℕ) → walk_if arch h o ≡ None → o ≡ None
if_none arch h None e = refl
if_none arch h (Some n) e = cc

-- without a walk round, no links lead back
pub no_walk_no_links : (arch : Arch) (h : ℕ) → AreListeners arch → walk_round arch h ≡ None → LeadsBack arch h → ⊥
no_walk_no_links arch h listed none back =
    let below = follows_below arch h h listed back in
    let n = length arch.handlers - 1 in
    let inside : n < length arch.handlers = omega arith in
    let enough : length arch.handlers ≤ n + 1 = omega arith in
    let r = near_form arch h n below in
    let led : leads_near arch h n h ≡ true = leads_in arch h (near arch h n) listed (near_closed arch h n below enough) h back (subst (In h) (sym r.is) r.has) in
    find_has (λ m. leads_near arch h m h) (handler_numbers arch) n (below_number (length arch.handlers) n inside) led (if_none arch h (circuit arch h) none)

-- ---- all sources

first_each : {A : Type 0} (f : ℕ → Option A) (xs : List ℕ) → first_of_all f xs ≡ None → (k : ℕ) → In k xs → f k ≡ None
first_each f [] e k m = absurd m
first_each f (x ∷ xs) e k m =
    let both = split (f x) (first_of_all f xs) e in
    elim m [ inl same ↦ ap f same ∙ both.0 | inr later ↦ first_each f xs both.1 k later ]
  where
    split : {A : Type 0} (a b : Option A) → or_else a b ≡ None → (a ≡ None) × (b ≡ None)
    split None b e = (refl, e)
    split (Some y) b e = cc

pub each_first : {A : Type 0} (f : ℕ → Option A) (xs : List ℕ) → ((k : ℕ) → In k xs → f k ≡ None) → first_of_all f xs ≡ None
each_first f [] none = refl
each_first f (x ∷ xs) none = ap (λ o. or_else o (first_of_all f xs)) (none x (inl refl)) ∙ each_first f xs (λ k m. none k (inr m))

found_none : (s : ℕ) (o : Option (List ℕ)) → found_at s o ≡ None → o ≡ None
found_none s None e = refl
found_none s (Some ks) e = cc

-- nothing is shown exactly where no source reaches a handler that leads back to itself
pub shown_none : (arch : Arch) (found : Option CycleFound) → AreListeners arch → found ≡ shown arch → (found ≡ None) ↔ IsAcyclic arch
shown_none arch found listed e = (
  (λ none s h below reach back.
      let at : shown_at arch s ≡ None = first_each (shown_at arch) (source_numbers arch) (sym e ∙ none) s (below_number (length arch.sources) s below) in
      let walks : first_of_all (walk_round arch) (reached_by arch s) ≡ None = found_none s (first_of_all (walk_round arch) (reached_by arch s)) at in
      no_walk_no_links arch h listed (first_each (walk_round arch) (reached_by arch s) walks h (reached_is_listed arch s h listed reach)) back),
  (λ acyclic. e ∙ each_first (shown_at arch) (source_numbers arch) (λ s m.
      let below = number_below (length arch.sources) s m in
      ap (found_at s) (each_first (walk_round arch) (reached_by arch s) (λ h i. no_walk arch h (acyclic s h below (listed_is_reached arch s h listed i)))))),
)
