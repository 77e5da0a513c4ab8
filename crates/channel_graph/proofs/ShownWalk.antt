-- The cycle that is computed round by round is the one that is shown.
use Rattle.std.proofs.Common.{◌≡◌, ℕ, zero, suc, ◌<◌, ◌≤◌, List, [], ◌∷◌, length, Option, Some, None, unwrap_or, Bool, true, false, ◌&&◌, ◌==◌, inl, inr, arith, refl, sym, ◌∙◌, ap, subst}
use Rattle.std.specs.List.{list_any}
use Rattle.std.proofs.lemmas.Bool.{false≢true, or_cases, cases_lt, eqb-true, eq-eqb}
use Rattle.tower_syntax.specs.Arch.{Arch}
use Rattle.tower_syntax.specs.Graph.{leads, handler_numbers, numbers_before, reached_by}
use Rattle.tower_syntax.specs.Weights.{source_numbers}
use Rattle.tower_syntax.specs.WellNumbered.{AreListeners}
use Rattle.channel_graph.specs.declared.circuit.CycleFound.{CycleFound}
use Rattle.channel_graph.specs.declared.reach.Start.TheVariants as start
use Rattle.channel_graph.specs.Reaching.{begins}
use Rattle.channel_graph.specs.Circuit.{leads_near, circuit, nearer, walk, walk_if, walk_round, first_of_all, found_at, shown_at, shown, LeadsBack}
use Rattle.channel_graph.specs.Ranked.{is_near}
use Rattle.channel_graph.specs.Shown.{IsLeast, LeadsIn, ReachesLoop, HasLoop, LeadsOn, GoesRound, IsShown}
use Rattle.channel_graph.specs.Laws.{ShownIs}
use Rattle.channel_graph.proofs.Members.{In, number_below, below_number}
use Rattle.channel_graph.proofs.Linked.{link_of}
use Rattle.channel_graph.proofs.Closed.{reached_closed, listed_is_reached, reached_is_listed}
use Rattle.channel_graph.proofs.Shortest.{near_wider, wider_near, nearby, from_nearby, near_follows}
use Rattle.channel_graph.proofs.Acyclic.{no_walk_no_links, shown_none}
use Rattle.channel_graph.proofs.Firsts.{IsRising, rising_numbers, rising_filter, some_same, none_some, first_least, none_first, find_least, has_find}

-- ---- what is near has a walk

record Few (arch : Arch) (n k h : ℕ) : Type 0 where
  links : ℕ
  most : links ≤ n
  walk : LeadsIn arch links k h

near_walk : (arch : Arch) (h n k : ℕ) → is_near arch h n k ≡ true → Few arch n k h
near_walk arch h zero k e = elim (or_cases (h == k) false e) [
  | inl same ↦ record { links = 0; most = omega arith; walk = sym (eqb-true h k same) }
  | inr none ↦ absurd (false≢true none)
]
near_walk arch h (suc n) k e = elim (wider_near arch h n k e) [
  | inl before ↦ let r = near_walk arch h n k before in record { links = r.links; most = let m = r.most in omega (arith, m); walk = r.walk }
  | inr led ↦
      let j = nearby arch h n k led in
      let r = near_walk arch h n j.number j.near in
      record { links = suc r.links; most = let m = r.most in omega (arith, m); walk = (j.number, j.link, r.walk) }
]

walk_near : (arch : Arch) (h n m k : ℕ) → AreListeners arch → k < length arch.handlers → m ≤ n → LeadsIn arch m k h → is_near arch h n k ≡ true
walk_near arch h zero zero k listed below few w = subst (λ i. is_near arch h 0 i ≡ true) (sym w) (near_itself h)
  where
    near_itself : (h : ℕ) → list_any (λ i. i == h) (h ∷ []) ≡ true
    near_itself h = rw (eq-eqb h h refl) refl
walk_near arch h zero (suc m) k listed below few w = absurd (omega arith)
walk_near arch h (suc n) zero k listed below few w = near_wider arch h n k below (inl (walk_near arch h n zero k listed below (omega arith) w))
walk_near arch h (suc n) (suc m) k listed below few w =
    let inside = (link_of arch k w.0 listed w.1).below in
    near_wider arch h n k below (inr (from_nearby arch h n k w.0 (walk_near arch h n m w.0 listed inside (omega arith) w.2) w.1))

-- a walk back to h
back_near : (arch : Arch) (h n k : ℕ) → AreListeners arch → LeadsIn arch (suc n) k h → leads_near arch h n k ≡ true
back_near arch h n k listed w =
    from_nearby arch h n k w.0 (walk_near arch h n n w.0 listed (link_of arch k w.0 listed w.1).below (omega arith) w.2) w.1

near_back : (arch : Arch) (h n : ℕ) → leads_near arch h n h ≡ true → LeadsBack arch h
near_back arch h n led = let j = nearby arch h n h led in near_follows arch (start.Handler h) h n j.number j.near (begins j.number j.link)

-- ---- the walk goes round by the least handlers

and_both : (a b : Bool) → a ≡ true → b ≡ true → (a && b) ≡ true
and_both true b x y = y
and_both false b x y = absurd (false≢true x)

and_left : (a b : Bool) → (a && b) ≡ true → a ≡ true
and_left true b e = refl
and_left false b e = e

and_right : (a b : Bool) → (a && b) ≡ true → b ≡ true
and_right true b e = e
and_right false b e = absurd (false≢true e)

-- so many links and one more lead from k to h, and no fewer
record Away (arch : Arch) (h n k : ℕ) : Type 0 where
  walk : LeadsIn arch (suc n) k h
  least : (m : ℕ) → LeadsIn arch (suc m) k h → n ≤ m

record Round (arch : Arch) (h n k : ℕ) (ks : List ℕ) : Type 0 where
  rest : List ℕ
  is : ks ≡ k ∷ rest
  long : length rest ≡ n
  goes : GoesRound arch h k rest

-- the next handler
record Next (arch : Arch) (h n k j : ℕ) : Type 0 where
  least : IsLeast (LeadsOn arch (suc n) h k) j
  away : Away arch h n j

next_of : (arch : Arch) (h n k : ℕ) → AreListeners arch → Away arch h (suc n) k → Next arch h n k (nearer arch h (suc n) k)
next_of arch h n k listed a =
    let p : ℕ → Bool = λ j. leads arch k j && is_near arch h (suc n) j in
    let numbers = handler_numbers arch in
    let listed_at : (j : ℕ) → leads arch k j ≡ true → In j numbers = λ j link. below_number (length arch.handlers) j (link_of arch k j listed link).below in
    let passes : (j : ℕ) → LeadsOn arch (suc n) h k j → p j ≡ true = λ j on. and_both (leads arch k j) (is_near arch h (suc n) j) on.0 (walk_near arch h (suc n) (suc n) j listed (link_of arch k j listed on.0).below (omega arith) on.1) in
    let w = a.walk in
    let found = has_find p numbers w.0 (listed_at w.0 w.1) (passes w.0 (w.1, w.2)) in
    let j = found.number in
    let first = find_least p numbers j (rising_numbers (length arch.handlers)) found.is in
    let link = and_left (leads arch k j) (is_near arch h (suc n) j) first.passes in
    let few = near_walk arch h (suc n) j (and_right (leads arch k j) (is_near arch h (suc n) j) first.passes) in
    let most = few.most in
    let least = a.least few.links (j, link, few.walk) in
    let all : few.links ≡ suc n = omega (arith, most, least) in
    let on : LeadsOn arch (suc n) h k j = (link, subst (λ m. LeadsIn arch m j h) all few.walk) in
    let same : nearer arch h (suc n) k ≡ j = ap (λ o. unwrap_or o k) found.is in
    subst (Next arch h n k) (sym same) (record {
      least = (on, λ i other. first.least i (listed_at i other.0) (passes i other));
      away = record {
        walk = on.1;
        least = λ m v. let far = a.least (suc m) (j, link, v) in omega (arith, far);
      };
    })

round_of : (arch : Arch) (h n k : ℕ) → AreListeners arch → Away arch h n k → Round arch h n k (walk arch h n k)
round_of arch h zero k listed a = record {
  rest = [];
  is = refl;
  long = refl;
  goes = subst (λ j. leads arch k j ≡ true) a.walk.2 a.walk.1;
}
round_of arch h (suc n) k listed a =
    let j = nearer arch h (suc n) k in
    let next = next_of arch h n k listed a in
    let r = round_of arch h n j listed next.away in
    let long : length (j ∷ r.rest) ≡ suc n = let l = r.long in omega (arith, l) in
    record {
      rest = j ∷ r.rest;
      is = ap (λ js. k ∷ js) r.is;
      long = long;
      goes = (subst (λ m. IsLeast (LeadsOn arch m h k) j) (sym long) next.least, r.goes);
    }

-- ---- the walk of a handler that has one

record Cut (arch : Arch) (h : ℕ) (o : Option ℕ) (ks : List ℕ) : Type 0 where
  number : ℕ
  is : o ≡ Some number
  walk : ks ≡ walk arch h number h

cut : (arch : Arch) (h : ℕ) (o : Option ℕ) (ks : List ℕ) → walk_if arch h o ≡ Some ks → Cut arch h o ks
cut arch h None ks e = absurd (none_some ks e)
cut arch h (Some n) ks e = record { number = n; is = refl; walk = sym (some_same (walk arch h n h) ks e) }

record Loop (arch : Arch) (h : ℕ) (ks : List ℕ) : Type 0 where
  rest : List ℕ
  is : ks ≡ h ∷ rest
  back : LeadsBack arch h
  shortest : (n : ℕ) → LeadsIn arch (suc n) h h → length rest ≤ n
  goes : GoesRound arch h h rest

-- the links of the shortest walk round, but one
shortest_round : (arch : Arch) (h n : ℕ) → AreListeners arch → circuit arch h ≡ Some n → Away arch h n h × LeadsBack arch h
shortest_round arch h n listed e =
    let f = find_least (λ m. leads_near arch h m h) (numbers_before (length arch.handlers) []) n (rising_numbers (length arch.handlers)) e in
    let inside : n < length arch.handlers = number_below (length arch.handlers) n f.has in
    let least : (m : ℕ) → LeadsIn arch (suc m) h h → n ≤ m = λ m w. elim (cases_lt m (length arch.handlers)) [
      | inl below ↦ f.least m (below_number (length arch.handlers) m below) (back_near arch h m h listed w)
      | inr above ↦ omega arith
    ] in
    let j = nearby arch h n h f.passes in
    let few = near_walk arch h n j.number j.near in
    let most = few.most in
    let long = least few.links (j.number, j.link, few.walk) in
    let all : few.links ≡ n = omega (arith, most, long) in
    (record { walk = (j.number, j.link, subst (λ m. LeadsIn arch m j.number h) all few.walk); least = least }, near_back arch h n f.passes)

loop_of : (arch : Arch) (h : ℕ) (ks : List ℕ) → AreListeners arch → walk_round arch h ≡ Some ks → Loop arch h ks
loop_of arch h ks listed e =
    let c = cut arch h (circuit arch h) ks e in
    let a = shortest_round arch h c.number listed c.is in
    let round = round_of arch h c.number h listed a.0 in
    looped arch h c.number ks a.0 a.1 (walk arch h c.number h) c.walk round
  where
    looped : (arch : Arch) (h n : ℕ) (ks : List ℕ) → Away arch h n h → LeadsBack arch h → (js : List ℕ) → ks ≡ js → Round arch h n h js → Loop arch h ks
    looped arch h n ks a back js same round = record {
      rest = round.rest;
      is = same ∙ round.is;
      back = back;
      shortest = λ m w. let few = a.least m w in let long = round.long in omega (arith, few, long);
      goes = round.goes;
    }

-- ---- what is computed is what is shown

abbrev cycle_with : ℕ → List ℕ → CycleFound
cycle_with s ks = record { source = s; walk = ks }

record Found (s : ℕ) (o : Option (List ℕ)) (c : CycleFound) : Type 0 where
  walk : List ℕ
  is : o ≡ Some walk
  source : c.source ≡ s
  same : c.walk ≡ walk

found : (s : ℕ) (o : Option (List ℕ)) (c : CycleFound) → found_at s o ≡ Some c → Found s o c
found s None c e = absurd (none_some c e)
found s (Some ks) c e =
    let same = sym (some_same _ c e) in
    record { walk = ks; is = refl; source = ap (λ d. d.source) same; same = ap (λ d. d.walk) same }

found_none : (s : ℕ) (o : Option (List ℕ)) → found_at s o ≡ None → o ≡ None
found_none s None e = refl
found_none s (Some ks) e = absurd (none_some _ (sym e))

rising_reached : (arch : Arch) (s : ℕ) → AreListeners arch → IsRising (reached_by arch s)
rising_reached arch s listed =
    let r = reached_closed arch s listed in
    subst IsRising (sym r.is) (rising_filter r.test (handler_numbers arch) (rising_numbers (length arch.handlers)))

-- a source with a loop has a cycle
loop_is_found : (arch : Arch) (s h : ℕ) → AreListeners arch → ReachesLoop arch s h → shown_at arch s ≡ None → ⊥
loop_is_found arch s h listed l none =
    let walks = found_none s (first_of_all (walk_round arch) (reached_by arch s)) none in
    no_walk_no_links arch h listed (none_first (walk_round arch) (reached_by arch s) walks h (reached_is_listed arch s h listed l.0)) l.1

is_shown : (arch : Arch) (c : CycleFound) → AreListeners arch → shown arch ≡ Some c → IsShown arch c
is_shown arch c listed e =
    let at = first_least (shown_at arch) (source_numbers arch) c (rising_numbers (length arch.sources)) e in
    let s = at.number in
    let f = found s (first_of_all (walk_round arch) (reached_by arch s)) c at.is in
    let r = first_least (walk_round arch) (reached_by arch s) f.walk (rising_reached arch s listed) f.is in
    let h = r.number in
    let l = loop_of arch h f.walk listed r.is in
    let loop : ReachesLoop arch s h = (listed_is_reached arch s h listed r.has, l.back) in
    let exists : s < length arch.sources = number_below (length arch.sources) s at.has in
    let first : IsLeast (HasLoop arch) s = (
      (exists, h, loop),
      λ t other. at.least t (below_number (length arch.sources) t other.0) (loop_is_found arch t other.1 listed other.2),
    ) in
    let least : IsLeast (ReachesLoop arch s) h = (
      loop,
      λ k other. r.least k (reached_is_listed arch s k listed other.0) (λ none. no_walk_no_links arch k listed none other.1),
    ) in
    record {
      first = subst (IsLeast (HasLoop arch)) (sym f.source) first;
      head = h;
      rest = l.rest;
      is = f.same ∙ l.is;
      least = subst (λ t. IsLeast (ReachesLoop arch t) h) (sym f.source) least;
      shortest = l.shortest;
      round = l.goes;
    }

-- ---- there is only one

same_least : (P : ℕ → Type 0) (m n : ℕ) → IsLeast P m → IsLeast P n → m ≡ n
same_least P m n a b = let below = a.1 n b.0 in let above = b.1 m a.0 in omega (arith, below, above)

round_walk : (arch : Arch) (h k : ℕ) (ks : List ℕ) → GoesRound arch h k ks → LeadsIn arch (suc (length ks)) k h
round_walk arch h k [] round = (h, round, refl)
round_walk arch h k (j ∷ js) round =
    let long : suc (length js) ≡ length (j ∷ js) = omega arith in
    (j, round.0.0.0, subst (λ m. LeadsIn arch m j h) long (round_walk arch h j js round.1))

same_round : (arch : Arch) (h k : ℕ) (xs ys : List ℕ) → length xs ≡ length ys → GoesRound arch h k xs → GoesRound arch h k ys → xs ≡ ys
same_round arch h k [] [] long a b = refl
same_round arch h k [] (y ∷ ys) long a b = absurd (omega (arith, long))
same_round arch h k (x ∷ xs) [] long a b = absurd (omega (arith, long))
same_round arch h k (x ∷ xs) (y ∷ ys) long a b =
    let same : x ≡ y = same_least (LeadsOn arch (length (x ∷ xs)) h k) x y a.0 (subst (λ m. IsLeast (LeadsOn arch m h k) y) (sym long) b.0) in
    let rest : length xs ≡ length ys = omega (arith, long) in
    ap (λ z. z ∷ xs) same ∙ ap (λ zs. y ∷ zs) (same_round arch h y xs ys rest (subst (λ z. GoesRound arch h z xs) same a.1) b.1)

shown_once : (arch : Arch) (c d : CycleFound) → IsShown arch c → IsShown arch d → c ≡ d
shown_once arch c d a b =
    let source : c.source ≡ d.source = same_least (HasLoop arch) c.source d.source a.first b.first in
    let head : a.head ≡ b.head = same_least (ReachesLoop arch d.source) a.head b.head (subst (λ s. IsLeast (ReachesLoop arch s) a.head) source a.least) b.least in
    let round : GoesRound arch b.head b.head a.rest = subst (λ h. GoesRound arch h h a.rest) head a.round in
    let below = a.shortest (length b.rest) (subst (λ h. LeadsIn arch (suc (length b.rest)) h h) (sym head) (round_walk arch b.head b.head b.rest b.round)) in
    let above = b.shortest (length a.rest) (round_walk arch b.head b.head a.rest round) in
    let rest : a.rest ≡ b.rest = same_round arch b.head b.head a.rest b.rest (omega (arith, below, above)) round b.round in
    let walk = a.is ∙ ap (λ h. h ∷ a.rest) head ∙ ap (λ ks. b.head ∷ ks) rest ∙ sym b.is in
    ap (λ s. cycle_with s c.walk) source ∙ ap (cycle_with d.source) walk

shows : (arch : Arch) (c : CycleFound) → AreListeners arch → IsShown arch c → (o : Option CycleFound) → shown arch ≡ o → shown arch ≡ Some c
shows arch c listed a None e = absurd ((shown_none arch (shown arch) listed refl).0 e c.source a.head a.first.0.0 a.least.0.0 a.least.0.1)
shows arch c listed a (Some d) e = e ∙ ap (λ x. Some x) (shown_once arch d c (is_shown arch d listed e) a)

pub shown_is : ShownIs
shown_is arch c listed = (is_shown arch c listed, λ a. shows arch c listed a (shown arch) refl)
