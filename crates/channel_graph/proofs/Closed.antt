-- The handlers that a source reaches by the weights' list are those that it reaches by links.
use Rattle.std.proofs.Common.{◌≡◌, ℕ, zero, suc, ◌+◌, ◌<◌, ◌≤◌, List, [], ◌∷◌, length, filter, Bool, true, ◌||◌, ◌==◌, ◌⊎◌, inl, inr, arith, refl, sym, subst}
use Rattle.std.proofs.lemmas.Bool.{or_cases, eqb-true, eq-eqb, cases_lt}
use Rattle.std.specs.List.{list_any}
use Rattle.tower_syntax.specs.declared.arch.On.TheVariants as on
use Rattle.tower_syntax.specs.declared.arch.Listener.TheVariants as to
use Rattle.tower_syntax.specs.Arch.{Arch}
use Rattle.tower_syntax.specs.Graph.{handler_numbers, subs, is_handler, leads, handlers_on, spread, spread_times, reached_by, Reaches, begins, goes}
use Rattle.tower_syntax.specs.WellNumbered.{AreListeners}
use Rattle.channel_graph.proofs.Members.{In, or_left, or_right, any_has, has_any, filter_has, has_filter, number_below, below_number, length-numbers, In-from_contains, contains_from_In, length-filter-le, filter-same}
use Rattle.channel_graph.proofs.Linked.{link_of, sub_is_on, is_handler-true}

-- of the handler numbers, those that pass
abbrev pub kept : Arch → (ℕ → Bool) → List ℕ
kept arch p = filter p (handler_numbers arch)

-- one of these is k, or leads to it
abbrev pub comes : Arch → List ℕ → ℕ → Bool
comes arch hs k = list_any (λ h. h == k || leads arch h k) hs

spread_has : (arch : Arch) (hs : List ℕ) (k : ℕ) → In k (spread arch hs) → (k < length arch.handlers) × (h : ℕ) × In h hs × ((h ≡ k) ⊎ (leads arch h k ≡ true))
spread_has arch hs k e =
    let m = filter_has (comes arch hs) (handler_numbers arch) k e in
    let r = any_has (λ h. h == k || leads arch h k) hs m.1 in
    let either : (r.element ≡ k) ⊎ (leads arch r.element k ≡ true) = elim (or_cases (r.element == k) (leads arch r.element k) r.passes) [
      | inl same ↦ inl (eqb-true r.element k same)
      | inr link ↦ inr link
    ] in
    (number_below (length arch.handlers) k m.0, r.element, r.has, either)

stays : (arch : Arch) (hs : List ℕ) (k : ℕ) → k < length arch.handlers → In k hs → In k (spread arch hs)
stays arch hs k below h =
    has_filter (comes arch hs) (handler_numbers arch) k (below_number (length arch.handlers) k below)
    (has_any (λ h. h == k || leads arch h k) hs k h (or_left (k == k) (leads arch k k) (eq-eqb k k refl)))

moves : (arch : Arch) (hs : List ℕ) (h k : ℕ) → AreListeners arch → In h hs → leads arch h k ≡ true → In k (spread arch hs)
moves arch hs h k listed has link =
    has_filter (comes arch hs) (handler_numbers arch) k (below_number (length arch.handlers) k (link_of arch h k listed link).below)
    (has_any (λ h. h == k || leads arch h k) hs h has (or_right (h == k) (leads arch h k) link))

-- whatever one of these leads to is one of these
abbrev pub IsClosed : Arch → List ℕ → Type 0
IsClosed arch hs = (h k : ℕ) → In h hs → leads arch h k ≡ true → In k hs

kept_below : (arch : Arch) (p : ℕ → Bool) (k : ℕ) → In k (kept arch p) → k < length arch.handlers
kept_below arch p k h = number_below (length arch.handlers) k (filter_has p (handler_numbers arch) k h).0

wider : (arch : Arch) (p : ℕ → Bool) (k : ℕ) → In k (handler_numbers arch) → p k ≡ true → comes arch (kept arch p) k ≡ true
wider arch p k h e =
    has_any (λ h. h == k || leads arch h k) (kept arch p) k (has_filter p (handler_numbers arch) k h e) (or_left (k == k) (leads arch k k) (eq-eqb k k refl))

-- where no handler comes to them, nothing more follows
closed_when_same : (arch : Arch) (p : ℕ → Bool) → AreListeners arch → length (spread arch (kept arch p)) ≤ length (kept arch p) → IsClosed arch (kept arch p)
closed_when_same arch p listed few h k has link =
    let same : spread arch (kept arch p) ≡ kept arch p = filter-same p (comes arch (kept arch p)) (handler_numbers arch) (wider arch p) few in
    subst (In k) same (moves arch (kept arch p) h k listed has link)

closed_spread : (arch : Arch) (hs : List ℕ) → AreListeners arch → ((k : ℕ) → In k hs → k < length arch.handlers) → IsClosed arch hs → IsClosed arch (spread arch hs)
closed_spread arch hs listed below closed h k has link =
    let r = spread_has arch hs h has in
    let here : In h hs = elim r.3 [
      | inl same ↦ subst (λ x. In x hs) same r.2
      | inr before ↦ closed r.1 h r.2 before
    ] in
    moves arch hs h k listed here link

-- what n rounds make of the handlers that pass
record Rounds (arch : Arch) (p : ℕ → Bool) (n : ℕ) : Type 0 where
  test : ℕ → Bool
  is : spread_times arch n (kept arch p) ≡ kept arch test
  more : IsClosed arch (kept arch test) ⊎ (length (kept arch p) + n ≤ length (kept arch test))
  closed : IsClosed arch (kept arch p) → IsClosed arch (kept arch test)
  stays : (k : ℕ) → In k (kept arch p) → In k (kept arch test)

rounds : (arch : Arch) (n : ℕ) (p : ℕ → Bool) → AreListeners arch → Rounds arch p n
rounds arch zero p listed = record { test = p; is = refl; more = inr (omega arith); closed = λ h. h; stays = λ k h. h }
rounds arch (suc n) p listed =
    let xs = kept arch p in
    let q = comes arch xs in
    let r = rounds arch n q listed in
    record {
      test = r.test;
      is = r.is;
      more = elim r.more [
        | inl closed ↦ inl closed
        | inr long ↦ elim (cases_lt (length xs) (length (kept arch q))) [
          | inl grew ↦ inr (omega arith)
          | inr few ↦ inl (r.closed (closed_spread arch xs listed (kept_below arch p) (closed_when_same arch p listed few)))
        ]
      ];
      closed = λ h. r.closed (closed_spread arch xs listed (kept_below arch p) h);
      stays = λ k h. r.stays k (stays arch xs k (kept_below arch p k h) h);
    }

-- the list of what a source reaches, as a filter of the handlers
pub record Reached (arch : Arch) (s : ℕ) : Type 0 where
  pub test : ℕ → Bool
  pub is : reached_by arch s ≡ kept arch test
  pub closed : IsClosed arch (kept arch test)
  pub begun : (k : ℕ) → In k (handlers_on arch (on.Source s)) → In k (kept arch test)

pub reached_closed : (arch : Arch) (s : ℕ) → AreListeners arch → Reached arch s
reached_closed arch s listed =
    let p : ℕ → Bool = λ k. list_any (is_handler k) (subs arch (on.Source s)) in
    let r = rounds arch (length arch.handlers) p listed in
    let xs = kept arch r.test in
    let room : length (spread arch xs) ≤ length arch.handlers = omega (arith, length-filter-le (comes arch xs) (λ k. true) (handler_numbers arch) (λ k h e. refl), length_all (handler_numbers arch), length-numbers (length arch.handlers) []) in
    record {
      test = r.test;
      is = r.is;
      closed = elim r.more [
        | inl closed ↦ closed
        | inr long ↦ closed_when_same arch r.test listed (omega arith)
      ];
      begun = r.stays;
    }
  where
    length_all : (xs : List ℕ) → length (filter (λ k. true) xs) ≡ length xs
    length_all [] = refl
    length_all (x ∷ xs) = omega (arith, length_all xs)

-- what is in the list is reached by links
round_reaches : (arch : Arch) (s n : ℕ) (hs : List ℕ) → ((h : ℕ) → In h hs → Reaches arch s h) → (k : ℕ) → In k (spread_times arch n hs) → Reaches arch s k
round_reaches arch s zero hs each k h = each k h
round_reaches arch s (suc n) hs each k h = round_reaches arch s n (spread arch hs) one k h
  where
    one : (j : ℕ) → In j (spread arch hs) → Reaches arch s j
    one j m =
        let r = spread_has arch hs j m in
        elim r.3 [
          | inl same ↦ subst (Reaches arch s) same (each r.1 r.2)
          | inr link ↦ goes r.1 j (each r.1 r.2) link
        ]

pub listed_is_reached : (arch : Arch) (s k : ℕ) → AreListeners arch → In k (reached_by arch s) → Reaches arch s k
listed_is_reached arch s k listed h = round_reaches arch s (length arch.handlers) (handlers_on arch (on.Source s)) first k h
  where
    first : (j : ℕ) → In j (handlers_on arch (on.Source s)) → Reaches arch s j
    first j m =
        let t = filter_has (λ k. list_any (is_handler k) (subs arch (on.Source s))) (handler_numbers arch) j m in
        let r = any_has (is_handler j) (subs arch (on.Source s)) t.1 in
        begins j (contains_from_In (subs arch (on.Source s)) (to.Handler j) (subst (λ l. In l (subs arch (on.Source s))) (is_handler-true j r.element r.passes) r.has))

-- and what is reached by links is in the list
pub reached_is_listed : (arch : Arch) (s k : ℕ) → AreListeners arch → Reaches arch s k → In k (reached_by arch s)
reached_is_listed arch s k listed r = subst (In k) (sym (reached_closed arch s listed).is) (all k r)
  where
    all : (j : ℕ) → Reaches arch s j → In j (kept arch (reached_closed arch s listed).test)
    all j (begins h c) =
        let sub : list_any (is_handler j) (subs arch (on.Source s)) ≡ true = has_any (is_handler j) (subs arch (on.Source s)) (to.Handler j) (In-from_contains (subs arch (on.Source s)) (to.Handler j) c) (eq-eqb j j refl) in
        (reached_closed arch s listed).begun j
        (has_filter (λ k. list_any (is_handler k) (subs arch (on.Source s))) (handler_numbers arch) j (below_number (length arch.handlers) j (sub_is_on arch (on.Source s) j listed sub).0) sub)
    all j (goes h k before link) = (reached_closed arch s listed).closed h j (all h before) link
