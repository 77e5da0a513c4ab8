-- What the lists of a plan have.
use Rattle.std.proofs.Common.{◌≡◌, ℕ, zero, suc, ◌+◌, ◌<◌, ◌==◌, ◌||◌, inl, inr, List, [], ◌∷◌, ◌++◌, length, map, filter, take, set, get_or, slice_get, Bool, true, false, Some, All, refl, sym, ap, ◌∙◌, subst, arith, add-one}
use Rattle.std.proofs.lemmas.Bool.{cases_eq, cases_lt, eq-eqb, ne_eqb, eqb-true}
use Rattle.std.proofs.lemmas.List.{map-append, get_or_append_left}
use Rattle.std.proofs.lemmas.List.Folds.{list_any_more}
use Rattle.std.proofs.lemmas.List.Kept.{IsStrictlyIncreasing-filter}
use Rattle.std.proofs.lemmas.Option.{get_or_from_slice_get}
use Rattle.std.proofs.Common.{get_or-set_same, get_or-set_other, length-set}
use Rattle.std.proofs.Math.Seq.{get_or-append_seam}
use Rattle.std.specs.List.{list_any}
use Rattle.std.specs.List.Sorted.{IsStrictlyIncreasing}
use Rattle.tower_syntax.specs.Arch.{Arch, Source, Handler}
use Rattle.tower_syntax.specs.Graph.{handler, no_handler, handler_numbers, numbers_before, reached_by}
use Rattle.tower_syntax.specs.WellNumbered.{AreListeners, IsWellNumbered}
use Rattle.channel_graph.proofs.Members.{In, any_has, has_any, filter_has, has_filter, number_below, below_number, length-numbers, In-get_or, In-from_contains, contains_from_In, filter-agree, or_right}
use Rattle.channel_graph.proofs.Listed.{numbers_before-suc}
use Rattle.channel_graph.proofs.Closed.{kept, reached_closed, listed_is_reached, reached_is_listed}
use Rattle.channel_graph.proofs.ReachedList.{found_reaches}
use Rattle.thread_split.specs.declared.plan.TaskPlan.{TaskPlan}
use Rattle.thread_split.specs.Plans.{works_on, monitors_of, plan_of, AreWorkedOn}
use Rattle.thread_split.specs.Laws.{Works, PlansHold}

-- ---- the handlers

in_reached : (arch : Arch) (s h : ℕ) → AreListeners arch → In h (reached_by arch s) → h < length arch.handlers
in_reached arch s h listed m =
    let r = reached_closed arch s listed in
    let has : In h (kept arch r.test) = subst (In h) r.is m in
    number_below (length arch.handlers) h (filter_has r.test (handler_numbers arch) h has).0

pub reached_below : (arch : Arch) (s : ℕ) (hs : List ℕ) → AreListeners arch → hs ≡ reached_by arch s → All (λ h. h < length arch.handlers) hs
reached_below arch s hs listed e k d l = in_reached arch s (get_or hs k d) listed (subst (In (get_or hs k d)) e (In-get_or hs k d l))

pub priority_got : (xs : List Source) (s : ℕ) (x : Source) → slice_get xs s ≡ Some x → get_or (map (λ y. y.priority) xs) s 0 ≡ x.priority
priority_got [] s x e = cc
priority_got (y ∷ ys) zero x e = let same : y ≡ x = cc in ap (λ z. z.priority) same
priority_got (y ∷ ys) (suc s) x e = priority_got ys s x e

-- one more plan
pub plans_more : (arch : Arch) (s : ℕ) (old new : List TaskPlan) (p : TaskPlan) → old ≡ map (plan_of arch) (numbers_before s []) → new ≡ old ++ p ∷ [] → p ≡ plan_of arch s → new ≡ map (plan_of arch) (numbers_before (s + 1) [])
plans_more arch s old new p before grown here =
    let f : ℕ → TaskPlan = plan_of arch in
    let all : map f (numbers_before (s + 1) []) ≡ map f (numbers_before s []) ++ f s ∷ [] =
    rw add-one (ap (map f) (numbers_before-suc s) ∙ map-append f (numbers_before s []) (s ∷ [])) in
    grown ∙ (λ i. before i ++ here i ∷ []) ∙ sym all

-- ---- the monitors

or_left_false : (b c : Bool) → c ≡ false → (b || c) ≡ b
or_left_false true c e = refl
or_left_false false c e = e

-- one more handler
pub worked_more : (arch : Arch) (hs : List ℕ) (i d : ℕ) (old new : List Bool) (x : Handler) → i < length hs → AreWorkedOn arch (take i hs) old → slice_get arch.handlers (get_or hs i d) ≡ Some x → x.monitor < length arch.monitors → new ≡ set old x.monitor true → AreWorkedOn arch (take (i + 1) hs) new
worked_more arch hs i d old new x within marks found below e = record {
  each = ap length e ∙ length-set old x.monitor true ∙ marks.each;
  has = λ m l.
      let p : ℕ → Bool = λ h. (handler arch h).monitor == m in
      let at : (handler arch (get_or hs i d)).monitor ≡ x.monitor = ap (λ z. z.monitor) (get_or_from_slice_get arch.handlers (get_or hs i d) x no_handler found) in
      let more : list_any p (take (i + 1) hs) ≡ (list_any p (take i hs) || p (get_or hs i d)) = list_any_more p hs i d within in
      ap (λ ms. get_or ms m false) e ∙ elim (cases_eq x.monitor m) [
        | inl same ↦
            let inside : x.monitor < length old = omega (arith, below, marks.each) in
            ap (λ n. get_or (set old x.monitor true) n false) (sym same) ∙ get_or-set_same old x.monitor true false inside
            ∙ sym (more ∙ or_right (list_any p (take i hs)) (p (get_or hs i d)) (eq-eqb (handler arch (get_or hs i d)).monitor m (at ∙ same)))
        | inr differ ↦
            get_or-set_other old x.monitor m true false (λ q. differ (sym q)) ∙ marks.has m l
            ∙ sym (more ∙ or_left_false (list_any p (take i hs)) (p (get_or hs i d)) (ne_eqb (handler arch (get_or hs i d)).monitor m (λ q. differ (sym at ∙ q))))
      ];
}

pub monitors_are : (arch : Arch) (hs : List ℕ) (marks slice : List Bool) (found : List ℕ) → AreWorkedOn arch hs marks → slice ≡ marks → found ≡ filter (λ k. get_or slice k false) (numbers_before (length slice) []) → found ≡ monitors_of arch hs
monitors_are arch hs marks slice found worked same e =
    let ks : List ℕ = numbers_before (length arch.monitors) [] in
    let p : ℕ → Bool = works_on arch hs in
    let q : ℕ → Bool = λ k. get_or marks k false in
    e ∙ ap (λ ms. filter (λ k. get_or ms k false) (numbers_before (length ms) [])) same
    ∙ ap (λ n. filter q (numbers_before n [])) worked.each
    ∙ filter-agree p q ks
    (λ m h t. worked.has m (number_below (length arch.monitors) m h) ∙ t)
    (λ m h t. sym (worked.has m (number_below (length arch.monitors) m h)) ∙ t)

-- ---- the law

pub number_at : (n s d : ℕ) → s < n → get_or (numbers_before n []) s d ≡ s
number_at zero s d h = absurd (omega (arith, h))
number_at (suc n) s d h =
    let few : length (numbers_before n []) ≡ n = omega (arith, length-numbers n []) in
    ap (λ ks. get_or ks s d) (numbers_before-suc n) ∙ elim (cases_lt s n) [
      | inl l ↦ get_or_append_left (numbers_before n []) (n ∷ []) d s (omega (arith, l, few)) ∙ number_at n s d l
      | inr l ↦
          let e : s ≡ length (numbers_before n []) = omega (arith, h, l, few) in
          ap (λ k. get_or (numbers_before n [] ++ n ∷ []) k d) e ∙ get_or-append_seam (numbers_before n []) n [] d ∙ omega (arith, e, few)
    ]

numbers_increase : (n : ℕ) → IsStrictlyIncreasing (numbers_before n [])
numbers_increase n k h =
    let few : length (numbers_before n []) ≡ n = omega (arith, length-numbers n []) in
    let here : get_or (numbers_before n []) k 0 ≡ k = number_at n k 0 (omega (arith, h, few)) in
    let next : get_or (numbers_before n []) (k + 1) 0 ≡ k + 1 = number_at n (k + 1) 0 (omega (arith, h, few)) in
    omega (arith, here, next)

works : (arch : Arch) (s m : ℕ) → AreListeners arch → In m (monitors_of arch (reached_by arch s)) → Works arch s m
works arch s m listed h =
    let t = filter_has (works_on arch (reached_by arch s)) (numbers_before (length arch.monitors) []) m h in
    let r = any_has (λ k. (handler arch k).monitor == m) (reached_by arch s) t.1 in
    record { number = r.element; reached = listed_is_reached arch s r.element listed r.has; on = eqb-true (handler arch r.element).monitor m r.passes }

worked : (arch : Arch) (s m : ℕ) → IsWellNumbered arch → Works arch s m → In m (monitors_of arch (reached_by arch s))
worked arch s m numbered w =
    let has : In w.number (reached_by arch s) = reached_is_listed arch s w.number numbered.listeners w.reached in
    let below : w.number < length arch.handlers = in_reached arch s w.number numbered.listeners has in
    let there : m < length arch.monitors = subst (λ k. k < length arch.monitors) w.on (numbered.handlers w.number no_handler below).monitor in
    has_filter (works_on arch (reached_by arch s)) (numbers_before (length arch.monitors) []) m (below_number (length arch.monitors) m there)
    (has_any (λ k. (handler arch k).monitor == m) (reached_by arch s) w.number has (eq-eqb (handler arch w.number).monitor m w.on))

pub plans_hold : PlansHold
plans_hold arch s numbered =
    let ms : List ℕ = monitors_of arch (reached_by arch s) in
    let r = reached_closed arch s numbered.listeners in
    record {
      handlers = found_reaches arch s (reached_by arch s) numbered.listeners refl;
      monitors = λ m. ((λ h. works arch s m numbered.listeners (In-from_contains ms m h)), (λ w. contains_from_In ms m (worked arch s m numbered w)));
      handlers_ascend = subst IsStrictlyIncreasing (sym r.is) (IsStrictlyIncreasing-filter r.test (handler_numbers arch) (numbers_increase (length arch.handlers)));
      monitors_ascend = IsStrictlyIncreasing-filter (works_on arch (reached_by arch s)) (numbers_before (length arch.monitors) []) (numbers_increase (length arch.monitors));
    }
