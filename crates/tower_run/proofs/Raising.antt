-- The ceilings that are found by raising are those of the definition.
use Rattle.std.proofs.Common.{◌≡◌, ◌∙◌, ℕ, zero, suc, ◌+◌, ◌<◌, ◌≤◌, List, [], ◌∷◌, map, fold, length, replicate, Bool, true, false, ◌||◌, ◌==◌, cond, Some, None, inl, inr, refl, sym, ap, subst, arith, slice_get, slice_set, slice_index, get_or, All, length-set}
use Rattle.std.specs.Prelude.{max, filter}
use Rattle.std.specs.List.{list_any}
use Rattle.std.proofs.lemmas.Bool.{cases_Bool, cases_lt, cases_eq, eq-eqb, eqb-true, ne_eqb, false≢true}
use Rattle.std.proofs.lemmas.Option.{same_Some, none-some, slice_get_past, slice_get_within, get_or_from_slice_get}
use Rattle.tower_syntax.specs.Arch.{Arch}
use Rattle.tower_syntax.specs.Graph.{numbers_before, reached_by}
use Rattle.tower_syntax.specs.Weights.{source_numbers}
use Rattle.task_code.specs.Policy.{greatest}
use Rattle.task_code.specs.Ceiling.{touches, source_priority, ceiling_of, ceilings}
use Rattle.thread_split.specs.declared.plan.TaskPlan.{TaskPlan}
use Rattle.thread_split.specs.Plans.{plan_of, plans_of, monitors_of}
use Rattle.channel_graph.proofs.Members.{In, any_has, has_any, filter_has, has_filter, below_number, number_below, In-get_or}
use Rattle.task_alone.proofs.Lists.{get_within, get_set_same, get_set_other}
use Rattle.task_machine.proofs.Numbers.{over, get_over, length_over}
use Rattle.tower_run.specs.Ceilings.{raised_at, raised_by, HasMonitorsBelow}
use Rattle.tower_run.proofs.Cored.{same_lists}

-- ---- one monitor

index_same : (xs : List ℕ) (m v : ℕ) → m < length xs → slice_index (slice_set xs m v) m ≡ v
index_same xs m v l = let there = get_within xs m l in get_or_from_slice_get (slice_set xs m v) m v 0 (get_set_same xs m there.0 v there.1)

index_other : (xs : List ℕ) (m k v : ℕ) → (m ≡ k → ⊥) → slice_index (slice_set xs m v) k ≡ slice_index xs k
index_other [] m k v n = refl
index_other (x ∷ xs) zero zero v n = absurd (n refl)
index_other (x ∷ xs) zero (suc k) v n = refl
index_other (x ∷ xs) (suc m) zero v n = refl
index_other (x ∷ xs) (suc m) (suc k) v n = index_other xs m k v (λ e. n (ap suc e))

-- this, raised to a priority where it is
abbrev raised_if : Bool → ℕ → ℕ → ℕ
raised_if b n priority = cond b (max n priority) n

twice : (b : Bool) (n priority : ℕ) → raised_if b (max n priority) priority ≡ max n priority
twice true n priority = omega arith
twice false n priority = refl

module _ (priority : ℕ) where
  pub length_all : (ms : List ℕ) (cs : List ℕ) → length (fold (raised_at priority) cs ms) ≡ length cs
  length_all [] cs = refl
  length_all (m ∷ ms) cs = length_all ms (raised_at priority cs m) ∙ length-set cs m _

  raised_all : (ms : List ℕ) (cs : List ℕ) (k : ℕ) → k < length cs → slice_index (fold (raised_at priority) cs ms) k ≡ raised_if (list_any (λ m. m == k) ms) (slice_index cs k) priority
  raised_all [] cs k l = refl
  raised_all (m ∷ ms) cs k l =
      let next = raised_at priority cs m in
      let rest = raised_all ms next k (omega (arith, l, length-set cs m (max (slice_index cs m) priority))) in
      elim (cases_eq m k) [
        | inl same ↦
            let now : slice_index next k ≡ max (slice_index cs k) priority = ap (λ j. slice_index (slice_set cs m (max (slice_index cs m) priority)) j) (sym same) ∙ index_same cs m (max (slice_index cs m) priority) (omega (arith, l, same)) ∙ ap (λ j. max (slice_index cs j) priority) same in
            rest ∙ ap (λ n. raised_if (list_any (λ m. m == k) ms) n priority) now ∙ twice (list_any (λ m. m == k) ms) (slice_index cs k) priority
            ∙ sym (ap (λ b. raised_if (b || list_any (λ m. m == k) ms) (slice_index cs k) priority) (eq-eqb m k same))
        | inr other ↦
            rest ∙ ap (λ n. raised_if (list_any (λ m. m == k) ms) n priority) (index_other cs m k (max (slice_index cs m) priority) other)
            ∙ sym (ap (λ b. raised_if (b || list_any (λ m. m == k) ms) (slice_index cs k) priority) (ne_eqb m k other))
      ]

-- ---- the plans

is_listed : (n k : ℕ) (q : ℕ → Bool) → k < n → list_any (λ m. m == k) (filter q (numbers_before n [])) ≡ q k
is_listed n k q l = elim (cases_Bool (q k)) [
  | inl t ↦ has_any (λ m. m == k) (filter q (numbers_before n [])) k (has_filter q (numbers_before n []) k (below_number n k l) t) (eq-eqb k k refl) ∙ sym t
  | inr f ↦ elim (cases_Bool (list_any (λ m. m == k) (filter q (numbers_before n [])))) [
    | inl t ↦
        let p = any_has (λ m. m == k) (filter q (numbers_before n [])) t in
        let is : p.element ≡ k = eqb-true p.element k p.passes in
        absurd (false≢true (sym f ∙ ap q (sym is) ∙ (filter_has q (numbers_before n []) p.element p.has).1))
    | inr none ↦ none ∙ sym f
  ]
]

fold_map : {X Y Z : Type 0} (f : Z → Y → Z) (g : X → Y) (z : Z) (xs : List X) → fold f z (map g xs) ≡ fold (λ z x. f z (g x)) z xs
fold_map f g z [] = refl
fold_map f g z (x ∷ xs) = fold_map f g (f z (g x)) xs

module _ (arch : Arch) where
  abbrev n : ℕ
  n = length arch.monitors

  abbrev by_source : List ℕ → ℕ → List ℕ
  by_source cs s = raised_by cs (plan_of arch s)

  one_plan : (s : ℕ) (cs : List ℕ) (k : ℕ) → length cs ≡ n → k < n → slice_index (by_source cs s) k ≡ raised_if (touches arch s k) (slice_index cs k) (source_priority arch s)
  one_plan s cs k e l =
      raised_all (source_priority arch s) (monitors_of arch (reached_by arch s)) cs k (omega (arith, e, l))
      ∙ ap (λ b. raised_if b (slice_index cs k) (source_priority arch s)) (is_listed n k (touches arch s) l)

  plan_length : (s : ℕ) (cs : List ℕ) → length (by_source cs s) ≡ length cs
  plan_length s cs = length_all (source_priority arch s) (monitors_of arch (reached_by arch s)) cs

  filter_fold : (b : Bool) (s : ℕ) (k a : ℕ) (rest : List ℕ) → fold max (raised_if b a (source_priority arch s)) (map (source_priority arch) rest) ≡ fold max a (map (source_priority arch) (cond b (s ∷ rest) rest))
  filter_fold true s k a rest = refl
  filter_fold false s k a rest = refl

  all_plans : (xs : List ℕ) (cs : List ℕ) (k : ℕ) → length cs ≡ n → k < n → slice_index (fold by_source cs xs) k ≡ fold max (slice_index cs k) (map (source_priority arch) (filter (λ s. touches arch s k) xs))
  all_plans [] cs k e l = refl
  all_plans (s ∷ xs) cs k e l =
      all_plans xs (by_source cs s) k (plan_length s cs ∙ e) l
      ∙ ap (λ a. fold max a (map (source_priority arch) (filter (λ s. touches arch s k) xs))) (one_plan s cs k e l)
      ∙ filter_fold (touches arch s k) s k (slice_index cs k) (filter (λ s. touches arch s k) xs)

  all_length : (xs : List ℕ) (cs : List ℕ) → length (fold by_source cs xs) ≡ length cs
  all_length [] cs = refl
  all_length (s ∷ xs) cs = all_length xs (by_source cs s) ∙ plan_length s cs

  no_ceiling : (m k : ℕ) → slice_index (replicate m 0) k ≡ 0
  no_ceiling zero k = refl
  no_ceiling (suc m) zero = refl
  no_ceiling (suc m) (suc k) = no_ceiling m k

  pub none_long : (m : ℕ) → length {A = ℕ} (replicate m 0) ≡ m
  none_long zero = refl
  none_long (suc m) = ap suc (none_long m)

  index_is : (xs : List ℕ) (k : ℕ) → k < length xs → slice_get xs k ≡ Some (slice_index xs k)
  index_is xs k l = let there = get_within xs k l in there.1 ∙ ap Some (sym (get_or_from_slice_get xs k there.0 0 there.1))

  abbrev found : List ℕ
  found = fold raised_by (replicate n 0) (plans_of arch)

  found_is : found ≡ fold by_source (replicate n 0) (source_numbers arch)
  found_is = fold_map raised_by (plan_of arch) (replicate n 0) (source_numbers arch)

  found_long : length found ≡ n
  found_long = ap length found_is ∙ all_length (source_numbers arch) (replicate n 0) ∙ none_long n

  pub found_are_ceilings : found ≡ ceilings arch
  found_are_ceilings = same_lists found (ceilings arch) (λ k. elim (cases_lt k n) [
    | inl l ↦
        let at : slice_index found k ≡ ceiling_of arch k =
        ap (λ cs. slice_index cs k) found_is ∙ all_plans (source_numbers arch) (replicate n 0) k (none_long n) l
        ∙ ap (λ a. fold max a (map (source_priority arch) (filter (λ s. touches arch s k) (source_numbers arch)))) (no_ceiling n k) in
        index_is found k (omega (arith, l, found_long)) ∙ ap Some at ∙ sym (get_over (ceiling_of arch) n k l)
    | inr l ↦ slice_get_past found k (omega (arith, l, found_long)) ∙ sym (slice_get_past (over (ceiling_of arch) n) k (omega (arith, l, length_over (ceiling_of arch) n)))
  ])

  -- the monitors of each plan are there
  in_map : {X Y : Type 0} (f : X → Y) (xs : List X) (y : Y) → In y (map f xs) → (x : X) × (y ≡ f x)
  in_map f [] y i = absurd i
  in_map f (x ∷ xs) y (inl e) = (x, e)
  in_map f (x ∷ xs) y (inr i) = in_map f xs y i

  below : (s : ℕ) → HasMonitorsBelow n (plan_of arch s)
  below s = λ i d l.
      let ms = (plan_of arch s).monitors in
      number_below n (get_or ms i d) (filter_has (touches arch s) (numbers_before n []) (get_or ms i d) (In-get_or ms i d l)).0

  pub plans_below : All (HasMonitorsBelow n) (plans_of arch)
  plans_below = λ i d l.
      let q = in_map (plan_of arch) (source_numbers arch) (get_or (plans_of arch) i d) (In-get_or (plans_of arch) i d l) in
      subst (HasMonitorsBelow n) (sym q.1) (below q.0)
