-- How many instructions each core has, step by step.
use Rattle.std.proofs.Common.{◌≡◌, ◌≢◌, ℕ, zero, suc, ◌+◌, ◌≤◌, ◌<◌, List, [], ◌∷◌, ◌++◌, map, length, Option, Some, None, Bool, true, false, cond, inl, inr, refl, sym, ap, ◌∙◌, arith, slice_get, slice_set, slice_index}
use Rattle.std.specs.Prelude.{◌==◌}
use Rattle.std.proofs.lemmas.Bool.{cases_lt, cases_eq, eq-eqb, ne_eqb}
use Rattle.std.proofs.lemmas.Option.{same_Some, none-some, slice_get_past, get_or_from_slice_get}
use Rattle.std.proofs.lemmas.List.{length-map}
use Rattle.std.proofs.Math.ListN.{length-set}
use Rattle.tower_syntax.specs.Arch.{Events}
use Rattle.tower_syntax.specs.Graph.{numbers_before}
use Rattle.task_code.specs.Program.{Program}
use Rattle.task_code.specs.Machine.{Machine}
use Rattle.task_code.specs.Standing.{is_ready, standings}
use Rattle.task_code.specs.Run.{Run, step, steps_from, first_run}
use Rattle.task_code.specs.Policy.{priorities}
use Rattle.task_code.specs.Cores.{core_at}
use Rattle.task_code.specs.Plan.{Planned, goes, comes, step_of, instructions}
use Rattle.task_code.specs.Tally.{is_on, ran_on, core_counts}
use Rattle.task_alone.proofs.Lists.{get_set_same, get_set_other}
use Rattle.task_machine.proofs.Numbers.{over, get_over, length_over}
use Rattle.tower_run.specs.declared.scheduler.Scheduler.{Scheduler}
use Rattle.tower_run.specs.declared.scheduler.Scheduler.TheVariants as by
use Rattle.tower_run.specs.Scheduler.{priorities_of, cores_by, core_by}
use Rattle.tower_run.specs.Counted.{counted_on}
use Rattle.tower_run.proofs.Waited.{one_if, at_most_one}

-- ---- lists that have the same at each place

pub same_lists : (xs ys : List ℕ) → ((i : ℕ) → slice_get xs i ≡ slice_get ys i) → xs ≡ ys
same_lists [] [] h = refl
same_lists [] (y ∷ ys) h = absurd (none-some y (h 0))
same_lists (x ∷ xs) [] h = absurd (none-some x (sym (h 0)))
same_lists (x ∷ xs) (y ∷ ys) h = ap (λ z. z ∷ xs) (same_Some x y (h 0)) ∙ ap (λ zs. y ∷ zs) (same_lists xs ys (λ i. h (suc i)))

alike : (f g : ℕ → ℕ) → ((i : ℕ) → f i ≡ g i) → (xs : List ℕ) → map f xs ≡ map g xs
alike f g h [] = refl
alike f g h (x ∷ xs) = ap (λ z. z ∷ map f xs) (h x) ∙ ap (λ zs. g x ∷ zs) (alike f g h xs)

-- one more at one place
one_more : (n j : ℕ) (f g : ℕ → ℕ) → ((i : ℕ) → g i ≡ f i + one_if (j == i)) → map g (numbers_before n []) ≡ slice_set (map f (numbers_before n [])) j (suc (slice_index (map f (numbers_before n [])) j))
one_more n j f g h = same_lists _ _ (λ i. elim (cases_lt i n) [
  | inl l ↦ get_over g n i l ∙ elim (cases_eq j i) [
    | inl s ↦
        let old = slice_index (over f n) j in
        let there : slice_get (over f n) j ≡ Some (f j) = get_over f n j (omega (arith, s, l)) in
        let was : old ≡ f j = get_or_from_slice_get (over f n) j (f j) 0 there in
        let one : one_if (j == i) ≡ 1 = ap one_if (eq-eqb j i s) in
        let same : f j ≡ f i = ap f s in
        let now : g i ≡ suc old = omega (arith, h i, one, was, same) in
        ap Some now ∙ sym (ap (slice_get (slice_set (over f n) j (suc old))) (sym s) ∙ get_set_same (over f n) j (f j) (suc old) there)
    | inr d ↦
        let none : one_if (j == i) ≡ 0 = ap one_if (ne_eqb j i d) in
        let now : g i ≡ f i = omega (arith, h i, none) in
        ap Some now ∙ sym (get_over f n i l) ∙ sym (get_set_other (over f n) j i _ d)
  ]
  | inr l ↦
      let long = length-set (over f n) j (suc (slice_index (over f n) j)) in
      slice_get_past (over g n) i (omega (arith, l, length_over g n))
      ∙ sym (slice_get_past (slice_set (over f n) j (suc (slice_index (over f n) j))) i (omega (arith, l, long, length_over f n)))
])

-- ---- one step more

module _ (cores : ℕ) (p : Program) (events : Events) where
  ran_push : (i : ℕ) (o : Option Run) (ss : List Planned) (z : Planned) (r : Run) → steps_from p events o (map step_of ss) ≡ Some r
      → ran_on cores p events i o (ss ++ z ∷ []) ≡ ran_on cores p events i o ss + one_if (is_on cores p events i r.machine z)
  ran_push i None [] z r e = cc
  ran_push i (Some q) [] z r e =
      let same : one_if (is_on cores p events i q.machine z) ≡ one_if (is_on cores p events i r.machine z) = ap (λ (t : Run). one_if (is_on cores p events i t.machine z)) (same_Some q r e) in
      omega (arith, same)
  ran_push i None (s ∷ ss) z r e = cc
  ran_push i (Some q) (s ∷ ss) z r e =
      let rest = ran_push i (step p events q (step_of s)) ss z r e in
      omega (arith, rest)

  -- no more than there are instructions
  ran_few : (i : ℕ) (o : Option Run) (ss : List Planned) → ran_on cores p events i o ss ≤ instructions ss
  ran_few i o [] = omega arith
  ran_few i None (goes k x ∷ ss) = omega arith
  ran_few i None (comes ∷ ss) = omega arith
  ran_few i (Some r) (goes k x ∷ ss) =
      let rest = ran_few i (step p events r (step_of (goes k x))) ss in
      let one = at_most_one (is_on cores p events i r.machine (goes k x)) in
      omega (arith, rest, one)
  ran_few i (Some r) (comes ∷ ss) = let rest = ran_few i (step p events r (step_of comes)) ss in omega (arith, rest)

  abbrev start : Option Run
  start = Some (first_run p events)

  -- an instruction
  counts_goes : (ss : List Planned) (k x : ℕ) (r : Run) → steps_from p events start (map step_of ss) ≡ Some r
      → core_counts cores p events (ss ++ goes k x ∷ []) ≡ counted_on (core_counts cores p events ss) (Some (core_at (priorities p) cores (map is_ready (standings p events r.machine)) k))
  counts_goes ss k x r e =
      one_more cores (core_at (priorities p) cores (map is_ready (standings p events r.machine)) k)
      (λ i. ran_on cores p events i start ss) (λ i. ran_on cores p events i start (ss ++ goes k x ∷ [])) (λ i. ran_push i start ss (goes k x) r e)

  -- an entry
  pub counts_comes : (ss : List Planned) (r : Run) → steps_from p events start (map step_of ss) ≡ Some r → core_counts cores p events (ss ++ comes ∷ []) ≡ core_counts cores p events ss
  counts_comes ss r e =
      alike (λ i. ran_on cores p events i start (ss ++ comes ∷ [])) (λ i. ran_on cores p events i start ss)
      (λ i. let one = ran_push i start ss comes r e in omega (arith, one)) (numbers_before cores [])

  pub counts_length : (ss : List Planned) → length (core_counts cores p events ss) ≡ cores
  counts_length ss = length_over (λ i. ran_on cores p events i start ss) cores

  pub counts_few : (ss : List Planned) (i : ℕ) → i < cores → slice_index (core_counts cores p events ss) i ≤ instructions ss
  counts_few ss i l =
      let f : ℕ → ℕ = λ i. ran_on cores p events i start ss in
      let is : slice_index (over f cores) i ≡ f i = get_or_from_slice_get (over f cores) i (f i) 0 (get_over f cores i l) in
      omega (arith, is, ran_few i start ss)

-- ---- by a rule

pub cored_goes : (rule : Scheduler) (p : Program) (events : Events) (ss : List Planned) (k x : ℕ) (r : Run) → priorities_of rule ≡ priorities p → steps_from p events (Some (first_run p events)) (map step_of ss) ≡ Some r
    → core_counts (cores_by rule) p events (ss ++ goes k x ∷ []) ≡ counted_on (core_counts (cores_by rule) p events ss) (core_by rule (map is_ready (standings p events r.machine)) k)
cored_goes (by.Fixed ps) p events ss k x r e h = refl
cored_goes (by.Ceiling q) p events ss k x r e h = refl
cored_goes (by.Cores q) p events ss k x r e h =
    counts_goes (cores_by (by.Cores q)) p events ss k x r h
    ∙ ap (λ ps. counted_on (core_counts (cores_by (by.Cores q)) p events ss) (Some (core_at ps (cores_by (by.Cores q)) (map is_ready (standings p events r.machine)) k))) (sym e)
