-- Each instruction is on one core.
use Rattle.std.proofs.Common.{◌≡◌, ◌∙◌, ◌≢◌, inl, inr, ℕ, zero, suc, ◌+◌, ◌<◌, ◌≤◌, ◌%◌, List, [], ◌∷◌, ◌++◌, map, sum, Bool, true, false, cond, Option, Some, None, length, refl, sym, ap, arith, subst, slice_get, option_map}
use Rattle.std.specs.Prelude.{◌==◌}
use Rattle.std.proofs.lemmas.Bool.{cases_eq, eq-eqb, ne_eqb}
use Rattle.std.proofs.lemmas.Option.{slice_get_within, slice_get-map}
use Rattle.std.proofs.Math.Nat.{mod-lt}
use Rattle.tower_syntax.specs.Arch.{Events}
use Rattle.tower_syntax.specs.Graph.{numbers_before}
use Rattle.task_code.specs.declared.program.Task.{Task}
use Rattle.task_code.specs.Program.{Program}
use Rattle.task_code.specs.Machine.{Machine, task_does, next_does}
use Rattle.task_code.specs.Standing.{Standing, IsStuck, IsIdle, IsWaiting, IsReady, standing, standing_of, standings, is_ready}
use Rattle.task_code.specs.Run.{Run, Step, Turn, step, steps_from, first_run, if_ready, turned}
use Rattle.task_code.specs.Policy.{priorities, places_from}
use Rattle.task_code.specs.Cores.{by_urgency, on_cores, core_at}
use Rattle.task_code.specs.Plan.{Planned, goes, comes, step_of, instructions}
use Rattle.task_code.specs.Tally.{is_on, ran_on}
use Rattle.task_code.proofs.Lists.{cons_sum}
use Rattle.task_machine.proofs.Numbers.{numbers_more, map_onto, over, get_over}
use Rattle.task_policies.specs.Sums.{CoresAddUp}
use Rattle.task_policies.proofs.Ranks.{some_on_cores, length_take}

abbrev one_if : Bool → ℕ
one_if b = cond b 1 0

-- ---- sums

sum_last : (xs : List ℕ) (y : ℕ) → sum (xs ++ y ∷ []) ≡ sum xs + y
sum_last [] y = omega (arith, cons_sum y [])
sum_last (x ∷ xs) y = omega (arith, cons_sum x (xs ++ y ∷ []), cons_sum x xs, sum_last xs y)

sum_over : (f : ℕ → ℕ) (n : ℕ) → sum (over f (suc n)) ≡ sum (over f n) + f n
sum_over f n = ap (λ ks. sum (map f ks)) (numbers_more n) ∙ ap sum (map_onto f (numbers_before n []) (n ∷ [])) ∙ sum_last (over f n) (f n)

sum_none : (n : ℕ) → sum (over (λ i. 0) n) ≡ 0
sum_none zero = refl
sum_none (suc n) = omega (arith, sum_over (λ i. 0) n, sum_none n)

-- none of the first n is j
sum_past : (f g : ℕ → ℕ) (j n : ℕ) → n ≤ j → sum (over (λ i. one_if (j == i) + f i) n) ≡ sum (over f n)
sum_past f g j zero l = refl
sum_past f g j (suc n) l =
    let none : one_if (j == n) ≡ 0 = ap one_if (ne_eqb j n (λ e. omega (arith, e, l))) in
    omega (arith, sum_over (λ i. one_if (j == i) + f i) n, sum_over f n, none, sum_past f g j n (omega (arith, l)))

-- one of the first n is j
sum_one : (f : ℕ → ℕ) (j n : ℕ) → j < n → sum (over (λ i. one_if (j == i) + f i) n) ≡ suc (sum (over f n))
sum_one f j zero l = absurd (omega (arith, l))
sum_one f j (suc n) l = elim (cases_eq j n) [
  | inl e ↦
      let one : one_if (j == n) ≡ 1 = ap one_if (eq-eqb j n e) in
      omega (arith, sum_over (λ i. one_if (j == i) + f i) n, sum_over f n, one, sum_past f f j n (omega (arith, e)))
  | inr d ↦
      let none : one_if (j == n) ≡ 0 = ap one_if (ne_eqb j n d) in
      omega (arith, sum_over (λ i. one_if (j == i) + f i) n, sum_over f n, none, sum_one f j n (omega (arith, l, d)))
]

alike : (f g : ℕ → ℕ) → ((i : ℕ) → f i ≡ g i) → (xs : List ℕ) → map f xs ≡ map g xs
alike f g h [] = refl
alike f g h (x ∷ xs) = ap (λ z. z ∷ map f xs) (h x) ∙ ap (λ zs. g x ∷ zs) (alike f g h xs)

-- ---- a step that is defined

not_none : (p : Program) (events : Events) (zs : List Step) (r : Run) → steps_from p events None zs ≡ Some r → ⊥
not_none p events [] r e = cc
not_none p events (z ∷ zs) r e = cc

ready_of : (p : Program) (events : Events) (k : Standing) (q : Run) (zs : List Step) (r : Run) → steps_from p events (if_ready k q) zs ≡ Some r → k ≡ IsReady
ready_of p events IsStuck q zs r e = absurd (not_none p events zs r e)
ready_of p events IsIdle q zs r e = absurd (not_none p events zs r e)
ready_of p events (IsWaiting m) q zs r e = absurd (not_none p events zs r e)
ready_of p events IsReady q zs r e = refl

there_of : (p : Program) (events : Events) (m : Machine) (x : ℕ) (t : Option Task) → slice_get p.tasks x ≡ t → standing_of p events m x (task_does p t (slice_get m.tasks x)) ≡ IsReady → x < length p.tasks
there_of p events m x None is e = cc
there_of p events m x (Some t) is e = slice_get_within p.tasks x t is

ready_at : (p : Program) (events : Events) (m : Machine) (x : ℕ) → standing p events m x ≡ IsReady → slice_get (map is_ready (standings p events m)) x ≡ Some true
ready_at p events m x e =
    let here : x < length p.tasks = there_of p events m x (slice_get p.tasks x) refl e in
    slice_get-map is_ready (standings p events m) x ∙ ap (option_map is_ready) (get_over (standing p events m) (length p.tasks) x here) ∙ ap (λ st. Some (is_ready st)) e

module _ (cores : ℕ) (p : Program) (events : Events) (some : 1 ≤ cores) where
  core_below : (m : Machine) (k x : ℕ) → standing p events m x ≡ IsReady → core_at (priorities p) cores (map is_ready (standings p events m)) k < cores
  core_below m k x e =
      let ready = map is_ready (standings p events m) in
      let busy = some_on_cores (priorities p) cores ready x (ready_at p events m x e) some in
      omega (arith, mod-lt k busy, few ready)
    where
      few : (ready : List Bool) → length (on_cores (priorities p) cores ready) ≤ cores
      few ready = omega (arith, length_take cores (by_urgency (priorities p) (places_from 0 ready)))

  goes_more : (k x : ℕ) (ss : List Planned) (q : Run) → sum (over (λ i. ran_on cores p events i (step p events q (Turn x)) ss) cores) ≡ instructions ss → standing p events q.machine x ≡ IsReady
      → sum (over (λ i. ran_on cores p events i (Some q) (goes k x ∷ ss)) cores) ≡ suc (instructions ss)
  goes_more k x ss q rest e =
      sum_one (λ i. ran_on cores p events i (step p events q (Turn x)) ss) (core_at (priorities p) cores (map is_ready (standings p events q.machine)) k) cores (core_below q.machine k x e) ∙ ap suc rest

  add_up : (ss : List Planned) (o : Option Run) (r : Run) → steps_from p events o (map step_of ss) ≡ Some r → sum (over (λ i. ran_on cores p events i o ss) cores) ≡ instructions ss
  add_up [] o r e = sum_none cores
  add_up (s ∷ ss) None r e = cc
  add_up (goes k x ∷ ss) (Some q) r e =
      goes_more k x ss q (add_up ss (step p events q (Turn x)) r e) (ready_of p events (standing p events q.machine x) (turned q x (next_does p q.machine x)) (map step_of ss) r e)
  add_up (comes ∷ ss) (Some q) r e =
      ap sum (alike (λ i. ran_on cores p events i (Some q) (comes ∷ ss)) (λ i. ran_on cores p events i (step p events q (step_of comes)) ss) (λ i. omega arith) (numbers_before cores []))
      ∙ add_up ss (step p events q (step_of comes)) r e

pub cores_add_up : CoresAddUp
cores_add_up cores p events steps r some e = add_up cores p events some steps (Some (first_run p events)) r e
