-- What instructions of ready tasks and entries of the record keep, a plan keeps.
use Rattle.std.proofs.Common.{◌≡◌, ℕ, zero, suc, ◌+◌, ◌-◌, Bool, true, false, ◌||◌, not, List, [], ◌∷◌, map, length, Option, Some, None, refl, sym, ap, ◌∙◌, arith, slice_get}
use Rattle.std.proofs.lemmas.Option.{same_Some}
use Rattle.tower_syntax.specs.declared.event.Choice.{Choice}
use Rattle.tower_syntax.specs.declared.event.Choice.TheVariants as choice
use Rattle.tower_syntax.specs.Arch.{Events}
use Rattle.tower_syntax.specs.Graph.{numbers_before}
use Rattle.task_code.specs.Program.{Program}
use Rattle.task_code.specs.Own.{held_monitor}
use Rattle.task_code.specs.Machine.{Machine, next_does}
use Rattle.task_code.specs.Standing.{Standing, IsStuck, IsIdle, IsWaiting, IsReady, is_ready, standing}
use Rattle.task_code.specs.Run.{is_visible}
use Rattle.task_code.specs.Policy.{Policy}
use Rattle.task_code.specs.Plan.{Planning, repeated, ready, picked, instruct, enter, go_with, go, is_seen, look, see_with, see, any_ready, idle, apply, has_ended, unchosen, to_end, turns_left, choose}
use Rattle.task_alone.proofs.Lists.{get_unmap}
use Rattle.run_laws.specs.Enough.{NamesReady}

-- ---- which tasks are ready

number_is : (n x y : ℕ) (ks : List ℕ) → ((j z : ℕ) → slice_get ks j ≡ Some z → z ≡ n + j) → slice_get (numbers_before n ks) x ≡ Some y → y ≡ x
number_is zero x y ks h e = let k = h x y e in omega (arith, k)
number_is (suc n) x y ks h e = number_is n x y (n ∷ ks) more e
  where
    more : (j z : ℕ) → slice_get (n ∷ ks) j ≡ Some z → z ≡ n + j
    more zero z k = let s : n ≡ z = same_Some n z k in omega (arith, s)
    more (suc j) z k = let s = h j z k in omega (arith, s)

none_there : (n j z : ℕ) → slice_get [] j ≡ Some z → z ≡ n + j
none_there n j z e = cc

is_ready_only : (k : Standing) → is_ready k ≡ true → k ≡ IsReady
is_ready_only IsReady e = refl
is_ready_only IsStuck e = cc
is_ready_only IsIdle e = cc
is_ready_only (IsWaiting m) e = cc

pub ready_stands : (p : Program) (events : Events) (m : Machine) (n x : ℕ) → slice_get (map is_ready (map (standing p events m) (numbers_before n []))) x ≡ Some true → standing p events m x ≡ IsReady
ready_stands p events m n x e =
    let k = get_unmap is_ready (map (standing p events m) (numbers_before n [])) x true e in
    let y = get_unmap (standing p events m) (numbers_before n []) x k.0 k.1 in
    ap (standing p events m) (sym (number_is n x y.0 [] (none_there n) y.1)) ∙ y.2 ∙ is_ready_only k.0 k.2

either : (P : Planning → Type 0) (b : Bool) (s t : Planning) → P s → P t → P (elim b [ true ↦ s | false ↦ t ])
either P true s t h k = h
either P false s t h k = k

module _ (policy : Policy) (p : Program) (events : Events) (limit : ℕ) (names : NamesReady policy) (P : Planning → Type 0) (turn : (k x : ℕ) (s : Planning) → P s → standing p events s.run.machine x ≡ IsReady → P (instruct policy p events limit k x s s.left)) (come : (s : Planning) → P s → P (enter policy p events limit s)) where
  -- ---- choices

  picked_ready : (m : Machine) (k x : ℕ) → picked policy p events limit m k ≡ Some x → standing p events m x ≡ IsReady
  picked_ready m k x e =
      ready_stands p events m (length p.tasks) x (names (ready policy p events limit m) (map held_monitor m.tasks) k x e)

  go_with_keeps : (k : ℕ) (s : Planning) (o : Option ℕ) → picked policy p events limit s.run.machine k ≡ o → P s → P (go_with policy p events limit k s o)
  go_with_keeps k s None e h = h
  go_with_keeps k s (Some x) e h = turn k x s h (picked_ready s.run.machine k x e)

  go_keeps : (k : ℕ) (s : Planning) → P s → P (go policy p events limit k s)
  go_keeps k s h = go_with_keeps k s (picked policy p events limit s.run.machine k) refl h

  repeated_keeps : (n : ℕ) (f : Planning → Planning) → ((s : Planning) → P s → P (f s)) → (s : Planning) → P s → P (repeated n f s)
  repeated_keeps zero f g s h = h
  repeated_keeps (suc n) f g s h = repeated_keeps n f g (f s) (g s h)

  -- a `see` that goes on has its task ready
  still_ready : (a b c : Bool) → (a || (b || not c)) ≡ false → c ≡ true
  still_ready a b true e = refl
  still_ready true b false e = cc
  still_ready false true false e = cc
  still_ready false false false e = cc

  look_rest : (n k x : ℕ) (s t : Planning) (b : Bool) → is_seen policy p events limit x s t ≡ b → P t → (standing p events t.run.machine x ≡ IsReady → P (look policy p events limit n k x t))
      → P (elim b [ true ↦ t | false ↦ look policy p events limit n k x t ])
  look_rest n k x s t true e h more = h
  look_rest n k x s t false e h more =
      more (is_ready_only (standing p events t.run.machine x) (still_ready t.stopped (is_visible (next_does p s.run.machine x)) (is_ready (standing p events t.run.machine x)) e))

  look_keeps : (n k x : ℕ) (s : Planning) → P s → standing p events s.run.machine x ≡ IsReady → P (look policy p events limit n k x s)
  look_keeps zero k x s h e = h
  look_keeps (suc n) k x s h e =
      let t = instruct policy p events limit k x s s.left in
      let now = turn k x s h e in
      look_rest n k x s t (is_seen policy p events limit x s t) refl now (λ ready. look_keeps n k x t now ready)

  see_with_keeps : (k : ℕ) (s : Planning) (o : Option ℕ) → picked policy p events limit s.run.machine k ≡ o → P s → P (see_with policy p events limit k s o)
  see_with_keeps k s None e h = h
  see_with_keeps k s (Some x) e h = look_keeps (suc s.left) k x s h (picked_ready s.run.machine k x e)

  see_keeps : (k : ℕ) (s : Planning) → P s → P (see policy p events limit k s)
  see_keeps k s h = see_with_keeps k s (picked policy p events limit s.run.machine k) refl h

  idle_keeps : (n : ℕ) (s : Planning) → P s → P (idle policy p events limit n s)
  idle_keeps zero s h = h
  idle_keeps (suc n) s h =
      either P (s.stopped || not (any_ready policy p events limit s)) s (idle policy p events limit n (go policy p events limit 0 s)) h
      (idle_keeps n (go policy p events limit 0 s) (go_keeps 0 s h))

  apply_keeps : (ch : Choice) (s : Planning) → P s → P (apply policy p events limit ch s)
  apply_keeps (choice.Go k n) s h = repeated_keeps n (go policy p events limit k) (go_keeps k) s h
  apply_keeps (choice.See k n) s h = repeated_keeps n (see policy p events limit k) (see_keeps k) s h
  apply_keeps (choice.Ev n) s h = repeated_keeps n (enter policy p events limit) come s h
  apply_keeps choice.Idle s h = idle_keeps (suc s.left) s h

  unchosen_keeps : (s : Planning) → P s → P (unchosen policy p events limit s)
  unchosen_keeps s h =
      let k = policy.otherwise (limit - s.left) in
      either P (any_ready policy p events limit s) (go policy p events limit k s) (enter policy p events limit s) (go_keeps k s h) (come s h)

  to_end_keeps : (n : ℕ) (s : Planning) → P s → P (to_end policy p events limit n s)
  to_end_keeps zero s h = h
  to_end_keeps (suc n) s h =
      either P (has_ended policy p events limit s) s (to_end policy p events limit n (unchosen policy p events limit s)) h
      (to_end_keeps n (unchosen policy p events limit s) (unchosen_keeps s h))

  pub choose_keeps : (cs : List Choice) (s : Planning) → P s → P (choose policy p events limit cs s)
  choose_keeps [] s h = to_end_keeps (turns_left policy p events limit s) s h
  choose_keeps (c ∷ cs) s h =
      either P (has_ended policy p events limit s) s (choose policy p events limit cs (apply policy p events limit c s)) h
      (choose_keeps cs (apply policy p events limit c s) (apply_keeps c s h))
