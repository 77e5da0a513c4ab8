-- The parts of a plan: that steps are only added, and that a plan which has stopped stays.
use Rattle.std.proofs.Common.{◌≡◌, ◌+◌, ◌-◌, ℕ, zero, suc, List, [], ◌∷◌, ◌++◌, Option, Some, None, Bool, true, false, ◌||◌, not, refl, sym, ap, ◌∙◌, arith, append_assoc, append-nil}
use Rattle.tower_syntax.specs.declared.event.Choice.{Choice}
use Rattle.tower_syntax.specs.declared.event.Choice.TheVariants as choice
use Rattle.tower_syntax.specs.Arch.{Events}
use Rattle.task_code.specs.Program.{Program}
use Rattle.task_code.specs.Machine.{next_does}
use Rattle.task_code.specs.Standing.{standing, is_ready, is_finished}
use Rattle.task_code.specs.Run.{Run, Turn, Event, step, is_visible}
use Rattle.task_code.specs.Policy.{Policy}
use Rattle.task_code.specs.Plan.{Planned, goes, comes, Planning, repeated, picked, stepped, instruct, entered, enter, go_with, go, is_seen, look, see_with, see, any_ready, idle, apply, has_ended, unchosen, to_end, turns_left, choose}

pub first_true : (a b : Bool) → a ≡ true → (a || b) ≡ true
first_true true b e = refl
first_true false b e = cc

pub second_true : (a b : Bool) → b ≡ true → (a || b) ≡ true
second_true true b e = refl
second_true false b e = e

pub both_false : (a b : Bool) → a ≡ false → b ≡ false → (a || b) ≡ false
both_false true b e f = cc
both_false false b e f = f

pub if_true : {A : Type 0} (b : Bool) (x y : A) → b ≡ true → (elim b [ true ↦ x | false ↦ y ]) ≡ x
if_true true x y e = refl
if_true false x y e = cc

pub if_false : {A : Type 0} (b : Bool) (x y : A) → b ≡ false → (elim b [ true ↦ x | false ↦ y ]) ≡ y
if_false true x y e = cc
if_false false x y e = refl

pub if_same : {A : Type 0} (b : Bool) (x y : A) → y ≡ x → (elim b [ true ↦ x | false ↦ y ]) ≡ x
if_same true x y e = refl
if_same false x y e = e

-- ---- repeats

pub repeated_split : (m n : ℕ) (f : Planning → Planning) (s : Planning) → repeated (m + n) f s ≡ repeated n f (repeated m f s)
repeated_split zero n f s = let e : 0 + n ≡ n = omega arith in ap (λ k. repeated k f s) e
repeated_split (suc m) n f s = let e : suc m + n ≡ suc (m + n) = omega arith in ap (λ k. repeated k f s) e ∙ repeated_split m n f (f s)

pub repeated_more : (m : ℕ) (f : Planning → Planning) (s : Planning) → repeated (m + 1) f s ≡ f (repeated m f s)
repeated_more m f s = repeated_split m 1 f s

pub repeated_same : (n : ℕ) (f : Planning → Planning) (s : Planning) → f s ≡ s → repeated n f s ≡ s
repeated_same zero f s e = refl
repeated_same (suc n) f s e = ap (repeated n f) e ∙ repeated_same n f s e

-- ---- a plan only grows

abbrev pub Grows : Planning → Planning → Type 0
Grows s t = (rest : List Planned) × (t.steps ≡ s.steps ++ rest)

pub grows_not : (s t : Planning) → t.steps ≡ s.steps → Grows s t
grows_not s t e = ([], e ∙ sym (append-nil s.steps))

pub grows_trans : (s t u : Planning) → Grows s t → Grows t u → Grows s u
grows_trans s t u a b = (a.0 ++ b.0, b.1 ∙ ap (λ x. x ++ b.0) a.1 ∙ append_assoc s.steps a.0 b.0)

either_grows : (b : Bool) (s t u : Planning) → Grows s t → Grows s u → Grows s (elim b [ true ↦ t | false ↦ u ])
either_grows true s t u a b = a
either_grows false s t u a b = b

pub repeated_grows : (n : ℕ) (f : Planning → Planning) → ((s : Planning) → Grows s (f s)) → (s : Planning) → Grows s (repeated n f s)
repeated_grows zero f g s = grows_not s s refl
repeated_grows (suc n) f g s = grows_trans s (f s) (repeated n f (f s)) (g s) (repeated_grows n f g (f s))

module _ (policy : Policy) (p : Program) (events : Events) (limit : ℕ) where
  stepped_grows : (k x l : ℕ) (s : Planning) (o : Option Run) → Grows s (stepped policy p events limit k x s l o)
  stepped_grows k x l s None = grows_not s s refl
  stepped_grows k x l s (Some r) = (goes k x ∷ [], refl)

  pub instruct_grows : (k x l : ℕ) (s : Planning) → Grows s (instruct policy p events limit k x s l)
  instruct_grows k x zero s = grows_not s (record s { stopped = true }) refl
  instruct_grows k x (suc l) s = stepped_grows k x l s (step p events s.run (Turn x))

  pub go_with_grows : (k : ℕ) (s : Planning) (o : Option ℕ) → Grows s (go_with policy p events limit k s o)
  go_with_grows k s None = grows_not s s refl
  go_with_grows k s (Some x) = instruct_grows k x s.left s

  pub go_grows : (k : ℕ) (s : Planning) → Grows s (go policy p events limit k s)
  go_grows k s = go_with_grows k s (picked policy p events limit s.run.machine k)

  entered_grows : (s : Planning) (o : Option Run) → Grows s (entered policy p events limit s o)
  entered_grows s None = grows_not s s refl
  entered_grows s (Some r) = (comes ∷ [], refl)

  pub enter_grows : (s : Planning) → Grows s (enter policy p events limit s)
  enter_grows s = entered_grows s (step p events s.run Event)

  pub look_grows : (n k x : ℕ) (s : Planning) → Grows s (look policy p events limit n k x s)
  look_grows zero k x s = grows_not s s refl
  look_grows (suc n) k x s =
      let t = instruct policy p events limit k x s s.left in
      either_grows (is_seen policy p events limit x s t) s t (look policy p events limit n k x t) (instruct_grows k x s.left s)
      (grows_trans s t (look policy p events limit n k x t) (instruct_grows k x s.left s) (look_grows n k x t))

  see_with_grows : (k : ℕ) (s : Planning) (o : Option ℕ) → Grows s (see_with policy p events limit k s o)
  see_with_grows k s None = grows_not s s refl
  see_with_grows k s (Some x) = look_grows (suc s.left) k x s

  pub see_grows : (k : ℕ) (s : Planning) → Grows s (see policy p events limit k s)
  see_grows k s = see_with_grows k s (picked policy p events limit s.run.machine k)

  pub idle_grows : (n : ℕ) (s : Planning) → Grows s (idle policy p events limit n s)
  idle_grows zero s = grows_not s s refl
  idle_grows (suc n) s =
      let t = go policy p events limit 0 s in
      either_grows (s.stopped || not (any_ready policy p events limit s)) s s (idle policy p events limit n t) (grows_not s s refl)
      (grows_trans s t (idle policy p events limit n t) (go_grows 0 s) (idle_grows n t))

  pub apply_grows : (ch : Choice) (s : Planning) → Grows s (apply policy p events limit ch s)
  apply_grows (choice.Go k n) s = repeated_grows n (go policy p events limit k) (go_grows k) s
  apply_grows (choice.See k n) s = repeated_grows n (see policy p events limit k) (see_grows k) s
  apply_grows (choice.Ev n) s = repeated_grows n (enter policy p events limit) enter_grows s
  apply_grows choice.Idle s = idle_grows (suc s.left) s

  pub unchosen_grows : (s : Planning) → Grows s (unchosen policy p events limit s)
  unchosen_grows s =
      let k = policy.otherwise (limit - s.left) in
      either_grows (any_ready policy p events limit s) s (go policy p events limit k s) (enter policy p events limit s) (go_grows k s) (enter_grows s)

  pub to_end_grows : (n : ℕ) (s : Planning) → Grows s (to_end policy p events limit n s)
  to_end_grows zero s = grows_not s s refl
  to_end_grows (suc n) s =
      let t = unchosen policy p events limit s in
      either_grows (has_ended policy p events limit s) s s (to_end policy p events limit n t) (grows_not s s refl)
      (grows_trans s t (to_end policy p events limit n t) (unchosen_grows s) (to_end_grows n t))

  pub choose_grows : (cs : List Choice) (s : Planning) → Grows s (choose policy p events limit cs s)
  choose_grows [] s = to_end_grows (turns_left policy p events limit s) s
  choose_grows (c ∷ cs) s =
      let t = apply policy p events limit c s in
      either_grows (has_ended policy p events limit s) s s (choose policy p events limit cs t) (grows_not s s refl)
      (grows_trans s t (choose policy p events limit cs t) (apply_grows c s) (choose_grows cs t))

  -- ---- a plan that has stopped stays

  halted : (s : Planning) → s.stopped ≡ true → record s { stopped = true } ≡ s
  halted s e = ap (λ b. record s { stopped = b }) (sym e)

  pub instruct_stays : (k x : ℕ) (s : Planning) → s.stopped ≡ true → s.left ≡ 0 → instruct policy p events limit k x s s.left ≡ s
  instruct_stays k x s e f = ap (instruct policy p events limit k x s) f ∙ halted s e

  go_with_stays : (k : ℕ) (s : Planning) (o : Option ℕ) → s.stopped ≡ true → s.left ≡ 0 → go_with policy p events limit k s o ≡ s
  go_with_stays k s None e f = refl
  go_with_stays k s (Some x) e f = instruct_stays k x s e f

  pub go_stays : (k : ℕ) (s : Planning) → s.stopped ≡ true → s.left ≡ 0 → go policy p events limit k s ≡ s
  go_stays k s e f = go_with_stays k s (picked policy p events limit s.run.machine k) e f

  look_stays : (n k x : ℕ) (s : Planning) → s.stopped ≡ true → s.left ≡ 0 → look policy p events limit (suc n) k x s ≡ s
  look_stays n k x s e f =
      let t = instruct policy p events limit k x s s.left in
      let same : t ≡ s = instruct_stays k x s e f in
      if_true (is_seen policy p events limit x s t) t (look policy p events limit n k x t)
      (first_true t.stopped (is_visible (next_does p s.run.machine x) || not (is_ready (standing p events t.run.machine x))) (ap (λ u. u.stopped) same ∙ e))
      ∙ same

  see_with_stays : (k : ℕ) (s : Planning) (o : Option ℕ) → s.stopped ≡ true → s.left ≡ 0 → see_with policy p events limit k s o ≡ s
  see_with_stays k s None e f = refl
  see_with_stays k s (Some x) e f = look_stays s.left k x s e f

  pub see_stays : (k : ℕ) (s : Planning) → s.stopped ≡ true → s.left ≡ 0 → see policy p events limit k s ≡ s
  see_stays k s e f = see_with_stays k s (picked policy p events limit s.run.machine k) e f

  pub idle_stays : (n : ℕ) (s : Planning) → s.stopped ≡ true → idle policy p events limit n s ≡ s
  idle_stays zero s e = refl
  idle_stays (suc n) s e =
      if_true (s.stopped || not (any_ready policy p events limit s)) s (idle policy p events limit n (go policy p events limit 0 s)) (first_true s.stopped (not (any_ready policy p events limit s)) e)

  pub to_end_stays : (n : ℕ) (s : Planning) → has_ended policy p events limit s ≡ true → to_end policy p events limit n s ≡ s
  to_end_stays zero s e = refl
  to_end_stays (suc n) s e = if_true (has_ended policy p events limit s) s (to_end policy p events limit n (unchosen policy p events limit s)) e

  pub choose_stays : (cs : List Choice) (s : Planning) → has_ended policy p events limit s ≡ true → choose policy p events limit cs s ≡ s
  choose_stays [] s e = to_end_stays (turns_left policy p events limit s) s e
  choose_stays (c ∷ cs) s e = if_true (has_ended policy p events limit s) s (choose policy p events limit cs (apply policy p events limit c s)) e

  pub stopped_ends : (s : Planning) → s.stopped ≡ true → has_ended policy p events limit s ≡ true
  stopped_ends s e = first_true s.stopped (is_finished p events s.run.machine) e

  pub finished_ends : (s : Planning) → is_finished p events s.run.machine ≡ true → has_ended policy p events limit s ≡ true
  finished_ends s e = second_true s.stopped (is_finished p events s.run.machine) e

  pub not_ended : (s : Planning) → s.stopped ≡ false → is_finished p events s.run.machine ≡ false → has_ended policy p events limit s ≡ false
  not_ended s e f = both_false s.stopped (is_finished p events s.run.machine) e f

  -- ---- a part that changes nothing is not repeated

  pub idle_rests : (n : ℕ) (s : Planning) → go policy p events limit 0 s ≡ s → idle policy p events limit n s ≡ s
  idle_rests zero s e = refl
  idle_rests (suc n) s e =
      if_same (s.stopped || not (any_ready policy p events limit s)) s (idle policy p events limit n (go policy p events limit 0 s)) (ap (idle policy p events limit n) e ∙ idle_rests n s e)

  pub to_end_rests : (n : ℕ) (s : Planning) → unchosen policy p events limit s ≡ s → to_end policy p events limit n s ≡ s
  to_end_rests zero s e = refl
  to_end_rests (suc n) s e =
      if_same (has_ended policy p events limit s) s (to_end policy p events limit n (unchosen policy p events limit s)) (ap (to_end policy p events limit n) e ∙ to_end_rests n s e)

  -- ---- one part more

  pub idle_goes : (n : ℕ) (s : Planning) → s.stopped ≡ false → any_ready policy p events limit s ≡ true → idle policy p events limit (suc n) s ≡ idle policy p events limit n (go policy p events limit 0 s)
  idle_goes n s e f =
      if_false (s.stopped || not (any_ready policy p events limit s)) s (idle policy p events limit n (go policy p events limit 0 s))
      (both_false s.stopped (not (any_ready policy p events limit s)) e (ap not f))

  pub to_end_goes : (n : ℕ) (s : Planning) → s.stopped ≡ false → is_finished p events s.run.machine ≡ false → to_end policy p events limit (suc n) s ≡ to_end policy p events limit n (unchosen policy p events limit s)
  to_end_goes n s e f = if_false (has_ended policy p events limit s) s (to_end policy p events limit n (unchosen policy p events limit s)) (not_ended s e f)

  pub choose_goes : (c : Choice) (cs : List Choice) (s : Planning) → s.stopped ≡ false → is_finished p events s.run.machine ≡ false → choose policy p events limit (c ∷ cs) s ≡ choose policy p events limit cs (apply policy p events limit c s)
  choose_goes c cs s e f = if_false (has_ended policy p events limit s) s (choose policy p events limit cs (apply policy p events limit c s)) (not_ended s e f)

  pub unchosen_goes : (s : Planning) → any_ready policy p events limit s ≡ true → unchosen policy p events limit s ≡ go policy p events limit (policy.otherwise (limit - s.left)) s
  unchosen_goes s e = if_true (any_ready policy p events limit s) (go policy p events limit (policy.otherwise (limit - s.left)) s) (enter policy p events limit s) e

  pub unchosen_enters : (s : Planning) → any_ready policy p events limit s ≡ false → unchosen policy p events limit s ≡ enter policy p events limit s
  unchosen_enters s e = if_false (any_ready policy p events limit s) (go policy p events limit (policy.otherwise (limit - s.left)) s) (enter policy p events limit s) e

  -- a `see` that has ended with this instruction, and one that goes on
  pub look_ends : (n k x : ℕ) (s t : Planning) → instruct policy p events limit k x s s.left ≡ t → is_seen policy p events limit x s t ≡ true → look policy p events limit (suc n) k x s ≡ t
  look_ends n k x s t e f =
      let u = instruct policy p events limit k x s s.left in
      if_true (is_seen policy p events limit x s u) u (look policy p events limit n k x u) (ap (is_seen policy p events limit x s) e ∙ f) ∙ e

  pub look_goes : (n k x : ℕ) (s t : Planning) → instruct policy p events limit k x s s.left ≡ t → is_seen policy p events limit x s t ≡ false → look policy p events limit (suc n) k x s ≡ look policy p events limit n k x t
  look_goes n k x s t e f =
      let u = instruct policy p events limit k x s s.left in
      if_false (is_seen policy p events limit x s u) u (look policy p events limit n k x u) (ap (is_seen policy p events limit x s) e ∙ f) ∙ ap (look policy p events limit n k x) e

  -- what the first instruction of a `see` leads to
  pub look_after : (n k x : ℕ) (s : Planning) → Grows (instruct policy p events limit k x s s.left) (look policy p events limit (suc n) k x s)
  look_after n k x s =
      let t = instruct policy p events limit k x s s.left in
      either_grows (is_seen policy p events limit x s t) t t (look policy p events limit n k x t) (grows_not t t refl) (look_grows n k x t)

  see_with_after : (k : ℕ) (s : Planning) (o : Option ℕ) → Grows (go_with policy p events limit k s o) (see_with policy p events limit k s o)
  see_with_after k s None = grows_not s s refl
  see_with_after k s (Some x) = look_after s.left k x s

  pub see_after : (k : ℕ) (s : Planning) → Grows (go policy p events limit k s) (see policy p events limit k s)
  see_after k s = see_with_after k s (picked policy p events limit s.run.machine k)

  look_rests : (n k x : ℕ) (s : Planning) → instruct policy p events limit k x s s.left ≡ s → look policy p events limit n k x s ≡ s
  look_rests zero k x s e = refl
  look_rests (suc n) k x s e =
      let t = instruct policy p events limit k x s s.left in
      let rest : look policy p events limit n k x t ≡ t = ap (look policy p events limit n k x) e ∙ look_rests n k x s e ∙ sym e in
      if_same (is_seen policy p events limit x s t) t (look policy p events limit n k x t) rest ∙ e

  see_with_rests : (k : ℕ) (s : Planning) (o : Option ℕ) → go_with policy p events limit k s o ≡ s → see_with policy p events limit k s o ≡ s
  see_with_rests k s None e = refl
  see_with_rests k s (Some x) e = look_rests (suc s.left) k x s e

  pub see_rests : (k : ℕ) (s : Planning) → go policy p events limit k s ≡ s → see policy p events limit k s ≡ s
  see_rests k s e = see_with_rests k s (picked policy p events limit s.run.machine k) e
