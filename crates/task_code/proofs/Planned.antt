-- A plan is a run: its steps are defined one after another, and no more instructions than the limit.
use Rattle.std.proofs.Common.{◌≡◌, ◌∙◌, ℕ, zero, suc, ◌+◌, Bool, true, false, ◌||◌, not, ◌-◌, List, [], ◌∷◌, ◌++◌, map, Option, Some, None, refl, sym, ap, subst, arith}
use Rattle.std.proofs.lemmas.List.{map-append}
use Rattle.std.proofs.lemmas.Option.{none-some}
use Rattle.tower_syntax.specs.declared.event.Choice.{Choice}
use Rattle.tower_syntax.specs.declared.event.Choice.TheVariants as choice
use Rattle.tower_syntax.specs.Arch.{Events}
use Rattle.task_code.specs.Program.{Program}
use Rattle.task_code.specs.Run.{Run, Step, Turn, Event, step, steps_from, first_run, reached}
use Rattle.task_code.specs.Policy.{Policy}
use Rattle.task_code.specs.Plan.{Planned, goes, comes, step_of, instructions, Planning, repeated, picked, stepped, instruct, entered, enter, go_with, go, is_seen, look, see_with, see, any_ready, idle, apply, has_ended, unchosen, to_end, turns_left, choose, plan}

steps_on : (p : Program) (events : Events) (o : Option Run) (zs : List Step) (z : Step) (r r' : Run) → steps_from p events o zs ≡ Some r → step p events r z ≡ Some r' → steps_from p events o (zs ++ z ∷ []) ≡ Some r'
steps_on p events o [] z r r' e h = subst (λ o. steps_from p events o (z ∷ []) ≡ Some r') (sym e) h
steps_on p events None (y ∷ zs) z r r' e h = absurd (none-some r e)
steps_on p events (Some q) (y ∷ zs) z r r' e h = steps_on p events (step p events q y) zs z r r' e h

instructions_on : (zs : List Planned) (z : Planned) → instructions (zs ++ z ∷ []) ≡ instructions zs + instructions (z ∷ [])
instructions_on [] z = omega arith
instructions_on (goes k x ∷ zs) z = omega (arith, instructions_on zs z)
instructions_on (comes ∷ zs) z = instructions_on zs z

module _ (policy : Policy) (p : Program) (events : Events) (limit : ℕ) where
  pub record IsPlanned (s : Planning) : Type 0 where
    pub reaches : reached p events (map step_of s.steps) ≡ Some s.run
    pub counts : instructions s.steps + s.left ≡ limit

  abbrev Keeps : (Planning → Planning) → Type 0
  Keeps f = (s : Planning) → IsPlanned s → IsPlanned (f s)

  either : (b : Bool) (u v : Planning) → IsPlanned u → IsPlanned v → IsPlanned (elim b [ true ↦ u | false ↦ v ])
  either true u v h g = h
  either false u v h g = g

  repeated_keeps : (n : ℕ) (f : Planning → Planning) → Keeps f → Keeps (repeated n f)
  repeated_keeps zero f k s h = h
  repeated_keeps (suc n) f k s h = repeated_keeps n f k (f s) (k s h)

  on_by : (s : Planning) (z : Planned) (r : Run) → IsPlanned s → step p events s.run (step_of z) ≡ Some r → reached p events (map step_of (s.steps ++ z ∷ [])) ≡ Some r
  on_by s z r h e = ap (reached p events) (map-append step_of s.steps (z ∷ [])) ∙ steps_on p events (Some (first_run p events)) (map step_of s.steps) (step_of z) s.run r h.reaches e

  stepped_keeps : (k x : ℕ) (s : Planning) (left : ℕ) (o : Option Run) → s.left ≡ suc left → step p events s.run (Turn x) ≡ o → IsPlanned s → IsPlanned (stepped policy p events limit k x s left o)
  stepped_keeps k x s left None l e h = h
  stepped_keeps k x s left (Some r) l e h = record { reaches = on_by s (goes k x) r h e; counts = omega (arith, l, h.counts, instructions_on s.steps (goes k x)) }

  instruct_keeps : (k x : ℕ) (s : Planning) (left : ℕ) → s.left ≡ left → IsPlanned s → IsPlanned (instruct policy p events limit k x s left)
  instruct_keeps k x s zero l h = record { reaches = h.reaches; counts = h.counts }
  instruct_keeps k x s (suc left) l h = stepped_keeps k x s left (step p events s.run (Turn x)) l refl h

  entered_keeps : (s : Planning) (o : Option Run) → step p events s.run Event ≡ o → IsPlanned s → IsPlanned (entered policy p events limit s o)
  entered_keeps s None e h = h
  entered_keeps s (Some r) e h = record { reaches = on_by s comes r h e; counts = omega (arith, h.counts, instructions_on s.steps comes) }

  enter_keeps : Keeps (enter policy p events limit)
  enter_keeps s h = entered_keeps s (step p events s.run Event) refl h

  go_with_keeps : (k : ℕ) (s : Planning) (o : Option ℕ) → IsPlanned s → IsPlanned (go_with policy p events limit k s o)
  go_with_keeps k s None h = h
  go_with_keeps k s (Some x) h = instruct_keeps k x s s.left refl h

  go_keeps : (k : ℕ) → Keeps (go policy p events limit k)
  go_keeps k s h = go_with_keeps k s (picked policy p events limit s.run.machine k) h

  look_keeps : (n k x : ℕ) → Keeps (look policy p events limit n k x)
  look_keeps zero k x s h = h
  look_keeps (suc n) k x s h =
      let t : Planning = instruct policy p events limit k x s s.left in
      let g : IsPlanned t = instruct_keeps k x s s.left refl h in
      either (is_seen policy p events limit x s t) t (look policy p events limit n k x t) g (look_keeps n k x t g)

  see_with_keeps : (k : ℕ) (s : Planning) (o : Option ℕ) → IsPlanned s → IsPlanned (see_with policy p events limit k s o)
  see_with_keeps k s None h = h
  see_with_keeps k s (Some x) h = look_keeps (suc s.left) k x s h

  see_keeps : (k : ℕ) → Keeps (see policy p events limit k)
  see_keeps k s h = see_with_keeps k s (picked policy p events limit s.run.machine k) h

  idle_keeps : (n : ℕ) → Keeps (idle policy p events limit n)
  idle_keeps zero s h = h
  idle_keeps (suc n) s h =
      let t : Planning = go policy p events limit 0 s in
      either (s.stopped || not (any_ready policy p events limit s)) s (idle policy p events limit n t) h (idle_keeps n t (go_keeps 0 s h))

  apply_keeps : (c : Choice) → Keeps (apply policy p events limit c)
  apply_keeps (choice.Go k n) s h = repeated_keeps n (go policy p events limit k) (go_keeps k) s h
  apply_keeps (choice.See k n) s h = repeated_keeps n (see policy p events limit k) (see_keeps k) s h
  apply_keeps (choice.Ev n) s h = repeated_keeps n (enter policy p events limit) enter_keeps s h
  apply_keeps choice.Idle s h = idle_keeps (suc s.left) s h

  unchosen_keeps : Keeps (unchosen policy p events limit)
  unchosen_keeps s h =
      either (any_ready policy p events limit s) (go policy p events limit (policy.otherwise (limit - s.left)) s) (enter policy p events limit s)
      (go_keeps (policy.otherwise (limit - s.left)) s h) (enter_keeps s h)

  to_end_keeps : (n : ℕ) → Keeps (to_end policy p events limit n)
  to_end_keeps zero s h = h
  to_end_keeps (suc n) s h =
      let t : Planning = unchosen policy p events limit s in
      either (has_ended policy p events limit s) s (to_end policy p events limit n t) h (to_end_keeps n t (unchosen_keeps s h))

  choose_keeps : (cs : List Choice) → Keeps (choose policy p events limit cs)
  choose_keeps [] s h = to_end_keeps (turns_left policy p events limit s) s h
  choose_keeps (c ∷ cs) s h =
      let t : Planning = apply policy p events limit c s in
      either (has_ended policy p events limit s) s (choose policy p events limit cs t) h (choose_keeps cs t (apply_keeps c s h))

pub planned : (policy : Policy) (p : Program) (events : Events) (choices : List Choice) (limit : ℕ) → IsPlanned policy p events limit (plan policy p events choices limit)
planned policy p events choices limit =
    choose_keeps policy p events limit choices (record { run = first_run p events; steps = []; left = limit; stopped = false }) (record { reaches = refl; counts = omega arith })
