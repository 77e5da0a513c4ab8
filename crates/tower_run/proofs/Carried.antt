-- The turns of a run: what each carries out.
use Rattle.std.proofs.Common.{◌≡◌, ◌<◌, ◌≤◌, ◌+◌, ◌-◌, ℕ, zero, suc, List, [], ◌∷◌, length, Option, Some, None, Bool, true, false, ◌&&◌, ◌||◌, not, refl, sym, ap, ◌∙◌, subst, arith, slice_get, slice_index, is_some, cond, drop, slice_index_or, IfSome, ◌^◌}
use Rattle.std.specs.List.{list_any}
use Rattle.std.proofs.lemmas.Option.{same_Some, none-some, slice_get_within}
use Rattle.std.proofs.lemmas.List.{length-map}
use Rattle.tower_syntax.specs.declared.event.Choice.{Choice}
use Rattle.tower_syntax.specs.declared.event.Choice.TheVariants as choice
use Rattle.tower_syntax.specs.declared.event.Mark.{Mark}
use Rattle.tower_syntax.specs.declared.event.Mark.TheVariants as mark
use Rattle.tower_syntax.specs.Arch.{Entry}
use Rattle.tower_syntax.specs.View.{events_of}
use Rattle.task_code.specs.Machine.{Machine, next_does}
use Rattle.task_code.specs.Standing.{is_ready, standing, is_finished}
use Rattle.task_code.specs.Run.{is_visible}
use Rattle.task_code.specs.Policy.{priorities}
use Rattle.task_code.specs.Plan as plan
use Rattle.task_code.specs.Plan.{Planning, picked, is_seen, repeated}
use Rattle.task_machine.specs.State.{State, ready, holds, does_next, standing_in, next_entry, arrived, turned}
use Rattle.tower_run.specs.declared.going.Job.{Job}
use Rattle.tower_run.specs.declared.going.Going.{Going}
use Rattle.tower_run.specs.declared.going.Turn.{Turn}
use Rattle.tower_run.specs.declared.going.Turn.TheVariants as turn
use Rattle.tower_run.specs.Paging.{HasPut, HasFailed}
use Rattle.tower_run.specs.Waiting.{is_named_waiting}
use Rattle.tower_run.specs.Counted.{counted_on}
use Rattle.tower_run.specs.Scheduler.{priorities_of, monitors_of, names_by, otherwise_by, cores_by, core_by, scheduler_is_lawful, HasReady}
use Rattle.tower_run.specs.Going.{Course, course_of, by, begun, shown, cored, Part, going_with, going, going_on, looking, seeing, entering, idling, unchosen, ending, once, repeating, applying, choosing, most_turns, NeverStops, NeverPasses, MayStop, Tells, Told, Carries, IsGoing, Shows, Stepped, HasStepped, IsReadyTurn, IsLeftTurn, IsOneTurn, turn_of_put, due_of, task_where, task_left}
use Rattle.tower_run.proofs.Plans.{Grows, grows_not, see_rests, go_stays, see_stays, go_grows, see_grows, enter_grows, repeated_same, repeated_split, repeated_grows, choose_stays, choose_goes, choose_grows, finished_ends, first_true, look_ends, look_goes, look_after, see_after, idle_stays, idle_rests, idle_goes, idle_grows, unchosen_goes, unchosen_enters, to_end_stays, to_end_rests, to_end_goes, to_end_grows, stopped_ends}
use Rattle.tower_run.proofs.Ready.{Stepping, after_place, received_place, named_if_any, none_named, any_at, any_ready, ready_at, is_ready_only, unfinished_entry}
use Rattle.tower_run.proofs.Steps.{failed_grows, told_step, left_none, does_here, then_planned, part_is, makes, entered_planned, enters_none, enters, makes_entry}
use Rattle.tower_run.proofs.Waited.{one_if, counted_few, waits_few}
use Rattle.tower_run.proofs.Cored.{counts_length, counts_few}
use Rattle.task_code.specs.Tally.{waits}
use Rattle.tower_io.specs.declared.answers.Put.{Put}
use Rattle.tower_io.specs.declared.answers.Put.TheVariants as put

-- the plan from here on is that from the start on
abbrev pub SoFar : {S : Type 0} → (S → Option (List ℕ)) → (S → ℕ) → Part → Part → Job → Going → S → Going → S → Type 0
SoFar {S} w f part other j r0 o0 r o =
    (c : Course) (s : Planning) (first : S) → Tells w f c s false first j r0 o0 → (t : Planning) × Tells w f c t false first j r o × (part c t ≡ other c s)

not_both : (b : Bool) → b ≡ true → b ≡ false → ⊥
not_both b e f = cc

pub stopped_not_went : turn.Stopped ≡ turn.Went → ⊥
stopped_not_went e = cc

pub stopped_not_passed : turn.Stopped ≡ turn.Passed → ⊥
stopped_not_passed e = cc

pub failed_not_went : turn.Failed ≡ turn.Went → ⊥
failed_not_went e = cc

pub failed_not_passed : turn.Failed ≡ turn.Passed → ⊥
failed_not_passed e = cc

pub went_not_passed : turn.Went ≡ turn.Passed → ⊥
went_not_passed e = cc

-- an element, and those behind it
pub drop_is : (xs : List Choice) (i : ℕ) (d : Choice) → i < length xs → drop i xs ≡ slice_index_or xs i d ∷ drop (i + 1) xs
drop_is [] i d h = absurd (omega arith)
drop_is (x ∷ xs) zero d h = let e : 0 + 1 ≡ 1 = omega arith in ap (λ n. x ∷ drop n (x ∷ xs)) (sym e)
drop_is (x ∷ xs) (suc i) d h =
    let e : suc i + 1 ≡ suc (i + 1) = omega arith in
    let less : i < length xs = omega arith in
    drop_is xs i d less ∙ ap (λ n. slice_index_or xs i d ∷ drop n (x ∷ xs)) (sym e)

-- none are left
pub drop_none : (xs : List Choice) (i : ℕ) → length xs ≤ i → drop i xs ≡ []
drop_none [] zero h = refl
drop_none [] (suc i) h = refl
drop_none (x ∷ xs) zero h = absurd (omega arith)
drop_none (x ∷ xs) (suc i) h = drop_none xs i (omega arith)

-- where a task is ready, the turn is not passed over
pub passed_not_ready : (bs : List Bool) (x : ℕ) → slice_get bs x ≡ Some true → list_any (λ b. b) bs ≡ false → ⊥
passed_not_ready bs x e h = not_both (list_any (λ b. b) bs) (any_at bs x e) h

pub never_passed : (t : Turn) → NeverPasses t → t ≡ turn.Passed → ⊥
never_passed t h e = subst NeverPasses e h

-- the instruction that task x executed
pub stepped_here : (x : ℕ) (r r' : Going) → HasStepped (Some x) r r' turn.Went → Stepped x r r'
stepped_here x r r' h =
    let is : h.0 ≡ x = same_Some h.0 x (sym h.1) in
    subst (λ y. Stepped y r r') is h.2

-- functions that are alike, repeated
repeated_alike : (n : ℕ) (f g : Planning → Planning) → ((s : Planning) → f s ≡ g s) → (s : Planning) → repeated n f s ≡ repeated n g s
repeated_alike zero f g e s = refl
repeated_alike (suc n) f g e s = ap (repeated n f) (e s) ∙ repeated_alike n f g e (g s)

module _ {S : Type 0} (w : S → Option (List ℕ)) (f : S → ℕ) where
  -- ---- the same run

  -- a run that differs in the place for its tasks only
  pub tells_same : (c : Course) (s : Planning) (b : Bool) (first : S) (j : Job) (r r' : Going) (o : S) → r' ≡ record r { busy = r'.busy } → length r'.busy.items ≡ length r.busy.items → Tells w f c s b first j r o → Tells w f c s b first j r' o
  tells_same c s b first j r r' o same busy t = record {
    course = ap (course_of j) same ∙ t.course;
    leads = t.leads;
    machine = t.machine ∙ sym (ap (λ (g : Going). g.machine.machine) same);
    stops = t.stops;
    full = t.full;
    count = t.count ∙ sym (ap (λ (g : Going). g.count) same);
    left = ap (λ (g : Going). s.left + g.count) same ∙ t.left;
    waits = t.waits ∙ sym (ap (λ (g : Going). g.waits) same);
    cores = t.cores ∙ sym (ap (λ (g : Going). g.cores.items) same);
    busy = busy ∙ t.busy;
    puts = subst (λ (g : Going). HasPut w f first o g.page.held (shown c s.steps)) (sym same) t.puts;
  }

  -- the same plan, written in another way
  pub tells_plan : (c : Course) (s t : Planning) (b : Bool) (first : S) (j : Job) (r : Going) (o : S) → s ≡ t → Tells w f c s b first j r o → Tells w f c t b first j r o
  tells_plan c s t b first j r o e h = subst (λ u. Tells w f c u b first j r o) e h

  pub told_plan : (c : Course) (s t u : Planning) (first : S) (j : Job) (r : Going) (o : S) (result : Turn) → t ≡ u → Told w f c s t first j r o result → Told w f c s u first j r o result
  told_plan c s t u first j r o result e h = subst (λ v. Told w f c s v first j r o result) e h

  pub carries_part : (part other : Part) (j : Job) (r r' : Going) (o o' : S) (result : Turn) → ((c : Course) (s : Planning) (first : S) → Tells w f c s false first j r o → part c s ≡ other c s) → Carries w f part j r o r' o' result → Carries w f other j r o r' o' result
  carries_part part other j r r' o o' result e h = record { on = λ c s first told. told_plan c s (part c s) (other c s) first j r' o' result (e c s first told) (h.on c s first told) }

  pub carries_result : (part : Part) (j : Job) (r r' : Going) (o o' : S) (result other : Turn) → result ≡ other → Carries w f part j r o r' o' result → Carries w f part j r o r' o' other
  carries_result part j r r' o o' result other e h = subst (λ t. Carries w f part j r o r' o' t) e h

  -- the run goes on after a turn
  pub still_going : (j : Job) (r r' : Going) (o o' : S) → IsGoing w f j r o → ((c : Course) (s : Planning) (first : S) → Tells w f c s false first j r o → (t : Planning) × Tells w f c t false first j r' o') → IsGoing w f j r' o'
  still_going j r r' o o' g h =
      let now = h g.course g.planned g.first g.told in
      record { course = g.course; planned = now.0; first = g.first; job = g.job; told = now.1 }

  pub after_went : (part : Part) (j : Job) (r r' : Going) (o o' : S) → IsGoing w f j r o → Carries w f part j r o r' o' turn.Went → IsGoing w f j r' o'
  after_went part j r r' o o' g h = still_going j r r' o o' g (λ c s first told. (part c s, h.on c s first told))

  pub after_passed : (part : Part) (j : Job) (r r' : Going) (o o' : S) → IsGoing w f j r o → Carries w f part j r o r' o' turn.Passed → IsGoing w f j r' o'
  after_passed part j r r' o o' g h = still_going j r r' o o' g (λ c s first told. (part c s, (h.on c s first told).0))

  -- what is known of the job, in the words of the run
  pub job_rule : (j : Job) (r : Going) (o : S) → IsGoing w f j r o → priorities_of j.rule ≡ priorities r.machine.program
  job_rule j r o g = g.job.rule ∙ ap (λ (d : Course). priorities d.program) (sym g.told.course)

  pub job_tasks : (j : Job) (r : Going) (o : S) → IsGoing w f j r o → j.tasks ≡ length r.machine.program.tasks
  job_tasks j r o g = g.job.tasks ∙ ap (λ (d : Course). length d.program.tasks) (sym g.told.course)

  pub job_monitors : (j : Job) (r : Going) (o : S) → IsGoing w f j r o → IfSome (monitors_of j.rule) (λ n. n ≡ length r.machine.program.monitors)
  job_monitors j r o g = let P : Course → Type 0 = λ d. IfSome (monitors_of j.rule) (λ n. n ≡ length d.program.monitors) in subst P (sym g.told.course) g.job.monitors

  pub job_busy : (j : Job) (r : Going) (o : S) → IsGoing w f j r o → length r.busy.items ≡ length r.machine.program.tasks
  job_busy j r o g = g.told.busy ∙ ap (λ (d : Course). length d.program.tasks) (sym g.told.course)

  -- ---- an instruction

  module _ (j : Job) (r : Going) (o : S) where
    pub advanced : (r2 r' : Going) (o' : S) (k : ℕ) (named : Option ℕ) (m : Option Mark) (n : State) (b : Bool) (core : Option ℕ) (result : Turn)
        → priorities_of j.rule ≡ priorities r.machine.program → (HasReady (ready r.machine) → core ≡ core_by j.rule (ready r.machine) k) → r2.cores.items ≡ counted_on r.cores.items core → Stepping r.machine named m n → r.count < j.limit
        → r2.machine ≡ n → r2.count ≡ r.count + 1 → r2.waits ≡ r.waits + one_if b → b ≡ (j.counts_waits && is_named_waiting j.rule r.machine k) → length r2.busy.items ≡ length r.busy.items → r2.page ≡ r.page
        → Shows w f j.arch.now m r2 o r' o' result → Carries w f (going_with k named) j r o r' o' result
    advanced r2 r' o' k named m n b core result rule is_core is_cores st less is_n is_count is_waits is_b is_busy is_page shows = record {
      on = λ c s first told.
          let made = makes w f c s j r first o told named m n st less k r2 b core rule is_core is_cores is_n is_count is_waits is_b is_busy is_page in
          let planned = then_planned w f c s j r first o told named m n st less k in
          told_plan c s planned (going_with k named c s) first j r' o' result (sym (part_is w f c s j r first o told named m n st less k))
          (told_step w f c s planned (plan.goes k st.task) j r r2 r' m first o o' told made result shows);
    }

    pub not_advanced : (r' : Going) (k : ℕ) (named : Option ℕ) → named ≡ None → r' ≡ record r { busy = r'.busy } → length r'.busy.items ≡ length r.busy.items → Carries w f (going_with k named) j r o r' o turn.Passed
    not_advanced r' k named none same busy = record {
      on = λ c s first told.
          let is : going_with k named c s ≡ s = ap (plan.go_with (by c) c.program c.events c.limit k s) none in
          (tells_plan c s (going_with k named c s) false first j r' o (sym is) (tells_same c s false first j r r' o same busy told), is);
    }

    -- an instruction is due, and the limit is met
    pub has_stopped : (c : Course) (s : Planning) (first : S) → Tells w f c s false first j r o → j.limit ≤ r.count → Tells w f c (record s { stopped = true }) true first j r o
    has_stopped c s first told full = record {
      course = told.course;
      leads = told.leads;
      machine = told.machine;
      stops = refl;
      full = λ e. left_none w f c s j r first o told full;
      count = told.count;
      left = told.left;
      waits = told.waits;
      cores = told.cores;
      busy = told.busy;
      puts = told.puts;
    }

    pub picked_is : (c : Course) (s : Planning) (first : S) → Tells w f c s false first j r o → (k : ℕ)
        → names_by j.rule (ready r.machine) (holds r.machine) k ≡ picked (by c) c.program c.events c.limit s.run.machine k
    picked_is c s first told k =
        ap (λ (d : Course). picked (by d) d.program d.events d.limit r.machine.machine k) told.course
        ∙ ap (λ m. picked (by c) c.program c.events c.limit m k) (sym told.machine)

    pub going_is : (k : ℕ) (c : Course) (s : Planning) (first : S) → Tells w f c s false first j r o → going_with k (names_by j.rule (ready r.machine) (holds r.machine) k) c s ≡ going k c s
    going_is k c s first told = ap (plan.go_with (by c) c.program c.events c.limit k s) (picked_is c s first told k)

    pub go_due : (k : ℕ) (b : Bool) → j.limit ≤ r.count → b ≡ list_any (λ b. b) (ready r.machine) → Carries w f (going k) j r o r o (due_of b)
    go_due k true full any = record {
      on = λ c s first told.
          let x = named_if_any (ready r.machine) (names_by j.rule (ready r.machine) (holds r.machine) k) (scheduler_is_lawful j.rule (ready r.machine) (holds r.machine) k) (sym any) in
          let is : going k c s ≡ record s { stopped = true } =
          ap (plan.go_with (by c) c.program c.events c.limit k s) (sym (picked_is c s first told k) ∙ x.1)
          ∙ ap (plan.instruct (by c) c.program c.events c.limit k x.0 s) (left_none w f c s j r first o told full) in
          tells_plan c (record s { stopped = true }) (going k c s) true first j r o (sym is) (has_stopped c s first told full);
    }
    go_due k false full any = record {
      on = λ c s first told.
          let none = none_named (ready r.machine) (names_by j.rule (ready r.machine) (holds r.machine) k) (scheduler_is_lawful j.rule (ready r.machine) (holds r.machine) k) (sym any) in
          let is : going k c s ≡ s = ap (plan.go_with (by c) c.program c.events c.limit k s) (sym (picked_is c s first told k) ∙ none) in
          (tells_plan c s (going k c s) false first j r o (sym is) told, is);
    }

    pub go_on_due : (k x : ℕ) → j.limit ≤ r.count → Carries w f (going_on k x) j r o r o turn.Stopped
    go_on_due k x full = record {
      on = λ c s first told.
          let is : going_on k x c s ≡ record s { stopped = true } = ap (plan.instruct (by c) c.program c.events c.limit k x s) (left_none w f c s j r first o told full) in
          tells_plan c (record s { stopped = true }) (going_on k x c s) true first j r o (sym is) (has_stopped c s first told full);
    }

  -- ---- an entry

  pub entered : (j : Job) (r r2 r' : Going) (o o' : S) (e : Entry) (n : State) (result : Turn) → next_entry r.machine ≡ Some e → n ≡ arrived r.machine e → r2 ≡ record r { machine = n }
      → Shows w f j.arch.now (Some mark.Arrive) r2 o r' o' result → Carries w f entering j r o r' o' result
  entered j r r2 r' o o' e n result here is same shows = record {
    on = λ c s first told.
        let made = makes_entry w f c s j r first o told e n here is r2 same in
        let planned = entered_planned w f c s j r first o told e n here is in
        told_plan c s planned (entering c s) first j r' o' result (sym (enters w f c s j r first o told e n here is))
        (told_step w f c s planned plan.comes j r r2 r' (Some mark.Arrive) first o o' told made result shows);
  }

  pub not_entered : (j : Job) (r r' : Going) (o : S) → next_entry r.machine ≡ None → r' ≡ r → Carries w f entering j r o r' o turn.Passed
  not_entered j r r' o none same = record {
    on = λ c s first told.
        let is = enters_none w f c s j r first o told none in
        (tells_plan c s (entering c s) false first j r' o (sym is) (subst (λ g. Tells w f c s false first j g o) (sym same) told), is);
  }

  -- ---- a `see`

  -- the instruction that was executed ends the `see`, or does not
  seen_is : (c : Course) (s t : Planning) (first : S) (j : Job) (r r' : Going) (o o' : S) (x : ℕ) → Tells w f c s false first j r o → Tells w f c t false first j r' o' → Stepped x r r' → (b : Option ℕ) → task_left r'.machine ≡ b
      → is_seen (by c) c.program c.events c.limit x s t ≡ not (is_some b)
  seen_is c s t first j r r' o o' x before now stepped b e =
      let d = does_next r.machine x in
      let visible : is_visible (next_does c.program s.run.machine x) ≡ is_visible d = ap is_visible (does_here w f c s j r first o before x) in
      let stands : standing c.program c.events t.run.machine x ≡ standing_in r'.machine x =
      ap (λ m. standing c.program c.events m x) now.machine ∙ ap (λ (d : Course). standing d.program d.events r'.machine.machine x) (sym now.course) in
      ap (λ q. q || (is_visible (next_does c.program s.run.machine x) || not (is_ready (standing c.program c.events t.run.machine x)))) now.stops
      ∙ ap (λ v. v || not (is_ready (standing c.program c.events t.run.machine x))) visible
      ∙ ap (λ st. is_visible d || not (is_ready st)) stands
      ∙ left_of (is_visible d || not (is_ready (standing_in r'.machine x))) (ap (task_where r'.machine) (sym stepped.last) ∙ e)
    where
      left_of : (v : Bool) → cond v None (Some x) ≡ b → v ≡ not (is_some b)
      left_of true h = ap (λ o. not (is_some o)) h
      left_of false h = ap (λ o. not (is_some o)) h

  -- ---- a turn after others

  -- the plan from here on is that from the start on
  pub composed : (part other : Part) (j : Job) (r0 r r' : Going) (o0 o o' : S) (result : Turn) → SoFar w f part other j r0 o0 r o → (result ≡ turn.Passed → ⊥) → Carries w f part j r o r' o' result → Carries w f other j r0 o0 r' o' result
  composed part other j r0 r r' o0 o o' result so_far not_passed h = record {
    on = λ c s first told.
        let now = so_far c s first told in
        by c s now.0 first result not_passed (part c now.0) (other c s) now.2 (h.on c now.0 first now.1);
  }
    where
      by : (c : Course) (s t : Planning) (first : S) (result : Turn) → (result ≡ turn.Passed → ⊥) → (u v : Planning) → u ≡ v → Told w f c t u first j r' o' result → Told w f c s v first j r' o' result
      by c s t first turn.Went not_passed u v e told = tells_plan c u v false first j r' o' e told
      by c s t first turn.Passed not_passed u v e told = absurd (not_passed refl)
      by c s t first turn.Stopped not_passed u v e told = tells_plan c u v true first j r' o' e told
      by c s t first turn.Failed not_passed u v e told = subst (λ p. HasFailed w f first o' (shown c p.steps)) e told

  -- a turn that ends the run carries out what the plan has from here on
  pub ends_so : (part other : Part) (j : Job) (r r' : Going) (o o' : S) (result : Turn) → (result ≡ turn.Went → ⊥) → (result ≡ turn.Passed → ⊥)
      → ((c : Course) (s : Planning) → (part c s).stopped ≡ true → (part c s).left ≡ 0 → other c s ≡ part c s) → ((c : Course) (s : Planning) (first : S) → Tells w f c s false first j r o → Grows (part c s) (other c s))
      → Carries w f part j r o r' o' result → Carries w f other j r o r' o' result
  ends_so part other j r r' o o' turn.Went not_went not_passed stays grows h = absurd (not_went refl)
  ends_so part other j r r' o o' turn.Passed not_went not_passed stays grows h = absurd (not_passed refl)
  ends_so part other j r r' o o' turn.Stopped not_went not_passed stays grows h = record {
    on = λ c s first told.
        let now = h.on c s first told in
        tells_plan c (part c s) (other c s) true first j r' o' (sym (stays c s now.stops (now.full refl))) now;
  }
  ends_so part other j r r' o o' turn.Failed not_went not_passed stays grows h = record {
    on = λ c s first told. failed_grows w f c (part c s) (other c s) first o' (grows c s first told) (h.on c s first told);
  }

  -- a turn that was passed over ends a loop
  pub rests_so : (part other : Part) (j : Job) (r r' : Going) (o o' : S) → ((c : Course) (s : Planning) → part c s ≡ s → other c s ≡ s) → Carries w f part j r o r' o' turn.Passed → Carries w f other j r o r' o' turn.Went
  rests_so part other j r r' o o' rests h = record {
    on = λ c s first told.
        let now = h.on c s first told in
        tells_plan c (part c s) (other c s) false first j r' o' (now.1 ∙ sym (rests c s now.1)) now.0;
  }

  -- ---- how many are left

  pub one_less : (c : Course) (s t : Planning) (first : S) (j : Job) (r r' : Going) (o o' : S) → Tells w f c s false first j r o → Tells w f c t false first j r' o' → r'.count ≡ r.count + 1 → s.left ≡ suc t.left
  one_less c s t first j r r' o o' before now e = omega (arith, before.left, now.left, e)

  -- ---- `see`, as a loop

  look_stays_so : (k x : ℕ) (c : Course) (s : Planning) → (going_on k x c s).stopped ≡ true → (going_on k x c s).left ≡ 0 → looking k x c s ≡ going_on k x c s
  look_stays_so k x c s stopped none =
      let t = going_on k x c s in
      look_ends (by c) c.program c.events c.limit s.left k x s t refl
      (first_true t.stopped (is_visible (next_does c.program s.run.machine x) || not (is_ready (standing c.program c.events t.run.machine x))) stopped)

  pub look_exits : (k x : ℕ) (j : Job) (r r' : Going) (o o' : S) (result : Turn) → (result ≡ turn.Went → ⊥) → (result ≡ turn.Passed → ⊥) → Carries w f (going_on k x) j r o r' o' result → Carries w f (looking k x) j r o r' o' result
  look_exits k x j r r' o o' result not_went not_passed h =
      ends_so (going_on k x) (looking k x) j r r' o o' result not_went not_passed (look_stays_so k x)
      (λ c s first told. look_after (by c) c.program c.events c.limit s.left k x s) h

  module _ (k x : ℕ) (j : Job) (r r' : Going) (o o' : S) (h : Carries w f (going_on k x) j r o r' o' turn.Went) (stepped : Stepped x r r') where
    pub look_is_over : task_left r'.machine ≡ None → Carries w f (looking k x) j r o r' o' turn.Went
    look_is_over e = record {
      on = λ c s first told.
          let now = h.on c s first told in
          let t = going_on k x c s in
          tells_plan c t (looking k x c s) false first j r' o' (sym (look_ends (by c) c.program c.events c.limit s.left k x s t refl (seen_is c s t first j r r' o o' x told now stepped None e))) now;
    }

    pub look_continues : (y : ℕ) → task_left r'.machine ≡ Some y → (c : Course) (s : Planning) (first : S) → Tells w f c s false first j r o → looking k x c (going_on k x c s) ≡ looking k x c s
    look_continues y e c s first told =
        let now = h.on c s first told in
        let t = going_on k x c s in
        let fewer : s.left ≡ suc t.left = one_less c s t first j r r' o o' told now stepped.count in
        sym (look_goes (by c) c.program c.events c.limit s.left k x s t refl (seen_is c s t first j r r' o o' x told now stepped (Some y) e)
        ∙ ap (λ n. plan.look (by c) c.program c.events c.limit n k x t) fewer)

  -- the task that a `see` goes on with is ready, and that of the step
  left_by : (v b : Bool) (x y : ℕ) → cond (v || not b) None (Some x) ≡ Some y → (x ≡ y) × (b ≡ true)
  left_by true b x y e = absurd (none-some y e)
  left_by false true x y e = (same_Some x y e, refl)
  left_by false false x y e = absurd (none-some y e)

  pub left_is : (x y : ℕ) (r r' : Going) → Stepped x r r' → task_left r'.machine ≡ Some y → (x ≡ y) × (slice_get (ready r'.machine) x ≡ Some true)
  left_is x y r r' stepped e =
      let two = left_by (is_visible (does_next r.machine x)) (is_ready (standing_in r'.machine x)) x y (sym (ap (task_where r'.machine) stepped.last) ∙ e) in
      (two.0, ready_at r'.machine x (is_ready_only (standing_in r'.machine x) two.1))

  see_stays_so : (k : ℕ) (c : Course) (s : Planning) (o : Option ℕ) → (going_with k o c s).stopped ≡ true → (going_with k o c s).left ≡ 0 → plan.see_with (by c) c.program c.events c.limit k s o ≡ going_with k o c s
  see_stays_so k c s None stopped none = refl
  see_stays_so k c s (Some x) stopped none = look_stays_so k x c s stopped none

  pub see_exits : (k : ℕ) (j : Job) (r r' : Going) (o o' : S) (result : Turn) → (result ≡ turn.Went → ⊥) → (result ≡ turn.Passed → ⊥) → Carries w f (going k) j r o r' o' result → Carries w f (seeing k) j r o r' o' result
  see_exits k j r r' o o' result not_went not_passed h =
      ends_so (going k) (seeing k) j r r' o o' result not_went not_passed (λ c s. see_stays_so k c s (picked (by c) c.program c.events c.limit s.run.machine k))
      (λ c s first told. see_after (by c) c.program c.events c.limit k s) h

  -- a turn that was passed over, in place of another that then is too
  pub passes_so : (part other : Part) (j : Job) (r r' : Going) (o o' : S) → ((c : Course) (s : Planning) → part c s ≡ s → other c s ≡ s) → Carries w f part j r o r' o' turn.Passed → Carries w f other j r o r' o' turn.Passed
  passes_so part other j r r' o o' rests h = record {
    on = λ c s first told.
        let now = h.on c s first told in
        let is = rests c s now.1 in
        (tells_plan c (part c s) (other c s) false first j r' o' (now.1 ∙ sym is) now.0, is);
  }

  pub see_passes : (k : ℕ) (j : Job) (r r' : Going) (o o' : S) → Carries w f (going k) j r o r' o' turn.Passed → Carries w f (seeing k) j r o r' o' turn.Passed
  see_passes k j r r' o o' h = passes_so (going k) (seeing k) j r r' o o' (λ c s e. see_rests (by c) c.program c.events c.limit k s e) h

  module _ (k x : ℕ) (j : Job) (r r' : Going) (o o' : S) (named : names_by j.rule (ready r.machine) (holds r.machine) k ≡ Some x) (h : Carries w f (going k) j r o r' o' turn.Went) (stepped : Stepped x r r') where
    picks : (c : Course) (s : Planning) (first : S) → Tells w f c s false first j r o → picked (by c) c.program c.events c.limit s.run.machine k ≡ Some x
    picks c s first told = sym (picked_is j r o c s first told k) ∙ named

    goes_so : Carries w f (going_on k x) j r o r' o' turn.Went
    goes_so = carries_part (going k) (going_on k x) j r r' o o' turn.Went (λ c s first told. ap (plan.go_with (by c) c.program c.events c.limit k s) (picks c s first told)) h

    sees_so : (c : Course) (s : Planning) (first : S) → Tells w f c s false first j r o → looking k x c s ≡ seeing k c s
    sees_so c s first told = ap (plan.see_with (by c) c.program c.events c.limit k s) (sym (picks c s first told))

    pub see_is_over : task_left r'.machine ≡ None → Carries w f (seeing k) j r o r' o' turn.Went
    see_is_over e = carries_part (looking k x) (seeing k) j r r' o o' turn.Went sees_so (look_is_over k x j r r' o o' goes_so stepped e)

    pub see_continues : (y : ℕ) → task_left r'.machine ≡ Some y → (r2 : Going) (o2 : S) (result : Turn) → (result ≡ turn.Passed → ⊥) → Carries w f (looking k y) j r' o' r2 o2 result → Carries w f (seeing k) j r o r2 o2 result
    see_continues y e r2 o2 result not_passed next =
        let is : x ≡ y = (left_is x y r r' stepped e).0 in
        composed (looking k x) (seeing k) j r r' r2 o o' o2 result
        (λ c s first told. (going_on k x c s, goes_so.on c s first told, look_continues k x j r r' o o' goes_so stepped y e c s first told ∙ sees_so c s first told))
        not_passed (subst (λ z. Carries w f (looking k z) j r' o' r2 o2 result) (sym is) next)

  -- ---- `idle`

  -- is any task ready, in the words of the plan
  pub any_is : (c : Course) (s : Planning) (first : S) (j : Job) (r : Going) (o : S) → Tells w f c s false first j r o → plan.any_ready (by c) c.program c.events c.limit s ≡ list_any (λ b. b) (ready r.machine)
  any_is c s first j r o told =
      ap (λ m. list_any (λ b. b) (plan.ready (by c) c.program c.events c.limit m)) told.machine
      ∙ ap (λ (d : Course). list_any (λ b. b) (plan.ready (by d) d.program d.events d.limit r.machine.machine)) (sym told.course)

  idle_stays_so : (c : Course) (s : Planning) (first : S) (j : Job) (r : Going) (o : S) → Tells w f c s false first j r o → list_any (λ b. b) (ready r.machine) ≡ true → idling c s ≡ plan.idle (by c) c.program c.events c.limit s.left (going 0 c s)
  idle_stays_so c s first j r o told any = idle_goes (by c) c.program c.events c.limit s.left s told.stops (any_is c s first j r o told ∙ any)

  pub idle_exits : (j : Job) (r r' : Going) (o o' : S) (result : Turn) → (result ≡ turn.Went → ⊥) → (result ≡ turn.Passed → ⊥) → list_any (λ b. b) (ready r.machine) ≡ true → Carries w f (going 0) j r o r' o' result → Carries w f idling j r o r' o' result
  idle_exits j r r' o o' result not_went not_passed any h =
      let moved : Part = λ c s. plan.idle (by c) c.program c.events c.limit s.left (going 0 c s) in
      carries_part moved idling j r r' o o' result (λ c s first told. sym (idle_stays_so c s first j r o told any))
      (ends_so (going 0) moved j r r' o o' result not_went not_passed
      (λ c s stopped none. idle_stays (by c) c.program c.events c.limit s.left (going 0 c s) stopped)
      (λ c s first told. idle_grows (by c) c.program c.events c.limit s.left (going 0 c s)) h)

  pub idle_ends : (j : Job) (r r' : Going) (o o' : S) → Carries w f (going 0) j r o r' o' turn.Passed → Carries w f idling j r o r' o' turn.Went
  idle_ends j r r' o o' h = rests_so (going 0) idling j r r' o o' (λ c s e. idle_rests (by c) c.program c.events c.limit (suc s.left) s e) h

  pub idle_continues : (x : ℕ) (j : Job) (r r' : Going) (o o' : S) → Stepped x r r' → Carries w f (going 0) j r o r' o' turn.Went → (c : Course) (s : Planning) (first : S) → Tells w f c s false first j r o → idling c (going 0 c s) ≡ idling c s
  idle_continues x j r r' o o' stepped h c s first told =
      let now = h.on c s first told in
      let fewer : s.left ≡ suc (going 0 c s).left = one_less c s (going 0 c s) first j r r' o o' told now stepped.count in
      sym (idle_stays_so c s first j r o told (any_ready r.machine x stepped.stands) ∙ ap (λ n. plan.idle (by c) c.program c.events c.limit n (going 0 c s)) fewer)

  -- ---- where no choice is left

  finished_is : (c : Course) (s : Planning) (first : S) (j : Job) (r : Going) (o : S) → Tells w f c s false first j r o → is_finished c.program c.events s.run.machine ≡ is_finished r.machine.program (events_of r.machine.events) r.machine.machine
  finished_is c s first j r o told =
      ap (is_finished c.program c.events) told.machine ∙ ap (λ (d : Course). is_finished d.program d.events r.machine.machine) (sym told.course)

  -- the number of the `go`, in the words of the plan
  otherwise_is : (c : Course) (s : Planning) (first : S) (j : Job) (r : Going) (o : S) → Tells w f c s false first j r o → otherwise_by c.rule (c.limit - s.left) ≡ otherwise_by j.rule r.count
  otherwise_is c s first j r o told =
      let count : c.limit - s.left ≡ r.count = omega (arith, told.left) in
      ap (otherwise_by c.rule) count ∙ ap (λ (d : Course). otherwise_by d.rule r.count) (sym told.course)

  -- a task went, where one was ready
  pub unchosen_went : (k : ℕ) (j : Job) (r r' : Going) (o o' : S) (result : Turn) → k ≡ otherwise_by j.rule r.count → list_any (λ b. b) (ready r.machine) ≡ true → Carries w f (going k) j r o r' o' result → Carries w f unchosen j r o r' o' result
  unchosen_went k j r r' o o' result is any h =
      carries_part (going k) unchosen j r r' o o' result
      (λ c s first told. ap (λ n. going n c s) (is ∙ sym (otherwise_is c s first j r o told)) ∙ sym (unchosen_goes (by c) c.program c.events c.limit s (any_is c s first j r o told ∙ any))) h

  -- none was, and an entry comes
  pub unchosen_came : (k : ℕ) (j : Job) (r r' r2 : Going) (o o' o2 : S) (result : Turn) → list_any (λ b. b) (ready r.machine) ≡ false → Carries w f (going k) j r o r' o' turn.Passed → Carries w f entering j r' o' r2 o2 result → Carries w f unchosen j r o r2 o2 result
  unchosen_came k j r r' r2 o o' o2 result none h next = record {
    on = λ c s first told.
        let now = h.on c s first told in
        told_plan c s (entering c s) (unchosen c s) first j r2 o2 result (sym (unchosen_enters (by c) c.program c.events c.limit s (any_is c s first j r o told ∙ none)))
        (next.on c s first (tells_plan c (going k c s) s false first j r' o' now.1 now.0));
  }

  -- what was passed over has changed nothing of the machine
  module _ (part : Part) (j : Job) (r r' : Going) (o o' : S) (g : IsGoing w f j r o) (h : Carries w f part j r o r' o' turn.Passed) where
    same_told : Tells w f g.course g.planned false g.first j r' o'
    same_told = let now = h.on g.course g.planned g.first g.told in tells_plan g.course (part g.course g.planned) g.planned false g.first j r' o' now.1 now.0

    pub same_finished : is_finished r'.machine.program (events_of r'.machine.events) r'.machine.machine ≡ is_finished r.machine.program (events_of r.machine.events) r.machine.machine
    same_finished = sym (finished_is g.course g.planned g.first j r' o' same_told) ∙ finished_is g.course g.planned g.first j r o g.told

    pub same_turns : most_turns j.limit r' ≡ most_turns j.limit r
    same_turns =
        let t = same_told in
        let count : r'.count ≡ r.count = sym t.count ∙ g.told.count in
        let place : r'.machine.machine.place ≡ r.machine.machine.place = ap (λ (m : Machine). m.place) (sym t.machine ∙ g.told.machine) in
        let entries : length (events_of r'.machine.events).entries ≡ length (events_of r.machine.events).entries = ap (λ (d : Course). length d.events.entries) (t.course ∙ sym g.told.course) in
        ap (λ n. (j.limit - n) + (length (events_of r'.machine.events).entries - r'.machine.machine.place)) count
        ∙ ap (λ n. (j.limit - r.count) + (n - r'.machine.machine.place)) entries
        ∙ ap (λ n. (j.limit - r.count) + (length (events_of r.machine.events).entries - n)) place

  -- ---- the end of a run

  turns_is : (c : Course) (s : Planning) (first : S) (j : Job) (r : Going) (o : S) → Tells w f c s false first j r o → plan.turns_left (by c) c.program c.events c.limit s ≡ suc (most_turns j.limit r)
  turns_is c s first j r o told =
      let limit : j.limit ≡ c.limit = ap (λ (d : Course). d.limit) told.course in
      let left : s.left ≡ j.limit - r.count = omega (arith, told.left, limit) in
      let place : s.run.machine.place ≡ r.machine.machine.place = ap (λ (m : Machine). m.place) told.machine in
      let entries : length c.events.entries ≡ length (events_of r.machine.events).entries = ap (λ (d : Course). length d.events.entries) (sym told.course) in
      ap (λ n. suc (n + (length c.events.entries - s.run.machine.place))) left
      ∙ ap (λ n. suc ((j.limit - r.count) + (n - s.run.machine.place))) entries
      ∙ ap (λ n. suc ((j.limit - r.count) + (length (events_of r.machine.events).entries - n))) place

  module _ (j : Job) (r r' : Going) (o o' : S) (unfinished : is_finished r.machine.program (events_of r.machine.events) r.machine.machine ≡ false) where
    ending_is : (c : Course) (s : Planning) (first : S) → Tells w f c s false first j r o → ending c s ≡ plan.to_end (by c) c.program c.events c.limit (most_turns j.limit r) (unchosen c s)
    ending_is c s first told =
        ap (λ n. plan.to_end (by c) c.program c.events c.limit n s) (turns_is c s first j r o told)
        ∙ to_end_goes (by c) c.program c.events c.limit (most_turns j.limit r) s told.stops (finished_is c s first j r o told ∙ unfinished)

    pub finish_exits : (result : Turn) → (result ≡ turn.Went → ⊥) → (result ≡ turn.Passed → ⊥) → Carries w f unchosen j r o r' o' result → Carries w f ending j r o r' o' result
    finish_exits result not_went not_passed h =
        let moved : Part = λ c s. plan.to_end (by c) c.program c.events c.limit (most_turns j.limit r) (unchosen c s) in
        carries_part moved ending j r r' o o' result (λ c s first told. sym (ending_is c s first told))
        (ends_so unchosen moved j r r' o o' result not_went not_passed
        (λ c s stopped none. to_end_stays (by c) c.program c.events c.limit (most_turns j.limit r) (unchosen c s) (stopped_ends (by c) c.program c.events c.limit (unchosen c s) stopped))
        (λ c s first told. to_end_grows (by c) c.program c.events c.limit (most_turns j.limit r) (unchosen c s)) h)

    pub finish_continues : most_turns j.limit r ≡ most_turns j.limit r' + 1 → Carries w f unchosen j r o r' o' turn.Went → (c : Course) (s : Planning) (first : S) → Tells w f c s false first j r o → ending c (unchosen c s) ≡ ending c s
    finish_continues one h c s first told =
        let now = h.on c s first told in
        let fewer : most_turns j.limit r ≡ suc (most_turns j.limit r') = omega (arith, one) in
        ap (λ n. plan.to_end (by c) c.program c.events c.limit n (unchosen c s)) (turns_is c (unchosen c s) first j r' o' now ∙ sym fewer) ∙ sym (ending_is c s first told)

  pub finish_ends : (j : Job) (r r' : Going) (o o' : S) → Carries w f unchosen j r o r' o' turn.Passed → Carries w f ending j r o r' o' turn.Went
  finish_ends j r r' o o' h = rests_so unchosen ending j r r' o o' (λ c s e. to_end_rests (by c) c.program c.events c.limit (plan.turns_left (by c) c.program c.events c.limit s) s e) h

  -- ---- choices

  once_stays : (ch : Choice) (c : Course) (s : Planning) (result : Turn) → MayStop ch result → result ≡ turn.Stopped → s.stopped ≡ true → s.left ≡ 0 → once ch c s ≡ s
  once_stays (choice.Go k n) c s result may is e g = go_stays (by c) c.program c.events c.limit k s e g
  once_stays (choice.See k n) c s result may is e g = see_stays (by c) c.program c.events c.limit k s e g
  once_stays (choice.Ev n) c s result may is e g = absurd (subst NeverStops is may)
  once_stays choice.Idle c s result may is e g = refl

  once_grows : (ch : Choice) (c : Course) (s : Planning) → Grows s (once ch c s)
  once_grows (choice.Go k n) c s = go_grows (by c) c.program c.events c.limit k s
  once_grows (choice.See k n) c s = see_grows (by c) c.program c.events c.limit k s
  once_grows (choice.Ev n) c s = enter_grows (by c) c.program c.events c.limit s
  once_grows choice.Idle c s = grows_not s s refl

  -- m of the repeats are done, and with this one more the run has ended
  pub repeat_exits : (ch : Choice) (m n : ℕ) (j : Job) (r r' : Going) (o o' : S) (result : Turn) → m < n → MayStop ch result → (result ≡ turn.Went → ⊥) → (result ≡ turn.Passed → ⊥) → Carries w f (once ch) j r o r' o' result → Carries w f (repeating (n - m) ch) j r o r' o' result
  repeat_exits ch m n j r r' o o' turn.Went less may not_went not_passed h = absurd (not_went refl)
  repeat_exits ch m n j r r' o o' turn.Passed less may not_went not_passed h = absurd (not_passed refl)
  repeat_exits ch m n j r r' o o' turn.Stopped less may not_went not_passed h =
      let k = n - m - 1 in
      let is : n - m ≡ suc k = omega (arith, less) in
      let moved : Part = λ c s. repeated k (once ch c) (once ch c s) in
      carries_part moved (repeating (n - m) ch) j r r' o o' turn.Stopped (λ c s first told. sym (ap (λ i. repeated i (once ch c) s) is))
      (ends_so (once ch) moved j r r' o o' turn.Stopped not_went not_passed
      (λ c s stopped none. repeated_same k (once ch c) (once ch c s) (once_stays ch c (once ch c s) turn.Stopped may refl stopped none))
      (λ c s first told. repeated_grows k (once ch c) (once_grows ch c) (once ch c s)) h)
  repeat_exits ch m n j r r' o o' turn.Failed less may not_went not_passed h =
      let k = n - m - 1 in
      let is : n - m ≡ suc k = omega (arith, less) in
      record {
        on = λ c s first told.
            failed_grows w f c (once ch c s) (repeating (n - m) ch c s) first o'
            (subst (Grows (once ch c s)) (sym (ap (λ i. repeated i (once ch c) s) is)) (repeated_grows k (once ch c) (once_grows ch c) (once ch c s))) (h.on c s first told);
      }

  pub repeat_rests : (ch : Choice) (n : ℕ) (j : Job) (r r' : Going) (o o' : S) → Carries w f (once ch) j r o r' o' turn.Passed → Carries w f (repeating n ch) j r o r' o' turn.Went
  repeat_rests ch n j r r' o o' h = rests_so (once ch) (repeating n ch) j r r' o o' (λ c s e. repeated_same n (once ch c) s e) h

  -- the repeats that are left, behind m of them
  pub repeats_left : (ch : Choice) (m n : ℕ) (c : Course) (s : Planning) → m ≤ n → repeating (n - m) ch c (repeated m (once ch c) s) ≡ repeating n ch c s
  repeats_left ch m n c s h =
      let is : n ≡ m + (n - m) = omega (arith, h) in
      sym (ap (λ i. repeated i (once ch c) s) is ∙ repeated_split m (n - m) (once ch c) s)

  module _ (ch : Choice) (cs : List Choice) (j : Job) (r r' : Going) (o o' : S) where
    pub choose_ends : is_finished r.machine.program (events_of r.machine.events) r.machine.machine ≡ true → Carries w f (choosing cs) j r o r o turn.Went
    choose_ends finished = record {
      on = λ c s first told.
          tells_plan c s (choosing cs c s) false first j r o
          (sym (choose_stays (by c) c.program c.events c.limit cs s (finished_ends (by c) c.program c.events c.limit s (finished_is c s first j r o told ∙ finished)))) told;
    }

    module _ (unfinished : is_finished r.machine.program (events_of r.machine.events) r.machine.machine ≡ false) where
      pub choosing_is : (c : Course) (s : Planning) (first : S) → Tells w f c s false first j r o → choosing cs c (applying ch c s) ≡ choosing (ch ∷ cs) c s
      choosing_is c s first told = sym (choose_goes (by c) c.program c.events c.limit ch cs s told.stops (finished_is c s first j r o told ∙ unfinished))

      pub choose_exits : (result : Turn) → (result ≡ turn.Went → ⊥) → (result ≡ turn.Passed → ⊥) → Carries w f (applying ch) j r o r' o' result → Carries w f (choosing (ch ∷ cs)) j r o r' o' result
      choose_exits result not_went not_passed h =
          let moved : Part = λ c s. choosing cs c (applying ch c s) in
          carries_part moved (choosing (ch ∷ cs)) j r r' o o' result choosing_is
          (ends_so (applying ch) moved j r r' o o' result not_went not_passed
          (λ c s stopped none. choose_stays (by c) c.program c.events c.limit cs (applying ch c s) (stopped_ends (by c) c.program c.events c.limit (applying ch c s) stopped))
          (λ c s first told. choose_grows (by c) c.program c.events c.limit cs (applying ch c s)) h)

  -- ---- loops

  pub so_far_none : (part : Part) (j : Job) (r : Going) (o : S) → SoFar w f part part j r o r o
  so_far_none part j r o = λ c s first told. (s, told, refl)

  -- one turn more, behind which the plan from here on is the same
  pub so_far_more : (part other step : Part) (j : Job) (r0 r r' : Going) (o0 o o' : S) → SoFar w f part other j r0 o0 r o → Carries w f step j r o r' o' turn.Went
      → ((c : Course) (s : Planning) (first : S) → Tells w f c s false first j r o → part c (step c s) ≡ part c s) → SoFar w f part other j r0 o0 r' o'
  so_far_more part other step j r0 r r' o0 o o' so_far h same = λ c s first told.
      let now = so_far c s first told in
      (step c now.0, h.on c now.0 first now.1, same c now.0 first now.1 ∙ now.2)

  pub so_far_going : (part other : Part) (j : Job) (r0 r : Going) (o0 o : S) → IsGoing w f j r0 o0 → SoFar w f part other j r0 o0 r o → IsGoing w f j r o
  so_far_going part other j r0 r o0 o g so_far = still_going j r0 r o0 o g (λ c s first told. let now = so_far c s first told in (now.0, now.1))

  -- ---- what is known of an instruction

  module _ (named : Option ℕ) (m : Option Mark) (n : State) (j : Job) (r r2 r' : Going) (o o' : S) (st : Stepping r.machine named m n) (is_n : r2.machine ≡ n) (is_count : r2.count ≡ r.count + 1) where
    then_machine : r' ≡ record r2 { page = r'.page } → r'.machine ≡ turned r.machine st.task (does_next r.machine st.task)
    then_machine same = ap (λ (g : Going). g.machine) same ∙ is_n ∙ st.after

    stepped_by : (answer : Put) → r' ≡ record r2 { page = r'.page } → HasStepped named r r' (turn_of_put answer)
    stepped_by put.Done same =
        (st.task, st.is, record { stands = st.stands; last = ap (λ (u : State). u.last) (then_machine same); count = ap (λ (g : Going). g.count) same ∙ is_count })
    stepped_by put.Failed same = tt

    pub has_stepped : (result : Turn) → Shows w f j.arch.now m r2 o r' o' result → HasStepped named r r' result
    has_stepped result h = subst (HasStepped named r r') (sym h.is) (stepped_by h.answer h.same)

    ready_by : (answer : Put) → IsReadyTurn (ready r.machine) (turn_of_put answer)
    ready_by put.Done = any_ready r.machine st.task st.stands
    ready_by put.Failed = any_ready r.machine st.task st.stands

    pub ready_turn : (result : Turn) → Shows w f j.arch.now m r2 o r' o' result → IsReadyTurn (ready r.machine) result
    ready_turn result h = subst (IsReadyTurn (ready r.machine)) (sym h.is) (ready_by h.answer)

    one_by : (limit : ℕ) → r.count < limit → (answer : Put) → r' ≡ record r2 { page = r'.page } → IsOneTurn limit r r' (turn_of_put answer)
    one_by limit less put.Done same =
        let count : r'.count ≡ r.count + 1 = ap (λ (g : Going). g.count) same ∙ is_count in
        let place : r'.machine.machine.place ≡ r.machine.machine.place = ap (λ (u : State). u.machine.place) (then_machine same) ∙ after_place r.machine.machine st.task (does_next r.machine st.task) in
        let entries : length (events_of r'.machine.events).entries ≡ length (events_of r.machine.events).entries = ap (λ (u : State). length (events_of u.events).entries) (then_machine same) in
        omega (arith, count, place, entries, less)
    one_by limit less put.Failed same = tt

    pub one_turn : (limit : ℕ) → r.count < limit → (result : Turn) → Shows w f j.arch.now m r2 o r' o' result → IsOneTurn limit r r' result
    one_turn limit less result h = subst (IsOneTurn limit r r') (sym h.is) (one_by limit less h.answer h.same)

  pub due_stepped : (o : Option ℕ) (r r' : Going) (b : Bool) → HasStepped o r r' (due_of b)
  due_stepped o r r' true = tt
  due_stepped o r r' false = tt

  pub due_ready : (bs : List Bool) (b : Bool) → b ≡ list_any (λ b. b) bs → IsReadyTurn bs (due_of b)
  due_ready bs true e = sym e
  due_ready bs false e = sym e

  pub due_one : (limit : ℕ) (r r' : Going) (b : Bool) → IsOneTurn limit r r' (due_of b)
  due_one limit r r' true = tt
  due_one limit r r' false = tt

  -- no more waits than instructions
  pub few_waits : (j : Job) (r : Going) (o : S) → IsGoing w f j r o → r.waits ≤ r.count
  few_waits j r o g =
      let t = g.told in
      let few = counted_few g.course.counting (waits (by g.course) g.course.program g.course.events (begun g.course) g.planned.steps) (plan.instructions g.planned.steps) (waits_few (by g.course) g.course.program g.course.events (begun g.course) g.planned.steps) in
      omega (arith, few, t.waits, t.count)

  -- a core has no more instructions than there are
  pub few_on_cores : (j : Job) (r : Going) (o : S) (core : Option ℕ) → IsGoing w f j r o → r.count < j.limit → IfSome core (λ i. i < cores_by j.rule) → IfSome core (λ i. (i < length r.cores.items) × (slice_index r.cores.items i + 1 < 2 ^ 64))
  few_on_cores j r o None g less below = tt
  few_on_cores j r o (Some i) g less below =
      let t = g.told in
      let c = g.course in
      let same : cores_by j.rule ≡ cores_by c.rule = ap (λ (d : Course). cores_by d.rule) t.course in
      let here : i < cores_by c.rule = omega (arith, below, same) in
      let long : length (cored c g.planned.steps) ≡ cores_by c.rule = counts_length (cores_by c.rule) c.program c.events g.planned.steps in
      let few : slice_index (cored c g.planned.steps) i ≤ plan.instructions g.planned.steps = counts_few (cores_by c.rule) c.program c.events g.planned.steps i here in
      let long' : length (cored c g.planned.steps) ≡ length r.cores.items = ap length t.cores in
      let few' : slice_index (cored c g.planned.steps) i ≡ slice_index r.cores.items i = ap (λ l. slice_index l i) t.cores in
      let limit : j.limit ≡ c.limit = ap (λ (d : Course). d.limit) t.course in
      (omega (arith, here, long, long'), omega (arith, few, few', t.count, less, limit, g.job.limit))

  pub rule_length : (j : Job) (r : Going) (o : S) → IsGoing w f j r o → length (priorities_of j.rule) ≡ length r.machine.program.tasks
  rule_length j r o g = ap length (job_rule j r o g) ∙ length-map r.machine.program.tasks (λ t. t.priority)

  -- ---- what is known of an entry

  module _ (e : Entry) (n : State) (j : Job) (r r2 r' : Going) (o o' : S) (here : next_entry r.machine ≡ Some e) (is : n ≡ arrived r.machine e) (same2 : r2 ≡ record r { machine = n }) where
    entry_never : (answer : Put) → NeverStops (turn_of_put answer)
    entry_never put.Done = tt
    entry_never put.Failed = tt

    pub entry_stops : (result : Turn) → Shows w f j.arch.now (Some mark.Arrive) r2 o r' o' result → NeverStops result
    entry_stops result h = subst NeverStops (sym h.is) (entry_never h.answer)

    left_put : (answer : Put) → IsLeftTurn r.machine (turn_of_put answer)
    left_put put.Done = unfinished_entry r.machine e here
    left_put put.Failed = unfinished_entry r.machine e here

    pub entry_left : (result : Turn) → Shows w f j.arch.now (Some mark.Arrive) r2 o r' o' result → IsLeftTurn r.machine result
    entry_left result h = subst (IsLeftTurn r.machine) (sym h.is) (left_put h.answer)

    entry_by : (limit : ℕ) (answer : Put) → r' ≡ record r2 { page = r'.page } → IsOneTurn limit r r' (turn_of_put answer)
    entry_by limit put.Done same =
        let machine : r'.machine ≡ arrived r.machine e = ap (λ (g : Going). g.machine) same ∙ ap (λ (g : Going). g.machine) same2 ∙ is in
        let count : r'.count ≡ r.count = ap (λ (g : Going). g.count) same ∙ ap (λ (g : Going). g.count) same2 in
        let place : r'.machine.machine.place ≡ suc r.machine.machine.place = ap (λ (u : State). u.machine.place) machine ∙ received_place (events_of r.machine.events) r.machine.machine e in
        let entries : length (events_of r'.machine.events).entries ≡ length (events_of r.machine.events).entries = ap (λ (u : State). length (events_of u.events).entries) machine in
        let within : r.machine.machine.place < length (events_of r.machine.events).entries = slice_get_within (events_of r.machine.events).entries r.machine.machine.place e here in
        omega (arith, count, place, entries, within)
    entry_by limit put.Failed same = tt

    pub entry_one : (limit : ℕ) (result : Turn) → Shows w f j.arch.now (Some mark.Arrive) r2 o r' o' result → IsOneTurn limit r r' result
    entry_one limit result h = subst (IsOneTurn limit r r') (sym h.is) (entry_by limit h.answer h.same)

  -- ---- the repeats of a choice, as a loop

  pub repeat_none : (ch : Choice) (n : ℕ) (j : Job) (r : Going) (o : S) → SoFar w f (repeating (n - 0) ch) (repeating n ch) j r o r o
  repeat_none ch n j r o = λ c s first told. let is : n - 0 ≡ n = omega arith in (s, told, ap (λ i. repeated i (once ch c) s) is)

  pub repeat_more : (ch : Choice) (m n : ℕ) (j : Job) (r0 r r' : Going) (o0 o o' : S) → m < n → SoFar w f (repeating (n - m) ch) (repeating n ch) j r0 o0 r o → Carries w f (once ch) j r o r' o' turn.Went → SoFar w f (repeating (n - (m + 1)) ch) (repeating n ch) j r0 o0 r' o'
  repeat_more ch m n j r0 r r' o0 o o' less so_far h = λ c s first told.
      let now = so_far c s first told in
      let is : n - m ≡ suc (n - (m + 1)) = omega (arith, less) in
      (once ch c now.0, h.on c now.0 first now.1, sym (ap (λ i. repeated i (once ch c) now.0) is) ∙ now.2)

  pub repeat_over : (ch : Choice) (m n : ℕ) (j : Job) (r0 r : Going) (o0 o : S) → n ≤ m → SoFar w f (repeating (n - m) ch) (repeating n ch) j r0 o0 r o → Carries w f (repeating n ch) j r0 o0 r o turn.Went
  repeat_over ch m n j r0 r o0 o over so_far = record {
    on = λ c s first told.
        let now = so_far c s first told in
        let is : n - m ≡ 0 = omega (arith, over) in
        tells_plan c now.0 (repeating n ch c s) false first j r o (sym (ap (λ i. repeated i (once ch c) now.0) is) ∙ now.2) now.1;
  }

  -- ---- the choices, as a loop

  pub choose_more : (cs rest : List Choice) (ch : Choice) (left : List Choice) (j : Job) (r0 r r' : Going) (o0 o o' : S) → left ≡ ch ∷ rest → is_finished r.machine.program (events_of r.machine.events) r.machine.machine ≡ false
      → SoFar w f (choosing left) (choosing cs) j r0 o0 r o → ((c : Course) (s : Planning) (first : S) → Tells w f c s false first j r o → Tells w f c (applying ch c s) false first j r' o') → SoFar w f (choosing rest) (choosing cs) j r0 o0 r' o'
  choose_more cs rest ch left j r0 r r' o0 o o' is unfinished so_far h = λ c s first told.
      let now = so_far c s first told in
      (applying ch c now.0, h c now.0 first now.1, choosing_is ch rest j r r' o o' unfinished c now.0 first now.1 ∙ sym (ap (λ l. choosing l c now.0) is) ∙ now.2)

  pub choose_left : (cs other left : List Choice) (j : Job) (r0 r : Going) (o0 o : S) → left ≡ other → SoFar w f (choosing left) (choosing cs) j r0 o0 r o → SoFar w f (choosing other) (choosing cs) j r0 o0 r o
  choose_left cs other left j r0 r o0 o is so_far = subst (λ l. SoFar w f (choosing l) (choosing cs) j r0 o0 r o) is so_far

  -- a turn that was passed over, told as one that went
  pub went_so : (part : Part) (j : Job) (r r' : Going) (o o' : S) → Carries w f part j r o r' o' turn.Passed → Carries w f part j r o r' o' turn.Went
  went_so part j r r' o o' h = record { on = λ c s first told. (h.on c s first told).0 }

  module _ (cs : List Choice) (i : ℕ) (d : Choice) (j : Job) (r0 r r' : Going) (o0 o o' : S) (less : i < length cs) (unfinished : is_finished r.machine.program (events_of r.machine.events) r.machine.machine ≡ false)
      (so_far : SoFar w f (choosing (drop i cs)) (choosing cs) j r0 o0 r o) where
    pub choose_next : Carries w f (applying (slice_index_or cs i d)) j r o r' o' turn.Went → SoFar w f (choosing (drop (i + 1) cs)) (choosing cs) j r0 o0 r' o'
    choose_next h = choose_more cs (drop (i + 1) cs) (slice_index_or cs i d) (drop i cs) j r0 r r' o0 o o' (drop_is cs i d less) unfinished so_far h.on

    pub choose_stop : (result : Turn) → (result ≡ turn.Went → ⊥) → (result ≡ turn.Passed → ⊥) → Carries w f (applying (slice_index_or cs i d)) j r o r' o' result → Carries w f (choosing cs) j r0 o0 r' o' result
    choose_stop result not_went not_passed h =
        composed (choosing (slice_index_or cs i d ∷ drop (i + 1) cs)) (choosing cs) j r0 r r' o0 o o' result
        (choose_left cs (slice_index_or cs i d ∷ drop (i + 1) cs) (drop i cs) j r0 r o0 o (drop_is cs i d less) so_far) not_passed
        (choose_exits (slice_index_or cs i d) (drop (i + 1) cs) j r r' o o' unfinished result not_went not_passed h)

  -- ---- a choice that is repeated

  pub go_is : (k n : ℕ) (c : Course) (s : Planning) → repeating n (choice.Go k n) c s ≡ applying (choice.Go k n) c s
  go_is k n c s = repeated_alike n (once (choice.Go k n) c) (going k c) (λ u. refl) s

  pub see_is : (k n : ℕ) (c : Course) (s : Planning) → repeating n (choice.See k n) c s ≡ applying (choice.See k n) c s
  see_is k n c s = repeated_alike n (once (choice.See k n) c) (seeing k c) (λ u. refl) s

  pub ev_is : (n : ℕ) (c : Course) (s : Planning) → repeating n (choice.Ev n) c s ≡ applying (choice.Ev n) c s
  ev_is n c s = repeated_alike n (once (choice.Ev n) c) (entering c) (λ u. refl) s
