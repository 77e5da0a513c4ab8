-- One step more of a run that goes on.
use Rattle.std.proofs.Common.{◌≡◌, ◌<◌, ◌≤◌, ◌+◌, ◌-◌, ℕ, suc, List, [], ◌∷◌, ◌++◌, map, length, Option, Some, None, Bool, true, false, ◌&&◌, refl, sym, ap, ◌∙◌, subst, arith, slice_get, add-zero, append-nil}
use Rattle.std.specs.Prelude.{All}
use Rattle.std.proofs.lemmas.Option.{same_Some}
use Rattle.tower_io.specs.declared.answers.Put.{Put}
use Rattle.tower_io.specs.declared.answers.Put.TheVariants as put
use Rattle.tower_syntax.specs.Arch.{Arch, Entry, Events}
use Rattle.tower_syntax.specs.View.{events_of}
use Rattle.tower_syntax.specs.declared.event.Mark.{Mark}
use Rattle.tower_syntax.specs.declared.event.Mark.TheVariants as mark
use Rattle.task_code.specs.Program.{Program}
use Rattle.task_code.specs.Machine.{Machine, next_does, after, received}
use Rattle.task_code.specs.Standing.{IsReady, standing, standings, is_ready}
use Rattle.task_code.specs.Run.{Run, Turn, Event, step, steps_from, if_ready, turned, came, written_by}
use Rattle.task_code.specs.Plan as plan
use Rattle.task_code.specs.Plan.{Planned, goes, comes, step_of, Planning, instructions}
use Rattle.task_machine.specs.State.{State, ready, first_of, does_next, standing_in, next_entry, wrote_last, arrived}
use Rattle.tower_report.specs.MarkText.{mark_line}
use Rattle.task_code.specs.Policy.{priorities}
use Rattle.task_code.specs.Tally.{waits_before, waits}
use Rattle.tower_report.specs.RunText.{steps_text, step_text, does_text}
use Rattle.tower_report.proofs.Steps.{instructions_append, steps_text_push, steps_text_append}
use Rattle.tower_run.specs.declared.going.Job.{Job}
use Rattle.tower_run.specs.declared.going.Going.{Going}
use Rattle.tower_run.specs.declared.going.Turn.{Turn as Result}
use Rattle.tower_run.specs.Paging.{HasPut, HasFailed, AfterPut}
use Rattle.tower_run.specs.Pieces.{lines_text, IsMessage, IfMark, IfWrote, AreFitLines}
use Rattle.tower_run.specs.Waiting.{is_named_waiting}
use Rattle.tower_run.specs.Counted.{counted_on}
use Rattle.tower_run.specs.Scheduler.{priorities_of, cores_by, core_by, HasReady}
use Rattle.tower_run.specs.Going.{Course, course_of, by, begun, shown, waited, cored, going_with, entering, Tells, Told, IsJob, Shows, turn_of_put}
use Rattle.tower_run.proofs.Replays.{outputs_fit}
use Rattle.tower_run.proofs.Accepted.{accepted_is_safe, messages_fit, tasks_count}
use Rattle.tower_run.proofs.Paging.{failed_same, failed_longer}
use Rattle.tower_run.proofs.Plans.{Grows}
use Rattle.tower_run.proofs.Ready.{Stepping, ready_within, ready_at, mark_fits, last_message, does_lines}
use Rattle.tower_run.proofs.Waited.{one_if, waits_push, counted_more}
use Rattle.tower_run.proofs.Cored.{cored_goes, counts_comes}

steps_push : (p : Program) (events : Events) (o : Option Run) (ss : List Planned) (z : Planned) (r : Run) → steps_from p events o (map step_of ss) ≡ Some r → steps_from p events o (map step_of (ss ++ z ∷ [])) ≡ step p events r (step_of z)
steps_push p events None [] z r e = cc
steps_push p events (Some q) [] z r e = ap (λ x. step p events x (step_of z)) (same_Some q r e)
steps_push p events None (s ∷ ss) z r e = cc
steps_push p events (Some q) (s ∷ ss) z r e = steps_push p events (step p events q (step_of s)) ss z r e

-- the text of a longer plan
shown_push : (c : Course) (s : Planning) (z : Planned) → steps_from c.program c.events (begun c) (map step_of s.steps) ≡ Some s.run
    → shown c (s.steps ++ z ∷ []) ≡ shown c s.steps ++ step_text c.arch c.program s.run.machine (instructions s.steps) z
shown_push c s z leads =
    let zero_more : 0 + instructions s.steps ≡ instructions s.steps = omega arith in
    steps_text_push c.arch c.program c.events 0 (begun c) s.steps z s.run leads
    ∙ ap (λ n. shown c s.steps ++ step_text c.arch c.program s.run.machine n z) zero_more

-- the text of a plan that has grown
pub shown_grows : (c : Course) (s t : Planning) → Grows s t → (rest : List ℕ) × (shown c t.steps ≡ shown c s.steps ++ rest)
shown_grows c s t g =
    let rest = steps_text c.arch c.program c.events (0 + instructions s.steps) (steps_from c.program c.events (begun c) (map step_of s.steps)) g.0 in
    (rest, ap (shown c) g.1 ∙ steps_text_append c.arch c.program c.events 0 (begun c) s.steps g.0)

module _ {S : Type 0} (w : S → Option (List ℕ)) (f : S → ℕ) where
  -- a put that failed, in the text of a plan that has grown
  pub failed_grows : (c : Course) (s t : Planning) (first q : S) → Grows s t → HasFailed w f first q (shown c s.steps) → HasFailed w f first q (shown c t.steps)
  failed_grows c s t first q g h = let more = shown_grows c s t g in failed_same (sym more.1) (failed_longer more.0 h)

  -- the run has made a step z: before it stands at r, behind it at r2, and behind its lines at r'
  pub record Makes (c : Course) (s t : Planning) (z : Planned) (j : Job) (r r2 : Going) (m : Option Mark) : Type 0 where
    pub steps : t.steps ≡ s.steps ++ z ∷ []
    pub going : t.stopped ≡ false
    pub leads : step c.program c.events s.run (step_of z) ≡ Some t.run
    pub course : course_of j r2 ≡ c
    pub machine : t.run.machine ≡ r2.machine.machine
    pub count : instructions t.steps ≡ r2.count
    pub left : t.left + r2.count ≡ c.limit
    pub waits : waited c t.steps ≡ r2.waits
    pub cores : cored c t.steps ≡ r2.cores.items
    pub busy : length r2.busy.items ≡ length c.program.tasks
    pub page : r2.page ≡ r.page
    pub lines : step_text c.arch c.program s.run.machine (instructions s.steps) z ≡ lines_text j.arch.now r2.count m (wrote_last r2.machine)

  module _ (c : Course) (s t : Planning) (z : Planned) (j : Job) (r r2 r' : Going) (m : Option Mark) (first o o' : S) (told : Tells w f c s false first j r o) (made : Makes c s t z j r r2 m) where
    text_is : shown c s.steps ++ lines_text j.arch.now r2.count m (wrote_last r2.machine) ≡ shown c t.steps
    text_is =
        ap (λ l. shown c s.steps ++ l) (sym made.lines)
        ∙ sym (shown_push c s z told.leads)
        ∙ ap (shown c) (sym made.steps)

    told_after : (answer : Put) → r' ≡ record r2 { page = r'.page } → AfterPut w f first o' r'.page.held (shown c t.steps) answer → Told w f c s t first j r' o' (turn_of_put answer)
    told_after put.Done same h = record {
      course = ap (course_of j) same ∙ made.course;
      leads = ap (λ ss. steps_from c.program c.events (begun c) (map step_of ss)) made.steps ∙ steps_push c.program c.events (begun c) s.steps z s.run told.leads ∙ made.leads;
      machine = made.machine ∙ sym (ap (λ (g : Going). g.machine.machine) same);
      stops = made.going;
      full = λ e. absurd (no e);
      count = made.count ∙ sym (ap (λ (g : Going). g.count) same);
      left = ap (λ n. t.left + n) (ap (λ (g : Going). g.count) same) ∙ made.left;
      waits = made.waits ∙ sym (ap (λ (g : Going). g.waits) same);
      cores = made.cores ∙ sym (ap (λ (g : Going). g.cores.items) same);
      busy = ap (λ (g : Going). length g.busy.items) same ∙ made.busy;
      puts = h;
    }
      where
        no : false ≡ true → ⊥
        no e = cc
    told_after put.Failed same h = h

    pub told_step : (result : Result) → Shows w f j.arch.now m r2 o r' o' result → Told w f c s t first j r' o' result
    told_step result h =
        let here : HasPut w f first o r2.page.held (shown c s.steps) = subst (λ pg. HasPut w f first o pg.held (shown c s.steps)) (sym made.page) told.puts in
        let past = h.puts.behind first (shown c s.steps) here in
        let now = told_after h.answer h.same (subst (λ u. AfterPut w f first o' r'.page.held u h.answer) text_is past) in
        subst (λ u. Told w f c s t first j r' o' u) (sym h.is) now

abbrev course_with : Job → State → Course
course_with j u = record { arch = j.arch.now; program = u.program; events = events_of u.events; limit = j.limit; rule = j.rule; counting = j.counts_waits }

-- ---- an instruction

is_step : (p : Program) (events : Events) (r : Run) (x : ℕ) → standing p events r.machine x ≡ IsReady → step p events r (Turn x) ≡ Some (turned r x (next_does p r.machine x))
is_step p events r x e = ap (λ st. if_ready st (turned r x (next_does p r.machine x))) e

module _ {S : Type 0} (w : S → Option (List ℕ)) (f : S → ℕ) (c : Course) (s : Planning) (j : Job) (r : Going) (first o : S) (told : Tells w f c s false first j r o) where
  pub limit_is : j.limit ≡ c.limit
  limit_is = ap (λ (d : Course). d.limit) told.course

  pub left_some : r.count < j.limit → s.left ≡ suc (s.left - 1)
  left_some less = omega (arith, told.left, limit_is, less)

  pub left_none : j.limit ≤ r.count → s.left ≡ 0
  left_none full = omega (arith, told.left, limit_is, full)

  -- what holds of the machine, in the words of the course
  pub stands_here : (x : ℕ) → standing_in r.machine x ≡ IsReady → standing c.program c.events s.run.machine x ≡ IsReady
  stands_here x e =
      let at : standing c.program c.events r.machine.machine x ≡ IsReady = let P : Course → Type 0 = λ d. standing d.program d.events r.machine.machine x ≡ IsReady in subst P told.course e in
      ap (λ m. standing c.program c.events m x) told.machine ∙ at

  pub does_here : (x : ℕ) → next_does c.program s.run.machine x ≡ does_next r.machine x
  does_here x = ap (λ m. next_does c.program m x) told.machine ∙ ap (λ (d : Course). next_does d.program r.machine.machine x) (sym told.course)

  pub waits_here : (k x : ℕ) → waits_before (by c) c.program c.events s.run.machine (goes k x) ≡ is_named_waiting j.rule r.machine k
  waits_here k x =
      ap (λ m. waits_before (by c) c.program c.events m (goes k x)) told.machine
      ∙ ap (λ (d : Course). waits_before (by d) d.program d.events r.machine.machine (goes k x)) (sym told.course)

  -- the core of an instruction, in the words of the run
  core_here : (k : ℕ) → core_by c.rule (map is_ready (standings c.program c.events s.run.machine)) k ≡ core_by j.rule (ready r.machine) k
  core_here k =
      ap (λ m. core_by c.rule (map is_ready (standings c.program c.events m)) k) told.machine
      ∙ ap (λ (d : Course). core_by d.rule (map is_ready (standings d.program d.events r.machine.machine)) k) (sym told.course)

  module _ (named : Option ℕ) (m : Option Mark) (n : State) (st : Stepping r.machine named m n) (less : r.count < j.limit) (k : ℕ) where
    abbrev pub next : Run
    next = turned s.run st.task (next_does c.program s.run.machine st.task)

    abbrev pub then_planned : Planning
    then_planned = record { run = next; steps = s.steps ++ goes k st.task ∷ []; left = s.left - 1; stopped = false }

    steps_to : step c.program c.events s.run (Turn st.task) ≡ Some next
    steps_to = is_step c.program c.events s.run st.task (stands_here st.task st.stands)

    pub part_is : going_with k named c s ≡ then_planned
    part_is =
        ap (plan.go_with (by c) c.program c.events c.limit k s) st.is
        ∙ ap (plan.instruct (by c) c.program c.events c.limit k st.task s) (left_some less)
        ∙ ap (plan.stepped (by c) c.program c.events c.limit k st.task s (s.left - 1)) steps_to

    machine_is : next.machine ≡ n.machine
    machine_is =
        ap (λ u. after u st.task (next_does c.program u st.task)) told.machine
        ∙ ap (λ d. after r.machine.machine st.task d) (ap (λ (d : Course). next_does d.program r.machine.machine st.task) (sym told.course))
        ∙ ap (λ (u : State). u.machine) (sym st.after)

    pub makes : (r2 : Going) (b : Bool) (core : Option ℕ) → priorities_of j.rule ≡ priorities r.machine.program → (HasReady (ready r.machine) → core ≡ core_by j.rule (ready r.machine) k) → r2.cores.items ≡ counted_on r.cores.items core → r2.machine ≡ n → r2.count ≡ r.count + 1 → r2.waits ≡ r.waits + one_if b → b ≡ (j.counts_waits && is_named_waiting j.rule r.machine k) → length r2.busy.items ≡ length r.busy.items → r2.page ≡ r.page
        → Makes w f c s then_planned (goes k st.task) j r r2 m
    makes r2 b core rule is_core is_cores is_n is_count is_waits is_b is_busy is_page =
        let counting_is : j.counts_waits ≡ c.counting = ap (λ (d : Course). d.counting) told.course in
        let pushed = waits_push (by c) c.program c.events (begun c) s.steps (goes k st.task) s.run told.leads in
        let one : instructions (s.steps ++ goes k st.task ∷ []) ≡ r2.count = omega (arith, instructions_append s.steps (goes k st.task ∷ []), told.count, is_count) in
        record {
          steps = refl;
          going = refl;
          leads = steps_to;
          course = ap (course_with j) (is_n ∙ st.after) ∙ told.course;
          machine = machine_is ∙ ap (λ (u : State). u.machine) (sym is_n);
          count = one;
          left = omega (arith, told.left, left_some less, is_count);
          waits =
              counted_more c.counting (waits_before (by c) c.program c.events s.run.machine (goes k st.task)) (waits (by c) c.program c.events (begun c) s.steps) (waits (by c) c.program c.events (begun c) (s.steps ++ goes k st.task ∷ [])) r.waits r2.waits
              pushed told.waits
              (is_waits ∙ ap (λ v. r.waits + one_if v) (is_b ∙ ap (λ v. v && is_named_waiting j.rule r.machine k) counting_is ∙ ap (λ v. c.counting && v) (sym (waits_here k st.task))));
          cores =
              let made_for : priorities_of c.rule ≡ priorities c.program = let P : Course → Type 0 = λ d. priorities_of d.rule ≡ priorities d.program in subst P told.course rule in
              let now : core_by c.rule (map is_ready (standings c.program c.events s.run.machine)) k ≡ core = core_here k ∙ sym (is_core (st.task, ready_at r.machine st.task st.stands)) in
              cored_goes c.rule c.program c.events s.steps k st.task s.run made_for told.leads
              ∙ ap (counted_on (cored c s.steps)) now
              ∙ ap (λ l. counted_on l core) told.cores ∙ sym is_cores;
          busy = is_busy ∙ told.busy;
          page = is_page;
          lines =
              ap (λ a. does_text a (instructions s.steps + 1) st.task (next_does c.program s.run.machine st.task)) (ap (λ (d : Course). d.arch) (sym told.course))
              ∙ ap (λ n. does_text j.arch.now n st.task (next_does c.program s.run.machine st.task)) (ap (λ n. n + 1) told.count ∙ sym is_count)
              ∙ ap (does_text j.arch.now r2.count st.task) (does_here st.task)
              ∙ does_lines j.arch.now r2.count st.task (does_next r.machine st.task)
              ∙ ap (λ v. lines_text j.arch.now r2.count v (first_of (written_by (does_next r.machine st.task)))) (sym st.mark)
              ∙ ap (λ (u : State). lines_text j.arch.now r2.count m (wrote_last u)) (sym st.after ∙ sym is_n);
        }

    -- the lines of the step can be put
    pub lines_fit : (job : IsJob j c) (u : State) → u ≡ n → AreFitLines j.arch.now u m
    lines_fit job u is_n =
        let arch_is : c.arch ≡ j.arch.now = ap (λ (d : Course). d.arch) (sym told.course) in
        let fine = accepted_is_safe job.accepted.0 c.arch job.accepted.1 in
        let x = st.task in
        let d = next_does c.program s.run.machine x in
        let there : x < length c.arch.sources = subst (λ k. x < k) (tasks_count c.arch fine c.program job.sound.shaped) (ready_within c.program c.events s.run.machine x (stands_here x st.stands)) in
        let reached = steps_push c.program c.events (begun c) s.steps (goes k x) s.run told.leads ∙ steps_to in
        let agreed = job.sound.agrees c.events (map step_of (s.steps ++ goes k x ∷ [])) next job.fit reached in
        let outs = outputs_fit c.arch c.events fine.numbered fine.typed job.fit next.marks agreed.0 agreed.1.replayed in
        let all : All (IsMessage c.arch) (s.run.written ++ written_by d) = subst (All (IsMessage c.arch)) (sym agreed.1.outputs) (messages_fit c.arch fine agreed.0.outputs outs) in
        let wrote : IfWrote c.arch (first_of (written_by d)) = last_message c.arch s.run.written d all in
        let wrote_is : first_of (written_by d) ≡ wrote_last u = ap (λ e. first_of (written_by e)) (does_here x) ∙ ap wrote_last (sym st.after ∙ sym is_n) in
        let marks : IfMark c.arch m = mark_fits c.arch x (does_next r.machine x) m there st.mark in
        let A : Arch → Type 0 = λ a. AreFitLines a u m in
        subst A arch_is (record { marks = marks; wrote = subst (IfWrote c.arch) wrote_is wrote })

no_more : (counting : Bool) (n : ℕ) → n ≡ n + one_if (counting && false)
no_more true n = sym (add-zero n)
no_more false n = sym (add-zero n)

-- ---- an entry of the record

module _ {S : Type 0} (w : S → Option (List ℕ)) (f : S → ℕ) (c : Course) (s : Planning) (j : Job) (r : Going) (first o : S) (told : Tells w f c s false first j r o) where
  entry_here : slice_get c.events.entries s.run.machine.place ≡ next_entry r.machine
  entry_here =
      ap (λ (m : Machine). slice_get c.events.entries m.place) told.machine
      ∙ ap (λ (d : Course). slice_get d.events.entries r.machine.machine.place) (sym told.course)

  -- where the record is at its end
  pub enters_none : next_entry r.machine ≡ None → entering c s ≡ s
  enters_none e = ap (λ e. plan.entered (by c) c.program c.events c.limit s (came c.events s.run e)) (entry_here ∙ e)

  module _ (e : Entry) (n : State) (here : next_entry r.machine ≡ Some e) (is : n ≡ arrived r.machine e) where
    abbrev pub come : Run
    come = record s.run { machine = received c.events s.run.machine e; marks = s.run.marks ++ mark.Arrive ∷ []; ran = None }

    abbrev pub entered_planned : Planning
    entered_planned = record s { run = come; steps = s.steps ++ comes ∷ [] }

    comes_to : step c.program c.events s.run Event ≡ Some come
    comes_to = ap (came c.events s.run) (entry_here ∙ here)

    pub enters : entering c s ≡ entered_planned
    enters = ap (plan.entered (by c) c.program c.events c.limit s) comes_to

    pub makes_entry : (r2 : Going) → r2 ≡ record r { machine = n } → Makes w f c s entered_planned comes j r r2 (Some mark.Arrive)
    makes_entry r2 same =
        let is_n : r2.machine ≡ n = ap (λ (g : Going). g.machine) same in
        let is_count : r2.count ≡ r.count = ap (λ (g : Going). g.count) same in
        let is_waits : r2.waits ≡ r.waits = ap (λ (g : Going). g.waits) same in
        let pushed = waits_push (by c) c.program c.events (begun c) s.steps comes s.run told.leads in
        record {
          steps = refl;
          going = told.stops;
          leads = comes_to;
          course = ap (course_with j) (is_n ∙ is) ∙ told.course;
          machine =
              ap (λ u. received c.events u e) told.machine
              ∙ ap (λ (d : Course). received d.events r.machine.machine e) (sym told.course)
              ∙ ap (λ (u : State). u.machine) (sym is ∙ sym is_n);
          count = omega (arith, instructions_append s.steps (comes ∷ []), told.count, is_count);
          left = ap (λ k. s.left + k) is_count ∙ told.left;
          waits =
              counted_more c.counting false (waits (by c) c.program c.events (begun c) s.steps) (waits (by c) c.program c.events (begun c) (s.steps ++ comes ∷ [])) r.waits r2.waits
              pushed told.waits (is_waits ∙ no_more c.counting r.waits);
          cores = counts_comes (cores_by c.rule) c.program c.events s.steps s.run told.leads ∙ told.cores ∙ sym (ap (λ (g : Going). g.cores.items) same);
          busy = ap (λ (g : Going). length g.busy.items) same ∙ told.busy;
          page = ap (λ (g : Going). g.page) same;
          lines =
              ap (λ a. mark_line a (instructions s.steps) mark.Arrive) (ap (λ (d : Course). d.arch) (sym told.course))
              ∙ ap (λ k. mark_line j.arch.now k mark.Arrive) (told.count ∙ sym is_count)
              ∙ sym (append-nil (mark_line j.arch.now r2.count mark.Arrive))
              ∙ ap (λ (u : State). lines_text j.arch.now r2.count (Some mark.Arrive) (wrote_last u)) (sym is ∙ sym is_n);
        }

    pub entry_lines_fit : (u : State) → u ≡ n → AreFitLines j.arch.now u (Some mark.Arrive)
    entry_lines_fit u is_n = record { marks = tt; wrote = subst (λ (v : State). IfWrote j.arch.now (wrote_last v)) (sym is ∙ sym is_n) tt }
