-- How a run begins and ends.
use Rattle.std.proofs.Common.{◌≡◌, ◌<◌, ◌≤◌, ℕ, List, [], ◌++◌, ◌∷◌, length, map, Option, Some, None, Bool, true, false, cond, refl, sym, ap, ◌∙◌, subst, arith, add-zero, IfSome}
use Rattle.std.specs.Prelude.{max, replicate}
use Rattle.tower_syntax.specs.Graph.{numbers_before}
use Rattle.channel_graph.proofs.Members.{length-numbers}
use Rattle.tower_io.specs.declared.answers.Put.{Put}
use Rattle.tower_io.specs.declared.answers.Put.TheVariants as put
use Rattle.tower_syntax.specs.declared.event.Choice.{Choice}
use Rattle.tower_syntax.specs.declared.event.Events.{Events as EventsValue}
use Rattle.tower_syntax.specs.Arch.{Arch, Events}
use Rattle.tower_syntax.specs.View.{events_of}
use Rattle.task_code.specs.Program.{Program}
use Rattle.task_code.specs.Machine.{Machine}
use Rattle.task_code.specs.Run.{first_run}
use Rattle.task_code.specs.Plan.{Planning, instructions}
use Rattle.task_machine.specs.State.{State}
use Rattle.tower_report.specs.declared.rule.Rule.{Rule}
use Rattle.tower_report.specs.declared.rule.Rule.TheVariants as rule
use Rattle.tower_report.specs.Bytes.{Bytes}
use Rattle.task_code.specs.Policy.{priorities}
use Rattle.task_code.specs.Tally.{waits, core_counts}
use Rattle.tower_report.specs.EndText.{Tally, end_text}
use Rattle.tower_report.specs.RunText.{run_text, IsRule}
use Rattle.tower_report.specs.Puts.{Puts}
use Rattle.tower_run.specs.declared.going.Job.{Job}
use Rattle.tower_run.specs.declared.going.Going.{Going}
use Rattle.tower_run.specs.declared.run.Ran.{Ran}
use Rattle.tower_run.specs.declared.run.Ran.TheVariants as ran
use Rattle.tower_run.specs.declared.run.Begun.{Begun}
use Rattle.tower_run.specs.Paging.{HasPut, HasFailed, PutsOver}
use Rattle.tower_run.specs.Pieces.{IsFitMonitor}
use Rattle.tower_run.specs.Ceilings.{ceilings_given}
use Rattle.task_code.specs.Ceiling.{ceiling_of}
use Rattle.std.proofs.lemmas.List.{length-map}
use Rattle.tower_run.specs.Scheduler.{scheduler_of, priorities_of, monitors_of, counts_waits, cores_by}
use Rattle.tower_run.specs.Going.{Course, course_of, by, begun, shown, cored, choosing, Tells, IsJob}
use Rattle.tower_run.specs.Ending.{run_stops, RunEnds, IsBegun, CanEnd, ran_of, waits_in, tally_of, whole_text, Ended}
use Rattle.tower_run.proofs.Accepted.{accepted_is_safe, fit_monitor, tasks_count}
use Rattle.tower_run.proofs.Cored.{counts_length}
use Rattle.tower_run.proofs.Paging.{put_none, put_same, put_flushed, flush_failed, failed_same, failed_longer, all_sent}

-- ---- the rule that was given

pub made_priorities : (given : Option Rule) (ps cs : List ℕ) → priorities_of (scheduler_of given ps cs) ≡ ps
made_priorities None ps cs = refl
made_priorities (Some rule.Fixed) ps cs = refl
made_priorities (Some rule.Ceiling) ps cs = refl
made_priorities (Some (rule.Cores n)) ps cs = refl

pub made_monitors : (given : Option Rule) (arch : Arch) (ps : List ℕ) (n : ℕ) → length arch.monitors ≡ n → IfSome (monitors_of (scheduler_of given ps (ceilings_given given arch))) (λ k. k ≡ n)
made_monitors None arch ps n e = tt
made_monitors (Some rule.Fixed) arch ps n e = tt
made_monitors (Some rule.Ceiling) arch ps n e = length-map (numbers_before (length arch.monitors) []) (ceiling_of arch) ∙ length-numbers (length arch.monitors) [] ∙ add-zero (length arch.monitors) ∙ e
made_monitors (Some (rule.Cores k)) arch ps n e = tt

pub made_cores : (given : Option Rule) (ps cs : List ℕ) → IfSome given IsRule → cores_by (scheduler_of given ps cs) ≤ 64
made_cores None ps cs is = omega arith
made_cores (Some rule.Fixed) ps cs is = omega arith
made_cores (Some rule.Ceiling) ps cs is = omega arith
made_cores (Some (rule.Cores n)) ps cs is = let few = is.1 in omega (arith, few)

-- the lines at the end can be put
pub can_end : (j : Job) (r : Going) (c : Course) → IsJob j c → course_of j r ≡ c → length r.cores.items ≡ cores_by c.rule → CanEnd j r
can_end j r c job is long =
    let arch_is : c.arch ≡ j.arch.now = ap (λ (d : Course). d.arch) (sym is) in
    let program_is : r.machine.program ≡ c.program = ap (λ (d : Course). d.program) is in
    let fine = accepted_is_safe job.accepted.0 c.arch job.accepted.1 in
    let M : Arch → Type 0 = λ a. (m : ℕ) → m < length a.monitors → IsFitMonitor a r.machine m in
    record {
      monitors = subst M arch_is (fit_monitor c.arch fine c.program job.sound.shaped r.machine program_is);
      sources = ap (λ (a : Arch). length a.sources) (sym arch_is) ∙ sym (tasks_count c.arch fine c.program job.sound.shaped) ∙ ap (λ (p : Program). length p.tasks) (sym program_is);
      cores = let same : cores_by j.rule ≡ cores_by c.rule = ap (λ (d : Course). cores_by d.rule) is in omega (arith, long, same, job.cores);
    }

zeros : (n : ℕ) → map {B = ℕ} (λ i. 0) (numbers_before n []) ≡ replicate n 0
zeros n = zeros_of (numbers_before n []) ∙ ap (λ k. replicate k 0) (length-numbers n [] ∙ add-zero n)
  where
    zeros_of : (xs : List ℕ) → map {B = ℕ} (λ i. 0) xs ≡ replicate (length xs) 0
    zeros_of [] = refl
    zeros_of (x ∷ xs) = ap (λ l. 0 ∷ l) (zeros_of xs)

none_yet : (v : Bool) (n : ℕ) → cond v n n ≡ n
none_yet true n = refl
none_yet false n = refl

waits_are : (counting : Bool) (all now : ℕ) → cond counting all 0 ≡ now → cond counting (Some now) None ≡ cond counting (Some all) None
waits_are true all now e = ap Some (sym e)
waits_are false all now e = refl

module _ {S : Type 0} (w : S → Option (List ℕ)) (f : S → ℕ) where
  -- the same of a run that has come so far
  pub told_can_end : (j : Job) (r : Going) (c : Course) (s : Planning) (b : Bool) (first o : S) → IsJob j c → Tells w f c s b first j r o → CanEnd j r
  told_can_end j r c s b first o job told = can_end j r c job told.course (sym (ap length told.cores) ∙ counts_length (cores_by c.rule) c.program c.events s.steps)

  module _ (c : Course) (s : Planning) (b : Bool) (first : S) (j : Job) (r : Going) (o : S) (told : Tells w f c s b first j r o) where
    -- what was counted, in the words of the run
    abbrev pub counted : Tally
    counted = record { count = r.count; waits = cond j.counts_waits (Some r.waits) None; cores = r.cores.items }

    text_is : shown c s.steps ++ end_text j.arch.now r.machine.machine counted b ≡ whole_text c s
    text_is =
        let counting : j.counts_waits ≡ c.counting = ap (λ (d : Course). d.counting) told.course in
        let given : cond j.counts_waits (Some r.waits) None ≡ waits_in c s.steps =
        ap (λ v. cond v (Some r.waits) None) counting ∙ waits_are c.counting (waits (by c) c.program c.events (begun c) s.steps) r.waits told.waits in
        let T : ℕ → Option ℕ → List ℕ → Tally = λ n v cs. record { count = n; waits = v; cores = cs } in
        let tally : counted ≡ tally_of c s.steps =
        ap (λ n. T n (cond j.counts_waits (Some r.waits) None) r.cores.items) (sym told.count)
        ∙ ap (λ v. T (instructions s.steps) v r.cores.items) given
        ∙ ap (T (instructions s.steps) (waits_in c s.steps)) (sym told.cores) in
        ap (λ a. shown c s.steps ++ end_text a r.machine.machine counted b) (ap (λ (d : Course). d.arch) told.course)
        ∙ ap (λ (m : Machine). shown c s.steps ++ end_text c.arch m counted b) (sym told.machine)
        ∙ ap (λ t. shown c s.steps ++ end_text c.arch s.run.machine t b) tally
        ∙ ap (λ v. shown c s.steps ++ end_text c.arch s.run.machine (tally_of c s.steps) v) (sym told.stops)

    module _ (o1 : S) (held : Bytes) where
      abbrev EndPut : Put → Type 0
      EndPut answer = PutsOver w f o r.page.held o1 held (end_text j.arch.now r.machine.machine counted b) answer

      pub ended_failed : EndPut put.Failed → Ended w f c s first o1 ran.WriteFault
      ended_failed h = failed_same text_is (h.behind first (shown c s.steps) told.puts)

      flushed : (o2 : S) (b : Bool) → s.stopped ≡ b → HasPut w f first o2 [] (whole_text c s) → Ended w f c s first o2 (ran_of put.Done b)
      flushed o2 true stops h = (stops, h)
      flushed o2 false stops h = (stops, h)

      pub ended : (o2 : S) (answer : Put) → EndPut put.Done → Puts w f o1 o2 held answer → Ended w f c s first o2 (ran_of answer b)
      ended o2 put.Done h p = flushed o2 b told.stops (put_same text_is (put_flushed (h.behind first (shown c s.steps) told.puts) p))
      ended o2 put.Failed h p = failed_same text_is (flush_failed (h.behind first (shown c s.steps) told.puts) p)

  -- a put has failed before the end
  pub failed_early : (c : Course) (s : Planning) (first out : S) → HasFailed w f first out (shown c s.steps) → Ended w f c s first out ran.WriteFault
  failed_early c s first out h = failed_longer (end_text c.arch s.run.machine (tally_of c s.steps) s.stopped) h

  -- ---- the start

  pub begins : (p : Program) (events : EventsValue) (given : Option Rule) (b : Begun) (j : Job) (first : S) → IsBegun j.arch.now p events given b → j.rule ≡ b.rule
      → Tells w f (record { arch = j.arch.now; program = p; events = events_of events; limit = j.limit; rule = j.rule; counting = j.counts_waits }) (record { run = first_run p (events_of events); steps = []; left = j.limit; stopped = false }) false first j b.run first
  begins p events given b j first is same = record {
    course = ap (λ (m : State). record { arch = j.arch.now; program = m.program; events = events_of m.events; limit = j.limit; rule = j.rule; counting = j.counts_waits }) is.machine;
    leads = refl;
    machine = ap (λ (m : State). m.machine) (sym is.machine);
    stops = refl;
    full = λ e. absurd (no e);
    count = sym is.count;
    left = let h = is.count in omega (arith, h);
    waits = none_yet j.counts_waits 0 ∙ sym is.waits;
    cores = zeros (cores_by j.rule) ∙ ap (λ s. replicate (cores_by s) 0) same ∙ sym is.cores;
    busy = is.busy;
    puts = let P : Bytes → Type 0 = λ held. HasPut w f first first held [] in subst P (sym is.held) (put_none w f first);
  }
    where
      no : false ≡ true → ⊥
      no e = cc

  -- ---- the whole

  abbrev course_for : Arch → Program → Events → ℕ → Option Rule → Course
  course_for arch p events n given = record { arch = arch; program = p; events = events; limit = n; rule = scheduler_of given (priorities p) (ceilings_given given arch); counting = counts_waits given }

  abbrev at_start : Program → Events → ℕ → Planning
  at_start p events n = record { run = first_run p events; steps = []; left = n; stopped = false }

  module _ (arch : Arch) (p : Program) (events : Events) (choices : List Choice) (n : ℕ) (first out : S) where
    abbrev EndedBy : Option Rule → Ran → Type 0
    EndedBy given result = Ended w f (course_for arch p events n given) (choosing choices (course_for arch p events n given) (at_start p events n)) first out result

    abbrev EndsBy : Option Rule → Ran → Type 0
    EndsBy given result = RunEnds w f first out (run_text arch p events choices n given) (run_stops arch p events choices n given) result

    -- at least one core, however many were given
    on_cores : (m : ℕ) (result : Ran) → EndedBy (Some (rule.Cores m)) result → EndsBy (Some (rule.Cores (max 1 m))) result
    on_cores m ran.Done h = (h.0, all_sent h.1, h.1.calm)
    on_cores m ran.Stopped h = (h.0, all_sent h.1, h.1.calm)
    on_cores m ran.WriteFault h = (h.part, h.rose)
    on_cores m ran.NoMemory h = absurd h

    pub whole_run : (given : Option Rule) (result : Ran) → IfSome given IsRule → EndedBy given result → EndsBy given result
    whole_run None ran.Done is h = (h.0, all_sent h.1, h.1.calm)
    whole_run None ran.Stopped is h = (h.0, all_sent h.1, h.1.calm)
    whole_run None ran.WriteFault is h = (h.part, h.rose)
    whole_run None ran.NoMemory is h = absurd h
    whole_run (Some rule.Fixed) ran.Done is h = (h.0, all_sent h.1, h.1.calm)
    whole_run (Some rule.Fixed) ran.Stopped is h = (h.0, all_sent h.1, h.1.calm)
    whole_run (Some rule.Fixed) ran.WriteFault is h = (h.part, h.rose)
    whole_run (Some rule.Fixed) ran.NoMemory is h = absurd h
    whole_run (Some rule.Ceiling) ran.Done is h = (h.0, all_sent h.1, h.1.calm)
    whole_run (Some rule.Ceiling) ran.Stopped is h = (h.0, all_sent h.1, h.1.calm)
    whole_run (Some rule.Ceiling) ran.WriteFault is h = (h.part, h.rose)
    whole_run (Some rule.Ceiling) ran.NoMemory is h = absurd h
    whole_run (Some (rule.Cores m)) result is h =
        let same : max 1 m ≡ m = let l = is.0 in omega (arith, l) in
        subst (λ k. EndsBy (Some (rule.Cores k)) result) same (on_cores m result h)

  pub ended_not_less : (c : Course) (s : Planning) (first out : S) (result : Ran) → Ended w f c s first out result → f first ≤ f out
  ended_not_less c s first out ran.Done h = let e = h.1.calm in omega (arith, e)
  ended_not_less c s first out ran.Stopped h = let e = h.1.calm in omega (arith, e)
  ended_not_less c s first out ran.WriteFault h = h.never_falls
  ended_not_less c s first out ran.NoMemory h = absurd h
