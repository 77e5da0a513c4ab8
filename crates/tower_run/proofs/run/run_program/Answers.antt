use Rattle.std.proofs.Common.{◌≡◌, ◌∙◌, ◌≤◌, [], Bool, Option, Some, None, IfSome, length, false, refl, sym, ap, subst, arith}
use Rattle.std.proofs.lemmas.List.{length-map}
use Rattle.tower_syntax.specs.Weights.{monitor_words}
use Rattle.tower_syntax.specs.Arch.{Arch}
use Rattle.tower_syntax.specs.View.{events_of}
use Rattle.tower_meaning.specs.Atomic.{Fit}
use Rattle.arch_checks.specs.Offences.{IsAccepted}
use Rattle.lock_reduction.specs.Reduce.{Sound}
use Rattle.task_code.specs.Run.{first_run}
use Rattle.task_code.specs.Plan.{Planning}
use Rattle.task_code.specs.Policy.{priorities}
use Rattle.tower_run.specs.declared.going.Job.{Job}
use Rattle.tower_run.specs.declared.scheduler.Scheduler.{Scheduler}
use Rattle.tower_run.specs.Ceilings.{ceilings_given}
use Rattle.tower_run.specs.Scheduler.{scheduler_of, priorities_of, monitors_of, cores_by, counts_waits}
use Rattle.tower_run.specs.Going.{Course, choosing}
use Rattle.tower_run.specs.Ending.{Ended, IsBegun}
use Rattle.tower_run.proofs.Accepted.{accepted_is_safe, events_fit}
use Rattle.tower_run.proofs.Ends.{begins, whole_run, ended_not_less, made_priorities, made_monitors, made_cores}
use Rattle.tower_run.proofs.run.run_program.Goals as goal

pub begin-requires-clause-fits : goal.begin-requires-clause-fits
begin-requires-clause-fits g c =
    let a = c.arch-system.ensures.accepted in
    events_fit c.args.arch.now (accepted_is_safe a.0 c.args.arch.now a.1) c.args.program c.requires.sound.shaped (events_of c.args.events) c.requires.fit

pub carry_out-requires : goal.carry_out-requires
carry_out-requires g c =
    let a = c.arch-system.ensures.accepted in
    let is : c.args.arch.now ≡ c.arch-system.result.now = sym c.arch-system.ensures.value in
    let A : Arch → Type 0 = λ x. IsAccepted a.0 x in
    let S : Arch → Type 0 = λ x. Sound x c.args.program in
    let F : Arch → Type 0 = λ x. Fit x (events_of c.args.events) in
    let begun = c.in-Ok.begun in
    let B : Arch → Type 0 = λ x. IsBegun x c.args.program c.args.events c.args.rule begun in
    let made = c.in-Ok.ensures.rule in
    let count : length c.args.arch.now.monitors ≡ length c.args.program.monitors = sym (ap length c.requires.sound.shaped.monitors ∙ length-map c.args.arch.now.monitors (monitor_words c.args.arch.now)) in
    let j : Job = record { arch = c.arch-system.result; rule = begun.rule; tasks = begun.tasks; limit = c.args.n; counts_waits = c.is_counting.result } in
    record {
      course = record { arch = c.arch-system.result.now; program = c.args.program; events = events_of c.args.events; limit = c.args.n; rule = begun.rule; counting = c.is_counting.result };
      planned = record { run = first_run c.args.program (events_of c.args.events); steps = []; left = c.args.n; stopped = false };
      first = c.args.out.now;
      job = record {
        rule = ap priorities_of made ∙ made_priorities c.args.rule (priorities c.args.program) (ceilings_given c.args.rule c.args.arch.now);
        monitors = let P : Scheduler → Type 0 = λ s. IfSome (monitors_of s) (λ n. n ≡ length c.args.program.monitors) in subst P (sym made) (made_monitors c.args.rule c.args.arch.now (priorities c.args.program) (length c.args.program.monitors) count);
        cores = let P : Scheduler → Type 0 = λ s. cores_by s ≤ 64 in subst P (sym made) (made_cores c.args.rule (priorities c.args.program) (ceilings_given c.args.rule c.args.arch.now) c.requires.rule);
        tasks = c.in-Ok.ensures.tasks;
        accepted = (a.0, subst A is a.1);
        sound = subst S is c.requires.sound;
        fit = subst F is c.requires.fit;
        limit = c.requires.limit;
      };
      told = begins g.O.Sink.written g.O.Sink.faults c.args.program c.args.events c.args.rule begun j c.args.out.now (subst B is c.in-Ok.ensures) refl;
    }

pub returns-clause-ends : goal.returns-clause-ends
returns-clause-ends g c =
    let w = g.O.Sink.written in
    let f = g.O.Sink.faults in
    let p = c.args.program in
    let events = events_of c.args.events in
    let begun = c.in-Ok.begun in
    let is : c.args.arch.now ≡ c.arch-system.result.now = sym c.arch-system.ensures.value in
    let B : Arch → Type 0 = λ x. IsBegun x p c.args.events c.args.rule begun in
    let j : Job = record { arch = c.arch-system.result; rule = begun.rule; tasks = begun.tasks; limit = c.args.n; counts_waits = c.is_counting.result } in
    let start : Planning = record { run = first_run p events; steps = []; left = c.args.n; stopped = false } in
    let of : Arch → Scheduler → Bool → Course = λ a s b. record { arch = a; program = p; events = events; limit = c.args.n; rule = s; counting = b } in
    let here = c.carry_out.ensures (of c.arch-system.result.now begun.rule c.is_counting.result) start c.args.out.now (begins w f p c.args.events c.args.rule begun j c.args.out.now (subst B is c.in-Ok.ensures) refl) in
    let E : Course → Type 0 = λ d. Ended w f d (choosing c.args.choices.now d start) c.args.out.now c.carry_out.new.out c.carry_out.result in
    let same : of c.arch-system.result.now begun.rule c.is_counting.result ≡ of c.args.arch.now (scheduler_of c.args.rule (priorities p) (ceilings_given c.args.rule c.args.arch.now)) (counts_waits c.args.rule) =
    ap (λ a. of a begun.rule c.is_counting.result) c.arch-system.ensures.value
    ∙ ap (λ s. of c.args.arch.now s c.is_counting.result) c.in-Ok.ensures.rule
    ∙ ap (of c.args.arch.now (scheduler_of c.args.rule (priorities p) (ceilings_given c.args.rule c.args.arch.now))) c.is_counting.ensures in
    whole_run w f c.args.arch.now p events c.args.choices.now c.args.n c.args.out.now c.carry_out.new.out c.args.rule c.carry_out.result c.requires.rule (subst E same here)

pub returns-clause-never_falls : goal.returns-clause-never_falls
returns-clause-never_falls g c =
    let w = g.O.Sink.written in
    let f = g.O.Sink.faults in
    let p = c.args.program in
    let events = events_of c.args.events in
    let begun = c.in-Ok.begun in
    let is : c.args.arch.now ≡ c.arch-system.result.now = sym c.arch-system.ensures.value in
    let B : Arch → Type 0 = λ x. IsBegun x p c.args.events c.args.rule begun in
    let j : Job = record { arch = c.arch-system.result; rule = begun.rule; tasks = begun.tasks; limit = c.args.n; counts_waits = c.is_counting.result } in
    let d : Course = record { arch = c.arch-system.result.now; program = p; events = events; limit = c.args.n; rule = begun.rule; counting = c.is_counting.result } in
    let start : Planning = record { run = first_run p events; steps = []; left = c.args.n; stopped = false } in
    ended_not_less w f d (choosing c.args.choices.now d start) c.args.out.now c.carry_out.new.out c.carry_out.result
    (c.carry_out.ensures d start c.args.out.now (begins w f p c.args.events c.args.rule begun j c.args.out.now (subst B is c.in-Ok.ensures) refl))
