use Rattle.std.proofs.Common.{◌≡◌, ℕ, Option, Some, ap, ◌∙◌, subst}
use Rattle.task_code.specs.Policy.{any_names}
use Rattle.task_code.specs.Plan as plan
use Rattle.task_machine.specs.State.{ready, holds}
use Rattle.tower_run.specs.Only.{only_names, only_where}
use Rattle.tower_run.specs.Going.{by, going_with, going_on, HasStepped}
use Rattle.tower_run.proofs.Ready.{any_at}
use Rattle.tower_run.proofs.Carried.{job_tasks, few_waits, go_on_due, carries_part}
use Rattle.tower_run.proofs.turns.go_on.Goals as goal

pub returns-then-count-limit-clause-carries : goal.returns-then-count-limit-clause-carries
returns-then-count-limit-clause-carries g c = go_on_due g.O.Sink.written g.O.Sink.faults c.args.job.now c.args.run.now c.args.out.now c.args.k c.args.x c.if-count-limit.true

pub returns-then-count-limit-clause-ready : goal.returns-then-count-limit-clause-ready
returns-then-count-limit-clause-ready g c = any_at (ready c.args.run.now.machine) c.args.x c.requires.ready

pub advance-requires-clause-waits : goal.advance-requires-clause-waits
advance-requires-clause-waits g c = few_waits g.O.Sink.written g.O.Sink.faults c.args.job.now c.args.run.now c.args.out.now c.requires.going

pub advance-requires-clause-tasks : goal.advance-requires-clause-tasks
advance-requires-clause-tasks g c = ap (λ o. o.tasks) c.new-only.ensures ∙ job_tasks g.O.Sink.written g.O.Sink.faults c.args.job.now c.args.run.now c.args.out.now c.requires.going

pub returns-clause-carries : goal.returns-clause-carries
returns-clause-carries g c =
    let r = c.args.run.now in
    let named = only_names c.new-only.result.task (ready r.machine) (holds r.machine) c.args.k in
    let is : named ≡ Some c.args.x =
    ap (λ o. only_names o.task (ready r.machine) (holds r.machine) c.args.k) c.new-only.ensures ∙ ap (λ b. only_where b c.args.x (any_names (ready r.machine) (holds r.machine) c.args.k)) c.requires.ready in
    carries_part g.O.Sink.written g.O.Sink.faults (going_with c.args.k named) (going_on c.args.k c.args.x) c.args.job.now r c.advance.new.run c.args.out.now c.advance.new.out c.advance.result
    (λ d s first told. ap (plan.go_with (by d) d.program d.events d.limit c.args.k s) is) c.advance.ensures.carries

pub returns-clause-stepped : goal.returns-clause-stepped
returns-clause-stepped g c =
    let r = c.args.run.now in
    let named = only_names c.new-only.result.task (ready r.machine) (holds r.machine) c.args.k in
    let is : named ≡ Some c.args.x =
    ap (λ o. only_names o.task (ready r.machine) (holds r.machine) c.args.k) c.new-only.ensures ∙ ap (λ b. only_where b c.args.x (any_names (ready r.machine) (holds r.machine) c.args.k)) c.requires.ready in
    let P : Option ℕ → Type 0 = λ o. HasStepped o r c.advance.new.run c.advance.result in
    subst P is c.advance.ensures.stepped
