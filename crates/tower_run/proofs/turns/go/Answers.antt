use Rattle.std.proofs.Common.{sym, subst}
use Rattle.tower_run.specs.Scheduler.{names_by}
use Rattle.task_machine.specs.State.{ready, holds}
use Rattle.tower_run.specs.declared.going.Turn.{Turn}
use Rattle.tower_run.specs.Going.{going, going_with, due_of, HasStepped, IsReadyTurn, IsOneTurn}
use Rattle.tower_run.proofs.Carried.{job_monitors, rule_length, few_waits, go_due, going_is, carries_part, carries_result, due_stepped, due_ready, due_one}
use Rattle.tower_run.proofs.turns.go.Goals as goal

pub returns-then-count-limit-clause-carries : goal.returns-then-count-limit-clause-carries
returns-then-count-limit-clause-carries g c =
    let w = g.O.Sink.written in
    let f = g.O.Sink.faults in
    let j = c.args.job.now in
    let r = c.args.run.now in
    let o = c.args.out.now in
    carries_result w f (going c.args.k) j r r o o (due_of c.is_any_ready.result) c.due.result (sym c.due.ensures)
    (go_due w f j r o c.args.k c.is_any_ready.result c.if-count-limit.true c.is_any_ready.ensures)

pub returns-then-count-limit-clause-stepped : goal.returns-then-count-limit-clause-stepped
returns-then-count-limit-clause-stepped g c =
    let r = c.args.run.now in
    let named = names_by c.args.job.now.rule (ready r.machine) (holds r.machine) c.args.k in
    let P : Turn → Type 0 = λ t. HasStepped named r r t in
    subst P (sym c.due.ensures) (due_stepped g.O.Sink.written g.O.Sink.faults named r r c.is_any_ready.result)

pub returns-then-count-limit-clause-ready : goal.returns-then-count-limit-clause-ready
returns-then-count-limit-clause-ready g c =
    let bs = ready c.args.run.now.machine in
    let P : Turn → Type 0 = λ t. IsReadyTurn bs t in
    subst P (sym c.due.ensures) (due_ready g.O.Sink.written g.O.Sink.faults bs c.is_any_ready.result c.is_any_ready.ensures)

pub returns-then-count-limit-clause-one : goal.returns-then-count-limit-clause-one
returns-then-count-limit-clause-one g c =
    let r = c.args.run.now in
    let P : Turn → Type 0 = λ t. IsOneTurn c.args.job.now.limit r r t in
    subst P (sym c.due.ensures) (due_one g.O.Sink.written g.O.Sink.faults c.args.job.now.limit r r c.is_any_ready.result)

pub advance-requires-clause-waits : goal.advance-requires-clause-waits
advance-requires-clause-waits g c = few_waits g.O.Sink.written g.O.Sink.faults c.args.job.now c.args.run.now c.args.out.now c.requires

pub advance-requires-clause-tasks : goal.advance-requires-clause-tasks
advance-requires-clause-tasks g c = rule_length g.O.Sink.written g.O.Sink.faults c.args.job.now c.args.run.now c.args.out.now c.requires

pub advance-requires-clause-monitors : goal.advance-requires-clause-monitors
advance-requires-clause-monitors g c = job_monitors g.O.Sink.written g.O.Sink.faults c.args.job.now c.args.run.now c.args.out.now c.requires

pub returns-clause-carries : goal.returns-clause-carries
returns-clause-carries g c =
    let w = g.O.Sink.written in
    let f = g.O.Sink.faults in
    let j = c.args.job.now in
    let r = c.args.run.now in
    let o = c.args.out.now in
    carries_part w f (going_with c.args.k (names_by j.rule (ready r.machine) (holds r.machine) c.args.k)) (going c.args.k) j r c.advance.new.run o c.advance.new.out c.advance.result
    (going_is w f j r o c.args.k) c.advance.ensures.carries
