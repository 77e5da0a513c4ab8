use Rattle.std.proofs.Common.{◌+◌, ◌∙◌, refl, ap}
use Rattle.task_machine.specs.State.{State, ready, holds}
use Rattle.tower_run.proofs.Ready.{stepping, none_any, not_stepping}
use Rattle.tower_run.proofs.Steps.{lines_fit}
use Rattle.tower_run.proofs.Carried.{job_rule, few_on_cores, advanced, not_advanced, has_stepped, ready_turn, one_turn}
use Rattle.tower_run.proofs.turns.advance.Goals as goal

pub show-requires : goal.show-requires
show-requires g c =
    let r = c.args.run.now in
    let it = c.requires.going in
    let named = g.P.Policy.names c.args.policy.now (ready r.machine) (holds r.machine) c.args.k in
    let st = stepping r.machine named c.in-Stepped.mark c.go.new.self c.in-Stepped.ensures.step in
    lines_fit g.O.Sink.written g.O.Sink.faults it.course it.planned c.args.job.now r it.first c.args.out.now it.told named c.in-Stepped.mark c.go.new.self st c.requires.less c.args.k it.job c.go.new.self refl

pub count_on-requires : goal.count_on-requires
count_on-requires g c = few_on_cores g.O.Sink.written g.O.Sink.faults c.args.job.now c.args.run.now c.args.out.now c.core_of-core.result c.requires.going c.requires.less c.core_of-core.ensures.below

pub returns-in-Stepped-clause-carries : goal.returns-in-Stepped-clause-carries
returns-in-Stepped-clause-carries g c =
    let r = c.args.run.now in
    let named = g.P.Policy.names c.args.policy.now (ready r.machine) (holds r.machine) c.args.k in
    let st = stepping r.machine named c.in-Stepped.mark c.go.new.self c.in-Stepped.ensures.step in
    advanced g.O.Sink.written g.O.Sink.faults c.args.job.now r c.args.out.now _ c.show.new.run c.show.new.out c.args.k named c.in-Stepped.mark c.go.new.self c.is_wait-waits.result c.core_of-core.result c.show.result
    (job_rule g.O.Sink.written g.O.Sink.faults c.args.job.now r c.args.out.now c.requires.going) c.core_of-core.ensures.core c.count_on.ensures st c.requires.less
    refl refl (ap (λ n. r.waits + n) c.number-more.ensures.value) c.is_wait-waits.ensures.waits (c.core_of-core.ensures.busy ∙ c.is_wait-waits.ensures.busy) refl c.show.ensures

pub returns-in-Stepped-clause-ready : goal.returns-in-Stepped-clause-ready
returns-in-Stepped-clause-ready g c =
    let r = c.args.run.now in
    let named = g.P.Policy.names c.args.policy.now (ready r.machine) (holds r.machine) c.args.k in
    let st = stepping r.machine named c.in-Stepped.mark c.go.new.self c.in-Stepped.ensures.step in
    ready_turn g.O.Sink.written g.O.Sink.faults named c.in-Stepped.mark c.go.new.self c.args.job.now r _ c.show.new.run c.args.out.now c.show.new.out st refl refl c.show.result c.show.ensures

pub returns-in-Stepped-clause-stepped : goal.returns-in-Stepped-clause-stepped
returns-in-Stepped-clause-stepped g c =
    let r = c.args.run.now in
    let named = g.P.Policy.names c.args.policy.now (ready r.machine) (holds r.machine) c.args.k in
    let st = stepping r.machine named c.in-Stepped.mark c.go.new.self c.in-Stepped.ensures.step in
    has_stepped g.O.Sink.written g.O.Sink.faults named c.in-Stepped.mark c.go.new.self c.args.job.now r _ c.show.new.run c.args.out.now c.show.new.out st refl refl c.show.result c.show.ensures

pub returns-in-Stepped-clause-one : goal.returns-in-Stepped-clause-one
returns-in-Stepped-clause-one g c =
    let r = c.args.run.now in
    let named = g.P.Policy.names c.args.policy.now (ready r.machine) (holds r.machine) c.args.k in
    let st = stepping r.machine named c.in-Stepped.mark c.go.new.self c.in-Stepped.ensures.step in
    one_turn g.O.Sink.written g.O.Sink.faults named c.in-Stepped.mark c.go.new.self c.args.job.now r _ c.show.new.run c.args.out.now c.show.new.out st refl refl c.args.job.now.limit c.requires.less c.show.result c.show.ensures

pub returns-in-NoneReady-clause-ready : goal.returns-in-NoneReady-clause-ready
returns-in-NoneReady-clause-ready g c = none_any (ready c.args.run.now.machine) (c.in-NoneReady.ensures.none.0 refl)

pub returns-in-NoneReady-clause-carries : goal.returns-in-NoneReady-clause-carries
returns-in-NoneReady-clause-carries g c =
    let r = c.args.run.now in
    let named = g.P.Policy.names c.args.policy.now (ready r.machine) (holds r.machine) c.args.k in
    let no = not_stepping r.machine named c.go.new.self c.in-NoneReady.ensures.step in
    not_advanced g.O.Sink.written g.O.Sink.faults c.args.job.now r c.args.out.now _ c.args.k named no.0
    (ap (λ (m : State). record r { machine = m; busy = c.core_of-core.new.busy }) no.1) (c.core_of-core.ensures.busy ∙ c.is_wait-waits.ensures.busy)
