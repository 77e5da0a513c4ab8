use Rattle.std.proofs.Common.{◌∙◌, ◌≤◌, length, get_or, slice_get, ap, sym, arith}
use Rattle.std.proofs.lemmas.List.{take_all}
use Rattle.std.proofs.lemmas.Option.{slice_get-get_or}
use Rattle.thread_split.specs.declared.plan.TaskPlan.{TaskPlan}
use Rattle.thread_split.specs.Plans.{plan_of}
use Rattle.task_build.specs.CodeOf.{task_of, tasks_from}
use Rattle.task_build.proofs.Same.{no_source, plan_at, plans_count, tasks_more}
use Rattle.task_build.proofs.building.tasks.Goals as goal

pub task_of-requires-clause-source : goal.task_of-requires-clause-source
task_of-requires-clause-source c =
    let at = plan_at c.args.arch.now c.args.plans.now c.loop-plan.plan-index c.plan-item.result c.plan-item.result c.requires.plans c.loop-plan-test.true c.plan-item.is in
    omega (arith, at.0, ap (λ (p : TaskPlan). p.source) at.1)

pub task_of-requires-clause-plan : goal.task_of-requires-clause-plan
task_of-requires-clause-plan c =
    let at = plan_at c.args.arch.now c.args.plans.now c.loop-plan.plan-index c.plan-item.result c.plan-item.result c.requires.plans c.loop-plan-test.true c.plan-item.is in
    at.1 ∙ ap (plan_of c.args.arch.now) (sym (ap (λ (p : TaskPlan). p.source) at.1))

pub loop-plan-preserved : goal.loop-plan-preserved
loop-plan-preserved c =
    let arch = c.args.arch.now in
    let k = c.loop-plan.plan-index in
    let at = plan_at arch c.args.plans.now k c.plan-item.result c.plan-item.result c.requires.plans c.loop-plan-test.true c.plan-item.is in
    let source = ap (λ (p : TaskPlan). p.source) at.1 in
    let x = get_or arch.sources k no_source in
    tasks_more arch k no_source c.loop-plan.tasks c.push.new.self c.in_ok-task.task at.0 c.loop-plan.invariant c.in_ok-push.ensures.ok
    (c.in_ok-task.ensures x (ap (slice_get arch.sources) source ∙ slice_get-get_or arch.sources k no_source at.0) ∙ ap (λ j. task_of arch j x) source)

pub returns : goal.returns
returns c =
    let arch = c.args.arch.now in
    let past : length arch.sources ≤ c.loop-plan.plan-index = omega (arith, c.loop-plan-test.false, plans_count arch c.args.plans.now c.requires.plans) in
    c.loop-plan.invariant ∙ ap (tasks_from arch 0) (take_all c.loop-plan.plan-index arch.sources past)
