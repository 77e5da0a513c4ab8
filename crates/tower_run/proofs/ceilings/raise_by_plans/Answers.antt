use Rattle.std.proofs.Common.{◌≡◌, ◌∙◌, fold, length, take, sym, ap}
use Rattle.std.proofs.lemmas.List.Sums.{fold_more}
use Rattle.tower_run.specs.Ceilings.{raised_at, raised_by}
use Rattle.tower_run.proofs.Raising.{length_all}
use Rattle.tower_run.proofs.ceilings.raise_by_plans.Goals as goal

pub loop-plan-preserved : goal.loop-plan-preserved
loop-plan-preserved c =
    let plan = c.plan-item.result in
    let first = c.args.ceilings.now.items in
    let plans = c.args.plans.now in
    let i = c.loop-plan.plan-index in
    let items = c.loop-plan.ceilings.items in
    let now : c.raise_all.new.ceilings.items ≡ raised_by items plan = c.raise_all.ensures ∙ ap (fold (raised_at plan.priority) items) c.as_slice.ensures in
    record {
      raised = now ∙ ap (λ cs. raised_by cs plan) c.loop-plan.invariant.raised ∙ ap (raised_by (fold raised_by first (take i plans))) c.plan-item.is ∙ sym (fold_more raised_by first plans i plan c.loop-plan-test.true);
      long = ap length now ∙ length_all plan.priority plan.monitors items ∙ c.loop-plan.invariant.long;
    }
