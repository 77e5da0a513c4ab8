use Rattle.std.proofs.Common.{◌≡◌, ◌∙◌, ℕ, List, All, length, sym, ap, subst, fold, replicate}
use Rattle.std.proofs.lemmas.List.{length-map}
use Rattle.tower_syntax.specs.View.{monitor_of}
use Rattle.thread_split.specs.declared.plan.TaskPlan.{TaskPlan}
use Rattle.thread_split.specs.Plans.{plans_of}
use Rattle.tower_run.specs.Ceilings.{raised_by, HasMonitorsBelow}
use Rattle.tower_run.proofs.Raising.{found_are_ceilings, plans_below, none_long}
use Rattle.tower_run.proofs.ceilings.ceilings_of.Goals as goal

pub raise_by_plans-requires : goal.raise_by_plans-requires
raise_by_plans-requires c =
    let arch = c.args.arch.now in
    let is : c.as_slice.result.now ≡ plans_of arch = c.as_slice.ensures.value ∙ c.in_ok-plans.ensures in
    let count : length c.monitors-monitors.result.now ≡ length arch.monitors = sym (length-map c.monitors-monitors.result.now monitor_of) ∙ ap length c.monitors-monitors.ensures.value ∙ ap (λ a. length a.monitors) c.arch.ensures.value in
    let long : length c.in_ok-found.found.items ≡ length arch.monitors = ap length (c.in_ok-found.ensures.items_if_clones_equal (λ y e. e)) ∙ ap (λ n. length {A = ℕ} (replicate n 0)) count ∙ none_long arch (length arch.monitors) in
    subst (λ n. All (HasMonitorsBelow n) c.as_slice.result.now) (sym long) (subst (λ (ps : List TaskPlan). All (HasMonitorsBelow (length arch.monitors)) ps) (sym is) (plans_below arch))

pub returns : goal.returns
returns c =
    let arch = c.args.arch.now in
    let is : c.as_slice.result.now ≡ plans_of arch = c.as_slice.ensures.value ∙ c.in_ok-plans.ensures in
    let count : length c.monitors-monitors.result.now ≡ length arch.monitors = sym (length-map c.monitors-monitors.result.now monitor_of) ∙ ap length c.monitors-monitors.ensures.value ∙ ap (λ a. length a.monitors) c.arch.ensures.value in
    c.raise_by_plans.ensures
    ∙ ap (λ ps. fold raised_by c.in_ok-found.found.items ps) is
    ∙ ap (λ cs. fold raised_by cs (plans_of arch)) (c.in_ok-found.ensures.items_if_clones_equal (λ y e. e) ∙ ap (λ n. replicate n 0) count)
    ∙ found_are_ceilings arch
