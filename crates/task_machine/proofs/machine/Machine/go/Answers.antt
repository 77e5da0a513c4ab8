use Rattle.std.proofs.Common.{◌≡◌, ℕ, length, ap, sym, ◌∙◌, subst, refl, Option, Some, None}
use Rattle.task_machine.specs.Policy.{IsLawful}
use Rattle.task_machine.specs.State.{Goes, ready, holds}
use Rattle.task_machine.specs.declared.machine.Went.TheVariants as went
use Rattle.task_machine.proofs.Going.{length_ready, ready_in, ready_stands, are_monitors}
use Rattle.task_machine.proofs.machine.Machine.go.Goals as goal

pub pick-requires-clause-ready : goal.pick-requires-clause-ready
pick-requires-clause-ready g c =
    ap length (c.ready.ensures c.self.inside.running c.self.invariant) ∙ length_ready c.self.inside.running ∙ rw (← c.self.view_is) at (sym c.requires.tasks)

pub pick-requires-clause-holds : goal.pick-requires-clause-holds
pick-requires-clause-holds g c = c.holds.ensures.count ∙ rw (← c.self.view_is) at (sym c.requires.tasks)

pub step-requires-clause-task : goal.step-requires-clause-task
step-requires-clause-task g c =
    let s = c.self.inside.running in
    let flags : c.ready.result.now ≡ ready s = c.ready.ensures s c.self.invariant in
    let held : c.holds.result.now ≡ holds s = c.holds.ensures.held in
    let tasks = rw (← c.self.view_is) at (sym c.requires.tasks) in
    let most = rw (← c.self.view_is) at c.requires.monitors in
    let law = g.met.P.Policy.lawful c.args.policy.now c.ready.result.now c.holds.result.now c.args.k
    (ap length flags ∙ length_ready s ∙ tasks) (c.holds.ensures.count ∙ tasks) (are_monitors _ _ _ most c.holds.ensures.below) in
    let lawful : IsLawful (ready s) (Some c.in-Some.x) = rw (← flags) (subst (λ (r : Option ℕ). IsLawful c.ready.result.now r) (sym c.in-Some.ensures) law) in
    rw (← c.self.view_is) (ready_in s c.in-Some.x lawful)

pub step-requires-clause-ready : goal.step-requires-clause-ready
step-requires-clause-ready g c =
    let s = c.self.inside.running in
    let flags : c.ready.result.now ≡ ready s = c.ready.ensures s c.self.invariant in
    let held : c.holds.result.now ≡ holds s = c.holds.ensures.held in
    let tasks = rw (← c.self.view_is) at (sym c.requires.tasks) in
    let most = rw (← c.self.view_is) at c.requires.monitors in
    let law = g.met.P.Policy.lawful c.args.policy.now c.ready.result.now c.holds.result.now c.args.k
    (ap length flags ∙ length_ready s ∙ tasks) (c.holds.ensures.count ∙ tasks) (are_monitors _ _ _ most c.holds.ensures.below) in
    let lawful : IsLawful (ready s) (Some c.in-Some.x) = rw (← flags) (subst (λ (r : Option ℕ). IsLawful c.ready.result.now r) (sym c.in-Some.ensures) law) in
    rw (← c.self.view_is) (ready_stands s c.in-Some.x lawful)

pub returns-in-Some-clause-step : goal.returns-in-Some-clause-step
returns-in-Some-clause-step g c =
    let s = c.self.inside.running in
    let flags : c.ready.result.now ≡ ready s = c.ready.ensures s c.self.invariant in
    let held : c.holds.result.now ≡ holds s = c.holds.ensures.held in
    let tasks = rw (← c.self.view_is) at (sym c.requires.tasks) in
    let most = rw (← c.self.view_is) at c.requires.monitors in
    let law = g.met.P.Policy.lawful c.args.policy.now c.ready.result.now c.holds.result.now c.args.k
    (ap length flags ∙ length_ready s ∙ tasks) (c.holds.ensures.count ∙ tasks) (are_monitors _ _ _ most c.holds.ensures.below) in
    let lawful : IsLawful (ready s) (Some c.in-Some.x) = rw (← flags) (subst (λ (r : Option ℕ). IsLawful c.ready.result.now r) (sym c.in-Some.ensures) law) in
    let named = rw (flags, held) at c.in-Some.ensures in
    let Step : Option ℕ → Type 0 = λ r. Goes s r (went.Stepped c.step.result) c.step.new.self in
    let mark = rw (← c.self.view_is) at c.step.ensures.mark in
    let state = rw (← c.self.view_is) at c.step.ensures.state in
    rw (← c.self.view_is) (subst Step named (ready_stands s c.in-Some.x lawful, ap went.Stepped mark, state))

pub returns-in-Some-clause-none : goal.returns-in-Some-clause-none
returns-in-Some-clause-none g c =
    let s = c.self.inside.running in
    let flags : c.ready.result.now ≡ ready s = c.ready.ensures s c.self.invariant in
    let held : c.holds.result.now ≡ holds s = c.holds.ensures.held in
    let tasks = rw (← c.self.view_is) at (sym c.requires.tasks) in
    let most = rw (← c.self.view_is) at c.requires.monitors in
    let law = g.met.P.Policy.lawful c.args.policy.now c.ready.result.now c.holds.result.now c.args.k
    (ap length flags ∙ length_ready s ∙ tasks) (c.holds.ensures.count ∙ tasks) (are_monitors _ _ _ most c.holds.ensures.below) in
    let lawful : IsLawful (ready s) (Some c.in-Some.x) = rw (← flags) (subst (λ (r : Option ℕ). IsLawful c.ready.result.now r) (sym c.in-Some.ensures) law) in
    rw (← c.self.view_is) (λ e. cc, λ none. absurd (none c.in-Some.x lawful))

pub returns-in-None-clause-none : goal.returns-in-None-clause-none
returns-in-None-clause-none g c =
    let s = c.self.inside.running in
    let flags : c.ready.result.now ≡ ready s = c.ready.ensures s c.self.invariant in
    let held : c.holds.result.now ≡ holds s = c.holds.ensures.held in
    let tasks = rw (← c.self.view_is) at (sym c.requires.tasks) in
    let most = rw (← c.self.view_is) at c.requires.monitors in
    let law = g.met.P.Policy.lawful c.args.policy.now c.ready.result.now c.holds.result.now c.args.k
    (ap length flags ∙ length_ready s ∙ tasks) (c.holds.ensures.count ∙ tasks) (are_monitors _ _ _ most c.holds.ensures.below) in
    let lawful : IsLawful (ready s) None = rw (← flags) (subst (λ (r : Option ℕ). IsLawful c.ready.result.now r) (sym c.in-None.ensures) law) in
    rw (← c.self.view_is) (λ e. lawful, λ none. refl)
