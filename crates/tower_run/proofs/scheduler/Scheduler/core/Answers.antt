use Rattle.std.proofs.Common.{Some, ap, sym, ◌∙◌, arith}
use Rattle.task_policies.specs.Rules.{core_count}
use Rattle.task_policies.proofs.Ranks.{some_on_cores}
use Rattle.tower_run.specs.Scheduler.{core_by}
use Rattle.tower_run.proofs.scheduler.Scheduler.core.Goals as goal

pub returns-in-Cores-clause-core : goal.returns-in-Cores-clause-core
returns-in-Cores-clause-core c = λ h.
    let r = c.in-Cores.rule in
    ap Some (c.core.ensures.core (some_on_cores r.priorities (core_count r) c.args.ready.now h.0 h.1 (omega arith)))
    ∙ ap (λ s. core_by s c.args.ready.now c.args.k) (sym c.in-Cores.is)
