use Rattle.std.proofs.Common.{◌≡◌, ◌∙◌, ◌<◌, ℕ, sym, ap, arith, slice_get}
use Rattle.std.specs.Prelude.{max}
use Rattle.task_code.specs.Policy.{places_from}
use Rattle.task_code.specs.Cores.{by_urgency}
use Rattle.task_policies.specs.Rules.{core_count}
use Rattle.task_policies.proofs.Ranks.{turn_of}
use Rattle.task_policies.proofs.cores.CoresPolicy.pick.Goals as goal

pub returns-in-Some : goal.returns-in-Some
returns-in-Some c =
    let ps = c.args.self.now.priorities in
    sym c.in-Some.is
    ∙ c.at_rank.ensures.task
    ∙ ap (λ qs. slice_get (by_urgency qs (places_from 0 c.args.ready.now)) c.core-core.result) (c.as_slice.ensures.value ∙ ap (λ r. r.priorities) c.self.view_is)
    ∙ sym (turn_of (core_count c.args.self.now) c.args.k c.core-core.result (by_urgency ps (places_from 0 c.args.ready.now)) c.core-core.ensures.core c.core-core.ensures.none (omega arith))

pub returns-in-None : goal.returns-in-None
returns-in-None c =
    let ps = c.args.self.now.priorities in
    sym c.in-None.is
    ∙ c.at_rank.ensures.task
    ∙ ap (λ qs. slice_get (by_urgency qs (places_from 0 c.args.ready.now)) c.core-core.result) (c.as_slice.ensures.value ∙ ap (λ r. r.priorities) c.self.view_is)
    ∙ sym (turn_of (core_count c.args.self.now) c.args.k c.core-core.result (by_urgency ps (places_from 0 c.args.ready.now)) c.core-core.ensures.core c.core-core.ensures.none (omega arith))
