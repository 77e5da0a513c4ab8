use Rattle.std.proofs.Common.{◌≡◌, ◌∙◌, ◌≤◌, ℕ, sym, ap, arith, length, true}
use Rattle.std.specs.Prelude.{max, min, filter}
use Rattle.task_code.specs.Policy.{places_from}
use Rattle.task_policies.specs.Rules.{core_count}
use Rattle.task_policies.proofs.Ranks.{length_cores}
use Rattle.task_policies.proofs.cores.Cores.busy.Goals as goal

pub returns : goal.returns
returns c =
    let some : 1 ≤ c.self.inside.cores = c.self.invariant.1 in
    let same : max 1 c.self.inside.cores ≡ c.self.inside.cores = omega (arith, some) in
    let is : core_count c.args.self.now ≡ c.self.inside.cores = ap core_count (sym c.self.view_is) ∙ same in
    c.min.ensures
    ∙ ap (λ n. min n c.self.inside.cores) c.count.ensures.count
    ∙ ap (min (length (filter (λ x. true) (places_from 0 c.args.ready.now)))) (sym is)
    ∙ sym (length_cores c.args.self.now.priorities (core_count c.args.self.now) c.args.ready.now)
