use Rattle.std.proofs.Common.{◌∙◌, ap}
use Rattle.std.specs.Prelude.{nat_lt}
use Rattle.task_code.specs.Policy.{at_turn, places_from}
use Rattle.task_policies.proofs.Foremost.{wanted_are_foremost}
use Rattle.task_policies.proofs.ceiling.Ceiling.name_among.Goals as goal

pub returns : goal.returns
returns c =
    c.pick_among.ensures
    ∙ ap (at_turn c.args.k) (wanted_are_foremost c.args.self.now c.args.holds.now (places_from 0 c.args.given.now) _ _ c.top.ensures (ap (nat_lt 0) c.count-only_holders.ensures.count))
