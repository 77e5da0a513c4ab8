use Rattle.std.proofs.Common.{◌≡◌, ◌*◌, ◌∙◌, ap, sym, min, ℕ, ◌^◌, ◌-◌, subst}
use Rattle.tower_types.specs.Records.{saturated}
use Rattle.channel_graph.specs.Counting.{counting_of}
use Rattle.channel_graph.proofs.Saturating.{saturated-turns}
use Rattle.channel_graph.proofs.section.Count.repeated.Goals as goal

pub returns-in-Executed : goal.returns-in-Executed
returns-in-Executed c =
    λ n body.
    let product = subst (λ (m : ℕ). c.saturating_mul.result ≡ min (c.saturating_add-turn.result * m) (2 ^ 64 - 1)) c.from.ensures c.saturating_mul.ensures in
    saturated-turns c.args.turns n c.args.body c.saturating_add-turn.result c.saturating_mul.result c.saturating_add.result body c.saturating_add-turn.ensures product c.saturating_add.ensures
    ∙ ap (λ count. saturated ((counting_of count).repeated c.args.turns n)) (sym c.in-Executed.is)
