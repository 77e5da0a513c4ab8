use Rattle.std.proofs.Common.{ap, sym, ◌∙◌}
use Rattle.tower_types.specs.Records.{saturated}
use Rattle.channel_graph.specs.Counting.{counting_of}
use Rattle.channel_graph.proofs.Saturating.{saturated-max}
use Rattle.channel_graph.proofs.section.Count.either.Goals as goal

pub returns-in-Executed : goal.returns-in-Executed
returns-in-Executed c =
    λ a b first second. saturated-max a b c.args.first c.args.second c.max.result first second c.max.ensures ∙ ap (λ count. saturated ((counting_of count).either a b)) (sym c.in-Executed.is)
