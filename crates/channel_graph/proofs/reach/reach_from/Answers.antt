use Rattle.std.proofs.Common.{◌∙◌, subst}
use Rattle.channel_graph.specs.Reaching.{Follows}
use Rattle.channel_graph.proofs.Searched.{all_follow}
use Rattle.channel_graph.proofs.reach.reach_from.Goals as goal

pub returns : goal.returns
returns c =
    let arch = c.args.arch.now in
    let new = c.spread.new.self in
    let g = c.in_ok-spread.ensures.goes in
    let start = c.in_ok-reach.ensures in
    record {
      each = g.reach.handlers;
      marked = λ k m. subst (λ f. Follows arch f k) (g.later.from ∙ start.from) (g.reach.sound k m);
      follows = all_follow arch c.args.from new.handlers (λ k b. g.later.handlers k (start.begun k b)) c.in_ok-spread.ensures.closed;
    }
