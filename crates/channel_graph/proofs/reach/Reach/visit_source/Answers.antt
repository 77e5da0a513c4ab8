use Rattle.std.proofs.Common.{◌∙◌, get_or, sym, subst}
use Rattle.tower_syntax.specs.declared.arch.On.TheVariants as on
use Rattle.channel_graph.specs.Reaching.{Follows, begins}
use Rattle.channel_graph.proofs.Searched.{audience_at, all_marked}
use Rattle.channel_graph.proofs.reach.Reach.visit_source.Goals as goal

pub visit_all-requires-clause-within : goal.visit_all-requires-clause-within
visit_all-requires-clause-within c j d h =
    let same = c.as_slice.ensures ∙ c.in_ok-first.ensures in
    (audience_at c.args.arch.now (on.Source c.args.s) c.as_slice.result.now same j d h).0

pub visit_all-requires-clause-follow : goal.visit_all-requires-clause-follow
visit_all-requires-clause-follow c j h =
    let k = get_or c.as_slice.result.now j 0 in
    let same = c.as_slice.ensures ∙ c.in_ok-first.ensures in
    let at = audience_at c.args.arch.now (on.Source c.args.s) c.as_slice.result.now same j 0 h in
    subst (λ f. Follows c.args.arch.now f k) (sym c.requires.from) (begins k at)

pub returns-clause-marked : goal.returns-clause-marked
returns-clause-marked c =
    let same = c.as_slice.ensures ∙ c.in_ok-first.ensures in
    all_marked c.args.arch.now (on.Source c.args.s) c.visit_all.new.self.handlers c.as_slice.result.now same c.in_ok-visit_all.ensures.marked
