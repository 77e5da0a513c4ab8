use Rattle.std.proofs.Common.{◌∙◌, sym, subst}
use Rattle.tower_syntax.specs.Graph.{handler}
use Rattle.channel_graph.specs.Reaching.{Begins, Follows, begins, IsMarked}
use Rattle.channel_graph.proofs.Linked.{link_of}
use Rattle.channel_graph.proofs.Searched.{open_has}
use Rattle.channel_graph.proofs.reach.begun.Goals as goal
use Rattle.channel_graph.proofs.reach.begun.Goals.{in-Source+in_ok-visit_source-in-Source, in-Handler+in_ok-follow-in-Handler}

pub follow-requires-clause-follow : goal.follow-requires-clause-follow
follow-requires-clause-follow c k link =
    subst (λ f. Follows c.args.arch.now f k) (sym (c.in_ok-reach.ensures.from ∙ c.in-Handler.is)) (begins k link)

pub returns-clause-begun : goal.returns-clause-begun
returns-clause-begun c k b =
    let arch = c.args.arch.now in
    elim c.match-from.branch [
      | in-Source+in_ok-visit_source-in-Source w ↦
          let here = subst (λ f. Begins arch f k) w.in-Source.is b in
          subst (λ r. IsMarked r.handlers k) (sym w.reach-is) (w.in_ok-visit_source-in-Source.ensures.marked k here.0 here.1)
      | in-Handler+in_ok-follow-in-Handler w ↦
          let h = w.in-Handler.h in
          let link = subst (λ f. Begins arch f k) w.in-Handler.is b in
          let l = link_of arch h k c.requires.listed link in
          let new = w.follow.new.self in
          let marked = open_has new.channels (handler arch h).emitters l.emitter w.in_ok-follow-in-Handler.ensures.opened l.has in
          subst (λ r. IsMarked r.handlers k) (sym w.reach-is) (w.in_ok-follow-in-Handler.ensures.goes.reach.heard l.emitter.channel k marked l.below l.on)
    ]
