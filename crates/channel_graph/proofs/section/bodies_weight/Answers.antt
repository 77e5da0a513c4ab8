use Rattle.std.proofs.Common.{sym, subst, map, List, All}
use Rattle.tower_syntax.specs.declared.body.Body.{Body as BodyValue}
use Rattle.tower_syntax.specs.View.{handler_of, body_of}
use Rattle.tower_syntax.specs.WellNumbered.{IsNumberedBody}
use Rattle.channel_graph.proofs.Sized.{each_view}
use Rattle.channel_graph.proofs.section.bodies_weight.Goals as goal

pub invariant_of-scope : goal.invariant_of-scope
invariant_of-scope c =
    let arch = c.args.arch.now in
    let h = handler_of c.args.h.now in
    let all = subst (λ (bs : List BodyValue). All (IsNumberedBody arch h) (map body_of bs)) (sym c.as_slice-body-items.ensures) c.requires.callbacks in
    record {
      handler = c.requires;
      body = each_view (IsNumberedBody arch h) body_of c.as_slice-body-items.result.now c.loop-body.body-index c.body-item.result all c.loop-body-test.true c.body-item.is;
    }
