use Rattle.std.proofs.Common.{◌≡◌, ◌∙◌, ap, sym}
use Rattle.tower_syntax.specs.Graph.{same_on}
use Rattle.channel_graph.specs.Reaching.{is_on}
use Rattle.channel_graph.proofs.Searched.{first_on_has, first_on_lacks, handler_at}
use Rattle.channel_graph.proofs.reach.handlers_on.Goals as goal
use Rattle.channel_graph.proofs.reach.handlers_on.Goals.{then-is_same+in_ok-push, else-is_same}

pub loop-k-preserved : goal.loop-k-preserved
loop-k-preserved c =
    let arch = c.args.arch.now in
    let k = c.loop-k.k in
    let read = handler_at arch c.handlers-handler-items.result.now k c.handler-item.result c.handlers-handler-items.ensures.value c.loop-k-test.true c.handler-item.is in
    let test : is_on arch c.args.on k ≡ c.is_same.result = ap (λ h. same_on h.on c.args.on) read ∙ sym c.is_same.ensures in
    elim c.if-is_same.branch [
      | then-is_same+in_ok-push w ↦ first_on_has arch c.args.on k c.loop-k.found c.if-is_same.found c.loop-k.invariant (w.found-is ∙ w.in_ok-push.ensures.ok) (test ∙ w.if-is_same.true)
      | else-is_same w ↦ first_on_lacks arch c.args.on k c.loop-k.found c.if-is_same.found c.loop-k.invariant w.found-is (test ∙ w.if-is_same.false)
    ]
