use Rattle.std.proofs.Common.{◌≡◌, ◌∙◌, ◌+◌, ◌-◌, ◌^◌, ℕ, ap, sym, subst, length, min, get_or, arith}
use Rattle.tower_syntax.specs.declared.arch.On.TheVariants as on
use Rattle.tower_syntax.specs.declared.arch.Listener.TheVariants as to
use Rattle.tower_syntax.specs.Graph.{same_on}
use Rattle.tower_syntax.specs.Weights.{message_words}
use Rattle.channel_graph.proofs.Delivered.{listener_read, listed_when_there, joined, not_joined, all_joined}
use Rattle.channel_graph.proofs.channels.source_weight.Goals as goal
use Rattle.channel_graph.proofs.channels.source_weight.Goals.{then-is_same, else-is_same}

pub attachment-requires : goal.attachment-requires
attachment-requires c =
    listener_read c.args.arch.now c.listeners-listener-items.result.now c.loop-listener.listener-index (to.Output 0) c.listeners-listener-items.ensures.numbered.listeners c.listeners-listener-items.ensures.value c.loop-listener-test.true

pub cost_of-requires : goal.cost_of-requires
cost_of-requires c =
    listed_when_there c.args.arch.now (length c.args.costs.now) (get_or c.listeners-listener-items.result.now c.loop-listener.listener-index (to.Output 0)) c.requires.costs
    (listener_read c.args.arch.now c.listeners-listener-items.result.now c.loop-listener.listener-index (to.Output 0) c.listeners-listener-items.ensures.numbered.listeners c.listeners-listener-items.ensures.value c.loop-listener-test.true)

pub loop-listener-preserved : goal.loop-listener-preserved
loop-listener-preserved c =
    let arch = c.args.arch.now in
    let items = c.listeners-listener-items.result.now in
    let i = c.loop-listener.listener-index in
    let o = on.Source c.args.s in
    let exists = listener_read arch items i (to.Output 0) c.listeners-listener-items.ensures.numbered.listeners c.listeners-listener-items.ensures.value c.loop-listener-test.true in
    let moved = c.move_weight-moved.ensures (message_words arch o) c.words_on.ensures in
    let test = c.is_same.ensures ∙ ap (λ a. same_on a o) c.attachment.ensures in
    λ f table. elim c.if-is_same.branch [
      | then-is_same w ↦
          let more = subst (λ (x : ℕ). w.saturating_add-more.result ≡ min (c.move_weight-moved.result + x) (2 ^ 64 - 1)) w.cost_of.ensures w.saturating_add-more.ensures in
          let here = sym test ∙ w.if-is_same.true in
          w.total-is ∙ joined arch f c.args.costs.now items i (to.Output 0) o c.loop-listener.total c.move_weight-moved.result w.saturating_add-more.result w.saturating_add-total.result table exists c.loop-listener-test.true (c.loop-listener.invariant f table) moved more w.saturating_add-total.ensures here
      | else-is_same w ↦
          let here = sym test ∙ w.if-is_same.false in
          w.total-is ∙ not_joined arch f items i (to.Output 0) o c.loop-listener.total c.loop-listener-test.true (c.loop-listener.invariant f table) here
    ]

pub returns : goal.returns
returns c =
    let items = c.listeners-listener-items.result.now in
    let end : c.loop-listener.listener-index ≡ length items = omega arith in
    λ f table. all_joined c.args.arch.now f items c.loop-listener.listener-index (on.Source c.args.s) c.loop-listener.total c.listeners-listener-items.ensures.value end (c.loop-listener.invariant f table)
