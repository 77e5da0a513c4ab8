use Rattle.std.proofs.Common.{◌≡◌, ◌∙◌, ℕ, List, sym, subst, length, take, arith}
use Rattle.std.proofs.Math.Seq.{take-length}
use Rattle.std.proofs.lemmas.List.{take_more}
use Rattle.tower_syntax.specs.declared.arch.Listener.{Listener}
use Rattle.tower_syntax.specs.declared.arch.Listener.TheVariants as to
use Rattle.tower_syntax.specs.declared.arch.On.TheVariants as on
use Rattle.channel_graph.specs.Table.{IsTable, weight_among}
use Rattle.channel_graph.proofs.Delivered.{attached_numbered, listener_read}
use Rattle.channel_graph.proofs.channels.channel_weights.Goals as goal

pub add_subscriber-requires-clause-exists : goal.add_subscriber-requires-clause-exists
add_subscriber-requires-clause-exists c =
    listener_read c.args.arch.now c.listeners-listener-items.result.now c.loop-listener.listener-index (to.Output 0) c.listeners-listener-items.ensures.numbered.listeners c.listeners-listener-items.ensures.value c.loop-listener-test.true

pub add_subscriber-requires-clause-numbered : goal.add_subscriber-requires-clause-numbered
add_subscriber-requires-clause-numbered c =
    attached_numbered c.args.arch.now _ c.listeners-listener-items.ensures.numbered
    (listener_read c.args.arch.now c.listeners-listener-items.result.now c.loop-listener.listener-index (to.Output 0) c.listeners-listener-items.ensures.numbered.listeners c.listeners-listener-items.ensures.value c.loop-listener-test.true)

pub loop-listener-preserved : goal.loop-listener-preserved
loop-listener-preserved c =
    let items = c.listeners-listener-items.result.now in
    let i = c.loop-listener.listener-index in (
      c.add_subscriber.ensures.each ∙ c.loop-listener.invariant.0,
      λ f table. subst (λ (ls : List Listener). IsTable (length c.args.arch.now.channels) (λ d. weight_among c.args.arch.now f ls (on.Channel d)) c.add_subscriber.new.totals) (sym (take_more items i (to.Output 0) c.loop-listener-test.true)) (c.add_subscriber.ensures.joins f (take i items) table (c.loop-listener.invariant.1 f table)),
    )

pub returns-clause-weights : goal.returns-clause-weights
returns-clause-weights c =
    let arch = c.args.arch.now in
    let items = c.listeners-listener-items.result.now in
    let end : c.loop-listener.listener-index ≡ length items = omega arith in
    λ f table.
    let whole = subst (λ (j : ℕ). IsTable (length arch.channels) (λ d. weight_among arch f (take j items) (on.Channel d)) c.loop-listener.totals) end (c.loop-listener.invariant.1 f table) in
    subst (λ (ls : List Listener). IsTable (length arch.channels) (λ d. weight_among arch f ls (on.Channel d)) c.loop-listener.totals) (take-length items ∙ c.listeners-listener-items.ensures.value) whole
