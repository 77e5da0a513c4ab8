use Rattle.std.proofs.Common.{ℕ, List, length, ap, subst, sym, arith}
use Rattle.channel_graph.specs.Deep.{IsDeepest}
use Rattle.channel_graph.specs.Table.{IsTable}
use Rattle.channel_graph.proofs.Settling.{kept_read, kept_deliveries}
use Rattle.channel_graph.proofs.delivery.deliveries_in_order.Goals as goal

pub are_kept-requires-clause-after : goal.are_kept-requires-clause-after
are_kept-requires-clause-after c = omega (arith, ap length c.as_slice-7.ensures, c.in_ok-after.ensures.each, ap length c.as_slice-5.ensures, c.in_ok-depths.ensures.each)

pub returns-then-are_kept : goal.returns-then-are_kept
returns-then-are_kept c =
    let arch = c.args.arch.now in
    let depths = c.in_ok-depths.depths in
    let costs = c.in_ok-costs.costs in
    let after = c.in_ok-after.after in
    let deepest = subst (λ (ds : List ℕ). IsDeepest arch ds (length arch.handlers) c.in-Some._deepest) c.as_slice-2.ensures c.in-Some.ensures.deepest in
    let kept = kept_read _ _ _ depths costs after (length arch.handlers) c.as_slice-5.ensures c.as_slice-6.ensures c.as_slice-7.ensures c.in_ok-depths.ensures.each (c.are_kept.ensures c.if-are_kept.true) in
    let round = λ (f : ℕ → ℕ) (table : IsTable (length arch.handlers) f costs).
    c.in_ok-after.ensures.rounds f (subst (IsTable (length arch.handlers) f) (sym c.as_slice-4.ensures) table) in
    kept_deliveries arch depths costs after c.in-Some._deepest c.deepest_start.ensures.numbered.listeners c.in_ok-depths.ensures deepest c.in-Some.ensures.few kept c.in_ok-costs.ensures round
