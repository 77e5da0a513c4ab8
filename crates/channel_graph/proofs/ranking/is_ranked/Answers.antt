use Rattle.std.proofs.Common.{◌≡◌, ◌<◌, ◌≤◌, ◌+◌, ◌-◌, length, arith, ap}
use Rattle.std.proofs.lemmas.Bool.{eqb-true}
use Rattle.std.proofs.lemmas.List.{length-map}
use Rattle.tower_syntax.specs.View.{handler_of}
use Rattle.channel_graph.specs.Ranked.{rank}
use Rattle.channel_graph.proofs.Ahead.{ranked_end, ranked_none, ranked_more}
use Rattle.channel_graph.proofs.ranking.is_ranked.Goals as goal

pub returns-then-k-h : goal.returns-then-k-h
returns-then-k-h c yes' =
    let ranks = c.args.ranks.now in
    ranked_end c.args.arch.now c.args.h ranks c.args.k c.requires.handler c.if-k-h.true (eqb-true (rank ranks c.args.k) 1 yes')

pub returns-then-next-eq0 : goal.returns-then-next-eq0
returns-then-next-eq0 c yes' =
    let ranks = c.args.ranks.now in
    ranked_none c.args.arch.now c.args.h ranks c.args.k c.ahead-next.result (c.ahead-next.ensures ranks c.requires.nearest) c.if-k-h.false c.if-next-eq0.true (eqb-true (rank ranks c.args.k) 0 yes')

pub returns : goal.returns
returns c yes' =
    let arch = c.args.arch.now in
    let ranks = c.args.ranks.now in
    let k = c.args.k in
    let x = c.ahead-next.result in
    let less : rank ranks k - 1 ≡ x.rank = eqb-true (rank ranks k - 1) x.rank yes' in
    let count : length c.handlers.result.now ≡ length arch.handlers = omega (arith, ap length c.handlers.ensures.value, length-map c.handlers.result.now handler_of) in
    let some : 0 < rank ranks k = omega (arith, c.if-rank-eq0.false) in
    let pos : 0 < x.rank = omega (arith, c.if-next-eq0.false) in
    let is : rank ranks k ≡ x.rank + 1 = omega (arith, less, some) in
    let few : rank ranks k ≤ length arch.handlers = omega (arith, c.if-rank-handlers.false, count) in
    ranked_more arch c.args.h ranks k x (c.ahead-next.ensures ranks c.requires.nearest) c.if-k-h.false pos is few
