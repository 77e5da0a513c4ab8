use Rattle.std.proofs.Common.{◌<◌, ◌≡◌, ◌∷◌, [], ◌++◌, ◌∙◌, arith, ap}
use Rattle.channel_graph.specs.Ranked.{rank}
use Rattle.channel_graph.proofs.Linked.{link_of}
use Rattle.channel_graph.proofs.Ahead.{ahead_none, ahead_begins, ahead_rank, ahead_goes, ahead_ends}
use Rattle.channel_graph.proofs.ranking.way_ahead.Goals as goal

pub returns-then-first-eq0 : goal.returns-then-first-eq0
returns-then-first-eq0 c =
    let ranks = c.args.ranks.now in
    ahead_none c.args.arch.now c.args.h ranks c.ahead-first.result c.requires.listed c.requires.ranks c.requires.ranking (c.ahead-first.ensures ranks c.requires.nearest) c.if-first-eq0.true

pub loop-at-init : goal.loop-at-init
loop-at-init c =
    let arch = c.args.arch.now in
    let ranks = c.args.ranks.now in
    let x = c.ahead-first.result in
    let a = c.ahead-first.ensures ranks c.requires.nearest in
    let pos : 0 < x.rank = omega (arith, c.if-first-eq0.false) in
    let begun : c.push.new.self ≡ c.args.h ∷ [] = c.in_ok-push.ensures.ok ∙ ap (λ ks. ks ++ c.args.h ∷ []) c.new-way.ensures in (
      (link_of arch c.args.h x.handler c.requires.listed (a.link pos)).below,
      ahead_begins arch c.args.h ranks x c.push.new.self c.requires.listed c.requires.ranks c.requires.ranking a pos begun,
    )

pub loop-at-smaller : goal.loop-at-smaller
loop-at-smaller c =
    let ranks = c.args.ranks.now in
    let at = c.loop-at.at in
    let x = c.ahead-at.result in
    let s = ahead_rank c.args.arch.now c.args.h ranks at x (c.requires.ranking at c.loop-at.invariant.0) (c.ahead-at.ensures ranks c.requires.nearest) c.loop-at-test.true in
    let less : rank ranks x.handler < rank ranks at = omega (arith, s.1, s.2) in
    less

pub loop-at-preserved : goal.loop-at-preserved
loop-at-preserved c =
    let arch = c.args.arch.now in
    let ranks = c.args.ranks.now in
    let at = c.loop-at.at in
    let x = c.ahead-at.result in
    let a = c.ahead-at.ensures ranks c.requires.nearest in
    let s = ahead_rank arch c.args.h ranks at x (c.requires.ranking at c.loop-at.invariant.0) a c.loop-at-test.true in (
      (link_of arch at x.handler c.requires.listed (a.link s.0)).below,
      ahead_goes arch c.args.h ranks at x c.loop-at.way c.push-in-loop-at.new.self _ c.requires.listed c.requires.ranks c.requires.ranking c.loop-at.invariant.0 a c.loop-at-test.true c.loop-at.invariant.1 c.in_ok-push-2.ensures.ok,
    )

pub returns : goal.returns
returns c =
    ahead_ends c.args.arch.now c.args.h c.loop-at.at c.loop-at.way (rank c.args.ranks.now c.loop-at.at) _ c.loop-at-test.false c.loop-at.invariant.1
