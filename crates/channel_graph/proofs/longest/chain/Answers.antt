use Rattle.std.proofs.Common.{List, ℕ, length, subst}
use Rattle.channel_graph.specs.Deep.{IsDeepest}
use Rattle.channel_graph.proofs.Sounded.{deepest_chain, deepest_within}
use Rattle.channel_graph.proofs.longest.chain.Goals as goal

pub returns-in-Some-clause-within : goal.returns-in-Some-clause-within
returns-in-Some-clause-within c =
    let arch = c.args.arch.now in
    let n = c.in-Some.deepest in
    let deepest = subst (λ (ds : List ℕ). IsDeepest arch ds (length arch.handlers) n) c.as_slice-2.ensures c.in-Some.ensures.deepest in
    deepest_within arch c.in_ok-depths.depths n c.deepest_start.ensures.numbered.listeners c.in-Some.ensures.few c.in_ok-depths.ensures deepest

pub returns-in-Some-clause-chain : goal.returns-in-Some-clause-chain
returns-in-Some-clause-chain c =
    let arch = c.args.arch.now in
    let n = c.in-Some.deepest in
    let deepest = subst (λ (ds : List ℕ). IsDeepest arch ds (length arch.handlers) n) c.as_slice-2.ensures c.in-Some.ensures.deepest in
    λ acyclic. deepest_chain arch c.in_ok-depths.depths n c.deepest_start.ensures.numbered.listeners c.in_ok-depths.ensures deepest
