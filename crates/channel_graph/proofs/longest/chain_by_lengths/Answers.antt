use Rattle.std.proofs.Common.{◌≡◌, ◌≤◌, ◌+◌, ◌∙◌, ℕ, List, length, replicate, ap, sym, subst, arith}
use Rattle.std.proofs.lemmas.List.{length-map}
use Rattle.tower_syntax.specs.View.{handler_of}
use Rattle.channel_graph.specs.Lengths.{AreBefore, HasWalk, IsStart, IsOnMark}
use Rattle.channel_graph.proofs.Walked.{walk_is_short, all_start, no_walk_yet, starts_before, walk_found, none_longer, chain_found, chain_within}
use Rattle.channel_graph.proofs.longest.chain_by_lengths.Goals as goal

pub loop-n-init : goal.loop-n-init
loop-n-init c =
    let arch = c.args.arch.now in
    let count : length c.handlers-count.result.now ≡ length arch.handlers = sym (length-map c.handlers-count.result.now handler_of) ∙ ap length c.handlers-count.ensures.value in
    let ones = c.from_vec-ranks.ensures ∙ c.in_ok-vec.ensures.items_if_clones_equal (λ y e. e) ∙ ap (λ n. replicate n 1) count in
    (all_start arch c.from_vec-ranks.result ones, no_walk_yet arch)

pub returns-then-not-starts_on_source-clause-within :
    goal.returns-then-not-starts_on_source-clause-within
returns-then-not-starts_on_source-clause-within c =
    let arch = c.args.arch.now in
    let n = c.loop-n.n in
    let few : n ≤ length arch.handlers = omega (arith, c.loop-n-test.true, ap length c.handlers-count.ensures.value, length-map c.handlers-count.result.now handler_of) in
    let none = subst (λ (xs : List ℕ). (k : ℕ) → IsStart arch xs k → ⊥) c.as_slice.ensures c.if-not-starts_on_source.ensures in
    chain_within arch (length arch.handlers) n few c.loop-n.invariant.1 (λ hs walk short. none_longer arch n c.loop-n.ranks c.handlers-count.ensures.numbered.listeners c.loop-n.invariant.0 none hs walk)

pub returns-then-not-starts_on_source-clause-chain :
    goal.returns-then-not-starts_on_source-clause-chain
returns-then-not-starts_on_source-clause-chain c =
    let arch = c.args.arch.now in
    let n = c.loop-n.n in
    let none = subst (λ (xs : List ℕ). (k : ℕ) → IsStart arch xs k → ⊥) c.as_slice.ensures c.if-not-starts_on_source.ensures in
    λ acyclic. chain_found arch n c.loop-n.invariant.1 (none_longer arch n c.loop-n.ranks c.handlers-count.ensures.numbered.listeners c.loop-n.invariant.0 none)

pub loop-n-preserved : goal.loop-n-preserved
loop-n-preserved c =
    let arch = c.args.arch.now in
    let n = c.loop-n.n in
    let some : 1 ≤ n + 1 = omega arith in
    let marked = subst (IsOnMark arch) c.as_slice.ensures c.if-not-starts_on_source.ensures in
    let before = subst (λ (xs : List ℕ). AreBefore arch xs (length arch.handlers) c.in_ok-ranks.ranks) c.as_slice-in-loop-n.ensures c.in_ok-ranks.ensures in (
      starts_before arch (n + 1) c.loop-n.ranks c.in_ok-ranks.ranks some c.handlers-count.ensures.numbered.listeners c.loop-n.invariant.0 before,
      walk_found arch (n + 1) c.loop-n.ranks c.loop-n.invariant.0 marked,
    )

pub returns-clause-within : goal.returns-clause-within
returns-clause-within c =
    let arch = c.args.arch.now in
    let count : length c.handlers-count.result.now ≡ length arch.handlers = sym (length-map c.handlers-count.result.now handler_of) ∙ ap length c.handlers-count.ensures.value in
    let end : c.loop-n.n ≡ length c.handlers-count.result.now = omega (arith, c.loop-n-test.false, count) in
    let few : length c.handlers-count.result.now ≤ length arch.handlers = omega (arith, count) in
    chain_within arch (length arch.handlers) (length c.handlers-count.result.now) few (subst (HasWalk arch) end c.loop-n.invariant.1) (λ hs walk short. omega (arith, short, count))

pub returns-clause-chain : goal.returns-clause-chain
returns-clause-chain c =
    let arch = c.args.arch.now in
    let count : length c.handlers-count.result.now ≡ length arch.handlers = sym (length-map c.handlers-count.result.now handler_of) ∙ ap length c.handlers-count.ensures.value in
    let end : c.loop-n.n ≡ length c.handlers-count.result.now = omega (arith, c.loop-n-test.false, count) in
    λ acyclic. chain_found arch (length c.handlers-count.result.now) (subst (HasWalk arch) end c.loop-n.invariant.1) (λ hs walk. omega (arith, walk_is_short arch hs c.handlers-count.ensures.numbered.listeners acyclic walk, count))
