use Rattle.std.proofs.Common.{◌≡◌, ◌≤◌, ◌∙◌, ◌+◌, suc, ℕ, List, length, ap, subst, sym, arith}
use Rattle.std.proofs.lemmas.List.{length-map}
use Rattle.std.proofs.lemmas.Slice.Eq.{bytes_eq-Decides}
use Rattle.tower_syntax.specs.View.{handler_of}
use Rattle.tower_syntax.specs.Weights.{deliver_within}
use Rattle.channel_graph.specs.Table.{IsTable}
use Rattle.channel_graph.proofs.Rounded.{settled_in}
use Rattle.channel_graph.proofs.delivery.deliveries_by_rounds.Goals as goal

pub returns-then-eq : goal.returns-then-eq
returns-then-eq c =
    let arch = c.args.arch.now in
    let n = c.loop-links._links in
    let few : n ≤ length arch.handlers = omega (arith, c.loop-links-test.true, ap length c.handlers-links-end.ensures.value, length-map c.handlers-links-end.result.now handler_of) in
    let equal = sym c.eq.ensures ∙ c.if-eq.true in
    let same = sym c.as_slice-in-loop-links.ensures ∙ (bytes_eq-Decides c.as_slice-in-loop-links.result.now c.as_slice-in-loop-links-2.result.now).0 equal ∙ c.as_slice-in-loop-links-2.ensures in
    let round = λ (f : ℕ → ℕ) (table : IsTable (length arch.handlers) f c.loop-links.costs).
    c.in_ok-after.ensures.rounds f (subst (IsTable (length arch.handlers) f) (sym c.as_slice.ensures) table) in
    settled_in arch c.loop-links.costs c.in_ok-after.after n few same round c.loop-links.invariant

pub loop-links-preserved : goal.loop-links-preserved
loop-links-preserved c =
    let next : c.loop-links._links + 1 ≡ suc c.loop-links._links = omega arith in
    let table = subst (λ (xs : List ℕ). IsTable (length c.args.arch.now.handlers) (deliver_within c.loop-links._links c.args.arch.now) xs) (sym c.as_slice.ensures) c.loop-links.invariant in
    subst (λ (n : ℕ). IsTable (length c.args.arch.now.handlers) (deliver_within n c.args.arch.now) c.in_ok-after.after) (sym next) (c.in_ok-after.ensures.rounds (deliver_within c.loop-links._links c.args.arch.now) table)

pub returns : goal.returns
returns c =
    let arch = c.args.arch.now in
    let end : c.loop-links._links ≡ length arch.handlers = omega (arith, c.loop-links-test.false, ap length c.handlers-links-end.ensures.value, length-map c.handlers-links-end.result.now handler_of) in
    subst (λ (n : ℕ). IsTable (length arch.handlers) (deliver_within n arch) c.loop-links.costs) end c.loop-links.invariant
