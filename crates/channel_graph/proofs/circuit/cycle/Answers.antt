use Rattle.std.proofs.Common.{◌≡◌, ◌<◌, ◌∙◌, [], Some, None, length, arith, ap, sym, subst}
use Rattle.std.proofs.lemmas.List.{length-map}
use Rattle.tower_syntax.specs.View.{source_of}
use Rattle.channel_graph.specs.Circuit.{shown_at, first_of_all}
use Rattle.tower_syntax.specs.Graph.{numbers_before}
use Rattle.channel_graph.proofs.Acyclic.{shown_none}
use Rattle.channel_graph.proofs.Shortest.{first_at, first_none}
use Rattle.channel_graph.proofs.circuit.cycle.Goals as goal

pub returns-in-Some-clause-shown : goal.returns-in-Some-clause-shown
returns-in-Some-clause-shown c =
    let arch = c.args.arch.now in
    let s = c.loop-s.s in
    let below : s < length arch.sources = omega (arith, c.loop-s-test.true, ap length c.sources-s-end.ensures.value, length-map c.sources-s-end.result.now source_of) in
    sym (first_at (shown_at arch) (length arch.sources) s c.in-Some.cycle below c.loop-s.invariant (sym c.in_ok-found.ensures ∙ c.in-Some.is))

pub returns-in-Some-clause-none : goal.returns-in-Some-clause-none
returns-in-Some-clause-none c =
    let arch = c.args.arch.now in
    let s = c.loop-s.s in
    let below : s < length arch.sources = omega (arith, c.loop-s-test.true, ap length c.sources-s-end.ensures.value, length-map c.sources-s-end.result.now source_of) in
    shown_none arch (Some c.in-Some.cycle) c.in_ok-heard.ensures.numbered.listeners (sym (first_at (shown_at arch) (length arch.sources) s c.in-Some.cycle below c.loop-s.invariant (sym c.in_ok-found.ensures ∙ c.in-Some.is)))

pub returns-clause-shown : goal.returns-clause-shown
returns-clause-shown c =
    let arch = c.args.arch.now in
    let end : c.loop-s.s ≡ length arch.sources = omega (arith, c.loop-s-test.false, ap length c.sources-s-end.ensures.value, length-map c.sources-s-end.result.now source_of) in
    sym (subst (λ n. first_of_all (shown_at arch) (numbers_before n []) ≡ None) end c.loop-s.invariant)

pub returns-clause-none : goal.returns-clause-none
returns-clause-none c =
    let arch = c.args.arch.now in
    let end : c.loop-s.s ≡ length arch.sources = omega (arith, c.loop-s-test.false, ap length c.sources-s-end.ensures.value, length-map c.sources-s-end.result.now source_of) in
    shown_none arch None c.in_ok-heard.ensures.numbered.listeners (sym (subst (λ n. first_of_all (shown_at arch) (numbers_before n []) ≡ None) end c.loop-s.invariant))

pub loop-s-preserved : goal.loop-s-preserved
loop-s-preserved c = first_none (shown_at c.args.arch.now) c.loop-s.s c.loop-s.invariant (sym c.in_ok-found.ensures ∙ c.in_default.is)
