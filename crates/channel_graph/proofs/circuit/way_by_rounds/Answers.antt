use Rattle.std.proofs.Common.{◌≡◌, ◌<◌, ◌≤◌, ◌∙◌, false, true, length, arith, ap, sym, subst, refl, below_more}
use Rattle.std.proofs.lemmas.List.{length-map}
use Rattle.tower_syntax.specs.View.{handler_of}
use Rattle.channel_graph.specs.Circuit.{leads_near}
use Rattle.channel_graph.specs.Ranked.{is_loud, AreLoud, Widens}
use Rattle.channel_graph.proofs.Rounds.{loud_near, ranked_more, found_round, none_round, ended_round}
use Rattle.channel_graph.proofs.circuit.way_by_rounds.Goals as goal

pub returns-then-is_heard : goal.returns-then-is_heard
returns-then-is_heard c =
    let arch = c.args.arch.now in
    let h = c.args.h in
    let n = c.loop-n.n in
    let ranks = c.loop-n.ranks in
    let loud = c.in_ok-loud.loud in
    let below : n < length arch.handlers = omega (arith, c.loop-n-test.true, ap length c.handlers-count.ensures.value, length-map c.handlers-count.result.now handler_of) in
    let kept = subst (λ xs. AreLoud arch xs (length arch.handlers) loud) c.as_slice.ensures c.in_ok-loud.ensures in
    let test : is_loud arch loud h ≡ true = sym (subst (λ xs. true ≡ is_loud arch xs h) c.as_slice-in-loop-n.ensures c.if-is_heard.ensures) in
    let near = sym (loud_near arch h n ranks loud h c.handlers-count.ensures.numbered c.loop-n.invariant.0 kept c.requires) ∙ test in
    found_round arch h n c.in_ok-way.way below c.loop-n.invariant.1 near c.in_ok-way.ensures

pub returns-then-not-widen : goal.returns-then-not-widen
returns-then-not-widen c =
    let arch = c.args.arch.now in
    let h = c.args.h in
    let n = c.loop-n.n in
    let ranks = c.loop-n.ranks in
    let loud = c.in_ok-loud.loud in
    let numbered = c.handlers-count.ensures.numbered in
    let kept = subst (λ xs. AreLoud arch xs (length arch.handlers) loud) c.as_slice.ensures c.in_ok-loud.ensures in
    let test : is_loud arch loud h ≡ false = sym (subst (λ xs. false ≡ is_loud arch xs h) c.as_slice-in-loop-n.ensures c.if-is_heard.ensures) in
    let near = sym (loud_near arch h n ranks loud h numbered c.loop-n.invariant.0 kept c.requires) ∙ test in
    let widens = subst (λ xs. Widens arch xs n (length arch.handlers) ranks c.widen.new.ranks) c.as_slice-in-loop-n-2.ensures c.widen.ensures.widens in
    let none = ended_round arch h n ranks c.widen.new.ranks loud numbered c.requires c.loop-n.invariant.0 kept widens (c.if-not-widen.ensures.same refl) c.loop-n.invariant.1 near in
    none_round arch h (λ m below. none m)

pub loop-n-preserved : goal.loop-n-preserved
loop-n-preserved c =
    let arch = c.args.arch.now in
    let h = c.args.h in
    let n = c.loop-n.n in
    let ranks = c.loop-n.ranks in
    let loud = c.in_ok-loud.loud in
    let numbered = c.handlers-count.ensures.numbered in
    let kept = subst (λ xs. AreLoud arch xs (length arch.handlers) loud) c.as_slice.ensures c.in_ok-loud.ensures in
    let test : is_loud arch loud h ≡ false = sym (subst (λ xs. false ≡ is_loud arch xs h) c.as_slice-in-loop-n.ensures c.if-is_heard.ensures) in
    let near = sym (loud_near arch h n ranks loud h numbered c.loop-n.invariant.0 kept c.requires) ∙ test in
    let widens = subst (λ xs. Widens arch xs n (length arch.handlers) ranks c.widen.new.ranks) c.as_slice-in-loop-n-2.ensures c.widen.ensures.widens in (
      ranked_more arch h n ranks c.widen.new.ranks loud numbered c.loop-n.invariant.0 kept widens,
      below_more (λ m. leads_near arch h m h ≡ false) n c.loop-n.invariant.1 near,
    )

pub returns : goal.returns
returns c =
    let arch = c.args.arch.now in
    let end : length arch.handlers ≤ c.loop-n.n = omega (arith, c.loop-n-test.false, ap length c.handlers-count.ensures.value, length-map c.handlers-count.result.now handler_of) in
    none_round arch c.args.h (λ m below. let early : m < c.loop-n.n = omega arith in c.loop-n.invariant.1 m early)
