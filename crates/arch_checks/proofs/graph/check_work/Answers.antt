use Rattle.std.proofs.Common.{◌≡◌, ◌<◌, ◌≤◌, inr, List, length, map, ap, ◌∙◌, subst, arith}
use Rattle.std.proofs.lemmas.List.{length-map}
use Rattle.tower_syntax.specs.declared.arch.Source.{Source}
use Rattle.tower_syntax.specs.View.{source_of}
use Rattle.tower_syntax.specs.Arch.{Arch}
use Rattle.arch_checks.specs.Limits.{work_limit}
use Rattle.arch_checks.specs.declared.fault.Fault.TheVariants.{Work}
use Rattle.arch_checks.proofs.Works.{costs_length, cost_at, cheap_more, dear, costs_exact, source_named}
use Rattle.arch_checks.proofs.graph.check_work.Goals as goal

count : (arch : Arch) (items : List Source) → map source_of items ≡ arch.sources → length items ≡ length arch.sources
count arch items e = omega (arith, ap length e, length-map items source_of)

pub index-cost-requires : goal.index-cost-requires
index-cost-requires c =
    let arch = c.args.arch.now in
    omega (arith, c.in_ok-all.all.ok.0, costs_length arch c.in_ok-all.all.items c.in_ok-all.ensures, count arch c.sources-source-items.result.now c.sources-source-items.ensures.value, c.loop-s-test.true)

pub returns-then-cost-gt-WORK_LIMIT-clause-fault :
    goal.returns-then-cost-gt-WORK_LIMIT-clause-fault
returns-then-cost-gt-WORK_LIMIT-clause-fault c =
    let arch = c.args.arch.now in
    let all = c.in_ok-all.all.items in
    let s = c.loop-s.s in
    let items = c.sources-source-items.result.now in
    let exists : s < length arch.sources = omega (arith, count arch items c.sources-source-items.ensures.value, c.loop-s-test.true) in
    let told = c.index-cost.ensures ∙ cost_at arch all s c.index-cost.result.now c.in_ok-all.ensures exists in
    let name = c.in_ok-source.ensures ∙ source_named arch items s c.source-item.result c.sources-source-items.ensures.value c.loop-s-test.true c.source-item.is in
    inr (record {
      source = s;
      exists = exists;
      more = dear arch all s c.index-cost.result.now c.in_ok-all.ensures exists (subst (λ n. work_limit < n) c.index-cost.ensures c.if-cost-gt-WORK_LIMIT.true);
      before = c.loop-s.invariant;
      told = λ i. Work (name i) (told i);
    })

pub loop-s-preserved : goal.loop-s-preserved
loop-s-preserved c =
    let arch = c.args.arch.now in
    let all = c.in_ok-all.all.items in
    let exists : c.loop-s.s < length arch.sources = omega (arith, count arch c.sources-source-items.result.now c.sources-source-items.ensures.value, c.loop-s-test.true) in
    cheap_more arch all c.loop-s.s c.index-cost.result.now c.in_ok-all.ensures exists (subst (λ n. n ≤ work_limit) c.index-cost.ensures c.if-cost-gt-WORK_LIMIT.false) c.loop-s.invariant

pub returns-clause-cheap : goal.returns-clause-cheap
returns-clause-cheap c =
    let arch = c.args.arch.now in
    λ s l. c.loop-s.invariant s (omega (arith, l, count arch c.sources-source-items.result.now c.sources-source-items.ensures.value, c.loop-s-test.false))

pub returns-clause-costs : goal.returns-clause-costs
returns-clause-costs c =
    let arch = c.args.arch.now in
    let most = count arch c.sources-source-items.result.now c.sources-source-items.ensures.value in
    c.from_vec.ensures ∙ costs_exact arch c.in_ok-all.all.items c.in_ok-all.ensures (λ s l. c.loop-s.invariant s (omega (arith, l, most, c.loop-s-test.false)))
