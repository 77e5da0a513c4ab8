use Rattle.std.proofs.Common.{◌≡◌, ◌<◌, ◌∙◌, length, ap, sym, arith}
use Rattle.std.proofs.lemmas.List.{length-map}
use Rattle.tower_syntax.specs.Arch.{Arch}
use Rattle.tower_syntax.specs.View.{source_of}
use Rattle.tower_report.specs.CheckText.{cost_line}
use Rattle.tower_report.proofs.Puts.{Puts-err}
use Rattle.tower_report.proofs.Numbers.{Puts-number, Puts-number-part}
use Rattle.tower_report.proofs.checks.put_costs.Goals as goal

pub returns-in_err-put_cost : goal.returns-in_err-put_cost
returns-in_err-put_cost g c =
    let arch = c.args.checked.now in
    let s = c.loop-s.s in
    let count : length c.sources-s-end.result.now ≡ length arch.sources =
    sym (length-map c.sources-s-end.result.now source_of) ∙ ap length c.sources-s-end.ensures.value ∙ ap (λ (a : Arch). length a.sources) c.arch.ensures.value in
    let within : s < length arch.sources = omega (arith, c.loop-s-test.true, count) in
    Puts-err _ c.from_residual.ensures.0 (Puts-number-part (cost_line arch) s (length arch.sources) within c.loop-s.invariant c.in_err-put_cost.ensures)

pub loop-s-preserved : goal.loop-s-preserved
loop-s-preserved g c = Puts-number (cost_line c.args.checked.now) c.loop-s.s c.loop-s.invariant c.in_ok-put_cost.ensures
