use Rattle.std.proofs.Common.{◌≡◌, ◌∙◌, ap, sym, refl, rules, arith, FitsSigned}
use Rattle.std.specs.Int.{w128}
use Rattle.std.proofs.lemmas.Int.{to_z-of_z}
use Rattle.tower_syntax.specs.Tree.{un, bin}
use Rattle.tower_syntax.specs.View.{expr_of, place_of}
use Rattle.tower_syntax.proofs.Views.{expr_of-Un, expr_of-Bin}
use Rattle.atomic_state.specs.FrameView.{env_of}
use Rattle.atomic_state.proofs.Numbers.{by_un, by_bin}
use Rattle.atomic_state.proofs.eval.+eval.Goals as goal

pub number-returns-in-Un : goal.number-returns-in-Un
number-returns-in-Un t c =
    let fit : FitsSigned w128 c.operate_one.result = search rules in
    let fit_a : FitsSigned w128 c.number-a.result = search rules in
    let is : expr_of c.args.e.now ≡ un c.in-Un.op c.in-Un.t (expr_of c.get.result.now) =
    ap expr_of c.in-Un.is ∙ expr_of-Un c.in-Un.op c.in-Un.t c.in-Un.a ∙ ap (λ a. un c.in-Un.op c.in-Un.t (expr_of a)) (sym c.get.ensures) in
    by_un (env_of c.args.frame.now) (expr_of c.args.e.now) c.in-Un.op c.in-Un.t (expr_of c.get.result.now) _ _ is (λ h. to_z-of_z w128 c.number-a.result fit_a ∙ c.number-a.ensures h)
    (λ p q. to_z-of_z w128 _ fit ∙ c.operate_one.ensures p q)

pub number-returns-in-Bin : goal.number-returns-in-Bin
number-returns-in-Bin t c =
    let fit : FitsSigned w128 c.operate.result = search rules in
    let fit_a : FitsSigned w128 c.number-a-in-Bin.result = search rules in
    let fit_b : FitsSigned w128 c.number-b.result = search rules in
    let is : expr_of c.args.e.now ≡ bin c.in-Bin.op c.in-Bin.t (expr_of c.get-in-Bin.result.now) (expr_of c.get-in-Bin-2.result.now) =
    ap expr_of c.in-Bin.is ∙ expr_of-Bin c.in-Bin.op c.in-Bin.t c.in-Bin.a c.in-Bin.b
    ∙ ap (λ a. bin c.in-Bin.op c.in-Bin.t (expr_of a) (expr_of c.in-Bin.b)) (sym c.get-in-Bin.ensures)
    ∙ ap (λ b. bin c.in-Bin.op c.in-Bin.t (expr_of c.get-in-Bin.result.now) (expr_of b)) (sym c.get-in-Bin-2.ensures) in
    by_bin (env_of c.args.frame.now) (expr_of c.args.e.now) c.in-Bin.op c.in-Bin.t (expr_of c.get-in-Bin.result.now) (expr_of c.get-in-Bin-2.result.now) _ _ _ is
    (λ h. to_z-of_z w128 c.number-a-in-Bin.result fit_a ∙ c.number-a-in-Bin.ensures h) (λ h. to_z-of_z w128 c.number-b.result fit_b ∙ c.number-b.ensures h) (λ p q r. to_z-of_z w128 _ fit ∙ c.operate.ensures p q r)
