use Rattle.std.proofs.Common.{rules, pos, ◌-ℤ◌, ap, sym, ◌∙◌, FitsSigned}
use Rattle.std.specs.Int.{w128}
use Rattle.std.proofs.lemmas.Int.{to_z-of_z}
use Rattle.tower_types.specs.Arithmetic.{wrap_to, unary_of}
use Rattle.tower_types.proofs.Range.{zero-sub}
use Rattle.tower_types.proofs.arithmetic.unary.Goals as goal

pub returns-in-Neg-clause-value : goal.returns-in-Neg-clause-value
returns-in-Neg-clause-value c =
    let first : FitsSigned w128 c.args.a = c.ranges.a in
    let fit : FitsSigned w128 (pos 0 -ℤ c.args.a) = search rules in
    let out : FitsSigned w128 c.wrap.result = search rules in
    let h = simp to_z-of_z at c.wrap.ensures.value in
    simp to_z-of_z (h ∙ ap (wrap_to c.args.t) (zero-sub c.args.a) ∙ ap (λ o. unary_of o c.args.t c.args.a) (sym c.in-Neg.is))
