use Rattle.std.proofs.Common.{rules, ◌^◌, ◌≤◌, unsigned_abs, ap, ◌∙◌, FitsSigned}
use Rattle.std.specs.Int.{w128}
use Rattle.std.proofs.lemmas.Int.{to_z-of_z}
use Rattle.tower_types.specs.Arithmetic.{wrap_to}
use Rattle.tower_types.proofs.Range.{product_is}
use Rattle.tower_types.proofs.arithmetic.product.Goals as goal

pub returns-in_default-clause-value : goal.returns-in_default-clause-value
returns-in_default-clause-value c =
    let small : unsigned_abs c.args.a ≤ 2 ^ 63 = search rules in
    let other : unsigned_abs c.args.b ≤ 2 ^ 63 = search rules in
    let out : FitsSigned w128 c.wrap.result = search rules in
    to_z-of_z w128 _ out ∙ c.wrap.ensures.value ∙ ap (wrap_to c.args.t) (product_is _ _ c.ranges.a c.ranges.b small other)
