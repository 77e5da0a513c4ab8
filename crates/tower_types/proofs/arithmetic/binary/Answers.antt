use Rattle.std.proofs.Common.{rules, ◌+ℤ◌, ◌-ℤ◌, ap, sym, subst, ◌∙◌, FitsSigned, IsTrue}
use Rattle.std.specs.Int.{w128}
use Rattle.std.proofs.lemmas.Int.{to_z-of_z}
use Rattle.tower_types.specs.declared.scalar.BinOp.{BinOp}
use Rattle.tower_types.specs.Arithmetic.{wrap_to, binary_of, applies}
use Rattle.tower_types.proofs.Range.{or_is, xor_is}
use Rattle.tower_types.proofs.arithmetic.binary.Goals as goal

pub returns-in-Add-clause-value : goal.returns-in-Add-clause-value
returns-in-Add-clause-value c =
    let first : FitsSigned w128 c.args.a = c.ranges.a in
    let second : FitsSigned w128 c.args.b = c.ranges.b in
    let fit : FitsSigned w128 (c.args.a +ℤ c.args.b) = search rules in
    let out : FitsSigned w128 c.wrap.result = search rules in
    let h = simp to_z-of_z at c.wrap.ensures.value in
    simp to_z-of_z (h ∙ ap (λ o. binary_of o c.args.t c.args.a c.args.b) (sym c.in-Add.is))

pub returns-in-Sub-clause-value : goal.returns-in-Sub-clause-value
returns-in-Sub-clause-value c =
    let first : FitsSigned w128 c.args.a = c.ranges.a in
    let second : FitsSigned w128 c.args.b = c.ranges.b in
    let fit : FitsSigned w128 (c.args.a -ℤ c.args.b) = search rules in
    let out : FitsSigned w128 c.wrap-in-Sub.result = search rules in
    let h = simp to_z-of_z at c.wrap-in-Sub.ensures.value in
    simp to_z-of_z (h ∙ ap (λ o. binary_of o c.args.t c.args.a c.args.b) (sym c.in-Sub.is))

pub returns-in-Or-clause-value : goal.returns-in-Or-clause-value
returns-in-Or-clause-value c =
    let Has : BinOp → Type 0 = λ o. IsTrue (applies o c.args.t) in
    let has = subst Has c.in-Or.is c.requires.applies in
    let out : FitsSigned w128 c.wrap-in-Or.result = search rules in
    let h = c.wrap-in-Or.ensures.value ∙ ap (wrap_to c.args.t) (or_is _ _ _ has c.requires.first c.requires.second) in
    simp to_z-of_z (h ∙ ap (λ o. binary_of o c.args.t c.args.a c.args.b) (sym c.in-Or.is))

pub returns-in-Xor-clause-value : goal.returns-in-Xor-clause-value
returns-in-Xor-clause-value c =
    let Has : BinOp → Type 0 = λ o. IsTrue (applies o c.args.t) in
    let has = subst Has c.in-Xor.is c.requires.applies in
    let out : FitsSigned w128 c.wrap-in-Xor.result = search rules in
    let h = c.wrap-in-Xor.ensures.value ∙ ap (wrap_to c.args.t) (xor_is _ _ _ has c.requires.first c.requires.second) in
    simp to_z-of_z (h ∙ ap (λ o. binary_of o c.args.t c.args.a c.args.b) (sym c.in-Xor.is))
