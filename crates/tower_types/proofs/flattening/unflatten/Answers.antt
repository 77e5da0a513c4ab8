use Rattle.std.proofs.Common.{◌≡◌, ap, sym, subst, ◌∙◌, arith, IsTrue}
use Rattle.std.proofs.lemmas.Result.{IfOk-weaker}
use Rattle.tower_types.specs.declared.value.Value.{Value as ValueValue}
use Rattle.tower_types.specs.Ty.{shape_of}
use Rattle.tower_types.specs.Value.{Value, flat, fits, scalars, value_from}
use Rattle.tower_types.specs.View.{ty_of, value_of}
use Rattle.tower_types.proofs.Flat.{fit_words-length, length-scalars}
use Rattle.tower_types.proofs.Made.{fits-value_from, flat-whole}
use Rattle.tower_types.proofs.flattening.unflatten.Goals as goal

pub read_value-requires-clause-room : goal.read_value-requires-clause-room
read_value-requires-clause-room c =
    let s = shape_of c.args.records.now (ty_of c.args.t.now) in
    omega (arith, fit_words-length (scalars s) _ c.requires.fit, length-scalars s)

pub returns-clause-fits : goal.returns-clause-fits
returns-clause-fits c =
    let s = shape_of c.args.records.now (ty_of c.args.t.now) in
    let numbers = c.args.numbers.now in
    let Made : ValueValue → Type 0 = λ v. value_of v ≡ value_from s numbers in
    let Fits : Value → Type 0 = λ v. IsTrue (fits s v) in
    IfOk-weaker c.read_value.result Made (λ v. Fits (value_of v)) (λ v e. subst Fits (sym e) (fits-value_from s numbers c.requires.fit)) c.read_value.ensures.value

pub returns-clause-numbers : goal.returns-clause-numbers
returns-clause-numbers c =
    let s = shape_of c.args.records.now (ty_of c.args.t.now) in
    let numbers = c.args.numbers.now in
    let Made : ValueValue → Type 0 = λ v. value_of v ≡ value_from s numbers in
    IfOk-weaker c.read_value.result Made (λ v. flat (value_of v) ≡ numbers) (λ v e. ap flat e ∙ flat-whole s numbers c.requires.fit) c.read_value.ensures.value
