use Rattle.std.proofs.Common.{◌≡◌, ◌∙◌, ◌+◌, length, take, ap, sym, subst, map, [], arith, List}
use Rattle.std.proofs.Math.Seq.{take-length}
use Rattle.tower_types.specs.View.{ty_of}
use Rattle.tower_syntax.specs.declared.body.PlaceStep.{PlaceStep as StepValue}
use Rattle.tower_syntax.specs.View.{steps_of}
use Rattle.tower_syntax.specs.Weights.{root_shape, steps_shape}
use Rattle.channel_graph.specs.Stepped.{step_of}
use Rattle.channel_graph.specs.Site.{scope_at}
use Rattle.channel_graph.specs.Scoped.{HasShape, shape_by, part_shape}
use Rattle.channel_graph.proofs.Shaped.{Comes, comes_none, comes_more, comes_all, comes_to_none, place_shape-steps}
use Rattle.channel_graph.proofs.scope.Scope.place_type.Goals as goal

pub returns-in_err-ty : goal.returns-in_err-ty
returns-in_err-ty c =
    let root = root_shape (scope_at c.args.self.now) c.args.p.now.root in
    let none = subst (λ s. Comes root [] s) c.in_err-ty.ensures (comes_none root) in
    rw c.from_residual.ensures (place_shape-steps (scope_at c.args.self.now) c.args.p.now ∙ comes_to_none root c.args.p.now.steps 0 none)

pub returns-in_err-ty-2 : goal.returns-in_err-ty-2
returns-in_err-ty-2 c =
    let root = root_shape (scope_at c.args.self.now) c.args.p.now.root in
    let steps = c.as_slice-step-items.result.now in
    let i = c.loop-step.step-index in
    let part = ap (λ s. part_shape c.step-item.result (shape_by s.arch (ty_of c.loop-step.ty.now))) (sym c.self.view_is) ∙ c.in_err-ty-2.ensures in
    let more = comes_more root (shape_by c.args.self.now.arch (ty_of c.loop-step.ty.now)) steps i c.step-item.result c.loop-step-test.true c.step-item.is c.loop-step.invariant.1 in
    let none = subst (λ s. Comes root (take (i + 1) steps) s) part more in
    let all = ap (λ (ys : List StepValue). steps_shape root (steps_of (map step_of ys))) (sym c.as_slice-step-items.ensures) ∙ comes_to_none root steps (i + 1) none in
    rw c.from_residual-in_err-ty-2.ensures (place_shape-steps (scope_at c.args.self.now) c.args.p.now ∙ all)

pub loop-step-preserved : goal.loop-step-preserved
loop-step-preserved c =
    let arch = c.args.self.now.arch in
    let root = root_shape (scope_at c.args.self.now) c.args.p.now.root in
    let has = subst (λ s. HasShape s.arch (part_shape c.step-item.result (shape_by s.arch (ty_of c.loop-step.ty.now))) (ty_of c.in_ok-ty-2.ty.now)) c.self.view_is c.in_ok-ty-2.ensures in
    let more = comes_more root (shape_by arch (ty_of c.loop-step.ty.now)) c.as_slice-step-items.result.now c.loop-step.step-index c.step-item.result c.loop-step-test.true c.step-item.is c.loop-step.invariant.1 in
    (has.numbered, subst (λ s. Comes root (take (c.loop-step.step-index + 1) c.as_slice-step-items.result.now) s) (sym has.shape) more)

pub returns : goal.returns
returns c =
    let root = root_shape (scope_at c.args.self.now) c.args.p.now.root in
    let steps = c.as_slice-step-items.result.now in
    let end : c.loop-step.step-index ≡ length steps = omega arith in
    let whole = subst (λ xs. Comes root xs (shape_by c.args.self.now.arch (ty_of c.loop-step.ty.now))) (take-length steps) (subst (λ j. Comes root (take j steps) (shape_by c.args.self.now.arch (ty_of c.loop-step.ty.now))) end c.loop-step.invariant.1) in
    let all = ap (λ (ys : List StepValue). steps_shape root (steps_of (map step_of ys))) (sym c.as_slice-step-items.ensures) ∙ comes_all root (shape_by c.args.self.now.arch (ty_of c.loop-step.ty.now)) steps whole in
    record { numbered = c.loop-step.invariant.0; shape = sym (place_shape-steps (scope_at c.args.self.now) c.args.p.now ∙ all) }
