use Rattle.std.proofs.Common.{◌≡◌, ◌∙◌, ◌++◌, ◌||◌, ◌+◌, false, [], length, map, drop, take, arith, refl, ap, sym, subst}
use Rattle.tower_syntax.specs.View.{expr_of, place_of, steps_of}
use Rattle.tower_syntax.specs.Weights.{root_shape}
use Rattle.channel_graph.specs.Stepped.{step_of}
use Rattle.task_code.specs.declared.program.Instr.TheVariants.{Jmp}
use Rattle.task_code.specs.Piece.{listed}
use Rattle.task_code.proofs.Grown.{keeps_more}
use Rattle.tower_types.specs.Ty.{words}
use Rattle.stmt_code.specs.Body.{expr_code, index_code, steps_code, added}
use Rattle.stmt_code.specs.Seen.{step_moves}
use Rattle.stmt_code.proofs.Expressed.{bin_made, cast_made, cond_made}
use Rattle.stmt_code.proofs.Steps.{place_of-steps, rest-steps, on_moving, steps_end, added_none}
use Rattle.stmt_code.proofs.exprs.+exprs.Goals as goal

pub add_expr-returns-in_ok-push-in-Bin-clause-ok : goal.add_expr-returns-in_ok-push-in-Bin-clause-ok
add_expr-returns-in_ok-push-in-Bin-clause-ok t c =
    bin_made c.args.layout.now c.args.code.now c.add_expr-in-Bin.new.code c.add_expr-in-Bin-2.new.code c.push-in-Bin.new.self
    c.args.e.now c.in-Bin.a c.in-Bin.b c.get-in-Bin.result.now c.get-in-Bin-2.result.now c.in-Bin.op c.in-Bin.t
    c.in-Bin.is c.get-in-Bin.ensures c.get-in-Bin-2.ensures c.in_ok-add_expr-in-Bin.ensures.ok c.in_ok-add_expr-in-Bin-2.ensures.ok c.in_ok-push-in-Bin.ensures.ok

pub add_expr-returns-in_ok-push-in-Cast-clause-ok : goal.add_expr-returns-in_ok-push-in-Cast-clause-ok
add_expr-returns-in_ok-push-in-Cast-clause-ok t c =
    cast_made c.args.layout.now c.args.code.now c.add_expr-in-Cast.new.code c.push-in-Cast.new.self
    c.args.e.now c.in-Cast.a c.get-in-Cast.result.now c.in-Cast.t
    c.in-Cast.is c.get-in-Cast.ensures c.in_ok-add_expr-in-Cast.ensures.ok c.in_ok-push-in-Cast.ensures.ok

pub add_expr-returns-in_ok-add_expr-in-Cond-3-clause-ok : goal.add_expr-returns-in_ok-add_expr-in-Cond-3-clause-ok
add_expr-returns-in_ok-add_expr-in-Cond-3-clause-ok t c =
    cond_made c.args.layout.now c.args.code.now c.add_expr-in-Cond.new.code c.hold.new.self c.add_expr-in-Cond-2.new.code c.hold-in-Cond.new.self c.add_expr-in-Cond-3.new.code c.join.new.code
    (Jmp 0) (Jmp 0) c.in_ok-test-in-Cond.test c.in_ok-jump-in-Cond.jump
    c.args.e.now c.in-Cond.c c.in-Cond.a c.in-Cond.b c.get-in-Cond.result.now c.get-in-Cond-2.result.now c.get-in-Cond-3.result.now
    c.in-Cond.is c.get-in-Cond.ensures c.get-in-Cond-2.ensures c.get-in-Cond-3.ensures
    c.in_ok-add_expr-in-Cond.ensures.ok c.in_ok-test-in-Cond.ensures.ok.0 c.in_ok-test-in-Cond.ensures.ok.1
    c.in_ok-add_expr-in-Cond-2.ensures.ok c.in_ok-jump-in-Cond.ensures.ok.0 c.in_ok-jump-in-Cond.ensures.ok.1
    c.in_ok-add_expr-in-Cond-3.ensures.ok c.join.ensures

pub add_expr-returns-in_ok-add_expr-in-Cond-3-clause-keeps : goal.add_expr-returns-in_ok-add_expr-in-Cond-3-clause-keeps
add_expr-returns-in_ok-add_expr-in-Cond-3-clause-keeps t c =
    keeps_more c.args.code.now c.join.new.code (listed (expr_code c.args.layout.now (length c.args.code.now) (expr_of c.args.e.now)))
    (add_expr-returns-in_ok-add_expr-in-Cond-3-clause-ok t c)

pub add_index-loop-step-init : goal.add_index-loop-step-init
add_index-loop-step-init t c =
    (ap (λ s. c.args.code.now ++ listed (steps_code c.args.layout.now (length c.args.code.now) false s (steps_of (map step_of c.as_slice-step-items.result.now)))) c.root-part.ensures, λ start h. h)

pub add_index-loop-step-preserved : goal.add_index-loop-step-preserved
add_index-loop-step-preserved t c =
    let w = c.args.layout.now in
    let items = c.as_slice-step-items.result.now in
    let rest = steps_of (map step_of (drop (c.loop-step.step-index + 1) items)) in
    let before = ap (λ ss. c.loop-step.code ++ listed (steps_code w (length c.loop-step.code) c.loop-step.begun c.loop-step.part ss)) (rest-steps items c.loop-step.step-index c.step-item.result c.loop-step-test.true c.step-item.is) in
    let here = c.in_ok-add_step.ensures.ok rest in
    let moved = ap (λ b. c.add_step.new.code ++ listed (steps_code w (length c.add_step.new.code) b c.step-part.result rest)) c.moves_after-begun.ensures in
    let part = ap (λ s. c.add_step.new.code ++ listed (steps_code w (length c.add_step.new.code) (step_moves c.step-item.result || c.loop-step.begun) s rest)) c.step-part.ensures in
    (moved ∙ part ∙ here ∙ sym before ∙ c.loop-step.invariant.0, λ start h. c.add_step.ensures.keeps start (c.loop-step.invariant.1 start h))

pub add_index-returns-in_err-add_step-clause-keeps : goal.add_index-returns-in_err-add_step-clause-keeps
add_index-returns-in_err-add_step-clause-keeps t c = λ start h. c.in_err-add_step.ensures.keeps start (c.loop-step.invariant.1 start h)

pub add_index-returns-clause-ok : goal.add_index-returns-clause-ok
add_index-returns-clause-ok t c =
    let w = c.args.layout.now in
    let old = c.args.code.now in
    let p = c.args.p.now in
    let items = c.as_slice-step-items.result.now in
    let end : c.loop-step.step-index ≡ length items = omega arith in
    steps_end w c.loop-step.code _ c.loop-step.begun c.loop-step.part items c.loop-step.step-index end c.loop-step.invariant.0
    ∙ ap (λ ys. old ++ listed (steps_code w (length old) false (root_shape w.scope p.root) (steps_of (map step_of ys)))) c.as_slice-step-items.ensures
    ∙ sym (ap (λ q. old ++ listed (index_code w (length old) q)) (place_of-steps p))

pub add_index-returns-clause-keeps : goal.add_index-returns-clause-keeps
add_index-returns-clause-keeps t c = c.loop-step.invariant.1

pub add_step-returns-in_ok-push-in-At-clause-ok : goal.add_step-returns-in_ok-push-in-At-clause-ok
add_step-returns-in_ok-push-in-At-clause-ok t c =
    on_moving c.args.layout.now c.args.begun c.args.whole.now c.args.code.now c.add_expr.new.code c.add_scaled.new.code c.push.new.self c.args.step.now c.in-At.e c.in_ok-width-in-At.width
    c.in-At.is (sym c.is_moving.ensures ∙ c.if-is_moving.true) c.in_ok-add_expr-in-At.ensures.ok (c.in_ok-width-in-At.ensures ∙ ap words c.step.ensures) c.in_ok-add_scaled-in-At.ensures.ok
    (c.in_ok-push-in-At.ensures.ok ∙ ap (λ b. c.add_scaled.new.code ++ listed (added b)) (sym c.if-begun.true))

pub add_step-returns-else-begun-clause-ok : goal.add_step-returns-else-begun-clause-ok
add_step-returns-else-begun-clause-ok t c =
    on_moving c.args.layout.now c.args.begun c.args.whole.now c.args.code.now c.add_expr.new.code c.add_scaled.new.code c.add_scaled.new.code c.args.step.now c.in-At.e c.in_ok-width-in-At.width
    c.in-At.is (sym c.is_moving.ensures ∙ c.if-is_moving.true) c.in_ok-add_expr-in-At.ensures.ok (c.in_ok-width-in-At.ensures ∙ ap words c.step.ensures) c.in_ok-add_scaled-in-At.ensures.ok
    (added_none c.add_scaled.new.code c.args.begun c.if-begun.false)
