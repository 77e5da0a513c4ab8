use Rattle.std.proofs.Common.{◌≡◌, ◌∙◌, ◌++◌, length, map, All, ap, sym, subst, arith}
use Rattle.tower_syntax.specs.View.{handler_of, body_of, all_stmts_of}
use Rattle.tower_syntax.specs.WellNumbered.{IsNumberedBody}
use Rattle.tower_syntax.specs.declared.body.Body.{Body as BodyValue}
use Rattle.channel_graph.proofs.Sized.{each_view}
use Rattle.task_code.specs.Piece.{listed}
use Rattle.stmt_code.specs.Layout.{Layout, layout_of}
use Rattle.stmt_code.specs.Body.{stmts_code}
use Rattle.stmt_code.specs.Section.{bodies_code}
use Rattle.stmt_code.proofs.Sectioned.{bodies_next, bodies_end}
use Rattle.stmt_code.proofs.section.add_bodies.Goals as goal

pub new-layout-requires : goal.new-layout-requires
new-layout-requires c =
    let arch = c.args.arch.now in
    let h = handler_of c.args.h.now in
    let bodies = c.as_slice-bodies.result.now in
    let all = subst (λ bs. All (IsNumberedBody arch h) (map body_of bs)) (sym c.as_slice-bodies.ensures) c.requires.callbacks in
    record { handler = c.requires; body = each_view (IsNumberedBody arch h) body_of bodies c.loop-i.i c.index-bodies-i.result all c.loop-i-test.true c.index-bodies-i.is }

pub loop-i-preserved : goal.loop-i-preserved
loop-i-preserved c =
    let arch = c.args.arch.now in
    let h = handler_of c.args.h.now in
    let frame = c.args.frame.now in
    let i = c.loop-i.i in
    let body = c.index-bodies-i.result in
    let code = c.loop-i.code in
    let layout : c.new-layout.result ≡ layout_of arch h frame i (body_of body) = c.new-layout.ensures in
    let made : c.add_stmts.new.code ≡ code ++ listed (stmts_code (layout_of arch h frame i (body_of body)) (length code) (all_stmts_of body.stmts)) =
    c.in_ok-add_stmts.ensures.ok ∙ ap (λ (w : Layout). code ++ listed (stmts_code w (length code) (all_stmts_of c.as_slice.result.now))) layout
    ∙ ap (λ ss. code ++ listed (stmts_code (layout_of arch h frame i (body_of body)) (length code) (all_stmts_of ss))) c.as_slice.ensures in (
      bodies_next arch h frame c.as_slice-bodies.result.now i body code c.add_stmts.new.code c.loop-i-test.true c.index-bodies-i.is made ∙ c.loop-i.invariant.0,
      λ start before. c.add_stmts.ensures.keeps start (c.loop-i.invariant.1 start before),
    )

pub returns-clause-ok : goal.returns-clause-ok
returns-clause-ok c =
    let arch = c.args.arch.now in
    let h = handler_of c.args.h.now in
    let frame = c.args.frame.now in
    let old = c.args.code.now in
    let end : c.loop-i.i ≡ length c.as_slice-bodies.result.now = omega arith in
    bodies_end arch h frame c.loop-i.code _ c.as_slice-bodies.result.now c.loop-i.i end c.loop-i.invariant.0
    ∙ ap (λ bs. old ++ listed (bodies_code arch h frame 0 (length old) (map body_of bs))) c.as_slice-bodies.ensures
