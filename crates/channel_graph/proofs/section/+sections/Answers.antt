use Rattle.std.proofs.Common.{◌≡◌, subst}
use Rattle.tower_types.specs.Records.{saturated}
use Rattle.tower_syntax.specs.declared.body.Stmt.{Stmt as StmtValue}
use Rattle.tower_syntax.specs.View.{stmt_of}
use Rattle.tower_syntax.specs.Weights.{stmt_weight}
use Rattle.channel_graph.specs.Site.{scope_at}
use Rattle.channel_graph.specs.Counting.{counting_of}
use Rattle.channel_graph.proofs.Saturating.{saturating_step}
use Rattle.channel_graph.proofs.Timed.{stmts_weight-more}
use Rattle.channel_graph.proofs.section.+sections.Goals as goal

pub stmts_weight-loop-stmt-preserved : goal.stmts_weight-loop-stmt-preserved
stmts_weight-loop-stmt-preserved t c =
    let counting = counting_of c.args.count in
    let scope = scope_at c.args.scope.now in
    let more = stmts_weight-more counting scope c.args.stmts.now c.loop-stmt.stmt-index c.stmt-item.result c.loop-stmt-test.true in
    let here = subst (λ (s : StmtValue). c.stmt_weight.result ≡ saturated (stmt_weight counting scope (stmt_of s))) c.stmt-item.is c.stmt_weight.ensures in
    saturating_step c.loop-stmt.total c.stmt_weight.result c.saturating_add-total.result _ _ _ c.loop-stmt.invariant here c.saturating_add-total.ensures more
