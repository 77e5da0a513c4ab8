use Rattle.std.proofs.Common.{◌≡◌, ◌*◌, ◌^◌, ◌-◌, min, sym, ap, ◌∙◌, subst}
use Rattle.tower_syntax.specs.View.{stmt_of, all_stmts_of}
use Rattle.tower_syntax.specs.Weights.{most_of_stmt, most_of_stmts}
use Rattle.channel_graph.specs.Rough.{GrowsBy, Logs, same}
use Rattle.channel_graph.proofs.Roughly.{no_stmts_more, stmts_more, loop_more, logs_then}
use Rattle.channel_graph.proofs.rough.+roughly.Goals as goal

pub add_stmt-returns-in-Bind-clause-log : goal.add_stmt-returns-in-Bind-clause-log
add_stmt-returns-in-Bind-clause-log t c = same

pub add_stmt-returns-in-Bind-2-clause-log : goal.add_stmt-returns-in-Bind-2-clause-log
add_stmt-returns-in-Bind-2-clause-log t c = same

pub add_stmt-returns-in-Bind-3-clause-log : goal.add_stmt-returns-in-Bind-3-clause-log
add_stmt-returns-in-Bind-3-clause-log t c = same

pub add_stmt-returns-in-Bind-4-clause-log : goal.add_stmt-returns-in-Bind-4-clause-log
add_stmt-returns-in-Bind-4-clause-log t c = same

pub add_stmt-returns-in_ok-raise-in-Branch-clause-log : goal.add_stmt-returns-in_ok-raise-in-Branch-clause-log
add_stmt-returns-in_ok-raise-in-Branch-clause-log t c =
    let old = c.args.counts.now in
    let second = c.add_stmts-in-Branch.new.counts in
    let back : c.take_back.new.self ≡ old = c.in_ok-peaks-in-Branch.ensures.back old c.in_ok-add_stmts-in-Branch.ensures.log (sym c.len-mark.ensures) in
    logs_then old second c.raise.new.self (subst (λ s. Logs s second) back c.in_ok-add_stmts-in-Branch-2.ensures.log) c.in_ok-raise-in-Branch.ensures.log

pub add_stmt-returns-in_ok-add_stmts-in-Loop-clause-totals : goal.add_stmt-returns-in_ok-add_stmts-in-Loop-clause-totals
add_stmt-returns-in_ok-add_stmts-in-Loop-clause-totals t c =
    let turns = c.args.turns in
    let old = c.args.counts.now.totals in
    let new = c.add_stmts-in-Loop.new.counts.totals in
    let all = c.saturating_mul-all.result in
    let is : all ≡ min (turns * c.in-Loop.times) (2 ^ 64 - 1) = c.saturating_mul-all.ensures ∙ ap (λ n. min (turns * n) (2 ^ 64 - 1)) c.from.ensures in
    let body = subst (λ ss. GrowsBy (λ e. all * most_of_stmts e (all_stmts_of ss)) old new) c.as_slice-in-Loop.ensures c.in_ok-add_stmts-in-Loop.ensures.totals in
    subst (λ s. GrowsBy (λ e. turns * most_of_stmt e (stmt_of s)) old new) (sym c.in-Loop.is) (loop_more turns c.in-Loop.field-0 c.in-Loop.times all c.in-Loop.body old new is body)

pub add_stmts-loop-stmt-init : goal.add_stmts-loop-stmt-init
add_stmts-loop-stmt-init t c = (no_stmts_more c.args.turns c.args.stmts.now c.args.counts.now.totals, same)

pub add_stmts-loop-stmt-preserved : goal.add_stmts-loop-stmt-preserved
add_stmts-loop-stmt-preserved t c =
    let old = c.loop-stmt.counts in
    let new = c.add_stmt.new.counts in (
      stmts_more c.args.turns c.loop-stmt.stmt-index c.args.stmts.now c.stmt-item.result c.args.counts.now.totals old.totals new.totals c.loop-stmt-test.true c.stmt-item.is c.loop-stmt.invariant.0 c.in_ok-add_stmt.ensures.totals,
      logs_then c.args.counts.now old new c.loop-stmt.invariant.1 c.in_ok-add_stmt.ensures.log,
    )
