use Rattle.std.proofs.Common.{◌≡◌, ◌∙◌, map, ap, subst, rules, FitsSigned}
use Rattle.std.specs.Int.{w128}
use Rattle.std.proofs.lemmas.Int.{to_z-of_z}
use Rattle.tower_types.specs.Value.{word}
use Rattle.tower_syntax.specs.View.{expr_of, stmt_of, all_stmts_of}
use Rattle.tower_syntax.proofs.Views.{stmt_of-Bind}
use Rattle.atomic_state.specs.FrameView.{execution_of}
use Rattle.atomic_state.specs.TreeView.{tree_of}
use Rattle.atomic_state.proofs.Executed.{DoesAll, binds, next_turn, one_past}
use Rattle.atomic_state.proofs.Trees.{tree_of-Word}
use Rattle.atomic_state.proofs.execute.+execute.Goals as goal

pub execute-returns-in-Bind-clause-execution : goal.execute-returns-in-Bind-clause-execution
execute-returns-in-Bind-clause-execution t c =
    let fit : FitsSigned w128 c.number-n.result = search rules in
    binds (map tree_of c.args.zeros.now) (execution_of c.args.frame.now) (execution_of c.bind.new.self) (stmt_of c.args.stmt.now) c.in-Bind.b (expr_of c.in-Bind.e) _ _
    (ap stmt_of c.in-Bind.is ∙ stmt_of-Bind c.in-Bind.b c.in-Bind.e) (λ h. to_z-of_z w128 c.number-n.result fit ∙ c.number-n.ensures h) (tree_of-Word _) c.bind.ensures.execution

pub execute-loop-i-preserved : goal.execute-loop-i-preserved
execute-loop-i-preserved t c =
    let zeros = map tree_of c.args.zeros.now in
    let fit : FitsSigned w128 c.from.result = search rules in
    record {
      turned = next_turn zeros c.in-Loop.b c.in-Loop.turns (all_stmts_of c.in-Loop.body) (execution_of c.args.frame.now) (execution_of c.loop-i.frame) (execution_of c.bind-in-loop-i.new.self)
          (execution_of c.execute_all-in-loop-i.new.frame) c.loop-i.i _ c.loop-i-test.true c.bind-in-loop-i.ensures.execution
          (tree_of-Word _ ∙ ap word (to_z-of_z w128 c.from.result fit ∙ c.from.ensures))
          (subst (λ l. DoesAll zeros (all_stmts_of l) (execution_of c.bind-in-loop-i.new.self) (execution_of c.execute_all-in-loop-i.new.frame)) c.as_slice-in-loop-i.ensures c.in_ok-execute_all-in-Loop.ensures.execution)
          c.loop-i.invariant.turned;
      before = c.execute_all-in-loop-i.ensures.before ∙ c.bind-in-loop-i.ensures.before ∙ c.loop-i.invariant.before;
    }

pub execute_all-loop-stmt-preserved : goal.execute_all-loop-stmt-preserved
execute_all-loop-stmt-preserved t c = record {
  past = one_past (map tree_of c.args.zeros.now) c.args.stmts.now (execution_of c.args.frame.now) (execution_of c.loop-stmt.frame) (execution_of c.execute.new.frame) c.loop-stmt.stmt-index c.stmt-item.result
      c.loop-stmt-test.true c.stmt-item.is c.in_ok-execute.ensures.execution c.loop-stmt.invariant.past;
  before = c.execute.ensures.before ∙ c.loop-stmt.invariant.before;
}
