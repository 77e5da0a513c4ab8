use Rattle.std.proofs.Common.{◌≡◌, map}
use Rattle.tower_syntax.specs.View.{all_stmts_of}
use Rattle.atomic_state.specs.FrameView.{execution_of}
use Rattle.atomic_state.specs.TreeView.{tree_of}
use Rattle.atomic_state.proofs.Executed.{IsTurned, IsPast}
use Rattle.atomic_state.proofs.execute.+execute.Given as goal

abbrev pub invariant-execute-loop-i : goal.invariant-execute-loop-i
invariant-execute-loop-i l = record {
  turned : IsTurned (map tree_of l.zeros) l.b l.i-end (all_stmts_of l.body) (execution_of l.initial.frame) l.i (execution_of l.frame);
  before : l.frame.states.before ≡ l.initial.frame.states.before;
}

abbrev pub invariant-execute_all-loop-stmt : goal.invariant-execute_all-loop-stmt
invariant-execute_all-loop-stmt l = record {
  past : IsPast (map tree_of l.zeros) l.stmts (execution_of l.initial.frame) l.stmt-index (execution_of l.frame);
  before : l.frame.states.before ≡ l.initial.frame.states.before;
}
