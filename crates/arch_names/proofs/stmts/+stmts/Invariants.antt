use Rattle.std.proofs.Common.{◌+◌, ◌*◌, take}
use Rattle.arch_names.specs.Names.{find}
use Rattle.arch_names.specs.Sites.{around_of}
use Rattle.arch_names.proofs.Sizes.{S, A}
use Rattle.arch_names.proofs.StmtWalk.{Passed}
use Rattle.arch_names.proofs.stmts.+stmts.Given as goal

abbrev pub invariant-name_stmts-loop-stmt : goal.invariant-name_stmts-loop-stmt
invariant-name_stmts-loop-stmt l = Passed (around_of (find l.file) (find l.states) (find l.emitters)) l.initial.scope (take l.stmt-index l.stmts) l.scope l.made

abbrev pub decreases-name_stmts : goal.decreases-name_stmts
decreases-name_stmts l = 3 * A l.stmts.now

abbrev pub decreases-name_stmt : goal.decreases-name_stmt
decreases-name_stmt l = 3 * S l.stmt.now + 2

abbrev pub decreases-named_branch : goal.decreases-named_branch
decreases-named_branch l = 3 * (A l.yes.now + A l.no.now) + 1

abbrev pub decreases-named_loop : goal.decreases-named_loop
decreases-named_loop l = 3 * A l.body.now + 1
