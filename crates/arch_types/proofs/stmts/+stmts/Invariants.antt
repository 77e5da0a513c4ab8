use Rattle.std.proofs.Common.{◌≡◌, ◌+◌, ◌*◌, drop, map}
use Rattle.tower_syntax.specs.NamedView.{all_named_stmts_of}
use Rattle.tower_syntax.specs.View.{stmt_of}
use Rattle.arch_types.specs.Walk.{walked_all}
use Rattle.arch_types.specs.Seen.{known}
use Rattle.arch_types.proofs.Sizes.{S, A}
use Rattle.arch_types.proofs.StmtWalk.{resumed}
use Rattle.arch_types.proofs.stmts.+stmts.Given as goal

abbrev pub invariant-check_stmts-loop-stmt : goal.invariant-check_stmts-loop-stmt
invariant-check_stmts-loop-stmt l =
    walked_all (known l.system l.scope l.initial.bound) (all_named_stmts_of l.stmts)
    ≡ resumed l.high (map stmt_of l.trees) (walked_all (known l.system l.scope l.bound) (all_named_stmts_of (drop l.stmt-index l.stmts)))

abbrev pub decreases-check_stmts : goal.decreases-check_stmts
decreases-check_stmts l = 3 * A l.stmts.now

abbrev pub decreases-check_stmt : goal.decreases-check_stmt
decreases-check_stmt l = 3 * S l.stmt.now + 2

abbrev pub decreases-check_branch : goal.decreases-check_branch
decreases-check_branch l = 3 * (A l.yes.now + A l.no.now) + 1

abbrev pub decreases-check_loop : goal.decreases-check_loop
decreases-check_loop l = 3 * A l.body.now + 1
