use Rattle.std.proofs.Common.{◌+◌, ◌*◌}
use Rattle.arch_types.proofs.Sizes.{P, E}
use Rattle.arch_types.proofs.exprs.+exprs.Given as goal

abbrev pub decreases-check_place : goal.decreases-check_place
decreases-check_place l = 2 * P l.place.now

abbrev pub decreases-check_expr : goal.decreases-check_expr
decreases-check_expr l = 2 * E l.expr.now

abbrev pub decreases-check_un : goal.decreases-check_un
decreases-check_un l = 2 * E l.a.now + 1

abbrev pub decreases-check_bin : goal.decreases-check_bin
decreases-check_bin l = 2 * (E l.a.now + E l.b.now) + 1

abbrev pub decreases-check_cond : goal.decreases-check_cond
decreases-check_cond l = 2 * (E l.test.now + E l.yes.now + E l.no.now) + 1

abbrev pub decreases-check_cast : goal.decreases-check_cast
decreases-check_cast l = 2 * E l.a.now + 1
