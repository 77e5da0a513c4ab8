use Rattle.std.proofs.Common.{◌+◌, ◌*◌}
use Rattle.arch_names.proofs.Sizes.{P, E}
use Rattle.arch_names.proofs.exprs.+exprs.Given as goal

abbrev pub decreases-name_place : goal.decreases-name_place
decreases-name_place l = 3 * P l.place.now + 1

abbrev pub decreases-name_expr : goal.decreases-name_expr
decreases-name_expr l = 3 * E l.expr.now + 1

abbrev pub decreases-name_boxed : goal.decreases-name_boxed
decreases-name_boxed l = 3 * E l.expr.now + 2

abbrev pub decreases-named_un : goal.decreases-named_un
decreases-named_un l = 3 * E l.a.now + 3

abbrev pub decreases-named_bin : goal.decreases-named_bin
decreases-named_bin l = 3 * (E l.a.now + E l.b.now) + 3

abbrev pub decreases-named_cond : goal.decreases-named_cond
decreases-named_cond l = 3 * (E l.test.now + E l.yes.now + E l.no.now) + 3

abbrev pub decreases-named_cast : goal.decreases-named_cast
decreases-named_cast l = 3 * E l.a.now + 3
