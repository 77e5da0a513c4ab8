use Rattle.tower_syntax.specs.View.{expr_of, place_of}
use Rattle.stmt_code.proofs.Stated.{set_made}
use Rattle.stmt_code.proofs.stmts.add_set.Goals as goal

pub returns-clause-ok : goal.returns-clause-ok
returns-clause-ok c =
    set_made c.args.layout.now c.args.code.now c.add_index.new.code c.add_before.new.code c.add_expr.new.code c.add_behind.new.code
    (place_of c.args.p.now) (expr_of c.args.e.now) c.in_ok-place.place c.in_ok-place.ensures
    c.in_ok-add_index.ensures.ok c.in_ok-add_before.ensures.ok c.in_ok-add_expr.ensures.ok c.in_ok-add_behind.ensures.ok
