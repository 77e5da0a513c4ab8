use Rattle.std.proofs.Common.{◌≡◌, ◌∙◌, suc, add-one}
use Rattle.tower_syntax.specs.View.{place_of}
use Rattle.stmt_code.proofs.Stated.{copy_made}
use Rattle.stmt_code.proofs.stmts.add_copy.Goals as goal

pub returns-clause-ok : goal.returns-clause-ok
returns-clause-ok c =
    let second : c.in_ok-second.second ≡ suc c.args.layout.now.temps = c.in_ok-second.ensures ∙ add-one c.args.layout.now.temps in
    copy_made c.args.layout.now c.args.code.now c.add_index.new.code c.add_kept.new.code c.add_index-2.new.code c.add_kept-2.new.code c.add_words_copied.new.code
    (place_of c.args.p.now) (place_of c.args.q.now) c.in_ok-to.to c.in_ok-source.source c.temps-first.result c.in_ok-second.second c.in_ok-width.width
    c.temps-first.ensures second c.in_ok-to.ensures c.in_ok-source.ensures c.in_ok-width.ensures
    c.in_ok-add_index.ensures.ok c.in_ok-add_kept.ensures.ok c.in_ok-add_index-2.ensures.ok c.in_ok-add_kept-2.ensures.ok c.in_ok-add_words_copied.ensures.ok
