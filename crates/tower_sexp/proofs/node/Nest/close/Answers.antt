use Rattle.std.proofs.Common.{[], ◌∷◌, ◌++◌, ap, sym, ◌∙◌}
use Rattle.tower_sexp.specs.declared.node.Node.TheVariants as node
use Rattle.tower_sexp.specs.Trees.{trees_of}
use Rattle.tower_sexp.specs.Nesting.{nest_of}
use Rattle.tower_sexp.proofs.Seen.{close_list}
use Rattle.tower_sexp.proofs.node.Nest.close.Goals as goal

pub returns-in_ok-push : goal.returns-in_ok-push
returns-in_ok-push c =
    let list = c.in-Some.field-0 in
    let inner = c.replace-items.result in
    close_list c.args.self.now.outer.items c.pop.new.self.items list inner c.push.new.self c.in-Some.ensures.items
    (c.in_ok-push.ensures.ok ∙ ap (λ ns. ns ++ node.List list.at inner ∷ []) c.replace-items.ensures.after)
    (nest_of c.args.self.now)
    (ap trees_of (sym c.replace-items.ensures.value))
