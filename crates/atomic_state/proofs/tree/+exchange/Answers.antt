use Rattle.std.proofs.Common.{◌≡◌, ◌∙◌, sym, ap, refl, rules, arith, FitsSigned}
use Rattle.std.specs.Int.{w128}
use Rattle.std.proofs.lemmas.Int.{to_z-of_z}
use Rattle.tower_types.specs.Value.{word}
use Rattle.atomic_state.specs.TreeView.{tree_of, trees_of}
use Rattle.atomic_state.proofs.Trees.{in_word, from_word, in_parts, from_parts, set_in, got_from, none_in, none_from, tree_of-Word, tree_of-Parts}
use Rattle.atomic_state.proofs.tree.+exchange.Goals as goal

pub exchange-returns-in-Word-clause-after : goal.exchange-returns-in-Word-clause-after
exchange-returns-in-Word-clause-after t c =
    let fit : FitsSigned w128 c.in-Word.n = search rules in
    in_word c.args.path.now c.in-Word.n _ (tree_of c.args.tree.now) (tree_of c.args.new) (sym c.is_empty.ensures ∙ c.if-is_empty.false)
    (ap tree_of (sym c.replace-2.ensures.value ∙ c.in-Word.is) ∙ tree_of-Word c.in-Word.n) (to_z-of_z w128 _ fit)

pub exchange-returns-in-Word-clause-before : goal.exchange-returns-in-Word-clause-before
exchange-returns-in-Word-clause-before t c =
    from_word c.args.path.now c.in-Word.n (tree_of c.args.tree.now) (sym c.is_empty.ensures ∙ c.if-is_empty.false)
    (ap tree_of (sym c.replace-2.ensures.value ∙ c.in-Word.is) ∙ tree_of-Word c.in-Word.n)

pub exchange-returns-in-Parts-clause-after : goal.exchange-returns-in-Parts-clause-after
exchange-returns-in-Parts-clause-after t c =
    let is : tree_of c.args.tree.now ≡ trees_of c.in-Parts.parts.items = ap tree_of (sym c.replace-2.ensures.value ∙ c.in-Parts.is) ∙ tree_of-Parts c.in-Parts.parts in
    in_parts c.args.path.now c.in-Parts.parts.items c.exchange_part-old.new.parts.items (tree_of c.args.tree.now) (tree_of c.args.new) _ (sym c.is_empty.ensures ∙ c.if-is_empty.false)
    is (tree_of-Parts c.exchange_part-old.new.parts) c.exchange_part-old.ensures.after

pub exchange-returns-in-Parts-clause-before : goal.exchange-returns-in-Parts-clause-before
exchange-returns-in-Parts-clause-before t c =
    let is : tree_of c.args.tree.now ≡ trees_of c.in-Parts.parts.items = ap tree_of (sym c.replace-2.ensures.value ∙ c.in-Parts.is) ∙ tree_of-Parts c.in-Parts.parts in
    from_parts c.args.path.now c.in-Parts.parts.items (tree_of c.args.tree.now) (tree_of c.exchange_part-old.result) (sym c.is_empty.ensures ∙ c.if-is_empty.false)
    is c.exchange_part-old.ensures.before

pub exchange_part-returns-then-k-len-clause-after : goal.exchange_part-returns-then-k-len-clause-after
exchange_part-returns-then-k-len-clause-after t c =
    set_in c.args.parts.now.items c.args.k c.exchange.new.tree c.index_mut.result.now c.args.path.now (tree_of c.args.new) (omega arith) c.index_mut.ensures.value c.exchange.ensures.after

pub exchange_part-returns-then-k-len-clause-before : goal.exchange_part-returns-then-k-len-clause-before
exchange_part-returns-then-k-len-clause-before t c =
    got_from c.args.parts.now.items c.args.k c.index_mut.result.now c.args.path.now (tree_of c.exchange.result) (omega arith) c.index_mut.ensures.value c.exchange.ensures.before

pub exchange_part-returns-else-k-len-clause-after : goal.exchange_part-returns-else-k-len-clause-after
exchange_part-returns-else-k-len-clause-after t c = none_in c.args.parts.now.items c.args.k c.args.path.now (tree_of c.args.new) (omega arith)

pub exchange_part-returns-else-k-len-clause-before : goal.exchange_part-returns-else-k-len-clause-before
exchange_part-returns-else-k-len-clause-before t c = none_from c.args.parts.now.items c.args.k c.args.path.now (omega arith)
