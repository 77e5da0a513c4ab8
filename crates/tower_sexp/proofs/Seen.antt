-- Nodes as trees.
use Rattle.std.proofs.Common.{◌≡◌, ℕ, List, [], ◌∷◌, ◌++◌, refl, ap, sym, ◌∙◌, map, reverse}
use Rattle.std.proofs.lemmas.List.{map-append, reverse-append}
use Rattle.tower_sexp.specs.declared.node.Node.{Node}
use Rattle.tower_sexp.specs.declared.node.Outer.{Outer}
use Rattle.tower_sexp.specs.declared.node.Node.TheVariants as node
use Rattle.tower_sexp.specs.declared.node.Node.TheOpen.{Node-F}
use Rattle.tower_sexp.specs.declared.node.Node.TheFolds.{fold-roll-Node}
use Rattle.tower_sexp.specs.Trees.{Tree, atom, list, Trees, tree, trees, tree_step, tree_of, trees_of}
use Rattle.tower_sexp.specs.Nesting.{pushed, Nesting, closed_in, unclosed_of}

trees-push : (ts : List Tree) (t : Tree) → trees (ts ++ t ∷ []) ≡ pushed (trees ts) t
trees-push [] t = refl
trees-push (x ∷ ts) t = ap (tree x) (trees-push ts t)

push_node : (ns : List Node) (n : Node) → trees_of (ns ++ n ∷ []) ≡ pushed (trees_of ns) (tree_of n)
push_node ns n = ap trees (map-append tree_of ns (n ∷ [])) ∙ trees-push (map tree_of ns) (tree_of n)

tree_of-Atom : (at : ℕ) (text : List ℕ) → tree_of (node.Atom at text) ≡ atom at text
tree_of-Atom at text = ap tree_of (sym (node.rolls-Atom at text)) ∙ fold-roll-Node Tree tree_step (Node-F.Atom at text)

tree_of-List : (at : ℕ) (items : List Node) → tree_of (node.List at items) ≡ list at (trees_of items)
tree_of-List at items = ap tree_of (sym (node.rolls-List at items)) ∙ fold-roll-Node Tree tree_step (Node-F.List at items)

pub push_atom : (ns : List Node) (at : ℕ) (text : List ℕ) → trees_of (ns ++ node.Atom at text ∷ []) ≡ pushed (trees_of ns) (atom at text)
push_atom ns at text = push_node ns (node.Atom at text) ∙ ap (pushed (trees_of ns)) (tree_of-Atom at text)

pub push_list : (ns : List Node) (at : ℕ) (items : List Node) → trees_of (ns ++ node.List at items ∷ []) ≡ pushed (trees_of ns) (list at (trees_of items))
push_list ns at items = push_node ns (node.List at items) ∙ ap (pushed (trees_of ns)) (tree_of-List at items)

abbrev with_trees : List Outer → Trees → Nesting
with_trees outer ts = record { outer = reverse (map unclosed_of outer); within = ts }

abbrev pub closed : List Outer → List Node → Nesting
closed outer nodes = record { outer = reverse (map unclosed_of outer); within = trees_of nodes }

-- the innermost list is closed, and is the last node behind those before it
pub close_list : (all outer : List Outer) (o : Outer) (nodes next : List Node) → all ≡ outer ++ o ∷ [] → next ≡ o.before ++ node.List o.at nodes ∷ [] → (n : Nesting) → n.within ≡ trees_of nodes → closed outer next ≡ closed_in (reverse (map unclosed_of all)) n
close_list all outer o nodes next e f n w =
    let lists : reverse (map unclosed_of all) ≡ unclosed_of o ∷ reverse (map unclosed_of outer) =
    ap (λ os. reverse (map unclosed_of os)) e ∙ ap reverse (map-append unclosed_of outer (o ∷ [])) ∙ reverse-append (map unclosed_of outer) (unclosed_of o ∷ []) in
    let within : trees_of next ≡ pushed (trees_of o.before) (list o.at n.within) =
    ap trees_of f ∙ push_list o.before o.at nodes ∙ ap (λ ts. pushed (trees_of o.before) (list o.at ts)) (sym w) in
    ap (with_trees outer) within ∙ ap (λ ls. closed_in ls n) (sym lists)
