-- Trees of atoms and lists, and the tokens that spell them.
use Rattle.std.specs.Prelude.{ℕ, List, [], ◌∷◌, ◌++◌, map}
use Rattle.tower_sexp.specs.declared.token.Token.{Token}
use Rattle.tower_sexp.specs.declared.token.Token.TheVariants as token
use Rattle.tower_sexp.specs.declared.node.Node.{Node}
use Rattle.tower_sexp.specs.declared.node.Node.TheOpen.{Node-F}
use Rattle.tower_sexp.specs.declared.node.Node.TheFolds.{fold-Node}

mutual
  pub data Tree : Type 0 where
    atom : ℕ → List ℕ → Tree
    list : ℕ → Trees → Tree

  pub data Trees : Type 0 where
    no_trees : Trees
    tree : Tree → Trees → Trees

-- the tokens that spell trees: those of the trees in their order, a list between its brackets
pub data Spells : Trees → List Token → Type 0 where
  nothing : Spells no_trees []
  an_atom : {at : ℕ} {text : List ℕ} {ts : Trees} {us : List Token} → Spells ts us → Spells (tree (atom at text) ts) (token.Atom at text ∷ us)
  a_list : {at : ℕ} {items ts : Trees} {vs us : List Token} → (end : ℕ) → Spells items vs → Spells ts us → Spells (tree (list at items) ts) (token.Left at ∷ (vs ++ token.Right end ∷ us))

-- What nodes are.

abbrev pub trees : List Tree → Trees
trees [] = no_trees
trees (t ∷ ts) = tree t (trees ts)

abbrev pub tree_step : Node-F Tree → Tree
tree_step (Node-F.Atom at text) = atom at text
tree_step (Node-F.List at items) = list at (trees items)

abbrev pub tree_of : Node → Tree
tree_of = fold-Node Tree tree_step

abbrev pub trees_of : List Node → Trees
trees_of ns = trees (map tree_of ns)
