-- The trees that tokens spell, computed from the first token to the last.
use Rattle.std.specs.Prelude.{ℕ, List, [], ◌∷◌, map, reverse}
use Rattle.tower_sexp.specs.declared.token.Token.{Token}
use Rattle.tower_sexp.specs.declared.token.Token.TheVariants as token
use Rattle.tower_sexp.specs.declared.node.Outer.{Outer}
use Rattle.tower_sexp.specs.declared.node.Nest.{Nest}
use Rattle.tower_sexp.specs.Trees.{Tree, atom, list, Trees, no_trees, tree, trees_of}

abbrev pub appended : Trees → Trees → Trees
appended no_trees more = more
appended (tree t ts) more = tree t (appended ts more)

abbrev pub pushed : Trees → Tree → Trees
pushed ts t = appended ts (tree t no_trees)

-- a list that is unclosed, with the trees before it
pub record Unclosed : Type 0 where
  pub at : ℕ
  pub before : Trees

-- the lists that are unclosed, the innermost first, and the trees of the innermost
pub record Nesting : Type 0 where
  pub outer : List Unclosed
  pub within : Trees

abbrev pub nest_begun : Nesting
nest_begun = record { outer = []; within = no_trees }

abbrev pub closed_in : List Unclosed → Nesting → Nesting
closed_in [] n = n
closed_in (l ∷ ls) n = record { outer = ls; within = pushed l.before (list l.at n.within) }

abbrev pub nested : Token → Nesting → Nesting
nested (token.Left at) n = record { outer = (record { at = at; before = n.within }) ∷ n.outer; within = no_trees }
nested (token.Right at) n = closed_in n.outer n
nested (token.Atom at text) n = record n { within = pushed n.within (atom at text) }

abbrev pub nested_all : List Token → Nesting → Nesting
nested_all [] n = n
nested_all (t ∷ ts) n = nested_all ts (nested t n)

-- the trees that tokens spell
abbrev pub trees_spelled : List Token → Trees
trees_spelled ts = (nested_all ts nest_begun).within

abbrev pub unclosed_of : Outer → Unclosed
unclosed_of o = record { at = o.at; before = trees_of o.before }

abbrev pub nest_of : Nest → Nesting
nest_of n = record { outer = reverse (map unclosed_of n.outer.items); within = trees_of n.nodes }
