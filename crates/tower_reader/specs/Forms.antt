-- Nodes without their offsets.
use Rattle.tower_sexp.specs.Trees.{Tree, Trees, no_trees, tree}
use Rattle.tower_sexp.specs.Trees.{atom as leaf, list as branch}
use Rattle.tower_syntax.specs.Form.{Form, atom, list, Forms, no_forms, form}

abbrev mutual
  pub form_of : Tree → Form
  form_of (leaf at w) = atom w
  form_of (branch at ts) = list (forms_of ts)

  pub forms_of : Trees → Forms
  forms_of no_trees = no_forms
  forms_of (tree t ts) = form (form_of t) (forms_of ts)
