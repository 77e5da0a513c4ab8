-- What a draft stands for.
use Rattle.std.specs.Prelude.{List, [], ◌∷◌}
use Rattle.tower_types.specs.Value.{Value}
use Rattle.tower_meaning.specs.Body.{with_part_at}
use Rattle.atomic_state.specs.declared.tree.Tree.{Tree as TreeValue}
use Rattle.atomic_state.specs.declared.draft.Change.{Change}
use Rattle.atomic_state.specs.TreeView.{tree_of}
use Rattle.atomic_state.specs.Drafted.{Drafted}

-- the value without these changes, of which the last was made last
abbrev pub undone : Value → List Change → Value
undone v [] = v
undone v (c ∷ cs) = with_part_at c.path.items (tree_of c.old) (undone v cs)

abbrev pub drafted : TreeValue → List Change → Drafted
drafted value changes = record { value = tree_of value; before = undone (tree_of value) changes }
