-- The values that trees stand for.
use Rattle.std.specs.Prelude.{List, map, pos, Option, Some, None}
use Rattle.tower_types.specs.Value.{Value, word, parts, values_of}
use Rattle.tower_types.specs.View.{value_of}
use Rattle.tower_types.specs.declared.value.Value.{Value as ValueValue}
use Rattle.atomic_state.specs.declared.tree.Tree.{Tree as TreeValue}
use Rattle.atomic_state.specs.declared.tree.Tree.TheOpen.{Tree-F}
use Rattle.atomic_state.specs.declared.tree.Tree.TheFolds.{fold-Tree}

abbrev pub tree_step : Tree-F Value → Value
tree_step (Tree-F.Word n) = word n
tree_step (Tree-F.Parts ts) = parts (values_of ts.items)

abbrev pub tree_of : TreeValue → Value
tree_of = fold-Tree Value tree_step

-- a value with these parts
abbrev pub trees_of : List TreeValue → Value
trees_of ts = parts (values_of (map tree_of ts))

abbrev pub parts_of : List ValueValue → Value
parts_of vs = parts (values_of (map value_of vs))

-- the value of a part that may be missing
abbrev pub seen : Option TreeValue → Value
seen None = word (pos 0)
seen (Some t) = tree_of t
