use Rattle.std.proofs.Common.{◌≡◌, ◌++◌, map}
use Rattle.std.specs.List.{filter_map}
use Rattle.std.specs.Vec.Iter.{into_iter_items, into_iter_len}
use Rattle.tower_syntax.specs.RawView.{raw_stmt_of}
use Rattle.tower_reader.specs.Part.{if_stmt}
use Rattle.tower_reader.specs.View.{all_seen}
use Rattle.tower_reader.proofs.children.stmts.Given as goal

abbrev pub invariant-loop-part : goal.invariant-loop-part
invariant-loop-part l = map raw_stmt_of l.items ++ filter_map if_stmt (all_seen (into_iter_items l.children)) ≡ filter_map if_stmt (all_seen (into_iter_items l.fn.children))

abbrev pub decreases-loop-part : goal.decreases-loop-part
decreases-loop-part l = into_iter_len l.children
