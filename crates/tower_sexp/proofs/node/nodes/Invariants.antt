use Rattle.std.proofs.Common.{◌≡◌}
use Rattle.std.specs.Vec.Iter.{into_iter_items, into_iter_len}
use Rattle.tower_sexp.specs.Nesting.{nest_of, nested_all}
use Rattle.tower_sexp.proofs.node.nodes.Given as goal

-- the tokens to come take the nest where all of them take the one at the start
abbrev pub invariant-loop-token : goal.invariant-loop-token
invariant-loop-token l = nested_all (into_iter_items l.tokens) (nest_of l.nest) ≡ nested_all (into_iter_items l.initial.tokens) (nest_of l.initial.nest)

abbrev pub decreases-loop-token : goal.decreases-loop-token
decreases-loop-token l = into_iter_len l.tokens
