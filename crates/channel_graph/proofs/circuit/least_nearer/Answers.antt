use Rattle.std.proofs.Common.{◌≡◌, ◌+◌, ◌<◌, ◌≤◌, ◌&&◌, true, length, nat_lt, nat_le, unwrap_or, arith, ap, sym}
use Rattle.std.proofs.lemmas.Bool.{and_from, lt-ltb, le-leb}
use Rattle.std.proofs.lemmas.List.{length-map}
use Rattle.tower_syntax.specs.View.{handler_of}
use Rattle.tower_syntax.specs.Graph.{leads, handler_numbers}
use Rattle.channel_graph.specs.Ranked.{rank}
use Rattle.channel_graph.proofs.Members.{number_below}
use Rattle.channel_graph.proofs.Shortest.{find_at, find_none}
use Rattle.channel_graph.proofs.circuit.least_nearer.Goals as goal

pub returns-then-leads_to-clause-value : goal.returns-then-leads_to-clause-value
returns-then-leads_to-clause-value c =
    let arch = c.args.arch.now in
    let ranks = c.args.ranks.now in
    let j = c.loop-j.j in
    let below : j < length arch.handlers = omega (arith, c.loop-j-test.true, ap length c.handlers-j-end.ensures.value, length-map c.handlers-j-end.result.now handler_of) in
    let low : 0 < rank ranks j = c.if-rank-gt0.true in
    let high : rank ranks j ≤ c.args.n + 1 = c.if-rank-most.true in
    let here : (leads arch c.args.k j && (nat_lt 0 (rank ranks j) && nat_le (rank ranks j) (c.args.n + 1))) ≡ true =
    and_from (leads arch c.args.k j) (nat_lt 0 (rank ranks j) && nat_le (rank ranks j) (c.args.n + 1)) (sym c.if-leads_to.ensures)
    (and_from (nat_lt 0 (rank ranks j)) (nat_le (rank ranks j) (c.args.n + 1)) (lt-ltb 0 (rank ranks j) low) (le-leb (rank ranks j) (c.args.n + 1) high)) in
    sym (ap (λ o. unwrap_or o c.args.k) (find_at (λ i. leads arch c.args.k i && (nat_lt 0 (rank ranks i) && nat_le (rank ranks i) (c.args.n + 1))) (length arch.handlers) j below c.loop-j.invariant here))

pub returns-clause-value : goal.returns-clause-value
returns-clause-value c =
    let arch = c.args.arch.now in
    let ranks = c.args.ranks.now in
    let end : length arch.handlers ≤ c.loop-j.j = omega (arith, c.loop-j-test.false, ap length c.handlers-j-end.ensures.value, length-map c.handlers-j-end.result.now handler_of) in
    sym (ap (λ o. unwrap_or o c.args.k) (find_none (λ i. leads arch c.args.k i && (nat_lt 0 (rank ranks i) && nat_le (rank ranks i) (c.args.n + 1))) (handler_numbers arch)
    (λ i h. let below : i < c.loop-j.j = omega (arith, number_below (length arch.handlers) i h) in c.loop-j.invariant i below)))
