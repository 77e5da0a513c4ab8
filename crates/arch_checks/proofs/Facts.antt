-- What acceptance gives the code and the machine.
use Rattle.std.proofs.Common.{ℕ, ◌≤◌, List, length, arith}
use Rattle.tower_syntax.specs.Arch.{Arch}
use Rattle.channel_graph.specs.Chain.{IsWalk}
use Rattle.channel_graph.proofs.Chained.{chain_exists}
use Rattle.arch_checks.specs.declared.fault.What.TheVariants as what
use Rattle.arch_checks.specs.Laws.{IsSafe}
use Rattle.arch_checks.specs.Offences.{IsAccepted}
use Rattle.arch_checks.specs.Wide.{HasWideTypes, HasShallowTypes}
use Rattle.arch_checks.proofs.Accepted.{safe}
use Rattle.arch_checks.proofs.Goods.{wide_types, shallow_types}

pub walks_short : (bs : List ℕ) (arch : Arch) → IsAccepted bs arch → (walk : List ℕ) → IsWalk arch walk → length walk ≤ 100
walks_short bs arch accepted walk is =
    let s : IsSafe arch = safe bs arch accepted in
    let chain = chain_exists arch s.numbered.listeners s.acyclic in
    let few : chain.handlers ≤ 100 = s.within what.Chain chain.handlers chain.is in
    let most : length walk ≤ chain.handlers = chain.is.longest walk is in
    omega (arith, few, most)

pub types_wide : (bs : List ℕ) (arch : Arch) → IsAccepted bs arch → HasWideTypes arch
types_wide bs arch accepted = let s : IsSafe arch = safe bs arch accepted in wide_types arch s s.numbers

pub types_shallow : (bs : List ℕ) (arch : Arch) → IsAccepted bs arch → HasShallowTypes arch
types_shallow bs arch accepted = let s : IsSafe arch = safe bs arch accepted in shallow_types arch s s.numbers
