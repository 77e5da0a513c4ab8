use Rattle.std.proofs.Common.{◌≡◌, ◌∙◌, ℕ, List, length, get_or, map, ap, arith}
use Rattle.tower_syntax.specs.Arch.{Arch}
use Rattle.tower_syntax.specs.Weights.{cost, source_numbers}
use Rattle.arch_checks.proofs.Numbers.{weights_length, weight_at}
use Rattle.arch_checks.proofs.checked.Checked.cost.Goals as goal

kept : (a b : Arch) (slice costs : List ℕ) → a ≡ b → slice ≡ costs → costs ≡ map (cost a) (source_numbers a) → slice ≡ map (cost b) (source_numbers b)
kept a b slice costs e f g = f ∙ g ∙ ap (λ x. map (cost x) (source_numbers x)) e

pub bounds-as_slice-source : goal.bounds-as_slice-source
bounds-as_slice-source c =
    let arch = c.args.self.now in
    let e = kept c.self.inside.arch arch c.as_slice.result.now c.self.inside.costs c.self.view_is c.as_slice.ensures c.self.invariant.1 in
    omega (arith, ap length e, weights_length (cost arch) (length arch.sources), c.requires)

pub returns : goal.returns
returns c =
    let arch = c.args.self.now in
    let e = kept c.self.inside.arch arch c.as_slice.result.now c.self.inside.costs c.self.view_is c.as_slice.ensures c.self.invariant.1 in
    ap (λ xs. get_or xs c.args.source 0) e ∙ weight_at (cost arch) (length arch.sources) c.args.source 0 c.requires
