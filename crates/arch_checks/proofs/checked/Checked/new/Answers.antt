use Rattle.std.proofs.Common.{◌≡◌, ◌≤◌, ◌∙◌, ℕ, refl, arith}
use Rattle.tower_types.specs.Records.{saturated}
use Rattle.tower_syntax.specs.Weights.{memory, code}
use Rattle.arch_checks.specs.declared.fault.What.TheVariants as what
use Rattle.arch_checks.proofs.checked.Checked.new.Goals as goal

-- a weight within a limit is not cut
uncut : (n : ℕ) → n ≤ 1048576 → saturated n ≡ n
uncut n h = omega (arith, h)

pub invariant_of-result : goal.invariant_of-result
invariant_of-result c =
    let arch = c.args.arch in
    let words : memory arch ≤ 1048576 = c.requires.within what.Memory (memory arch) (omega arith) refl in
    let instructions : code arch ≤ 1000000 = c.requires.within what.Code (code arch) (omega arith) refl in
    (c.requires.accepted, c.requires.costs, c.in_ok-memory.ensures ∙ uncut (memory arch) words, c.in_ok-code.ensures ∙ uncut (code arch) (omega (arith, instructions)))
