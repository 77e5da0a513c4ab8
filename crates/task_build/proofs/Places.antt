-- No place in the code of a task is above the limit on instructions.
use Rattle.std.proofs.Common.{◌≡◌, ℕ, ◌≤◌, List, length, Some, arith, slice_get}
use Rattle.tower_syntax.specs.Arch.{Arch}
use Rattle.task_code.specs.declared.program.Task.{Task}
use Rattle.task_code.specs.Rules.{all_instructions}
use Rattle.arch_checks.specs.Offences.{IsAccepted}
use Rattle.emit_code.proofs.Listed.{get_in}
use Rattle.task_build.specs.CodeOf.{code_of}
use Rattle.task_build.proofs.Ruled.{in_sum, rules_kept}

pub places_small : (bs : List ℕ) (arch : Arch) → IsAccepted bs arch → (x : ℕ) (t : Task) → slice_get (code_of arch).tasks x ≡ Some t → length t.code ≤ 1000000
places_small bs arch accepted x t at =
    let one : length t.code ≤ all_instructions (code_of arch) = in_sum (λ t. length t.code) (code_of arch).tasks t (get_in (code_of arch).tasks x t at) in
    let all : all_instructions (code_of arch) ≤ 1000000 = (rules_kept bs arch accepted).instructions in
    omega (arith, one, all)
