-- The texts of steps, one after another.
use Rattle.std.proofs.Common.{◌≡◌, ℕ, ◌+◌, List, [], ◌∷◌, ◌++◌, map, Option, Some, None, refl, ap, sym, ◌∙◌, append_assoc, append-nil, add-zero, arith}
use Rattle.tower_syntax.specs.Arch.{Arch, Events}
use Rattle.task_code.specs.Program.{Program}
use Rattle.task_code.specs.Run.{Run, step, steps_from}
use Rattle.task_code.specs.Plan.{Planned, goes, comes, step_of, instructions}
use Rattle.tower_report.specs.RunText.{step_text, steps_text}

-- the number of instructions adds up
pub instructions_append : (ss ts : List Planned) → instructions (ss ++ ts) ≡ instructions ss + instructions ts
instructions_append [] ts = omega arith
instructions_append (goes k x ∷ ss) ts = omega (arith, instructions_append ss ts)
instructions_append (comes ∷ ss) ts = instructions_append ss ts

-- the text of steps that follow others
pub steps_text_append : (arch : Arch) (p : Program) (events : Events) (n : ℕ) (o : Option Run) (ss ts : List Planned) → steps_text arch p events n o (ss ++ ts) ≡ steps_text arch p events n o ss ++ steps_text arch p events (n + instructions ss) (steps_from p events o (map step_of ss)) ts
steps_text_append arch p events n o [] ts = ap (λ k. steps_text arch p events k o ts) (sym (add-zero n))
steps_text_append arch p events n None (s ∷ ss) [] = refl
steps_text_append arch p events n None (s ∷ ss) (t ∷ ts) = refl
steps_text_append arch p events n (Some r) (s ∷ ss) ts =
    let first = step_text arch p r.machine n s in
    let now = n + instructions (s ∷ []) in
    let next = step p events r (step_of s) in
    let rest = steps_text arch p events now next ss in
    let count : now + instructions ss ≡ n + instructions (s ∷ ss) = omega (arith, instructions_append (s ∷ []) ss) in
    ap (λ t. first ++ t) (steps_text_append arch p events now next ss ts) ∙ sym (append_assoc first rest _) ∙ ap (λ k. (first ++ rest) ++ steps_text arch p events k (steps_from p events next (map step_of ss)) ts) count

-- the text of one more step, where the steps before it lead to this run
pub steps_text_push : (arch : Arch) (p : Program) (events : Events) (n : ℕ) (o : Option Run) (ss : List Planned) (s : Planned) (r : Run) → steps_from p events o (map step_of ss) ≡ Some r → steps_text arch p events n o (ss ++ s ∷ []) ≡ steps_text arch p events n o ss ++ step_text arch p r.machine (n + instructions ss) s
steps_text_push arch p events n o ss s r leads =
    let k = n + instructions ss in
    steps_text_append arch p events n o ss (s ∷ []) ∙ ap (λ q. steps_text arch p events n o ss ++ steps_text arch p events k q (s ∷ [])) leads ∙ ap (λ t. steps_text arch p events n o ss ++ t) (append-nil (step_text arch p r.machine k s))
