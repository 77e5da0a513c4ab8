use Rattle.std.proofs.Common.{ℕ, [], ◌∷◌, ap, ◌∙◌}
use Rattle.std.specs.Prelude.{codes, decimal}
use Rattle.tower_syntax.specs.Arch.{Arch}
use Rattle.tower_report.specs.Bytes.{Bytes, line}
use Rattle.tower_report.specs.CheckText.{tower_line, counts_line, costs_text, memory_line, code_line, ok_line}
use Rattle.tower_report.proofs.Puts.{Puts-same, Puts-err}
use Rattle.tower_report.proofs.Parts.{fails_at_1, fails_at_2, fails_at_3, fails_at_4, fails_at_5, fails_at_6, all_done}
use Rattle.tower_report.proofs.checks.put_all.Goals as goal

pub returns-in_err-put_line : goal.returns-in_err-put_line
returns-in_err-put_line g c =
    let arch = c.args.checked.now in
    let name = ap (λ (t : Bytes). line (codes "tower" ∷ t ∷ [])) (c.bytes.ensures.value ∙ c.name.ensures ∙ ap (λ (a : Arch). a.name) c.arch.ensures.value) in
    Puts-err _ c.from_residual.ensures.0 (fails_at_1 (tower_line arch) (counts_line arch) (costs_text arch) (memory_line arch) (code_line arch) ok_line (Puts-same name c.in_err-put_line.ensures))

pub returns-in_err-put_counts : goal.returns-in_err-put_counts
returns-in_err-put_counts g c =
    let arch = c.args.checked.now in
    let name = ap (λ (t : Bytes). line (codes "tower" ∷ t ∷ [])) (c.bytes.ensures.value ∙ c.name.ensures ∙ ap (λ (a : Arch). a.name) c.arch.ensures.value) in
    Puts-err _ c.from_residual-in_err-put_counts.ensures.0
    (fails_at_2 (tower_line arch) (counts_line arch) (costs_text arch) (memory_line arch) (code_line arch) ok_line (Puts-same name c.in_ok-put_line.ensures) (Puts-same (ap counts_line c.arch-2.ensures.value) c.in_err-put_counts.ensures))

pub returns-in_err-put_costs : goal.returns-in_err-put_costs
returns-in_err-put_costs g c =
    let arch = c.args.checked.now in
    let name = ap (λ (t : Bytes). line (codes "tower" ∷ t ∷ [])) (c.bytes.ensures.value ∙ c.name.ensures ∙ ap (λ (a : Arch). a.name) c.arch.ensures.value) in
    Puts-err _ c.from_residual-in_err-put_costs.ensures.0
    (fails_at_3 (tower_line arch) (counts_line arch) (costs_text arch) (memory_line arch) (code_line arch) ok_line (Puts-same name c.in_ok-put_line.ensures) (Puts-same (ap counts_line c.arch-2.ensures.value) c.in_ok-put_counts.ensures) c.in_err-put_costs.ensures)

pub returns-in_err-put_weight : goal.returns-in_err-put_weight
returns-in_err-put_weight g c =
    let arch = c.args.checked.now in
    let name = ap (λ (t : Bytes). line (codes "tower" ∷ t ∷ [])) (c.bytes.ensures.value ∙ c.name.ensures ∙ ap (λ (a : Arch). a.name) c.arch.ensures.value) in
    let memory = ap (λ (n : ℕ). line (codes "memory" ∷ decimal n ∷ [])) c.memory.ensures in
    Puts-err _ c.from_residual-in_err-put_weight.ensures.0
    (fails_at_4 (tower_line arch) (counts_line arch) (costs_text arch) (memory_line arch) (code_line arch) ok_line (Puts-same name c.in_ok-put_line.ensures) (Puts-same (ap counts_line c.arch-2.ensures.value) c.in_ok-put_counts.ensures) c.in_ok-put_costs.ensures (Puts-same memory c.in_err-put_weight.ensures))

pub returns-in_err-put_weight-2 : goal.returns-in_err-put_weight-2
returns-in_err-put_weight-2 g c =
    let arch = c.args.checked.now in
    let name = ap (λ (t : Bytes). line (codes "tower" ∷ t ∷ [])) (c.bytes.ensures.value ∙ c.name.ensures ∙ ap (λ (a : Arch). a.name) c.arch.ensures.value) in
    let memory = ap (λ (n : ℕ). line (codes "memory" ∷ decimal n ∷ [])) c.memory.ensures in
    let code = ap (λ (n : ℕ). line (codes "code" ∷ decimal n ∷ [])) c.code.ensures in
    Puts-err _ c.from_residual-in_err-put_weight-2.ensures.0
    (fails_at_5 (tower_line arch) (counts_line arch) (costs_text arch) (memory_line arch) (code_line arch) ok_line (Puts-same name c.in_ok-put_line.ensures) (Puts-same (ap counts_line c.arch-2.ensures.value) c.in_ok-put_counts.ensures) c.in_ok-put_costs.ensures (Puts-same memory c.in_ok-put_weight.ensures) (Puts-same code c.in_err-put_weight-2.ensures))

pub returns-in_err-put_line-2 : goal.returns-in_err-put_line-2
returns-in_err-put_line-2 g c =
    let arch = c.args.checked.now in
    let name = ap (λ (t : Bytes). line (codes "tower" ∷ t ∷ [])) (c.bytes.ensures.value ∙ c.name.ensures ∙ ap (λ (a : Arch). a.name) c.arch.ensures.value) in
    let memory = ap (λ (n : ℕ). line (codes "memory" ∷ decimal n ∷ [])) c.memory.ensures in
    let code = ap (λ (n : ℕ). line (codes "code" ∷ decimal n ∷ [])) c.code.ensures in
    Puts-err _ c.from_residual-in_err-put_line-2.ensures.0
    (fails_at_6 (tower_line arch) (counts_line arch) (costs_text arch) (memory_line arch) (code_line arch) ok_line (Puts-same name c.in_ok-put_line.ensures) (Puts-same (ap counts_line c.arch-2.ensures.value) c.in_ok-put_counts.ensures) c.in_ok-put_costs.ensures (Puts-same memory c.in_ok-put_weight.ensures) (Puts-same code c.in_ok-put_weight-2.ensures) c.in_err-put_line-2.ensures)

pub returns : goal.returns
returns g c =
    let arch = c.args.checked.now in
    let name = ap (λ (t : Bytes). line (codes "tower" ∷ t ∷ [])) (c.bytes.ensures.value ∙ c.name.ensures ∙ ap (λ (a : Arch). a.name) c.arch.ensures.value) in
    let memory = ap (λ (n : ℕ). line (codes "memory" ∷ decimal n ∷ [])) c.memory.ensures in
    let code = ap (λ (n : ℕ). line (codes "code" ∷ decimal n ∷ [])) c.code.ensures in
    all_done (tower_line arch) (counts_line arch) (costs_text arch) (memory_line arch) (code_line arch) ok_line (Puts-same name c.in_ok-put_line.ensures) (Puts-same (ap counts_line c.arch-2.ensures.value) c.in_ok-put_counts.ensures) c.in_ok-put_costs.ensures (Puts-same memory c.in_ok-put_weight.ensures) (Puts-same code c.in_ok-put_weight-2.ensures) c.in_ok-put_line-2.ensures
