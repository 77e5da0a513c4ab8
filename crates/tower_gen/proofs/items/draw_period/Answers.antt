use Rattle.std.proofs.Common.{◌≡◌, ℕ, ◌+◌, ◌%◌, IfOk, ap, subst, ◌∙◌, refl}
use Rattle.tower_syntax.specs.RawView.{raw_item_of}
use Rattle.tower_gen.specs.Words.{words_of}
use Rattle.tower_gen.specs.File.{period_with}
use Rattle.tower_gen.proofs.Drawing.{words_behind, moved_on, on_ok}
use Rattle.tower_gen.proofs.items.draw_period.Goals as goal

pub returns-clause-made : goal.returns-clause-made
returns-clause-made c =
    let first = c.args.generator.now in
    let P : ℕ → ℕ → Type 0 = λ a b. IfOk c.period.result (λ x. raw_item_of x ≡ period_with (10 + a) b c.args.i) in
    let second = ap (λ h. words_of h 0) c.draw-ms.ensures.moved ∙ words_behind 0 1 first in
    subst (λ a. P a (words_of first 1 % 256)) c.draw-ms.ensures.value (subst (λ b. P c.draw-ms.result b) (c.draw-priority.ensures.value ∙ ap (λ w. w % 256) second) c.period.ensures)

pub returns-clause-moved : goal.returns-clause-moved
returns-clause-moved c = on_ok c.period.result (moved_on c.args.generator.now c.draw-ms.new.generator 1 c.draw-ms.ensures.moved c.draw-priority.new.generator 1 2 c.draw-priority.ensures.moved refl)
