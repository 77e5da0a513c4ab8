use Rattle.std.proofs.Common.{◌%◌, ap, sym, ◌∙◌, arith}
use Rattle.tower_gen.specs.Words.{words_of}
use Rattle.tower_gen.specs.Draws.{behind}
use Rattle.tower_gen.proofs.Drawing.{words_behind, moved_on, seen, past_two}
use Rattle.tower_gen.proofs.draws.choice.Goals as goal

pub returns-clause-value : goal.returns-clause-value
returns-clause-value c =
    let first = c.args.generator.now in
    let second = ap (λ h. words_of h 0) c.draw.ensures.moved ∙ words_behind 0 1 first in
    seen (words_of first 0) (λ e. let not = c.if-draw-eq0.false in let is = c.draw.ensures.value in omega (arith, not, is, e))
    (words_of first 1) c.draw-task.result (c.draw-task.ensures.value ∙ ap (λ w. w % 16) second)

pub returns-clause-moved : goal.returns-clause-moved
returns-clause-moved c =
    let first = c.args.generator.now in
    let two = past_two (words_of first 0) (λ e. let not = c.if-draw-eq0.false in let is = c.draw.ensures.value in omega (arith, not, is, e)) 0 in
    moved_on first c.draw.new.generator 1 c.draw.ensures.moved c.draw-task.new.generator 1 (behind (words_of first) 0) c.draw-task.ensures.moved (sym two)
