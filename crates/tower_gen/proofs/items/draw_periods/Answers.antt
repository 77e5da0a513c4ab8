use Rattle.std.proofs.Common.{◌≡◌, ◌+◌, ◌*◌, ◌++◌, map, refl, sym, subst, ◌∙◌, arith, append-nil}
use Rattle.tower_syntax.specs.RawView.{raw_item_of}
use Rattle.tower_gen.specs.Words.{words_of}
use Rattle.tower_gen.specs.Draws.{drawn_by}
use Rattle.tower_gen.specs.File.{upto, period_item}
use Rattle.tower_gen.proofs.Drawing.{grows, no_words, drawn_period, moved_on}
use Rattle.tower_gen.proofs.items.draw_periods.Goals as goal

pub loop-i-init : goal.loop-i-init
loop-i-init c = record { added = sym (append-nil (map raw_item_of c.args.items.now)); moved = no_words c.args.generator.now }

pub loop-i-preserved : goal.loop-i-preserved
loop-i-preserved c =
    let first = c.args.generator.now in
    let i = c.loop-i.i in
    let so_far = c.loop-i.invariant in
    let drawn = c.in_ok-next.ensures in
    record {
      added = grows raw_item_of (period_item (drawn_by (words_of first))) i c.args.items.now c.loop-i.items c.push.new.self c.in_ok-next.next c.in_ok-push.ensures.ok (drawn.made ∙ drawn_period first c.loop-i.generator (2 * i) so_far.moved i refl) so_far.added;
      moved = moved_on first c.loop-i.generator (2 * i) so_far.moved c.draw_period.new.generator 2 (2 * (i + 1)) drawn.moved (omega arith);
    }

pub returns-clause-added : goal.returns-clause-added
returns-clause-added c =
    let over = c.loop-i-test.false in
    let within = c.loop-i.auto.i-end in
    let e : c.loop-i.i ≡ 32 = omega (arith, over, within) in
    subst (λ n. map raw_item_of c.loop-i.items ≡ map raw_item_of c.args.items.now ++ map (period_item (drawn_by (words_of c.args.generator.now))) (upto n)) e c.loop-i.invariant.added
