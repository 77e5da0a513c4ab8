use Rattle.std.proofs.Common.{◌≡◌, ◌+◌, ◌%◌, ◌++◌, map, refl, sym, subst, ◌∙◌, arith, append-nil}
use Rattle.tower_syntax.specs.RawView.{raw_item_of}
use Rattle.tower_gen.specs.Words.{words_of}
use Rattle.tower_gen.specs.File.{upto, monitor_with}
use Rattle.tower_gen.proofs.Drawing.{grows, no_words, drawn_monitor, moved_on}
use Rattle.tower_gen.proofs.items.draw_monitors.Goals as goal

pub loop-i-init : goal.loop-i-init
loop-i-init c = record { added = sym (append-nil (map raw_item_of c.args.items.now)); moved = no_words c.args.generator.now }

pub loop-i-preserved : goal.loop-i-preserved
loop-i-preserved c =
    let first = c.args.generator.now in
    let i = c.loop-i.i in
    let so_far = c.loop-i.invariant in
    let drawn = c.in_ok-next.ensures in
    record {
      added = grows raw_item_of (λ i. monitor_with (words_of first i % 1000) i) i c.args.items.now c.loop-i.items c.push.new.self c.in_ok-next.next c.in_ok-push.ensures.ok (drawn.made ∙ drawn_monitor first c.loop-i.generator i so_far.moved) so_far.added;
      moved = moved_on first c.loop-i.generator i so_far.moved c.draw_monitor.new.generator 1 (i + 1) drawn.moved refl;
    }

pub returns-clause-added : goal.returns-clause-added
returns-clause-added c =
    let over = c.loop-i-test.false in
    let within = c.loop-i.auto.i-end in
    let e : c.loop-i.i ≡ 64 = omega (arith, over, within) in
    subst (λ n. map raw_item_of c.loop-i.items ≡ map raw_item_of c.args.items.now ++ map (λ i. monitor_with (words_of c.args.generator.now i % 1000) i) (upto n)) e c.loop-i.invariant.added
