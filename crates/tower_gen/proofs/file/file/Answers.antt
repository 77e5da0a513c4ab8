use Rattle.std.proofs.Common.{◌%◌, ◌++◌, List, map, refl, ap, ap₂, ◌∙◌}
use Rattle.tower_syntax.specs.RawTree.{Id, RawItem, Raw}
use Rattle.tower_syntax.specs.RawView.{raw_item_of}
use Rattle.tower_gen.specs.Words.{words_of}
use Rattle.tower_gen.specs.Draws.{drawn_by}
use Rattle.tower_gen.specs.File.{upto, period_item, channel_items, output_items, monitor_with, monitor_item}
use Rattle.tower_gen.proofs.Drawing.{drawn_monitors, joined, moved_on}
use Rattle.tower_gen.proofs.file.file.Goals as goal

pub returns-clause-made : goal.returns-clause-made
returns-clause-made c =
    let first = c.args.generator.now in
    let now = c.draw_periods.new.generator in
    let d = drawn_by (words_of first) in
    let items = joined (map (period_item d) (upto 32)) channel_items output_items (map (λ i. monitor_with (words_of now i % 1000) i) (upto 64)) (map (monitor_item d) (upto 64))
    (map raw_item_of c.draw_periods.new.items) (map raw_item_of c.add_channels.new.items) (map raw_item_of c.add_outputs.new.items) (map raw_item_of c.draw_monitors.new.items)
    (c.in_ok-draw_periods.ensures.added ∙ ap (λ xs. map raw_item_of xs ++ map (period_item d) (upto 32)) c.new-items.ensures)
    c.in_ok-add_channels.ensures c.in_ok-add_outputs.ensures c.in_ok-draw_monitors.ensures.added
    (drawn_monitors first now 64 c.in_ok-draw_periods.ensures.moved refl) in
    ap₂ (λ (i : Id) (xs : List (RawItem Id)). let r : Raw Id = record { at = 0; version = 1; name = i; items = xs } in r) c.in_ok-name.ensures items

pub returns-clause-moved : goal.returns-clause-moved
returns-clause-moved c = moved_on c.args.generator.now c.draw_periods.new.generator 64 c.in_ok-draw_periods.ensures.moved c.draw_monitors.new.generator 64 128 c.in_ok-draw_monitors.ensures.moved refl
