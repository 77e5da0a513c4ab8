use Rattle.std.proofs.Common.{◌≡◌, ◌*◌, ◌++◌, map}
use Rattle.tower_syntax.specs.RawView.{raw_item_of}
use Rattle.tower_gen.specs.Words.{after, words_of}
use Rattle.tower_gen.specs.Draws.{drawn_by}
use Rattle.tower_gen.specs.File.{upto, period_item}
use Rattle.tower_gen.proofs.items.draw_periods.Given as goal

abbrev pub invariant-loop-i : goal.invariant-loop-i
invariant-loop-i l = record {
  added : map raw_item_of l.items ≡ map raw_item_of l.initial.items ++ map (period_item (drawn_by (words_of l.initial.generator))) (upto l.i);
  moved : l.generator ≡ after (2 * l.i) l.initial.generator;
}
