use Rattle.std.proofs.Common.{◌≡◌, ◌%◌, ◌++◌, map}
use Rattle.tower_syntax.specs.RawView.{raw_item_of}
use Rattle.tower_gen.specs.Words.{after, words_of}
use Rattle.tower_gen.specs.File.{upto, monitor_with}
use Rattle.tower_gen.proofs.items.draw_monitors.Given as goal

abbrev pub invariant-loop-i : goal.invariant-loop-i
invariant-loop-i l = record {
  added : map raw_item_of l.items ≡ map raw_item_of l.initial.items ++ map (λ i. monitor_with (words_of l.initial.generator i % 1000) i) (upto l.i);
  moved : l.generator ≡ after l.i l.initial.generator;
}
