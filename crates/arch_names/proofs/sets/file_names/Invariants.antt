use Rattle.std.proofs.Common.{take}
use Rattle.tower_syntax.specs.RawView.{raw_item_of}
use Rattle.arch_names.specs.Sets.{declared_by, counted, none_before}
use Rattle.arch_names.proofs.Gathered.{Counted}
use Rattle.arch_names.proofs.sets.file_names.Given as goal

abbrev pub invariant-loop-item : goal.invariant-loop-item
invariant-loop-item l = Counted raw_item_of declared_by counted none_before (take l.item-index l.items) l.names l.counts
