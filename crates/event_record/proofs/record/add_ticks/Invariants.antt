use Rattle.std.proofs.Common.{◌≡◌, ◌+◌, ◌++◌, map, length}
use Rattle.std.specs.Prelude.{replicate}
use Rattle.tower_syntax.specs.Arch.{tick}
use Rattle.tower_syntax.specs.View.{entry_of}
use Rattle.event_record.proofs.record.add_ticks.Given as goal

abbrev pub invariant-loop-i : goal.invariant-loop-i
invariant-loop-i l = record {
  put : map entry_of l.entries ≡ map entry_of l.initial.entries ++ replicate l._i tick;
  counted : length l.entries ≡ length l.initial.entries + l._i;
}
