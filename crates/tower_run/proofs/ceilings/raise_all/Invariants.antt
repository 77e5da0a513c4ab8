use Rattle.std.proofs.Common.{◌≡◌, take, fold, length}
use Rattle.tower_run.specs.Ceilings.{raised_at}
use Rattle.tower_run.proofs.ceilings.raise_all.Given as goal

abbrev pub invariant-loop-m : goal.invariant-loop-m
invariant-loop-m l = record {
  raised : l.ceilings.items ≡ fold (raised_at l.priority) l.initial.ceilings.items (take l.m-index l.monitors);
  long : length l.ceilings.items ≡ length l.initial.ceilings.items;
}
