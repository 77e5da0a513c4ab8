use Rattle.std.proofs.Common.{◌≡◌, ◌+◌, ◌-◌, ◌≤◌, vec_len}
use Rattle.tower_io.specs.Shelves.{Takes}
use Rattle.tower_io.proofs.fetching.gather.Given as goal

abbrev pub invariant-loop-room : goal.invariant-loop-room
invariant-loop-room g l = record {
  read : Takes (g.F.Shelf.left l.initial.shelf) (g.F.Shelf.left l.shelf) l.out.items;
  stays_open : g.F.Shelf.opened l.shelf ≡ g.F.Shelf.opened l.initial.shelf;
  calm : g.F.Shelf.faults l.shelf ≡ g.F.Shelf.faults l.initial.shelf;
  blames_none : g.F.Shelf.blamed l.shelf ≡ g.F.Shelf.blamed l.initial.shelf;
  holds : g.F.Shelf.held l.shelf ≡ g.F.Shelf.held l.initial.shelf;
  short : vec_len l.out ≤ l.most + 1;
}

abbrev pub decreases-loop-room : goal.decreases-loop-room
decreases-loop-room g l = l.most + 1 - vec_len l.out
