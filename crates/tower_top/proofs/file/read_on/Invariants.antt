use Rattle.std.proofs.Common.{◌≡◌, ◌-◌, ◌≤◌, ℕ, List}
use Rattle.tower_io.specs.Shelves.{Takes}
use Rattle.tower_top.specs.File.{HasTaken}
use Rattle.tower_top.proofs.file.read_on.Given as goal

abbrev pub invariant-loop-pieces : goal.invariant-loop-pieces
invariant-loop-pieces g l = record {
  read : (text : List ℕ) × Takes (g.F.Shelf.left l.initial.shelf) (g.F.Shelf.left l.shelf) text × HasTaken l.pieces text;
  stays_open : g.F.Shelf.opened l.shelf ≡ g.F.Shelf.opened l.initial.shelf;
  calm : g.F.Shelf.faults l.shelf ≡ g.F.Shelf.faults l.initial.shelf;
  blames_none : g.F.Shelf.blamed l.shelf ≡ g.F.Shelf.blamed l.initial.shelf;
  holds : g.F.Shelf.held l.shelf ≡ g.F.Shelf.held l.initial.shelf;
  few : l.pieces.taken ≤ 1048577;
}

abbrev pub decreases-loop-pieces : goal.decreases-loop-pieces
decreases-loop-pieces g l = 1048577 - l.pieces.taken
