use Rattle.std.proofs.Common.{◌≡◌, drop}
use Rattle.std.specs.Prelude.{find, bytes_eq}
use Rattle.tower_reader.specs.Table.{row_of, head}
use Rattle.tower_reader.proofs.table.row_of.Given as goal

abbrev pub invariant-loop-row : goal.invariant-loop-row
invariant-loop-row l = find (λ r. bytes_eq (head r) l.word) (drop l.row-index l.row-items) ≡ row_of l.fn.place l.fn.word
