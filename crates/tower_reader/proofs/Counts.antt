-- More children than are counted are as many as are counted.
use Rattle.std.proofs.Common.{◌≡◌, ◌≤◌, ◌<◌, ℕ, ◌+◌, Bool, true, false, ◌&&◌, ◌||◌, nat_le, length, inl, inr, ap, sym, ◌∙◌, arith}
use Rattle.std.proofs.lemmas.Bool.{cases_lt, le-leb, lt-leb}
use Rattle.std.proofs.lemmas.List.{get_or_past}
use Rattle.tower_reader.specs.declared.table.Row.{Row}
use Rattle.tower_reader.specs.declared.table.Row.TheVariants as row
use Rattle.tower_reader.specs.declared.table.ItemRow.TheVariants as item
use Rattle.tower_reader.specs.declared.table.PartRow.TheVariants as part
use Rattle.tower_reader.specs.declared.table.StmtRow.TheVariants as stmt
use Rattle.tower_reader.specs.declared.table.ExprRow.TheVariants as expr
use Rattle.tower_reader.specs.Table.{rule, or_nowhere, has_more, place_at, count_fits}
use Rattle.tower_reader.specs.Machine.{counted}

few : (r : Row) → length (rule r).places ≤ 4
few row.File = omega arith
few row.Tower = omega arith
few row.Tower2 = omega arith
few (row.Item item.Record) = omega arith
few (row.Item item.Init) = omega arith
few (row.Item item.Period) = omega arith
few (row.Item item.Period2) = omega arith
few (row.Item item.Signal) = omega arith
few (row.Item item.Signal2) = omega arith
few (row.Item item.Channel) = omega arith
few (row.Item item.Output) = omega arith
few (row.Item item.Monitor) = omega arith
few (row.Part part.Field) = omega arith
few (row.Part part.State) = omega arith
few (row.Part part.Handler) = omega arith
few (row.Part part.Emitter) = omega arith
few (row.Part part.Callback) = omega arith
few (row.Part part.Ix) = omega arith
few (row.Part part.Array) = omega arith
few (row.Stmt stmt.Let) = omega arith
few (row.Stmt stmt.Local) = omega arith
few (row.Stmt stmt.Set) = omega arith
few (row.Stmt stmt.Copy) = omega arith
few (row.Stmt stmt.If) = omega arith
few (row.Stmt stmt.Then) = omega arith
few (row.Stmt stmt.Else) = omega arith
few (row.Stmt stmt.For) = omega arith
few (row.Stmt stmt.Emit) = omega arith
few (row.Expr expr.Get) = omega arith
few (row.Expr expr.At) = omega arith
few (row.Expr (expr.Lit s)) = omega arith
few (row.Expr expr.LitIx) = omega arith
few (row.Expr (expr.Bin o)) = omega arith
few (row.Expr (expr.Un o)) = omega arith
few (row.Expr expr.Cond) = omega arith
few (row.Expr expr.Cast) = omega arith

pub counted_more : (n : ℕ) → counted (counted n + 1) ≡ counted (n + 1)
counted_more n = omega arith

below : (n : ℕ) → n ≤ 255 → counted n ≡ n
below n l = omega arith

above : (n : ℕ) → 255 < n → counted n ≡ 255
above n l = omega arith

pub place_counted : (r : Row) (n : ℕ) → place_at r (counted n) ≡ place_at r n
place_counted r n =
    elim (cases_lt 255 n) [
      | inl l ↦ get_or_past (rule r).places (counted n) (or_nowhere (rule r).more) (omega (arith, few r, above n l)) ∙ sym (get_or_past (rule r).places n (or_nowhere (rule r).more) (omega (arith, few r)))
      | inr l ↦ ap (place_at r) (below n l)
    ]

fits_above : (least n : ℕ) (more : Bool) → least ≤ 4 → 4 < n → nat_le least n && (nat_le n least || more) ≡ more
fits_above least n more l m =
    let a : nat_le least n ≡ true = le-leb least n (omega arith) in
    let b : nat_le n least ≡ false = lt-leb n least (omega arith) in
    ap (λ x. x && (nat_le n least || more)) a ∙ ap (λ x. x || more) b

pub fits_counted : (r : Row) (n : ℕ) → count_fits r (counted n) ≡ count_fits r n
fits_counted r n =
    elim (cases_lt 255 n) [
      | inl l ↦ fits_above (length (rule r).places) (counted n) (has_more (rule r).more) (few r) (omega (arith, above n l)) ∙ sym (fits_above (length (rule r).places) n (has_more (rule r).more) (few r) (omega arith))
      | inr l ↦ ap (count_fits r) (below n l)
    ]
