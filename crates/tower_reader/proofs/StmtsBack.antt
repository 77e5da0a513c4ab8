-- Printed statements read back.
use Rattle.std.proofs.Common.{◌≡◌, ℕ, ◌+◌, List, Option, Some, None, refl, arith}
use Rattle.std.specs.Prelude.{codes}
use Rattle.std.specs.List.{filter_map, cons_option}
use Rattle.tower_syntax.specs.RawTree.{Id, RawStmt, bind, local, set, copy, branch, loop, emit, RawStmts, no_stmts, stmt}
use Rattle.tower_syntax.specs.RawView.{raw_stmts_of}
use Rattle.tower_syntax.specs.Form.{row as row_form}
use Rattle.tower_syntax.specs.Printed.{stmt_form, stmt_forms}
use Rattle.tower_syntax.specs.Printable.{IsPrintableStmt, ArePrintableStmts}
use Rattle.tower_reader.specs.declared.table.Place.TheVariants as place
use Rattle.tower_reader.specs.declared.table.Row.{Row}
use Rattle.tower_reader.specs.declared.table.Row.TheVariants as row
use Rattle.tower_reader.specs.declared.table.StmtRow.TheVariants as stmt_row
use Rattle.tower_reader.specs.Part.{Part, as_number, as_block, if_stmt, stmts}
use Rattle.tower_reader.specs.Alike.{bare_stmt, bare_stmts}
use Rattle.tower_reader.proofs.RowsBack.{Backs, BacksAll, two, three, more, two_and_more, HasMore, placed, no_children, child, IsPlacedFrom, map_option}
use Rattle.tower_reader.proofs.ExprsBack.{name_backs, number_backs, type_backs, place_backs, place_takes, expr_backs}

abbrev IsStmt : RawStmt Id → Part → Type 0
IsStmt s q = map_option bare_stmt (if_stmt q) ≡ Some (bare_stmt s)

abbrev pub AreStmts : RawStmts Id → List Part → Type 0
AreStmts ss qs = bare_stmts (stmts qs) ≡ bare_stmts ss

abbrev IsBlock : RawStmts Id → Part → Type 0
IsBlock ss q = bare_stmts (as_block q) ≡ bare_stmts ss

stmts_cons : (o : Option (RawStmt Id)) (s : RawStmt Id) (xs : List (RawStmt Id)) (ss : RawStmts Id) → map_option bare_stmt o ≡ Some (bare_stmt s) → bare_stmts (raw_stmts_of xs) ≡ bare_stmts ss → bare_stmts (raw_stmts_of (cons_option o xs)) ≡ bare_stmts (stmt s ss)
stmts_cons None s xs ss e h = cc
stmts_cons (Some x) s xs ss e h = let k : bare_stmt x ≡ bare_stmt s = cc in λ i. stmt (k i) (h i)

then_more : HasMore (row.Stmt stmt_row.Then) 0 place.Stmt
then_more = record { places = refl; more = refl }

else_more : HasMore (row.Stmt stmt_row.Else) 0 place.Stmt
else_more = record { places = refl; more = refl }

for_more : HasMore (row.Stmt stmt_row.For) 2 place.Stmt
for_more = record { places = refl; more = refl }

then_back : (ss : RawStmts Id) → BacksAll (row.Stmt stmt_row.Then) 0 (stmt_forms ss) (AreStmts ss) → Backs place.Then (row_form (codes "then") (stmt_forms ss)) (IsBlock ss)
then_back ss xs = more place.Then (row.Stmt stmt_row.Then) (codes "then") refl then_more xs (λ n qs k. k)

else_back : (ss : RawStmts Id) → BacksAll (row.Stmt stmt_row.Else) 0 (stmt_forms ss) (AreStmts ss) → Backs place.Else (row_form (codes "else") (stmt_forms ss)) (IsBlock ss)
else_back ss xs = more place.Else (row.Stmt stmt_row.Else) (codes "else") refl else_more xs (λ n qs k. k)

mutual
  stmt_backs : (s : RawStmt Id) → IsPrintableStmt s → Backs place.Stmt (stmt_form s) (IsStmt s)
  stmt_backs (bind at i e) h = two place.Stmt (row.Stmt stmt_row.Let) (codes "let") refl (name_backs place.Name refl i h.0) (expr_backs e h.1) (λ n a b k l j. Some (bind 0 (k j) (l j)))
  stmt_backs (local at i t) h = two place.Stmt (row.Stmt stmt_row.Local) (codes "local") refl (name_backs place.Name refl i h.0) (type_backs t h.1) (λ n a b k l j. Some (local 0 (k j) (l j)))
  stmt_backs (set at p e) h = two place.Stmt (row.Stmt stmt_row.Set) (codes "set") refl (place_backs p h.0 place.Place place_takes) (expr_backs e h.1) (λ n a b k l j. Some (set 0 (k.0 j) (l j)))
  stmt_backs (copy at p q) h = two place.Stmt (row.Stmt stmt_row.Copy) (codes "copy") refl (place_backs p h.0 place.Place place_takes) (place_backs q h.1 place.Place place_takes) (λ n a b k l j. Some (copy 0 (k.0 j) (l.0 j)))
  stmt_backs (branch at e then_at ss else_at ts) h =
      three place.Stmt (row.Stmt stmt_row.If) (codes "if") refl (expr_backs e h.0)
      (then_back ss (stmts_back ss h.1 (row.Stmt stmt_row.Then) 0 (placed then_more)))
      (else_back ts (stmts_back ts h.2 (row.Stmt stmt_row.Else) 0 (placed else_more)))
      (λ n a b c k l m j. Some (branch 0 (k j) 0 (l j) 0 (m j)))
  stmt_backs (loop at i m body) h =
      two_and_more place.Stmt (row.Stmt stmt_row.For) (codes "for") refl for_more (name_backs place.Name refl i h.0) (number_backs place.Times 1 65536 refl m h.1) (stmts_back body h.2 (row.Stmt stmt_row.For) 2 (placed for_more))
      (λ n a b cs k l q j. Some (loop 0 (k j) (as_number (l j)) (q j)))
  stmt_backs (emit at i e) h = two place.Stmt (row.Stmt stmt_row.Emit) (codes "emit") refl (name_backs place.Use refl i h.0) (expr_backs e h.1) (λ n a b k l j. Some (emit 0 (k j) (l j)))

  pub stmts_back : (ss : RawStmts Id) → ArePrintableStmts ss → (r : Row) (i : ℕ) → IsPlacedFrom i r place.Stmt → BacksAll r i (stmt_forms ss) (AreStmts ss)
  stmts_back no_stmts h r i e = no_children r i refl
  stmts_back (stmt s ss) h r i e =
      child r i place.Stmt (e i (omega arith)) (stmt_backs s h.0) (stmts_back ss h.1 r (i + 1) (λ j l. e j (omega arith)))
      (λ a bs k l. stmts_cons (if_stmt a) s (filter_map if_stmt bs) ss k l)
