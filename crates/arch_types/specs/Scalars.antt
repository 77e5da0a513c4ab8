-- Each number that an expression of a system makes or works on is of a scalar that has values: an index type is `ix 1` to `ix 65536`.
use Rattle.std.specs.Prelude.{All}
use Rattle.tower_syntax.specs.Tree.{Expr, lit, read, un, bin, choose, cast, Place, place, Steps, no_steps, field, at, Stmt, bind, local, set, copy, branch, loop, emit, Stmts, no_stmts, stmt}
use Rattle.tower_syntax.specs.Arch.{Arch}
use Rattle.tower_syntax.specs.Typed.{IsProperScalar}

abbrev mutual
  pub IsProperExpr : Expr → Type 0
  IsProperExpr (lit s n) = IsProperScalar s
  IsProperExpr (read p) = IsProperPlace p
  IsProperExpr (un op s a) = IsProperScalar s × IsProperExpr a
  IsProperExpr (bin op s a b) = IsProperScalar s × IsProperExpr a × IsProperExpr b
  IsProperExpr (choose c a b) = IsProperExpr c × IsProperExpr a × IsProperExpr b
  IsProperExpr (cast s a) = IsProperScalar s × IsProperExpr a

  pub IsProperPlace : Place → Type 0
  IsProperPlace (place r steps) = AreProperSteps steps

  pub AreProperSteps : Steps → Type 0
  AreProperSteps no_steps = Unit {0}
  AreProperSteps (field k rest) = AreProperSteps rest
  AreProperSteps (at e rest) = IsProperExpr e × AreProperSteps rest

abbrev mutual
  pub IsProperStmt : Stmt → Type 0
  IsProperStmt (bind b e) = IsProperExpr e
  IsProperStmt (local b) = Unit {0}
  IsProperStmt (set p e) = IsProperPlace p × IsProperExpr e
  IsProperStmt (copy p q) = IsProperPlace p × IsProperPlace q
  IsProperStmt (branch e a b) = IsProperExpr e × AreProperStmts a × AreProperStmts b
  IsProperStmt (loop b n body) = AreProperStmts body
  IsProperStmt (emit k e) = IsProperExpr e

  pub AreProperStmts : Stmts → Type 0
  AreProperStmts no_stmts = Unit {0}
  AreProperStmts (stmt s ss) = IsProperStmt s × AreProperStmts ss

abbrev pub HasProperScalars : Arch → Type 0
HasProperScalars arch = All (λ h. All (λ b. AreProperStmts b.stmts) h.callbacks) arch.handlers
