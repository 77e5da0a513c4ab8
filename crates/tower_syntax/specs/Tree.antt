-- Expressions and statements, as definitions speak of them.
use Rattle.std.specs.Prelude.{ℕ, ℤ}
use Rattle.tower_types.specs.declared.scalar.Scalar.{Scalar}
use Rattle.tower_types.specs.declared.scalar.BinOp.{BinOp}
use Rattle.tower_types.specs.declared.scalar.UnOp.{UnOp}
use Rattle.tower_syntax.specs.declared.body.Root.{Root}

mutual
  pub data Expr : Type 0 where
    lit : Scalar → ℤ → Expr
    read : Place → Expr
    un : UnOp → Scalar → Expr → Expr
    bin : BinOp → Scalar → Expr → Expr → Expr
    choose : Expr → Expr → Expr → Expr
    cast : Scalar → Expr → Expr

  pub data Place : Type 0 where
    place : Root → Steps → Place

  pub data Steps : Type 0 where
    no_steps : Steps
    field : ℕ → Steps → Steps
    at : Expr → Steps → Steps

mutual
  pub data Stmt : Type 0 where
    bind : ℕ → Expr → Stmt
    local : ℕ → Stmt
    set : Place → Expr → Stmt
    copy : Place → Place → Stmt
    branch : Expr → Stmts → Stmts → Stmt
    loop : ℕ → ℕ → Stmts → Stmt
    emit : ℕ → Expr → Stmt

  pub data Stmts : Type 0 where
    no_stmts : Stmts
    stmt : Stmt → Stmts → Stmts
