-- A file by its table of forms. U is what stands for a used name: `Id`, the name as written, or `Link`, what it names.
use Rattle.std.specs.Prelude.{ℕ, ℤ, List, Option, Bool}
use Rattle.tower_types.specs.Ty.{Name}
use Rattle.tower_types.specs.declared.scalar.Scalar.{Scalar}
use Rattle.tower_types.specs.declared.scalar.BinOp.{BinOp}
use Rattle.tower_types.specs.declared.scalar.UnOp.{UnOp}
use Rattle.tower_syntax.specs.declared.named.Target.{Target}

-- Where a field or the first argument of a form is a number of its own, it is the offset of the form's node.
pub record Id : Type 0 where
  pub at : ℕ
  pub name : Name

pub record Link : Type 0 where
  pub at : ℕ
  pub target : Target

pub data RawType (U : Type 0) : Type 0 where
  word : ℕ → Scalar → RawType U
  rec : U → RawType U
  array : ℕ → ℕ → RawType U → RawType U

mutual
  pub data RawPlace (U : Type 0) : Type 0 where
    root : U → RawPlace U
    get : ℕ → RawPlace U → Id → RawPlace U
    index : ℕ → RawPlace U → RawExpr U → RawPlace U

  pub data RawExpr (U : Type 0) : Type 0 where
    truth : ℕ → Bool → RawExpr U
    read : RawPlace U → RawExpr U
    lit : ℕ → Scalar → ℤ → RawExpr U
    un : ℕ → UnOp → RawExpr U → RawExpr U
    bin : ℕ → BinOp → RawExpr U → RawExpr U → RawExpr U
    choose : ℕ → RawExpr U → RawExpr U → RawExpr U → RawExpr U
    cast : ℕ → RawType U → RawExpr U → RawExpr U

-- of a branch, the two offsets before its lists are those of `then` and `else`
mutual
  pub data RawStmt (U : Type 0) : Type 0 where
    bind : ℕ → Id → RawExpr U → RawStmt U
    local : ℕ → Id → RawType U → RawStmt U
    set : ℕ → RawPlace U → RawExpr U → RawStmt U
    copy : ℕ → RawPlace U → RawPlace U → RawStmt U
    branch : ℕ → RawExpr U → ℕ → RawStmts U → ℕ → RawStmts U → RawStmt U
    loop : ℕ → Id → ℕ → RawStmts U → RawStmt U
    emit : ℕ → U → RawExpr U → RawStmt U

  pub data RawStmts (U : Type 0) : Type 0 where
    no_stmts : RawStmts U
    stmt : RawStmt U → RawStmts U → RawStmts U

pub record RawField (U : Type 0) : Type 0 where
  pub at : ℕ
  pub name : Id
  pub ty : RawType U

pub data RawHpart (U : Type 0) : Type 0 where
  emitter : ℕ → Id → U → ℕ → RawHpart U
  callback : ℕ → Id → RawStmts U → RawHpart U

pub data RawPart (U : Type 0) : Type 0 where
  state : ℕ → Id → RawType U → RawPart U
  handler : ℕ → Id → U → List (RawHpart U) → RawPart U

-- the last number of a period, and the last argument of a signal, is its depth
pub data RawItem (U : Type 0) : Type 0 where
  fields : ℕ → Id → List (RawField U) → RawItem U
  init : ℕ → Id → ℕ → RawItem U
  period : ℕ → Id → ℕ → ℕ → Option ℕ → RawItem U
  signal : ℕ → Id → RawType U → ℕ → Option ℕ → RawItem U
  channel : ℕ → Id → RawType U → RawItem U
  output : ℕ → Id → U → RawItem U
  monitor : ℕ → Id → List (RawPart U) → RawItem U

pub record Raw (U : Type 0) : Type 0 where
  pub at : ℕ
  pub version : ℕ
  pub name : Id
  pub items : List (RawItem U)
