-- The raw trees that a file can spell, offsets apart.
use Rattle.std.specs.Prelude.{◌≡◌, ◌<◌, ◌≤◌, ℕ, ℤ, length, All, Option, Some, None}
use Rattle.tower_types.specs.declared.scalar.Scalar.{Scalar}
use Rattle.tower_types.specs.declared.scalar.Scalar.TheVariants as scalar
use Rattle.tower_syntax.specs.RawTree.{Id, RawType, word, rec, array, RawPlace, root, get, index, RawExpr, truth, read, lit, un, bin, choose, cast, RawStmt, bind, local, set, copy, branch, loop, emit, RawStmts, no_stmts, stmt, RawField, RawHpart, emitter, callback, RawPart, state, handler, RawItem, fields, init, period, signal, channel, output, monitor, Raw}
use Rattle.tower_syntax.specs.Words.{IsName, IsPriority, IsPeriod, IsCount, IsLength, IsBound, IsDepth, IsLiteral, IsWithin}
use Rattle.tower_syntax.specs.Form.{nesting}
use Rattle.tower_syntax.specs.Printed.{raw_form}

abbrev pub IsPrintableScalar : Scalar → Type 0
IsPrintableScalar (scalar.Ix n) = IsCount n
IsPrintableScalar _ = Unit {0}

abbrev pub IsPrintableType : RawType Id → Type 0
IsPrintableType (word at s) = IsPrintableScalar s
IsPrintableType (rec i) = IsName i.name
IsPrintableType (array at n t) = IsLength n × IsPrintableType t

-- a truth is no literal: it is written as a word
abbrev pub IsPrintableLiteral : Scalar → ℤ → Type 0
IsPrintableLiteral scalar.Bool n = ⊥
IsPrintableLiteral s n = IsPrintableScalar s × IsLiteral n

abbrev mutual
  pub IsPrintablePlace : RawPlace Id → Type 0
  IsPrintablePlace (root i) = IsName i.name
  IsPrintablePlace (get at p f) = IsPrintablePlace p × IsName f.name
  IsPrintablePlace (index at p e) = IsPrintablePlace p × IsPrintableExpr e

  pub IsPrintableExpr : RawExpr Id → Type 0
  IsPrintableExpr (truth at b) = Unit {0}
  IsPrintableExpr (read p) = IsPrintablePlace p
  IsPrintableExpr (lit at s n) = IsPrintableLiteral s n
  IsPrintableExpr (un at op a) = IsPrintableExpr a
  IsPrintableExpr (bin at op a b) = IsPrintableExpr a × IsPrintableExpr b
  IsPrintableExpr (choose at c a b) = IsPrintableExpr c × IsPrintableExpr a × IsPrintableExpr b
  IsPrintableExpr (cast at t a) = IsPrintableType t × IsPrintableExpr a

abbrev mutual
  pub IsPrintableStmt : RawStmt Id → Type 0
  IsPrintableStmt (bind at i e) = IsName i.name × IsPrintableExpr e
  IsPrintableStmt (local at i t) = IsName i.name × IsPrintableType t
  IsPrintableStmt (set at p e) = IsPrintablePlace p × IsPrintableExpr e
  IsPrintableStmt (copy at p q) = IsPrintablePlace p × IsPrintablePlace q
  IsPrintableStmt (branch at e then_at ss else_at ts) = IsPrintableExpr e × ArePrintableStmts ss × ArePrintableStmts ts
  IsPrintableStmt (loop at i n body) = IsName i.name × IsCount n × ArePrintableStmts body
  IsPrintableStmt (emit at i e) = IsName i.name × IsPrintableExpr e

  pub ArePrintableStmts : RawStmts Id → Type 0
  ArePrintableStmts no_stmts = Unit {0}
  ArePrintableStmts (stmt s ss) = IsPrintableStmt s × ArePrintableStmts ss

abbrev pub IsPrintableField : RawField Id → Type 0
IsPrintableField f = IsName f.name.name × IsPrintableType f.ty

abbrev pub IsPrintableHpart : RawHpart Id → Type 0
IsPrintableHpart (emitter at i c n) = IsName i.name × IsName c.name × IsBound n
IsPrintableHpart (callback at i ss) = IsName i.name × ArePrintableStmts ss

abbrev pub IsPrintablePart : RawPart Id → Type 0
IsPrintablePart (state at i t) = IsName i.name × IsPrintableType t
IsPrintablePart (handler at i on hs) = IsName i.name × IsName on.name × All IsPrintableHpart hs

-- periods and signals of version 2 have a depth, and no others
abbrev pub IsPrintableDepth : ℕ → Option ℕ → Type 0
IsPrintableDepth version None = version ≡ 1
IsPrintableDepth version (Some n) = (version ≡ 2) × IsDepth n

abbrev pub IsPrintableItem : ℕ → RawItem Id → Type 0
IsPrintableItem version (fields at i fs) = IsName i.name × (0 < length fs) × All IsPrintableField fs
IsPrintableItem version (init at i p) = IsName i.name × IsPriority p
IsPrintableItem version (period at i ms p d) = IsName i.name × IsPeriod ms × IsPriority p × IsPrintableDepth version d
IsPrintableItem version (signal at i t p d) = IsName i.name × IsPrintableType t × IsPriority p × IsPrintableDepth version d
IsPrintableItem version (channel at i t) = IsName i.name × IsPrintableType t
IsPrintableItem version (output at i c) = IsName i.name × IsName c.name
IsPrintableItem version (monitor at i ps) = IsName i.name × All IsPrintablePart ps

-- Names, numbers and lengths are valid, each record has a field, no literal is a truth, and the printed lists are nested at most 256 deep.
pub record IsPrintable (r : Raw Id) : Type 0 where
  pub version : IsWithin 1 2 r.version
  pub name : IsName r.name.name
  pub items : All (IsPrintableItem r.version) r.items
  pub nested : nesting (raw_form r) ≤ 256
