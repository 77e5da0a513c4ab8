-- What the checks of a file give each node of a body: its type, as a shape, and which names it may use.
use Rattle.std.specs.Prelude.{◌≡◌, ℕ, zero, suc, ◌<◌, ◌≤◌, ◌==◌, List, [], ◌∷◌, length, map, All, cond, IsTrue}
use Rattle.tower_types.specs.declared.scalar.Scalar.{Scalar}
use Rattle.tower_types.specs.declared.scalar.Scalar.TheVariants as scalar
use Rattle.tower_types.specs.Ty.{Ty, scalar as scalar_type, Fields, Shape, one, many, all, Shapes, no_shapes, shape, shape_in, table_of}
use Rattle.tower_types.specs.Value.{fits_scalar}
use Rattle.tower_types.specs.Arithmetic.{applies, applies_one, binary_scalar, is_number}
use Rattle.tower_syntax.specs.declared.body.Root.{Root}
use Rattle.tower_syntax.specs.declared.body.Root.TheVariants as root
use Rattle.tower_syntax.specs.declared.arch.SourceKind.{SourceKind}
use Rattle.tower_syntax.specs.declared.arch.SourceKind.TheVariants as kind
use Rattle.tower_syntax.specs.Tree.{Expr, lit, read, un, bin, choose, cast, Place, place, Steps, no_steps, field, at, Stmt, bind, local, set, copy, branch, loop, emit, Stmts, no_stmts, stmt}
use Rattle.tower_syntax.specs.Arch.{Arch, Source, Handler}
use Rattle.tower_syntax.specs.Weights.{Scope, shape_at, root_shape, nth_shape, scope_of}

-- ---- shapes

-- each array has elements, and each index type has values
abbrev pub IsProperScalar : Scalar → Type 0
IsProperScalar (scalar.Ix n) = (0 < n) × (n ≤ 65536)
IsProperScalar _ = Unit {0}

abbrev mutual
  pub IsProper : Shape → Type 0
  IsProper (one s) = IsProperScalar s
  IsProper (many n s) = (0 < n) × (n ≤ 4096) × IsProper s
  IsProper (all ss) = AreProper ss

  pub AreProper : Shapes → Type 0
  AreProper no_shapes = Unit {0}
  AreProper (shape s ss) = IsProper s × AreProper ss

abbrev pub count : Shapes → ℕ
count no_shapes = 0
count (shape s ss) = suc (count ss)

-- ---- names

-- what a callback may do with a name that it binds
pub data Use : Type 0 where
  out_of_scope : Use
  read_only : Use
  writable : Use

abbrev pub Names : Type 0
Names = ℕ → Use

abbrev pub no_names : Names
no_names b = out_of_scope

abbrev pub with_name : ℕ → Use → Names → Names
with_name b u names c = cond (c == b) u (names c)

abbrev pub IsInScope : Use → Type 0
IsInScope out_of_scope = ⊥
IsInScope read_only = Unit {0}
IsInScope writable = Unit {0}

abbrev pub HasRoot : Scope → Names → Root → Type 0
HasRoot scope names root.Param = Unit {0}
HasRoot scope names (root.Binder b) = (b < length scope.binders) × IsInScope (names b)
HasRoot scope names (root.State k) = k < length scope.states

-- a state, or a name that a `local` binds
abbrev pub IsWritable : Names → Place → Type 0
IsWritable names (place root.Param steps) = ⊥
IsWritable names (place (root.Binder b) steps) = names b ≡ writable
IsWritable names (place (root.State k) steps) = Unit {0}

-- ---- expressions and places

abbrev pub AtField : Shape → ℕ → (Shape → Type 0) → Type 0
AtField (one s) k f = ⊥
AtField (many n s) k f = ⊥
AtField (all ss) k f = (k < count ss) × f (nth_shape ss k)

abbrev pub AtElement : Shape → (ℕ → Shape → Type 0) → Type 0
AtElement (one s) f = ⊥
AtElement (many n s) f = f n s
AtElement (all ss) f = ⊥

abbrev mutual
  -- the expression is a number of this scalar
  pub HasScalar : Scope → Names → Expr → Scalar → Type 0
  HasScalar scope names (lit s n) t = (s ≡ t) × IsTrue (fits_scalar s n)
  HasScalar scope names (read p) t = HasShape scope names p (one t)
  HasScalar scope names (un op s a) t = IsTrue (applies_one op s) × (s ≡ t) × HasScalar scope names a s
  HasScalar scope names (bin op s a b) t = IsTrue (applies op s) × (binary_scalar op s ≡ t) × HasScalar scope names a s × HasScalar scope names b s
  HasScalar scope names (choose c a b) t = HasScalar scope names c scalar.Bool × HasScalar scope names a t × HasScalar scope names b t
  HasScalar scope names (cast s a) t =
      IsTrue (is_number s) × IsProperScalar s × (s ≡ t) × ((u : Scalar) × IsTrue (is_number u) × HasScalar scope names a u)

  -- the place is a value of this shape
  pub HasShape : Scope → Names → Place → Shape → Type 0
  HasShape scope names (place r steps) s = HasRoot scope names r × Leads scope names (root_shape scope r) steps s

  -- the steps lead from a value of the first shape to one of the second
  pub Leads : Scope → Names → Shape → Steps → Shape → Type 0
  Leads scope names s no_steps t = s ≡ t
  Leads scope names s (field k steps) t = AtField s k (λ u. Leads scope names u steps t)
  Leads scope names s (at e steps) t = AtElement s (λ n u. HasScalar scope names e (scalar.Ix n) × Leads scope names u steps t)

-- ---- statements

-- a name that is not in scope yet
abbrev pub IsFresh : Scope → Names → ℕ → Type 0
IsFresh scope names b = (b < length scope.binders) × (names b ≡ out_of_scope)

-- what is emitted is a number or, where it is no scalar, a place
abbrev pub Sends : Scope → Names → Expr → Shape → Type 0
Sends scope names (read p) s = HasShape scope names p s
Sends scope names e s = (t : Scalar) × (s ≡ one t) × HasScalar scope names e t

-- the names after a statement
abbrev pub names_after : Stmt → Names → Names
names_after (bind b e) names = with_name b read_only names
names_after (local b) names = with_name b writable names
names_after _ names = names

abbrev mutual
  pub IsTypedStmt : Scope → Names → Stmt → Type 0
  IsTypedStmt scope names (bind b e) = IsFresh scope names b × ((t : Scalar) × (shape_at scope.binders b ≡ one t) × HasScalar scope names e t)
  IsTypedStmt scope names (local b) = IsFresh scope names b
  IsTypedStmt scope names (set p e) = IsWritable names p × ((t : Scalar) × HasShape scope names p (one t) × HasScalar scope names e t)
  IsTypedStmt scope names (copy p q) = IsWritable names p × ((s : Shape) × HasShape scope names p s × HasShape scope names q s)
  IsTypedStmt scope names (branch e a b) = HasScalar scope names e scalar.Bool × AreTypedStmts scope names a × AreTypedStmts scope names b
  IsTypedStmt scope names (loop b n body) =
      IsFresh scope names b × (shape_at scope.binders b ≡ one (scalar.Ix n)) × (0 < n) × (n ≤ 65536) × AreTypedStmts scope (with_name b read_only names) body
  IsTypedStmt scope names (emit k e) = (k < length scope.emitters) × Sends scope names e (shape_at scope.emitters k)

  pub AreTypedStmts : Scope → Names → Stmts → Type 0
  AreTypedStmts scope names no_stmts = Unit {0}
  AreTypedStmts scope names (stmt s ss) = IsTypedStmt scope names s × AreTypedStmts scope (names_after s names) ss

-- ---- a system

abbrev pub IsProperType : Arch → Ty → Type 0
IsProperType arch t = IsProper (shape_in (table_of arch.records) t)

abbrev pub AreProperFields : Arch → Fields → Type 0
AreProperFields arch fields = All (λ f. IsProperType arch f.1) fields

-- the message of an initialisation or a period is an i64
abbrev pub HasItsMessage : Arch → Source → SourceKind → Type 0
HasItsMessage arch s kind.Init = s.message ≡ scalar_type scalar.I64
HasItsMessage arch s (kind.Period ms) = (s.message ≡ scalar_type scalar.I64) × (0 < ms)
HasItsMessage arch s kind.Signal = IsProperType arch s.message

pub record IsTypedHandler (arch : Arch) (h : Handler) : Type 0 where
  pub names : All (λ b. AreProperFields arch b.binders) h.callbacks
  pub callbacks : All (λ b. AreTypedStmts (scope_of arch h b) no_names b.stmts) h.callbacks

pub record IsTyped (arch : Arch) : Type 0 where
  pub sources : All (λ s. HasItsMessage arch s s.kind) arch.sources
  pub channels : All (λ c. IsProperType arch c.message) arch.channels
  pub monitors : All (λ m. AreProperFields arch m.states) arch.monitors
  pub handlers : All (IsTypedHandler arch) arch.handlers
