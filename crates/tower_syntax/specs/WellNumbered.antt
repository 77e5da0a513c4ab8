-- What a system keeps: each number in it names something that exists, and nothing in it is nested more than 256 deep.
use Rattle.std.specs.Prelude.{◌≡◌, ◌<◌, ◌≤◌, ◌^◌, ◌+◌, ◌==◌, ℕ, max, List, [], ◌∷◌, length, All, Bool, false, is_some}
use Rattle.tower_types.specs.Ty.{Ty, scalar, array, rec, Fields, NamesBelow}
use Rattle.tower_types.specs.Records.{AreOrdered}
use Rattle.tower_syntax.specs.declared.body.Root.{Root}
use Rattle.tower_syntax.specs.declared.body.Root.TheVariants as root
use Rattle.tower_syntax.specs.declared.arch.SourceKind.{SourceKind}
use Rattle.tower_syntax.specs.declared.arch.SourceKind.TheVariants as kind
use Rattle.tower_syntax.specs.declared.arch.On.{On}
use Rattle.tower_syntax.specs.declared.arch.On.TheVariants as on
use Rattle.tower_syntax.specs.declared.arch.Listener.{Listener}
use Rattle.tower_syntax.specs.declared.arch.Listener.TheVariants as to
use Rattle.tower_syntax.specs.Tree.{Expr, lit, read, un, bin, choose, cast, Place, place, Steps, no_steps, field, at, Stmt, bind, local, set, copy, branch, loop, emit, Stmts, no_stmts, stmt}
use Rattle.tower_syntax.specs.Arch.{Arch, Source, Body, Handler}
use Rattle.tower_syntax.specs.Graph.{numbers_before, handler_numbers}
use Rattle.tower_syntax.specs.Weights.{states_of}

-- how deep a type is nested; a record's name counts 1
abbrev pub type_height : Ty → ℕ
type_height (scalar s) = 1
type_height (array n t) = type_height t + 1
type_height (rec r) = 1

-- how deep an expression is nested: 1 for a name or a literal, and otherwise 1 more than the deepest expression or place in it
abbrev mutual
  pub height : Expr → ℕ
  height (lit t n) = 1
  height (read p) = place_height p
  height (un op t a) = height a + 1
  height (bin op t a b) = max (height a) (height b) + 1
  height (choose c a b) = max (height c) (max (height a) (height b)) + 1
  height (cast t a) = height a + 1

  pub place_height : Place → ℕ
  place_height (place r steps) = steps_height 1 steps

  -- that of a place of height n with these steps after it
  pub steps_height : ℕ → Steps → ℕ
  steps_height n no_steps = n
  steps_height n (field k rest) = steps_height (n + 1) rest
  steps_height n (at e rest) = steps_height (max n (height e) + 1) rest

-- how deep a statement is nested: 1 more than the deepest part of it
abbrev mutual
  pub stmt_height : Stmt → ℕ
  stmt_height (bind b e) = height e + 1
  stmt_height (local b) = 1
  stmt_height (set p e) = max (place_height p) (height e) + 1
  stmt_height (copy p q) = max (place_height p) (place_height q) + 1
  stmt_height (branch e a b) = max (height e) (max (stmts_height a) (stmts_height b)) + 1
  stmt_height (loop b n body) = stmts_height body + 1
  stmt_height (emit k e) = height e + 1

  pub stmts_height : Stmts → ℕ
  stmts_height no_stmts = 0
  stmts_height (stmt s ss) = max (stmt_height s) (stmts_height ss)

-- how many binders, states and emitters a callback may name
pub record Counts : Type 0 where
  pub binders : ℕ
  pub states : ℕ
  pub emitters : ℕ

abbrev pub NamesRoot : Counts → Root → Type 0
NamesRoot c root.Param = Unit {0}
NamesRoot c (root.Binder b) = b < c.binders
NamesRoot c (root.State k) = k < c.states

-- an expression names only binders and states that exist
abbrev mutual
  pub IsNumberedExpr : Counts → Expr → Type 0
  IsNumberedExpr c (lit t n) = Unit {0}
  IsNumberedExpr c (read p) = IsNumberedPlace c p
  IsNumberedExpr c (un op t a) = IsNumberedExpr c a
  IsNumberedExpr c (bin op t a b) = IsNumberedExpr c a × IsNumberedExpr c b
  IsNumberedExpr c (choose e a b) = IsNumberedExpr c e × IsNumberedExpr c a × IsNumberedExpr c b
  IsNumberedExpr c (cast t a) = IsNumberedExpr c a

  pub IsNumberedPlace : Counts → Place → Type 0
  IsNumberedPlace c (place r steps) = NamesRoot c r × AreNumberedSteps c steps

  pub AreNumberedSteps : Counts → Steps → Type 0
  AreNumberedSteps c no_steps = Unit {0}
  AreNumberedSteps c (field k rest) = AreNumberedSteps c rest
  AreNumberedSteps c (at e rest) = IsNumberedExpr c e × AreNumberedSteps c rest

-- a statement names only binders, states and emitters that exist
abbrev mutual
  pub IsNumberedStmt : Counts → Stmt → Type 0
  IsNumberedStmt c (bind b e) = (b < c.binders) × IsNumberedExpr c e
  IsNumberedStmt c (local b) = b < c.binders
  IsNumberedStmt c (set p e) = IsNumberedPlace c p × IsNumberedExpr c e
  IsNumberedStmt c (copy p q) = IsNumberedPlace c p × IsNumberedPlace c q
  IsNumberedStmt c (branch e a b) = IsNumberedExpr c e × AreNumberedStmts c a × AreNumberedStmts c b
  IsNumberedStmt c (loop b n body) = (b < c.binders) × AreNumberedStmts c body
  IsNumberedStmt c (emit k e) = (k < c.emitters) × IsNumberedExpr c e

  pub AreNumberedStmts : Counts → Stmts → Type 0
  AreNumberedStmts c no_stmts = Unit {0}
  AreNumberedStmts c (stmt s ss) = IsNumberedStmt c s × AreNumberedStmts c ss

-- each of so many things has a 32-bit number
abbrev pub IsCounted : ℕ → Type 0
IsCounted n = n ≤ 2 ^ 32

-- a type where there are n records: each that it names exists
abbrev pub IsNumberedType : ℕ → Ty → Type 0
IsNumberedType n t = NamesBelow n t × (type_height t ≤ 256)

abbrev pub AreNumberedFields : ℕ → Fields → Type 0
AreNumberedFields n fields = IsCounted (length fields) × All (λ f. IsNumberedType n f.1) fields

-- the source or channel that a handler is attached to exists
abbrev pub IsNumberedOn : Arch → On → Type 0
IsNumberedOn arch (on.Source s) = s < length arch.sources
IsNumberedOn arch (on.Channel c) = c < length arch.channels

-- a queue has a depth exactly at the periods and signals of version 2
abbrev pub has_depth : ℕ → SourceKind → Bool
has_depth version kind.Init = false
has_depth version (kind.Period ms) = version == 2
has_depth version kind.Signal = version == 2

pub record IsNumberedSource (arch : Arch) (s : Source) : Type 0 where
  pub message : IsNumberedType (length arch.records) s.message
  pub depth : is_some s.depth ≡ has_depth arch.version s.kind

abbrev pub counts_of : Arch → Handler → Body → Counts
counts_of arch h b = record { binders = length b.binders; states = length (states_of arch h.monitor); emitters = length h.emitters }

pub record IsNumberedBody (arch : Arch) (h : Handler) (b : Body) : Type 0 where
  pub binders : AreNumberedFields (length arch.records) b.binders
  pub stmts : AreNumberedStmts (counts_of arch h b) b.stmts
  pub shallow : stmts_height b.stmts ≤ 256

pub record IsNumberedHandler (arch : Arch) (h : Handler) : Type 0 where
  pub monitor : h.monitor < length arch.monitors
  pub on : IsNumberedOn arch h.on
  pub few : IsCounted (length h.emitters)
  pub emitters : All (λ e. e.channel < length arch.channels) h.emitters
  pub callbacks : All (IsNumberedBody arch h) h.callbacks

-- the numbers of the outputs, and of the handlers, in a list of both
abbrev pub outputs_among : List Listener → List ℕ
outputs_among [] = []
outputs_among (to.Output o ∷ ls) = o ∷ outputs_among ls
outputs_among (to.Handler h ∷ ls) = outputs_among ls

abbrev pub handlers_among : List Listener → List ℕ
handlers_among [] = []
handlers_among (to.Output o ∷ ls) = handlers_among ls
handlers_among (to.Handler h ∷ ls) = h ∷ handlers_among ls

-- each output and each handler is listed once, and each kind ascends
pub record AreListeners (arch : Arch) : Type 0 where
  pub outputs : outputs_among arch.listeners ≡ numbers_before (length arch.outputs) []
  pub handlers : handlers_among arch.listeners ≡ handler_numbers arch

-- each list is short enough for its numbers
pub record IsCountable (arch : Arch) : Type 0 where
  pub records : IsCounted (length arch.records)
  pub sources : IsCounted (length arch.sources)
  pub channels : IsCounted (length arch.channels)
  pub outputs : IsCounted (length arch.outputs)
  pub monitors : IsCounted (length arch.monitors)
  pub handlers : IsCounted (length arch.handlers)

abbrev pub AreNumberedRecords : Arch → Type 0
AreNumberedRecords arch = AreOrdered arch.records × All (AreNumberedFields (length arch.records)) arch.records

pub record IsWellNumbered (arch : Arch) : Type 0 where
  pub version : (1 ≤ arch.version) × (arch.version ≤ 2)
  pub countable : IsCountable arch
  pub records : AreNumberedRecords arch
  pub record_names : length arch.record_names ≡ length arch.records
  pub sources : All (IsNumberedSource arch) arch.sources
  pub channels : All (λ c. IsNumberedType (length arch.records) c.message) arch.channels
  pub outputs : All (λ o. o.channel < length arch.channels) arch.outputs
  pub monitors : All (λ m. AreNumberedFields (length arch.records) m.states) arch.monitors
  pub handlers : All (IsNumberedHandler arch) arch.handlers
  pub listeners : AreListeners arch
