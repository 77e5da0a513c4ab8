-- A file whose names are numbered, as it is after its names were looked up in a text: each number names something
-- that exists, and each number that is written is in its range.
use Rattle.std.specs.Prelude.{◌≡◌, ◌<◌, ◌≤◌, ◌^◌, ◌+◌, ℕ, suc, max, List, [], ◌∷◌, length, All, is_some}
use Rattle.tower_types.specs.declared.scalar.Scalar.{Scalar}
use Rattle.tower_types.specs.declared.scalar.Scalar.TheVariants as is
use Rattle.tower_syntax.specs.declared.named.Target.{Target}
use Rattle.tower_syntax.specs.declared.named.Target.TheVariants as target
use Rattle.tower_syntax.specs.declared.arch.SourceKind.TheVariants as kind
use Rattle.tower_syntax.specs.RawTree.{Link, RawType, word, rec, array, RawPlace, root, get, index, RawExpr, truth, read, lit, un, bin, choose, cast, RawStmt, bind, local, set, copy, branch, loop, emit, RawStmts, no_stmts, stmt, RawHpart, emitter, callback, RawPart, state, handler, RawItem, fields, init, period, signal, channel, output, monitor, Raw}
use Rattle.tower_syntax.specs.Arch.{Arch}
use Rattle.tower_syntax.specs.WellNumbered.{has_depth}
use Rattle.tower_syntax.specs.Typed.{Use, read_only, writable, Names, no_names, with_name, IsInScope}
use Rattle.tower_syntax.specs.Weights.{states_of}
use Rattle.arch_types.specs.Body.{height, place_height}
use Rattle.arch_types.specs.Outline.{each, record_of, outline, Written, handlers_of, emitter_of}

-- ---- types

abbrev pub IsIndexRange : Scalar → Type 0
IsIndexRange (is.Ix n) = (1 ≤ n) × (n ≤ 65536)
IsIndexRange s = Unit {0}

abbrev pub NamesRecord : ℕ → Target → Type 0
NamesRecord n (target.Record r) = r < n
NamesRecord n x = ⊥

-- the type names one of the first n records, and its numbers are in their ranges
abbrev pub IsWrittenType : ℕ → RawType Link → Type 0
IsWrittenType n (word at s) = IsIndexRange s
IsWrittenType n (rec u) = NamesRecord n u.target
IsWrittenType n (array at len t) = (1 ≤ len) × (len ≤ 4096) × IsWrittenType n t

abbrev pub type_nesting : RawType Link → ℕ
type_nesting (word at s) = 1
type_nesting (rec u) = 1
type_nesting (array at n t) = type_nesting t + 1

abbrev pub IsDeclaredType : ℕ → RawType Link → Type 0
IsDeclaredType n t = IsWrittenType n t × (type_nesting t ≤ 256)

-- ---- the names of a callback

-- so many records, states and emitters; which names are in scope; and how many were bound so far
pub record Counts : Type 0 where
  pub records : ℕ
  pub states : ℕ
  pub emitters : ℕ
  pub names : Names
  pub bound : ℕ

-- the same names in scope, where so many more were bound
abbrev pub past : Counts → ℕ → Counts
past c n = record { records = c.records; states = c.states; emitters = c.emitters; names = c.names; bound = c.bound + n }

-- one name more
abbrev pub naming : Counts → Use → Counts
naming c u = record { records = c.records; states = c.states; emitters = c.emitters; names = with_name c.bound u c.names; bound = c.bound + 1 }

abbrev pub IsSeen : Counts → Target → Type 0
IsSeen c target.Param = Unit {0}
IsSeen c (target.Binder b) = IsInScope (c.names b)
IsSeen c (target.State k) = k < c.states
IsSeen c x = ⊥

abbrev pub IsEmitter : Counts → Target → Type 0
IsEmitter c (target.Emitter k) = k < c.emitters
IsEmitter c x = ⊥

abbrev mutual
  pub SeesPlace : Counts → RawPlace Link → Type 0
  SeesPlace c (root u) = IsSeen c u.target
  SeesPlace c (get at p name) = SeesPlace c p
  SeesPlace c (index at p e) = SeesPlace c p × Sees c e

  pub Sees : Counts → RawExpr Link → Type 0
  Sees c (truth at b) = Unit {0}
  Sees c (read p) = SeesPlace c p
  Sees c (lit at s n) = IsIndexRange s
  Sees c (un at op a) = Sees c a
  Sees c (bin at op a b) = Sees c a × Sees c b
  Sees c (choose at t a b) = Sees c t × Sees c a × Sees c b
  Sees c (cast at t a) = IsDeclaredType c.records t × Sees c a

-- how many names a statement binds
abbrev mutual
  pub bound_by : RawStmt Link → ℕ
  bound_by (bind at i e) = 1
  bound_by (local at i u) = 1
  bound_by (set at p e) = 0
  bound_by (copy at p q) = 0
  bound_by (branch at t then_at a else_at b) = bound_by_all a + bound_by_all b
  bound_by (loop at i n body) = suc (bound_by_all body)
  bound_by (emit at u e) = 0

  pub bound_by_all : RawStmts Link → ℕ
  bound_by_all no_stmts = 0
  bound_by_all (stmt s ss) = bound_by s + bound_by_all ss

-- what the next statement sees: the names of a branch or loop end with it
abbrev pub after : Counts → RawStmt Link → Counts
after c (bind at i e) = naming c read_only
after c (local at i u) = naming c writable
after c s = past c (bound_by s)

abbrev mutual
  pub SeesStmt : Counts → RawStmt Link → Type 0
  SeesStmt c (bind at i e) = Sees c e
  SeesStmt c (local at i u) = IsDeclaredType c.records u
  SeesStmt c (set at p e) = SeesPlace c p × Sees c e
  SeesStmt c (copy at p q) = SeesPlace c p × SeesPlace c q
  SeesStmt c (branch at t then_at a else_at b) = Sees c t × SeesAll c a × SeesAll (past c (bound_by_all a)) b
  SeesStmt c (loop at i n body) = (1 ≤ n) × (n ≤ 65536) × SeesAll (naming c read_only) body
  SeesStmt c (emit at u e) = IsEmitter c u.target × Sees c e

  pub SeesAll : Counts → RawStmts Link → Type 0
  SeesAll c no_stmts = Unit {0}
  SeesAll c (stmt s ss) = SeesStmt c s × SeesAll (after c s) ss

-- how deep statements are nested
abbrev mutual
  pub nested : RawStmt Link → ℕ
  nested (bind at i e) = height e + 1
  nested (local at i u) = 1
  nested (set at p e) = max (place_height p) (height e) + 1
  nested (copy at p q) = max (place_height p) (place_height q) + 1
  nested (branch at t then_at a else_at b) = max (height t) (max (nested_all a) (nested_all b)) + 1
  nested (loop at i n body) = nested_all body + 1
  nested (emit at u e) = height e + 1

  pub nested_all : RawStmts Link → ℕ
  nested_all no_stmts = 0
  nested_all (stmt s ss) = max (nested s) (nested_all ss)

-- ---- a file

abbrev pub IsChannel : Arch → Target → Type 0
IsChannel arch (target.Channel c) = c < length arch.channels
IsChannel arch x = ⊥

abbrev pub IsHeard : Arch → Target → Type 0
IsHeard arch (target.Source s) = s < length arch.sources
IsHeard arch (target.Channel c) = c < length arch.channels
IsHeard arch x = ⊥

abbrev pub IsPartOf : Arch → Counts → RawHpart Link → Type 0
IsPartOf arch c (emitter at i u n) = IsChannel arch u.target
IsPartOf arch c (callback at i ss) = SeesAll c ss × (nested_all ss ≤ 256) × (bound_by_all ss ≤ 2 ^ 32)

pub record IsHandler (arch : Arch) (h : Written) : Type 0 where
  pub on : IsHeard arch h.on.target
  pub few : length (each emitter_of h.parts) ≤ 2 ^ 32
  pub parts : All (IsPartOf arch (record { records = length arch.records; states = length (states_of arch h.monitor); emitters = length (each emitter_of h.parts); names = no_names; bound = 0 })) h.parts

abbrev pub IsState : ℕ → RawPart Link → Type 0
IsState records (state at i t) = IsDeclaredType records t
IsState records (handler at i u hs) = Unit {0}

-- the records before it are those that a record's fields may name
abbrev pub AreItems : Arch → ℕ → ℕ → List (RawItem Link) → Type 0
AreItems arch version before [] = Unit {0}
AreItems arch version before (fields at i fs ∷ items) = All (λ f. IsDeclaredType before f.ty) fs × (length fs ≤ 2 ^ 32) × AreItems arch version (suc before) items
AreItems arch version before (init at i p ∷ items) = AreItems arch version before items
AreItems arch version before (period at i ms p d ∷ items) = (1 ≤ ms) × (is_some d ≡ has_depth version (kind.Period ms)) × AreItems arch version before items
AreItems arch version before (signal at i t p d ∷ items) = IsDeclaredType (length arch.records) t × (is_some d ≡ has_depth version kind.Signal) × AreItems arch version before items
AreItems arch version before (channel at i t ∷ items) = IsDeclaredType (length arch.records) t × AreItems arch version before items
AreItems arch version before (output at i u ∷ items) = IsChannel arch u.target × AreItems arch version before items
AreItems arch version before (monitor at i ps ∷ items) = All (IsState (length arch.records)) ps × (length ps ≤ 2 ^ 32) × AreItems arch version before items

pub record IsNumbered (raw : Raw Link) : Type 0 where
  pub version : (1 ≤ raw.version) × (raw.version ≤ 2)
  pub few : length raw.items ≤ 2 ^ 32
  pub few_handlers : length (handlers_of raw) ≤ 2 ^ 32
  pub items : AreItems (outline raw) raw.version 0 raw.items
  pub handlers : All (IsHandler (outline raw)) (handlers_of raw)

-- the fields of a record, where so many records stand before it
abbrev pub DeclaresFields : ℕ → RawItem Link → Type 0
DeclaresFields n (fields at i fs) = All (λ f. IsDeclaredType n f.ty) fs
DeclaresFields n x = Unit {0}

-- each record's fields may name the records before it
abbrev pub DeclareRecords : ℕ → List (RawItem Link) → Type 0
DeclareRecords n [] = Unit {0}
DeclareRecords n (x ∷ xs) = DeclaresFields n x × DeclareRecords (n + length (record_of x)) xs
