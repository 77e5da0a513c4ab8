-- Which views are those of systems: names are valid and distinct, numbers in range, types known and not too deep.
use Rattle.std.specs.Prelude.{◌≡◌, ◌⊎◌, ℕ, suc, ◌+◌, ◌<◌, ◌≤◌, List, [], ◌∷◌, ◌++◌, All, map, length, Contains, Bool, true, false, ◌==◌, Option, Some, None}
use Rattle.tower_types.specs.declared.scalar.Scalar.{Scalar}
use Rattle.tower_types.specs.declared.scalar.Scalar.TheVariants as scalars
use Rattle.tower_types.specs.Ty.{Ty, scalar, array, rec, Name, Fields, NamesBelow, nesting}
use Rattle.tower_syntax.specs.declared.arch.SourceKind.{SourceKind}
use Rattle.tower_syntax.specs.declared.arch.SourceKind.TheVariants as kind
use Rattle.tower_syntax.specs.declared.arch.On.{On}
use Rattle.tower_syntax.specs.declared.arch.On.TheVariants as on
use Rattle.tower_syntax.specs.Arch.{Channel, Emitter}
use Rattle.tower_syntax.specs.Words.{IsName, IsPriority, IsPeriod, IsCount, IsLength, IsBound, IsDepth}
use Rattle.aadl_view.specs.View.{SourceView, HandlerView, ListenerView, hears, handles, ArchView}

abbrev pub AreDistinct : List Name → Type 0
AreDistinct [] = Unit {0}
AreDistinct (n ∷ ns) = (Contains ns n → ⊥) × AreDistinct ns

pub record AreNames (ns : List Name) : Type 0 where
  pub each : All IsName ns
  pub distinct : AreDistinct ns

-- ---- types

abbrev pub HasLengths : Ty → Type 0
HasLengths (scalar (scalars.Ix n)) = IsCount n
HasLengths (scalar s) = Unit {0}
HasLengths (array n t) = IsLength n × HasLengths t
HasLengths (rec r) = Unit {0}

-- names one of the first n records, and is written at most 32 deep
pub record IsType (n : ℕ) (t : Ty) : Type 0 where
  pub known : NamesBelow n t
  pub lengths : HasLengths t
  pub depth : nesting t + 1 ≤ 32

-- a record has a field, and names records before it
pub record IsRecord (n : ℕ) (fs : Fields) : Type 0 where
  pub some_field : 0 < length fs
  pub names : AreNames (map (λ f. f.0) fs)
  pub types : All (λ f. IsType n f.1) fs

abbrev pub AreRecords : ℕ → List Fields → Type 0
AreRecords n [] = Unit {0}
AreRecords n (fs ∷ rs) = IsRecord n fs × AreRecords (suc n) rs

-- ---- sources

abbrev pub IsKind : SourceKind → Type 0
IsKind (kind.Period ms) = IsPeriod ms
IsKind k = Unit {0}

-- a signal carries any type, and the others the number of a message
abbrev pub IsMessage : ℕ → SourceKind → Ty → Type 0
IsMessage n kind.Signal t = IsType n t
IsMessage n k t = t ≡ scalar scalars.I64

-- ascending, from `low` on and below n
abbrev pub AreAscending : ℕ → ℕ → List ℕ → Type 0
AreAscending n low [] = Unit {0}
AreAscending n low (m ∷ ms) = (low ≤ m) × ((m < n) × AreAscending n (suc m) ms)

abbrev pub has_depth : ℕ → SourceKind → Bool
has_depth version kind.Init = false
has_depth version k = version == 2

abbrev pub IsDeep : Bool → Option ℕ → Type 0
IsDeep true (Some d) = IsDepth d
IsDeep true None = ⊥
IsDeep false (Some d) = ⊥
IsDeep false None = Unit {0}

pub record IsSource (v : ArchView) (s : SourceView) : Type 0 where
  pub started : IsKind s.kind
  pub urgent : IsPriority s.priority
  pub carries : IsMessage (length v.records) s.kind s.message
  pub keeps : IsDeep (has_depth v.version s.kind) s.depth
  pub touches : AreAscending (length v.monitors) 0 s.touches

-- ---- listeners

pub record IsEmitter (v : ArchView) (e : Emitter) : Type 0 where
  pub channel : e.channel < length v.channels
  pub bound : IsBound e.bound

abbrev pub IsOn : ArchView → On → Type 0
IsOn v (on.Source x) = x < length v.sources
IsOn v (on.Channel c) = c < length v.channels

pub record IsHandler (v : ArchView) (h : HandlerView) : Type 0 where
  pub monitor : h.monitor < length v.monitors
  pub on : IsOn v h.on
  pub names : AreNames (map (λ e. e.name) h.emitters)
  pub emitters : All (IsEmitter v) h.emitters

abbrev pub IsListener : ArchView → ListenerView → Type 0
IsListener v (hears name c) = c < length v.channels
IsListener v (handles h) = IsHandler v h

abbrev pub listener_name : ListenerView → Name
listener_name (hears name c) = name
listener_name (handles h) = h.name

-- ---- the whole

-- all names that share one set
abbrev pub declared_names : ArchView → List Name
declared_names v =
    v.record_names ++ map (λ c. c.name) v.channels ++ map listener_name v.listeners ++ v.monitors ++ map (λ s. s.name) v.sources

pub record IsView (v : ArchView) : Type 0 where
  pub version : (v.version ≡ 1) ⊎ (v.version ≡ 2)
  pub name : IsName v.name
  pub names : AreNames (declared_names v)
  pub one_each : length v.record_names ≡ length v.records
  pub records : AreRecords 0 v.records
  pub sources : All (IsSource v) v.sources
  pub channels : All (λ c. IsType (length v.records) c.message) v.channels
  pub listeners : All (IsListener v) v.listeners
