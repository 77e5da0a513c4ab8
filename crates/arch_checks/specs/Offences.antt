-- What offends in a text, in its order; the fault of a text; and what is accepted.
use Rattle.std.specs.Prelude.{◌≡◌, ◌⊎◌, ℕ, ◌<◌, List, [], map, length, slice_index_or, Some}
use Rattle.tower_types.specs.Ty.{Name}
use Rattle.tower_types.specs.Records.{saturated}
use Rattle.tower_syntax.specs.RawTree.{Id, Link, Raw}
use Rattle.tower_syntax.specs.Arch.{Arch}
use Rattle.tower_syntax.specs.Graph.{handler}
use Rattle.tower_syntax.specs.Weights.{most, cost}
use Rattle.tower_reader.specs.declared.fault.ReadFault.{ReadFault}
use Rattle.tower_reader.specs.Spelled.{Spells}
use Rattle.tower_reader.specs.Faults as reading
use Rattle.arch_names.specs.declared.fault.NameFault.{NameFault}
use Rattle.arch_names.specs.Resolved.{IsLinked}
use Rattle.arch_names.specs.Resolved as naming
use Rattle.arch_types.specs.declared.fault.TypeFault.{TypeFault}
use Rattle.arch_types.specs.File.{IsChecked}
use Rattle.arch_types.specs.File as typed
use Rattle.arch_types.specs.Offence as typing
use Rattle.channel_graph.specs.declared.circuit.CycleFound.{CycleFound}
use Rattle.channel_graph.specs.Circuit.{shown}
use Rattle.channel_graph.specs.Over.{no_emitter, bound_of, IsOver}
use Rattle.arch_checks.specs.declared.fault.What.{What}
use Rattle.arch_checks.specs.declared.fault.Fault.{Fault}
use Rattle.arch_checks.specs.declared.fault.Fault.TheVariants as fault
use Rattle.arch_checks.specs.Faults.{of_read, of_name, of_type}
use Rattle.arch_checks.specs.Limits.{limit, work_limit, order}
use Rattle.arch_checks.specs.Sizes.{Counts}

-- ---- the trees of a text

-- the tree of the text with its names numbered
pub record IsNamed (bs : List ℕ) (named : Raw Link) : Type 0 where
  pub raw : Raw Id
  pub spelled : Spells bs raw
  pub linked : IsLinked raw named

-- the numbered tree of the text, with its types
pub record IsSystem (bs : List ℕ) (arch : Arch) : Type 0 where
  pub named : Raw Link
  pub is : IsNamed bs named
  pub checked : IsChecked named arch

-- ---- how a fault is told

abbrev pub handler_name : Arch → ℕ → Name
handler_name arch h = (handler arch h).name

abbrev pub emitter_name : Arch → ℕ → ℕ → Name
emitter_name arch h e = (slice_index_or (handler arch h).emitters e no_emitter).name

abbrev pub source_name : Arch → ℕ → Name
source_name arch s = slice_index_or (map (λ x. x.name) arch.sources) s []

abbrev pub bound_fault : Arch → ℕ → ℕ → Fault
bound_fault arch h e = fault.Bound (handler_name arch h) (emitter_name arch h e) (saturated (most (handler arch h) e)) (bound_of (handler arch h) e)

abbrev pub cycle_fault : Arch → CycleFound → Fault
cycle_fault arch c = fault.Cycle (source_name arch c.source) (map (handler_name arch) c.walk)

abbrev pub size_fault : What → ℕ → Fault
size_fault what n = fault.Size what (saturated n) (limit what)

abbrev pub work_fault : Arch → ℕ → Fault
work_fault arch s = fault.Work (source_name arch s) (saturated (cost arch s))

-- ---- where an offence stands among all: by its kind, then by its place among those of its kind

pub record Standing : Type 0 where
  pub kind : ℕ
  pub at : ℕ
  pub then : ℕ

abbrev pub standing : ℕ → ℕ → ℕ → Standing
standing k m n = record { kind = k; at = m; «then» = n }

abbrev pub Precedes : Standing → Standing → Type 0
Precedes p q = (p.kind < q.kind) ⊎ ((p.kind ≡ q.kind) × ((p.at < q.at) ⊎ ((p.at ≡ q.at) × (p.then < q.then))))

-- The kinds in their order. Those of the reading come first, 0 to 6: the length, the tokens, forms, numbers and lengths of names.
abbrev pub names_kind : ℕ
names_kind = 7

abbrev pub types_kind : ℕ
types_kind = 8

abbrev pub bound_kind : ℕ
bound_kind = 9

abbrev pub cycle_kind : ℕ
cycle_kind = 10

abbrev pub size_kind : ℕ
size_kind = 11

abbrev pub work_kind : ℕ
work_kind = 12

-- ---- what offends

-- something in the text offends, stands there among all that does, and is told so
pub data Offends (bs : List ℕ) : Standing → Fault → Type 0 where
  reads : (f : ReadFault) → reading.TextOffends bs f → Offends bs (standing (reading.rank f) (reading.offset f) 0) (of_read f)
  names : (raw : Raw Id) (f : NameFault) → Spells bs raw → naming.Offences raw f → Offends bs (standing names_kind (naming.offset f) 0) (of_name f)
  types : (named : Raw Link) (f : TypeFault) → IsNamed bs named → typed.Offence named f → Offends bs (standing types_kind (typing.offset f) 0) (of_type f)
  -- emitter e of handler h
  bound : (arch : Arch) (h e : ℕ) → IsSystem bs arch → IsOver arch h e → Offends bs (standing bound_kind h e) (bound_fault arch h e)
  cycle : (arch : Arch) (c : CycleFound) → IsSystem bs arch → shown arch ≡ Some c → Offends bs (standing cycle_kind 0 0) (cycle_fault arch c)
  size : (arch : Arch) (what : What) (n : ℕ) → IsSystem bs arch → Counts arch what n → limit what < n → Offends bs (standing size_kind (order what) 0) (size_fault what n)
  work : (arch : Arch) (s : ℕ) → IsSystem bs arch → s < length arch.sources → work_limit < cost arch s → Offends bs (standing work_kind s 0) (work_fault arch s)

-- the fault of a text: what offends, and before all else that does
pub record IsFault (bs : List ℕ) (f : Fault) : Type 0 where
  pub at : Standing
  pub offends : Offends bs at f
  pub first : (p : Standing) (g : Fault) → Offends bs p g → (g ≡ f) ⊎ Precedes at p

-- nothing in the text offends, and this is its numbered tree
pub record IsAccepted (bs : List ℕ) (arch : Arch) : Type 0 where
  pub system : IsSystem bs arch
  pub clean : (p : Standing) (f : Fault) → Offends bs p f → ⊥
