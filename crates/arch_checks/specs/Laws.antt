-- What is known of each text, and of each file that is accepted.
use Rattle.std.specs.Prelude.{◌≡◌, ◌<◌, ◌≤◌, ℕ, max, List, length}
use Rattle.tower_syntax.specs.RawTree.{Link, Raw}
use Rattle.tower_syntax.specs.Arch.{Arch}
use Rattle.tower_syntax.specs.WellNumbered.{IsWellNumbered}
use Rattle.tower_syntax.specs.Typed.{IsTyped}
use Rattle.tower_syntax.specs.Weights.{cost}
use Rattle.arch_types.specs.File.{IsChecked}
use Rattle.arch_types.specs.Numbered.{IsNumbered}
use Rattle.arch_types.specs.Shallow.{IsShallow}
use Rattle.arch_types.specs.Scalars.{HasProperScalars}
use Rattle.arch_types.specs.Listed.{IsInFileOrder}
use Rattle.channel_graph.specs.Chain.{IsWalk}
use Rattle.channel_graph.specs.Circuit.{IsAcyclic}
use Rattle.channel_graph.specs.Over.{NoneOver}
use Rattle.arch_checks.specs.declared.fault.What.{What}
use Rattle.arch_checks.specs.declared.fault.Fault.{Fault}
use Rattle.arch_checks.specs.declared.fault.Fault.TheVariants as fault
use Rattle.arch_checks.specs.Limits.{limit, work_limit}
use Rattle.arch_checks.specs.Sizes.{deepest, widest, Counts}
use Rattle.arch_checks.specs.TypeNodes.{deepest_written, widest_written}
use Rattle.arch_checks.specs.Offences.{IsNamed, IsFault, IsAccepted}
use Rattle.arch_checks.specs.Kept.{KeepsNumbers}
use Rattle.arch_checks.specs.Wide.{HasWideTypes, HasShallowTypes}

-- what each accepted system keeps
pub record IsSafe (arch : Arch) : Type 0 where
  pub numbered : IsWellNumbered arch
  pub typed : IsTyped arch
  pub scalars : HasProperScalars arch
  pub shallow : IsShallow arch
  -- its numbers are in their ranges, and its records have fields
  pub numbers : KeepsNumbers arch
  -- no message puts more on an emitter than its bound
  pub bounded : NoneOver arch
  pub acyclic : IsAcyclic arch
  pub within : (what : What) (n : ℕ) → Counts arch what n → n ≤ limit what
  pub cheap : (s : ℕ) → s < length arch.sources → cost arch s ≤ work_limit

abbrev pub AcceptedFilesAreSafe : Type 0
AcceptedFilesAreSafe = (bs : List ℕ) (arch : Arch) → IsAccepted bs arch → IsSafe arch

abbrev pub NumbersAreKept : Type 0
NumbersAreKept = (bs : List ℕ) (arch : Arch) → IsAccepted bs arch → KeepsNumbers arch

abbrev pub TypesAreWide : Type 0
TypesAreWide = (bs : List ℕ) (arch : Arch) → IsAccepted bs arch → HasWideTypes arch

abbrev pub TypesAreShallow : Type 0
TypesAreShallow = (bs : List ℕ) (arch : Arch) → IsAccepted bs arch → HasShallowTypes arch

abbrev pub WalksAreShort : Type 0
WalksAreShort = (bs : List ℕ) (arch : Arch) → IsAccepted bs arch → (walk : List ℕ) → IsWalk arch walk → length walk ≤ 100

abbrev pub SystemsAreInFileOrder : Type 0
SystemsAreInFileOrder = (bs : List ℕ) (named : Raw Link) (arch : Arch) → IsNamed bs named → IsAccepted bs arch → IsInFileOrder named arch

-- what a text comes to: a system, or a fault
pub data Verdict : Type 0 where
  accepted : Arch → Verdict
  refused : Fault → Verdict

abbrev pub ComesTo : List ℕ → Verdict → Type 0
ComesTo bs (accepted arch) = IsAccepted bs arch
ComesTo bs (refused f) = IsFault bs f

-- the text comes to this, and to nothing else
pub record IsOnlyVerdict (bs : List ℕ) (v : Verdict) : Type 0 where
  pub is : ComesTo bs v
  pub only : (w : Verdict) → ComesTo bs w → w ≡ v

abbrev pub OneVerdict : Type 0
OneVerdict = (bs : List ℕ) → (v : Verdict) × IsOnlyVerdict bs v

-- want of memory is no fault of a text
abbrev pub MemoryIsNoFault : Type 0
MemoryIsNoFault = (bs : List ℕ) → IsFault bs fault.NoMemory → ⊥

-- The types that count are the type nodes and records of the text: a scalar more or less counts 1.
pub record TypesAreCounted (raw : Raw Link) (arch : Arch) : Type 0 where
  pub depth : max 1 (deepest arch) ≡ max 1 (deepest_written raw)
  pub words : max 1 (widest arch) ≡ max 1 (widest_written raw)

abbrev pub WrittenTypesCount : Type 0
WrittenTypesCount = (raw : Raw Link) (arch : Arch) → IsNumbered raw → IsChecked raw arch → TypesAreCounted raw arch
