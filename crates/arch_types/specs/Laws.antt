-- What the checks give the meaning and the code.
use Rattle.std.specs.Prelude.{◌≡◌, ◌⊎◌, ℕ}
use Rattle.tower_syntax.specs.RawTree.{Link, Raw}
use Rattle.tower_syntax.specs.Arch.{Arch}
use Rattle.tower_syntax.specs.WellNumbered.{IsWellNumbered}
use Rattle.tower_syntax.specs.Typed.{IsTyped}
use Rattle.arch_types.specs.declared.fault.TypeFault.{TypeFault}
use Rattle.arch_types.specs.declared.fault.TypeFault.TheVariants as fault
use Rattle.arch_types.specs.Offence.{IsClean, IsFirst}
use Rattle.arch_types.specs.File.{IsChecked, Offence, AscendsFile}
use Rattle.arch_types.specs.Listed.{IsInFileOrder}
use Rattle.arch_types.specs.Numbered.{IsNumbered}
use Rattle.arch_types.specs.Shallow.{IsShallow}
use Rattle.arch_types.specs.Scalars.{HasProperScalars}

-- the checked tree of a file: its numbers are those of things that exist, and each node has its type
abbrev pub CheckedLaw : Type 0
CheckedLaw = (raw : Raw Link) (arch : Arch) → IsNumbered raw → IsChecked raw arch → IsWellNumbered arch × IsTyped arch

-- each number in it is of a scalar that has values
abbrev pub ScalarsLaw : Type 0
ScalarsLaw = (raw : Raw Link) (arch : Arch) → IsNumbered raw → IsChecked raw arch → HasProperScalars arch

-- a file has at most one checked tree
abbrev pub TreesAreDetermined : Type 0
TreesAreDetermined = (raw : Raw Link) (a b : Arch) → IsNumbered raw → IsChecked raw a → IsChecked raw b → a ≡ b

-- where nothing offends, none of its expressions and places is high
abbrev pub ShallowLaw : Type 0
ShallowLaw = (raw : Raw Link) (arch : Arch) → IsChecked raw arch → IsClean (Offence raw) → IsShallow arch

-- nothing in the file offends, and it has a checked tree
pub record IsWellTyped (raw : Raw Link) : Type 0 where
  pub arch : Arch
  pub checked : IsChecked raw arch
  pub clean : IsClean (Offence raw)

-- something in the file offends, and this before all else that does
pub record HasFirst (raw : Raw Link) : Type 0 where
  pub fault : TypeFault
  pub first : IsFirst (Offence raw) fault

-- a file whose names are numbered, and which stands in order, is well typed or has a first offence
abbrev pub TypesAreDecided : Type 0
TypesAreDecided = (raw : Raw Link) (end : ℕ) → IsNumbered raw → AscendsFile raw end → IsWellTyped raw ⊎ HasFirst raw

-- what offends is never want of memory
abbrev pub NoMemoryIsNoOffence : Type 0
NoMemoryIsNoOffence = (raw : Raw Link) (end : ℕ) → AscendsFile raw end → Offence raw fault.NoMemory → ⊥

-- the checked tree has its handlers by monitor, and its listeners in the order of the text
abbrev pub TreesAreInOrder : Type 0
TreesAreInOrder = (raw : Raw Link) (arch : Arch) → IsChecked raw arch → IsInFileOrder raw arch
