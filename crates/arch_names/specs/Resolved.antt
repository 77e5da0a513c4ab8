-- What the names of a file come to: the numbered tree, or the first fault.
use Rattle.std.specs.Prelude.{◌≡◌, ◌⊎◌, ℕ, ◌<◌, Contains}
use Rattle.tower_syntax.specs.declared.named.Target.{Target}
use Rattle.tower_syntax.specs.RawTree.{Id, Link, Raw}
use Rattle.arch_names.specs.declared.fault.NameFault.{NameFault}
use Rattle.arch_names.specs.declared.fault.NameFault.TheVariants as fault
use Rattle.arch_names.specs.Site.{Site, Means, Offends, IsUse}
use Rattle.arch_names.specs.Sites.{sites}
use Rattle.arch_names.specs.Linked.{linked}

-- an offence somewhere in the file
abbrev pub Offences : Raw Id → NameFault → Type 0
Offences raw f = (s : Site) × Contains (sites raw) s × Offends s f

-- the file with each use linked to what it refers to
abbrev pub IsLinked : Raw Id → Raw Link → Type 0
IsLinked raw t = (m : Site → Target) × ((s : Site) → Contains (sites raw) s → IsUse s → Means s (m s)) × (t ≡ linked m raw)

abbrev pub offset : NameFault → ℕ
offset (fault.Twice at first) = at
offset (fault.Unknown at) = at
offset (fault.Kind at want found) = at
offset fault.NoMemory = 0

abbrev pub IsClean : (NameFault → Type 0) → Type 0
IsClean P = (f : NameFault) → P f → ⊥

-- the one with the least offset
pub record IsFirst (P : NameFault → Type 0) (f : NameFault) : Type 0 where
  pub is_one : P f
  pub least : (g : NameFault) → P g → (g ≡ f) ⊎ (offset f < offset g)

-- a file has at most one linked tree
abbrev pub LinksAreDetermined : Type 0
LinksAreDetermined = (raw : Raw Id) (t u : Raw Link) → IsLinked raw t → IsLinked raw u → t ≡ u
