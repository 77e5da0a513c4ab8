-- The first fault of a list of sites, and what a use refers to, as they are computed. They are what the relation says.
use Rattle.std.specs.Prelude.{◌≡◌, ◌⊎◌, ℕ, nat_eq, nat_lt, if◌then◌else◌, List, [], ◌∷◌, Option, Some, None}
use Rattle.std.specs.Option.{option_map, option_or, unwrap_or}
use Rattle.tower_syntax.specs.RawTree.{Id, Raw}
use Rattle.tower_syntax.specs.declared.named.Target.{Target}
use Rattle.tower_syntax.specs.declared.named.Target.TheVariants as target
use Rattle.arch_names.specs.declared.names.Declared.{Declared}
use Rattle.arch_names.specs.declared.names.Thing.{Thing}
use Rattle.arch_names.specs.declared.fault.Sort.{Sort}
use Rattle.arch_names.specs.declared.fault.Sort.TheVariants as sort
use Rattle.arch_names.specs.declared.fault.NameFault.{NameFault}
use Rattle.arch_names.specs.declared.fault.NameFault.TheVariants as fault
use Rattle.arch_names.specs.Names.{sort_of, serves}
use Rattle.arch_names.specs.Site.{Site, declares, binds, refers, part_type, picks}
use Rattle.arch_names.specs.Sites.{sites}
use Rattle.arch_names.specs.Linked.{linked}
use Rattle.arch_names.specs.Resolved.{Offences, IsLinked, IsClean, IsFirst}
use Rattle.arch_names.specs.Written.{Ascends}

-- what a use finds where it wants this sort; a record only where it is declared before the offset
abbrev pub served : Sort → Option (Declared Thing) → Option Target
served want None = None
served want (Some d) = serves want d.what

abbrev pub served_before : ℕ → Option (Declared Thing) → Option Target
served_before record_at None = None
served_before record_at (Some d) = if nat_lt d.at record_at then serves sort.Record d.what else None

-- no fault where there is a target, else this one
abbrev pub unless_found : {T : Type 0} → Option T → NameFault → Option NameFault
unless_found (Some t) f = None
unless_found None f = Some f

abbrev pub unless_own : Id → ℕ → Option NameFault
unless_own x at = if nat_eq at x.at then None else Some (fault.Twice x.at at)

abbrev pub first_but_own : Id → Option ℕ → Option NameFault
first_but_own x None = None
first_but_own x (Some at) = unless_own x at

abbrev pub kind_fault : Sort → Id → Option (Declared Thing) → NameFault
kind_fault want u None = fault.Unknown u.at
kind_fault want u (Some d) = fault.Kind u.at want (sort_of d.what)

abbrev pub fault_at : Site → Option NameFault
fault_at (declares first x) = first_but_own x first
fault_at (binds other x) = option_map (λ at. fault.Twice x.at at) other
fault_at (refers want found u) = unless_found (served want found) (kind_fault want u found)
fault_at (part_type record_at found u) = unless_found (served_before record_at found) (fault.Unknown u.at)
fault_at (picks found u) = unless_found found (fault.Unknown u.at)

abbrev pub first : List Site → Option NameFault
first [] = None
first (s ∷ ss) = option_or (fault_at s) (first ss)

-- what a use refers to, or anything
abbrev pub meant : Site → Target
meant (declares at x) = target.Param
meant (binds at x) = target.Param
meant (refers want found u) = unwrap_or (served want found) target.Param
meant (part_type record_at found u) = unwrap_or (served_before record_at found) target.Param
meant (picks found u) = unwrap_or (option_map (λ d. d.what) found) target.Param

-- no fault in the sites, and what was made is seen as this tree
abbrev pub IsMade : {T A : Type 0} → List Site → (T → A) → A → T → Type 0
IsMade ss see tree made = (first ss ≡ None) × (see made ≡ tree)

-- want of memory, or the first fault of the sites
abbrev pub IsFault : List Site → NameFault → Type 0
IsFault ss f = (f ≡ fault.NoMemory) ⊎ (first ss ≡ Some f)

-- no fault is computed only where there is no offence, and the links that are computed are then those that are meant
abbrev pub NoneIsClean : Type 0
NoneIsClean = (raw : Raw Id) → first (sites raw) ≡ None → IsClean (Offences raw) × IsLinked raw (linked meant raw)

-- the fault that is computed is the offence with the least offset
abbrev pub SomeIsFirst : Type 0
SomeIsFirst = (raw : Raw Id) (f : NameFault) → first (sites raw) ≡ Some f → Ascends raw → IsFirst (Offences raw) f
