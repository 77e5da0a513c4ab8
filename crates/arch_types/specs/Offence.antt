-- Sets of faults: those of a node by its children, in whatever order these are tested; and the first of a set.
use Rattle.std.specs.Prelude.{◌≡◌, ◌⊎◌, ℕ, ◌<◌, List, [], ◌∷◌, Option, Some}
use Rattle.tower_types.specs.Ty.{Ty}
use Rattle.arch_types.specs.declared.fault.TypeFault.{TypeFault}
use Rattle.arch_types.specs.declared.fault.TypeFault.TheVariants as fault

abbrev pub Faults : Type 1
Faults = TypeFault → Type 0

abbrev pub offset : TypeFault → ℕ
offset (fault.Mismatch at w t) = at
offset (fault.NotPlace at) = at
offset (fault.Field at) = at
offset (fault.Range at) = at
offset (fault.Deep at d) = at
offset fault.NoMemory = 0

abbrev pub IsClean : (TypeFault → Type 0) → Type 0
IsClean P = (f : TypeFault) → P f → ⊥

-- the one with the least offset
pub record IsFirst (P : TypeFault → Type 0) (f : TypeFault) : Type 0 where
  pub is_one : P f
  pub least : (g : TypeFault) → P g → (g ≡ f) ⊎ (offset f < offset g)

-- a child: where it stands, the faults in it, and the types that it has
pub record Child : Type 1 where
  pub at : ℕ
  pub faults : TypeFault → Type 0
  pub has : Ty → Type 0

-- what may be wrong with a child's type, where the child before it has the first type
abbrev pub Test : Type 0
Test = Ty → Ty → Option TypeFault

-- the children of a node, each with what is asked of its type
pub data Row : Type 1 where
  end : Row
  child : Child → Test → Row → Row

-- a fault in one of the children
abbrev pub InSome : Row → TypeFault → Type 0
InSome end f = ⊥
InSome (child c test row) f = c.faults f ⊎ InSome row f

-- all children have types
abbrev pub HaveTypes : Row → List Ty → Type 0
HaveTypes end [] = Unit {0}
HaveTypes end (t ∷ ts) = ⊥
HaveTypes (child c test row) [] = ⊥
HaveTypes (child c test row) (t ∷ ts) = c.has t × HaveTypes row ts

-- one of the types is not what is asked
abbrev pub Misses : Ty → Row → List Ty → TypeFault → Type 0
Misses before end ts f = ⊥
Misses before (child c test row) [] f = ⊥
Misses before (child c test row) (t ∷ ts) f = (test before t ≡ Some f) ⊎ Misses t row ts f

-- the first child has none before it
abbrev pub none_before : Ty
none_before = Rattle.tower_types.specs.Ty.rec 0

-- the faults of a node: those in a child, and where all children have types, those of these types
abbrev pub Node : Row → TypeFault → Type 0
Node row f = InSome row f ⊎ ((ts : List Ty) × HaveTypes row ts × Misses none_before row ts f)
