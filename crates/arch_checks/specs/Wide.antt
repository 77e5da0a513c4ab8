-- How wide and how deep the types of an accepted system are.
use Rattle.std.specs.Prelude.{◌≡◌, ℕ, ◌≤◌, All, true}
use Rattle.tower_types.specs.Ty.{Ty, Fields, Shape, one, many, all, Shapes, no_shapes, shape, shape_in, table_of, words, depth}
use Rattle.tower_types.specs.Value.{Value, fits, value_depth}
use Rattle.tower_syntax.specs.declared.arch.On.{On}
use Rattle.tower_syntax.specs.Arch.{Arch}
use Rattle.tower_syntax.specs.Typed.{IsProper}
use Rattle.tower_syntax.specs.Weights.{message_on, states_of}
use Rattle.arch_checks.specs.Sizes.{shapes}

-- there are shapes
abbrev pub IsSome : Shapes → Type 0
IsSome no_shapes = ⊥
IsSome (shape s ss) = Unit {0}

-- each record in the shape has a field
abbrev mutual
  pub IsFull : Shape → Type 0
  IsFull (one s) = Unit {0}
  IsFull (many n s) = IsFull s
  IsFull (all ss) = IsSome ss × AreFull ss

  pub AreFull : Shapes → Type 0
  AreFull no_shapes = Unit {0}
  AreFull (shape s ss) = IsFull s × AreFull ss

-- its arrays have elements, its records fields and its index types values, and it is not too wide
abbrev pub IsWide : Shape → Type 0
IsWide s = IsProper s × IsFull s × (words s ≤ 4096)

-- such a shape has a word
abbrev pub WideTypesHaveWords : Type 0
WideTypesHaveWords = (s : Shape) → IsWide s → 1 ≤ words s

-- a value that fits a shape is no deeper than it
abbrev pub ValuesAreShallow : Type 0
ValuesAreShallow = (s : Shape) (v : Value) → fits s v ≡ true → value_depth v ≤ depth s

abbrev pub IsWideType : Arch → Ty → Type 0
IsWideType arch t = IsWide (shape_in (table_of arch.records) t)

abbrev pub AreWideFields : Arch → Fields → Type 0
AreWideFields arch fs = All (λ f. IsWideType arch f.1) fs

-- all messages, states and names of callbacks
pub record HasWideTypes (arch : Arch) : Type 0 where
  pub messages : (o : On) → IsWideType arch (message_on arch o)
  pub states : (m : ℕ) → AreWideFields arch (states_of arch m)
  pub names : All (λ h. All (λ b. AreWideFields arch b.binders) h.callbacks) arch.handlers
  pub shallow : (o : On) → depth (shape_in (table_of arch.records) (message_on arch o)) ≤ 32

-- no record and no type of a message, state or bound name is deeper than 32
abbrev pub HasShallowTypes : Arch → Type 0
HasShallowTypes arch = All (λ s. depth s ≤ 32) (shapes arch)
