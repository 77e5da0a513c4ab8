-- The types of expressions and places, by the rows of the type table, and what is wrong with them.
use Rattle.std.specs.Prelude.{◌≡◌, ℕ, suc, List, [], ◌∷◌, ◌++◌, slice_index_or, Bool, true, false, IsTrue, bytes_eq, Option, Some, None}
use Rattle.std.specs.Option.{option_map}
use Rattle.tower_types.specs.declared.scalar.Scalar.{Scalar}
use Rattle.tower_types.specs.declared.scalar.Scalar.TheVariants as is
use Rattle.tower_types.specs.declared.scalar.BinOp.{BinOp}
use Rattle.tower_types.specs.Ty.{Ty, Name, Fields, Records, scalar, array, rec as record_type}
use Rattle.tower_types.specs.Value.{fits_scalar}
use Rattle.tower_types.specs.Arithmetic.{applies, applies_one, binary_scalar, is_number, truth as truth_number}
use Rattle.tower_syntax.specs.declared.named.Target.{Target}
use Rattle.tower_syntax.specs.declared.named.Target.TheVariants as target
use Rattle.tower_syntax.specs.declared.body.Root.{Root}
use Rattle.tower_syntax.specs.declared.body.Root.TheVariants as root_of
use Rattle.tower_syntax.specs.RawTree.{Link, RawType, word, rec, array as array_form, RawPlace, root, get, index, RawExpr, truth, read, lit, un, bin, choose, cast}
use Rattle.tower_syntax.specs.Offset.{link_offset, type_offset, place_offset, expr_offset}
use Rattle.tower_syntax.specs.View.{Step, steps_of}
use Rattle.tower_syntax.specs.Tree.{Expr, Place, Steps}
use Rattle.tower_syntax.specs.Tree as tree
use Rattle.arch_types.specs.declared.fault.TypeFault.{TypeFault}
use Rattle.arch_types.specs.declared.fault.TypeFault.TheVariants as fault
use Rattle.arch_types.specs.Wanted.{Wanted, a_scalar, a_number, an_array, a_record, exactly, wanted, wanted_second, wanted_one, misfit}
use Rattle.arch_types.specs.Offence.{Child, Test, end, child, Node, Faults}

-- what a callback sees: the records with their names, the types of its names and its emitters' messages. A name may
-- have no type, where what it was bound to is at fault.
pub record Env : Type 1 where
  pub names : List Name
  pub records : Records
  pub emitters : List Ty
  pub has : Target → Ty → Type 0
  pub writable : Target → Bool
  -- how many names were bound so far
  pub bound : ℕ

-- ---- types

abbrev pub record_number : Target → ℕ
record_number (target.Record r) = r
record_number _ = 0

abbrev pub type_of : RawType Link → Ty
type_of (word at s) = scalar s
type_of (rec u) = record_type (record_number u.target)
type_of (array_form at n t) = array n (type_of t)

-- the type that stands where none is known
abbrev pub no_type : Ty
no_type = scalar is.Bool

-- the place of a field in its record, with its type
abbrev pub one_later : Option (ℕ × Ty) → Option (ℕ × Ty)
one_later found = option_map (λ f. (suc f.0, f.1)) found

abbrev pub if_found : Bool → Ty → Option (ℕ × Ty) → Option (ℕ × Ty)
if_found true t later = Some (0, t)
if_found false t later = one_later later

abbrev pub field_in : Fields → Name → Option (ℕ × Ty)
field_in [] name = None
field_in (f ∷ fs) name = if_found (bytes_eq f.0 name) f.1 (field_in fs name)

abbrev pub field_of : Records → ℕ → Name → Option (ℕ × Ty)
field_of records r name = field_in (slice_index_or records r []) name

-- ---- places and expressions in the checked tree

abbrev pub root_at : Target → Root
root_at target.Param = root_of.Param
root_at (target.Binder b) = root_of.Binder b
root_at (target.State k) = root_of.State k
root_at _ = root_of.Param

-- a place as its root with the list of its steps
pub record Path : Type 0 where
  pub root : Root
  pub steps : List Step

abbrev pub with_step : Path → Step → Path
with_step p s = record { root = p.root; steps = p.steps ++ s ∷ [] }

abbrev pub place_from : Path → Place
place_from p = tree.place p.root (steps_of p.steps)

-- ---- the rows of the type table: a node has this type, and is this in the checked tree

abbrev mutual
  pub BecomesPlace : Env → RawPlace Link → Ty → Path → Type 0
  BecomesPlace Γ (root u) t p = Γ.has u.target t × (p ≡ record { root = root_at u.target; steps = [] })
  BecomesPlace Γ (get at base name) t p =
      (r : ℕ) × (k : ℕ) × (q : Path) × BecomesPlace Γ base (record_type r) q
      × (field_of Γ.records r name.name ≡ Some (k, t)) × (p ≡ with_step q (tree.field k))
  BecomesPlace Γ (index at base e) t p =
      (n : ℕ) × (q : Path) × (i : Expr) × BecomesPlace Γ base (array n t) q × Becomes Γ e (scalar (is.Ix n)) i
      × (p ≡ with_step q (tree.at i))

  pub Becomes : Env → RawExpr Link → Ty → Expr → Type 0
  Becomes Γ (truth at b) t x = (t ≡ scalar is.Bool) × (x ≡ tree.lit is.Bool (truth_number b))
  Becomes Γ (read place) t x = (p : Path) × BecomesPlace Γ place t p × (x ≡ tree.read (place_from p))
  Becomes Γ (lit at s n) t x = IsTrue (fits_scalar s n) × (t ≡ scalar s) × (x ≡ tree.lit s n)
  Becomes Γ (un at op a) t x = (s : Scalar) × (y : Expr) × Becomes Γ a (scalar s) y × IsTrue (applies_one op s) × (t ≡ scalar s) × (x ≡ tree.un op s y)
  Becomes Γ (bin at op a b) t x =
      (s : Scalar) × (y : Expr) × (z : Expr) × Becomes Γ a (scalar s) y × Becomes Γ b (scalar s) z
      × IsTrue (applies op s) × (t ≡ scalar (binary_scalar op s)) × (x ≡ tree.bin op s y z)
  Becomes Γ (choose at c a b) t x =
      (s : Scalar) × (w : Expr) × (y : Expr) × (z : Expr) × Becomes Γ c (scalar is.Bool) w × Becomes Γ a (scalar s) y × Becomes Γ b (scalar s) z
      × (t ≡ scalar s) × (x ≡ tree.choose w y z)
  Becomes Γ (cast at u a) t x =
      (s : Scalar) × (r : Scalar) × (y : Expr) × (type_of u ≡ scalar s) × IsTrue (is_number s) × Becomes Γ a (scalar r) y × IsTrue (is_number r)
      × (t ≡ scalar s) × (x ≡ tree.cast s y)

abbrev pub Has : Env → RawExpr Link → Ty → Type 0
Has Γ e t = (x : Expr) × Becomes Γ e t x

abbrev pub HasPlace : Env → RawPlace Link → Ty → Type 0
HasPlace Γ p t = (q : Path) × BecomesPlace Γ p t q

-- ---- what is asked of children

abbrev pub wants : Env → ℕ → Wanted → Test
wants Γ at w before t = misfit Γ.names at w t

abbrev pub like_the_first : Env → ℕ → Test
like_the_first Γ at before t = misfit Γ.names at (exactly before) t

abbrev pub wants_second : Env → ℕ → BinOp → Test
wants_second Γ at op before t = misfit Γ.names at (wanted_second op before) t

-- a record that has the field
abbrev pub has_field : Option (ℕ × Ty) → ℕ → Option TypeFault
has_field None at = Some (fault.Field at)
has_field (Some f) at = None

abbrev pub wants_field : Env → ℕ → ℕ → Name → Test
wants_field Γ at field_at name before (record_type r) = has_field (field_of Γ.records r name) field_at
wants_field Γ at field_at name before t = misfit Γ.names at a_record t

-- an index of the array before it
abbrev pub wants_index : Env → ℕ → Test
wants_index Γ at (array n u) t = misfit Γ.names at (exactly (scalar (is.Ix n))) t
wants_index Γ at before t = None

abbrev pub type_child : RawType Link → Child
type_child t = record { at = type_offset link_offset t; faults = λ f. ⊥; has = λ u. u ≡ type_of t }

-- ---- the faults in a place or expression

abbrev mutual
  pub PlaceFaults : Env → RawPlace Link → Faults
  PlaceFaults Γ (root u) f = ⊥
  PlaceFaults Γ (get at base name) f =
      let first : Child = record { at = place_offset link_offset base; faults = λ g. PlaceFaults Γ base g; has = HasPlace Γ base } in
      Node (child first (wants_field Γ first.at name.at name.name) end) f
  PlaceFaults Γ (index at base e) f =
      let first : Child = record { at = place_offset link_offset base; faults = λ g. PlaceFaults Γ base g; has = HasPlace Γ base } in
      let second : Child = record { at = expr_offset link_offset e; faults = λ g. ExprFaults Γ e g; has = Has Γ e } in
      Node (child first (wants Γ first.at an_array) (child second (wants_index Γ second.at) end)) f

  pub ExprFaults : Env → RawExpr Link → Faults
  ExprFaults Γ (truth at b) f = ⊥
  ExprFaults Γ (read place) f = PlaceFaults Γ place f
  ExprFaults Γ (lit at s n) f = (fits_scalar s n ≡ false) × (f ≡ fault.Range at)
  ExprFaults Γ (un at op a) f =
      let first : Child = record { at = expr_offset link_offset a; faults = λ g. ExprFaults Γ a g; has = Has Γ a } in
      Node (child first (wants Γ first.at (wanted_one op)) end) f
  ExprFaults Γ (bin at op a b) f =
      let first : Child = record { at = expr_offset link_offset a; faults = λ g. ExprFaults Γ a g; has = Has Γ a } in
      let second : Child = record { at = expr_offset link_offset b; faults = λ g. ExprFaults Γ b g; has = Has Γ b } in
      Node (child first (wants Γ first.at (wanted op)) (child second (wants_second Γ second.at op) end)) f
  ExprFaults Γ (choose at c a b) f =
      let first : Child = record { at = expr_offset link_offset c; faults = λ g. ExprFaults Γ c g; has = Has Γ c } in
      let second : Child = record { at = expr_offset link_offset a; faults = λ g. ExprFaults Γ a g; has = Has Γ a } in
      let third : Child = record { at = expr_offset link_offset b; faults = λ g. ExprFaults Γ b g; has = Has Γ b } in
      Node (child first (wants Γ first.at (exactly (scalar is.Bool))) (child second (wants Γ second.at a_scalar) (child third (like_the_first Γ third.at) end))) f
  ExprFaults Γ (cast at u a) f =
      let second : Child = record { at = expr_offset link_offset a; faults = λ g. ExprFaults Γ a g; has = Has Γ a } in
      Node (child (type_child u) (wants Γ (type_offset link_offset u) a_number) (child second (wants Γ second.at a_number) end)) f
