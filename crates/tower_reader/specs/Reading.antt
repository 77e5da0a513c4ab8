-- What nodes are read as, and which of them offend, computed in reading order.
use Rattle.std.specs.Prelude.{ℕ, ◌+◌, pos, List, [], ◌∷◌, ◌++◌, Bool, if◌then◌else◌, Option, Some, None}
use Rattle.tower_types.specs.declared.scalar.Scalar.{Scalar}
use Rattle.tower_sexp.specs.Trees.{Tree, atom, list, Trees, no_trees, tree}
use Rattle.tower_syntax.specs.RawTree.{Id, word, rec, root, truth}
use Rattle.tower_syntax.specs.Spelling.{is_name}
use Rattle.tower_reader.specs.declared.table.Place.{Place}
use Rattle.tower_reader.specs.declared.table.Atoms.{Atoms}
use Rattle.tower_reader.specs.declared.table.Atoms.TheVariants as atoms
use Rattle.tower_reader.specs.declared.table.Row.{Row}
use Rattle.tower_reader.specs.Table.{atoms_at, place_at}
use Rattle.tower_reader.specs.Words.{scalar_named, truth_named, is_short, number_in, literal_in}
use Rattle.tower_reader.specs.Part.{Part, nothing, a_name, a_number, a_literal, a_type, a_place, an_expr, build}
use Rattle.tower_reader.specs.Spelled.{row_for}
use Rattle.tower_reader.specs.Faults.{Offence, form_at, number_at, length_at}

abbrev pub name_offences : ℕ → List ℕ → List Offence
name_offences at w = if is_name w then (if is_short w then [] else length_at at ∷ []) else form_at at ∷ []

abbrev pub if_none : {A : Type 0} → List Offence → Option A → List Offence
if_none os None = os
if_none os (Some x) = []

abbrev pub atom_offences : Atoms → ℕ → List ℕ → List Offence
atom_offences atoms.None at w = form_at at ∷ []
atom_offences atoms.Name at w = name_offences at w
atom_offences atoms.Place at w = name_offences at w
atom_offences atoms.Type at w = if_none (name_offences at w) (scalar_named w)
atom_offences atoms.Expr at w = if_none (name_offences at w) (truth_named w)
atom_offences (atoms.Number low high) at w = if_none (number_at at ∷ []) (number_in low high w)
atom_offences atoms.Literal at w = if_none (number_at at ∷ []) (literal_in w)

-- a name that is too long is not kept
abbrev pub id_of_atom : ℕ → List ℕ → Id
id_of_atom at w = record { at = at; name = if is_short w then w else [] }

abbrev pub type_of_atom : ℕ → List ℕ → Option Scalar → Part
type_of_atom at w None = a_type (rec (id_of_atom at w))
type_of_atom at w (Some s) = a_type (word at s)

abbrev pub value_of_atom : ℕ → List ℕ → Option Bool → Part
value_of_atom at w None = a_place (root (id_of_atom at w))
value_of_atom at w (Some b) = an_expr (truth at b)

abbrev pub or_this : {A : Type 0} → A → Option A → A
or_this x None = x
or_this x (Some y) = y

abbrev pub atom_part : Atoms → ℕ → List ℕ → Part
atom_part atoms.None at w = nothing
atom_part atoms.Name at w = a_name (id_of_atom at w)
atom_part atoms.Place at w = a_place (root (id_of_atom at w))
atom_part atoms.Type at w = type_of_atom at w (scalar_named w)
atom_part atoms.Expr at w = value_of_atom at w (truth_named w)
atom_part (atoms.Number low high) at w = a_number (or_this 0 (number_in low high w))
atom_part atoms.Literal at w = a_literal (or_this (pos 0) (literal_in w))

abbrev pub at_row : {A : Type 0} → A → (Row → A) → Option Row → A
at_row none some None = none
at_row none some (Some r) = some r

-- the offences of a node at a place, and those of a row's children from the i-th on
abbrev mutual
  pub offences : Place → Tree → List Offence
  offences p (atom at w) = atom_offences (atoms_at p) at w
  offences p (list at no_trees) = form_at at ∷ []
  offences p (list at (tree head ts)) = at_row (form_at at ∷ []) (λ r. offences_in r 0 ts) (row_for p (tree head ts))

  pub offences_in : Row → ℕ → Trees → List Offence
  offences_in r i no_trees = []
  offences_in r i (tree t ts) = offences (place_at r i) t ++ offences_in r (i + 1) ts

-- the part that a node at a place is, and those of a row's children from the i-th on
abbrev mutual
  pub part_of : Place → Tree → Part
  part_of p (atom at w) = atom_part (atoms_at p) at w
  part_of p (list at no_trees) = nothing
  part_of p (list at (tree head ts)) = at_row nothing (λ r. build r at (parts_of r 0 ts)) (row_for p (tree head ts))

  pub parts_of : Row → ℕ → Trees → List Part
  parts_of r i no_trees = []
  parts_of r i (tree t ts) = part_of (place_at r i) t ∷ parts_of r (i + 1) ts

abbrev pub first_form : List Offence → Option ℕ
first_form [] = None
first_form (form_at at ∷ os) = Some at
first_form (number_at at ∷ os) = first_form os
first_form (length_at at ∷ os) = first_form os

abbrev pub first_number : List Offence → Option ℕ
first_number [] = None
first_number (form_at at ∷ os) = first_number os
first_number (number_at at ∷ os) = Some at
first_number (length_at at ∷ os) = first_number os

abbrev pub first_length : List Offence → Option ℕ
first_length [] = None
first_length (form_at at ∷ os) = first_length os
first_length (number_at at ∷ os) = first_length os
first_length (length_at at ∷ os) = Some at
