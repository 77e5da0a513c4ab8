-- The faults of a text: what offends, and which offence is the first.
use Rattle.std.specs.Prelude.{◌≡◌, ◌≢◌, ◌⊎◌, ◌<◌, ℕ, ◌+◌, ℤ, List, true, false, length, Some, None, decimal}
use Rattle.std.specs.Fmt.{signed_decimal}
use Rattle.tower_sexp.specs.declared.fault.SexpFault.TheVariants as token
use Rattle.tower_sexp.specs.Marks.{marks_of, tokens_of}
use Rattle.tower_sexp.specs.Faults.{Offends as TokenOffends}
use Rattle.tower_sexp.specs.Trees.{Tree, atom, list, Trees, tree}
use Rattle.tower_sexp.specs.Trees.{Spells as TreesSpell}
use Rattle.tower_syntax.specs.Spelling.{is_name}
use Rattle.tower_syntax.specs.Words.{IsWithin, IsLiteral}
use Rattle.tower_reader.specs.declared.fault.ReadFault.{ReadFault}
use Rattle.tower_reader.specs.declared.fault.ReadFault.TheVariants as fault
use Rattle.tower_reader.specs.declared.table.Place.{Place}
use Rattle.tower_reader.specs.declared.table.Atoms.{Atoms}
use Rattle.tower_reader.specs.declared.table.Atoms.TheVariants as atoms
use Rattle.tower_reader.specs.declared.table.Row.{Row}
use Rattle.tower_reader.specs.declared.table.Row.TheVariants as row
use Rattle.tower_reader.specs.Table.{atoms_at, place_at}
use Rattle.tower_reader.specs.Words.{scalar_named, truth_named, name_limit}
use Rattle.tower_reader.specs.Spelled.{row_for, byte_limit}

-- the kind of an offence, and the offset of the node that offends
pub data Offence : Type 0 where
  form_at : ℕ → Offence
  number_at : ℕ → Offence
  length_at : ℕ → Offence

-- where an atom is to be a name
abbrev pub IsForName : Atoms → List ℕ → Type 0
IsForName atoms.Name w = Unit {0}
IsForName atoms.Place w = Unit {0}
IsForName atoms.Type w = scalar_named w ≡ None
IsForName atoms.Expr w = truth_named w ≡ None
IsForName _ w = ⊥

-- A node at a place offends, or a node in it. What is in a list without a row has no place, and does not offend.
mutual
  pub data Offends : Place → Tree → Offence → Type 0 where
    no_atom : (p : Place) (at : ℕ) (w : List ℕ) → atoms_at p ≡ atoms.None → Offends p (atom at w) (form_at at)
    no_name : (p : Place) (at : ℕ) (w : List ℕ) → IsForName (atoms_at p) w → is_name w ≡ false → Offends p (atom at w) (form_at at)
    no_row : (p : Place) (at : ℕ) (ts : Trees) → row_for p ts ≡ None → Offends p (list at ts) (form_at at)
    no_number : (p : Place) (at : ℕ) (w : List ℕ) (low high : ℕ) → atoms_at p ≡ atoms.Number low high → ((n : ℕ) → IsWithin low high n → w ≢ decimal n) → Offends p (atom at w) (number_at at)
    no_literal : (p : Place) (at : ℕ) (w : List ℕ) → atoms_at p ≡ atoms.Literal → ((z : ℤ) → IsLiteral z → w ≢ signed_decimal z) → Offends p (atom at w) (number_at at)
    long_name : (p : Place) (at : ℕ) (w : List ℕ) → IsForName (atoms_at p) w → is_name w ≡ true → name_limit < length w → Offends p (atom at w) (length_at at)
    within : (p : Place) (at : ℕ) (head : Tree) (ts : Trees) (r : Row) (o : Offence) → row_for p (tree head ts) ≡ Some r → OffendsIn r 0 ts o → Offends p (list at (tree head ts)) o

  -- a child of a row offends, from the i-th on
  pub data OffendsIn : Row → ℕ → Trees → Offence → Type 0 where
    here : (r : Row) (i : ℕ) (t : Tree) (ts : Trees) (o : Offence) → Offends (place_at r i) t o → OffendsIn r i (tree t ts) o
    behind : (r : Row) (i : ℕ) (t : Tree) (ts : Trees) (o : Offence) → OffendsIn r (i + 1) ts o → OffendsIn r i (tree t ts) o

-- a node of the trees that the tokens of a text spell offends
pub record OffendsInText (bs : List ℕ) (o : Offence) : Type 0 where
  pub trees : Trees
  pub spelled : TreesSpell trees (tokens_of bs)
  pub offends : OffendsIn row.File 0 trees o

-- what offends in a text
abbrev pub TextOffends : List ℕ → ReadFault → Type 0
TextOffends bs (fault.Long limit) = (limit ≡ byte_limit) × (byte_limit < length bs)
TextOffends bs (fault.Byte at) = TokenOffends (marks_of bs) (token.Byte at)
TextOffends bs (fault.Unopened at) = TokenOffends (marks_of bs) (token.Unopened at)
TextOffends bs (fault.Nest at) = TokenOffends (marks_of bs) (token.Nest at)
TextOffends bs (fault.Unclosed at) = TokenOffends (marks_of bs) (token.Unclosed at)
TextOffends bs fault.Empty = TokenOffends (marks_of bs) token.Empty
TextOffends bs (fault.Form at) = OffendsInText bs (form_at at)
TextOffends bs (fault.Number at) = OffendsInText bs (number_at at)
TextOffends bs (fault.Length at) = OffendsInText bs (length_at at)
TextOffends bs fault.NoMemory = ⊥

-- the order of the kinds; three of them come by their offsets alone
abbrev pub rank : ReadFault → ℕ
rank (fault.Long limit) = 0
rank (fault.Byte at) = 1
rank (fault.Unopened at) = 1
rank (fault.Nest at) = 1
rank (fault.Unclosed at) = 2
rank fault.Empty = 3
rank (fault.Form at) = 4
rank (fault.Number at) = 5
rank (fault.Length at) = 6
rank fault.NoMemory = 7

abbrev pub offset : ReadFault → ℕ
offset (fault.Long limit) = 0
offset (fault.Byte at) = at
offset (fault.Unopened at) = at
offset (fault.Nest at) = at
offset (fault.Unclosed at) = at
offset fault.Empty = 0
offset (fault.Form at) = at
offset (fault.Number at) = at
offset (fault.Length at) = at
offset fault.NoMemory = 0

abbrev pub Precedes : ReadFault → ReadFault → Type 0
Precedes f g = (rank f < rank g) ⊎ ((rank f ≡ rank g) × (offset f < offset g))

-- the fault of a text: what offends, and before all else that does
pub record IsFault (bs : List ℕ) (f : ReadFault) : Type 0 where
  pub offends : TextOffends bs f
  pub precedes : (g : ReadFault) → TextOffends bs g → (g ≡ f) ⊎ Precedes f g
