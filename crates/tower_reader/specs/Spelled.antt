-- The tree that a text spells, by the table of forms.
use Rattle.std.specs.Prelude.{◌≡◌, ◌≤◌, ℕ, suc, ◌+◌, ℤ, List, [], ◌∷◌, Bool, length, Option, Some, None, if◌then◌else◌, decimal}
use Rattle.std.specs.Fmt.{signed_decimal}
use Rattle.tower_types.specs.declared.scalar.Scalar.{Scalar}
use Rattle.tower_sexp.specs.Marks.{tokens_of}
use Rattle.tower_sexp.specs.Faults.{IsFaultless}
use Rattle.tower_sexp.specs.Trees.{Tree, atom, list, Trees, no_trees, tree}
use Rattle.tower_sexp.specs.Trees.{Spells as TreesSpell}
use Rattle.tower_syntax.specs.RawTree.{Id, word, rec, root, truth, Raw}
use Rattle.tower_syntax.specs.Words.{IsName, IsWithin, IsLiteral, truth_word}
use Rattle.tower_reader.specs.declared.table.Place.{Place}
use Rattle.tower_reader.specs.declared.table.Place.TheVariants as place
use Rattle.tower_reader.specs.declared.table.Atoms.TheVariants as atoms
use Rattle.tower_reader.specs.declared.table.Row.{Row}
use Rattle.tower_reader.specs.Table.{atoms_at, row_of, place_at, count_fits}
use Rattle.tower_reader.specs.Words.{scalar_named}
use Rattle.tower_reader.specs.Part.{Part, a_name, a_number, a_literal, a_type, a_place, an_expr, a_tower, build}

abbrev pub count : Trees → ℕ
count no_trees = 0
count (tree t ts) = suc (count ts)

-- the row, where it may have so many children
abbrev pub fitting : ℕ → Option Row → Option Row
fitting n None = None
fitting n (Some r) = if count_fits r n then Some r else None

-- the row of a place for a list with these nodes: that of its head, where this is an atom
abbrev pub row_for : Place → Trees → Option Row
row_for p no_trees = None
row_for p (tree (atom at w) ts) = fitting (count ts) (row_of p w)
row_for p (tree (list at us) ts) = None

abbrev pub id_at : ℕ → List ℕ → Id
id_at at w = record { at = at; name = w }

-- A node at a place, and the part that it is.
mutual
  pub data Reads : Place → Tree → Part → Type 0 where
    names : (p : Place) (at : ℕ) (w : List ℕ) → atoms_at p ≡ atoms.Name → IsName w → Reads p (atom at w) (a_name (id_at at w))
    names_place : (p : Place) (at : ℕ) (w : List ℕ) → atoms_at p ≡ atoms.Place → IsName w → Reads p (atom at w) (a_place (root (id_at at w)))
    names_record : (p : Place) (at : ℕ) (w : List ℕ) → atoms_at p ≡ atoms.Type → IsName w → Reads p (atom at w) (a_type (rec (id_at at w)))
    names_value : (p : Place) (at : ℕ) (w : List ℕ) → atoms_at p ≡ atoms.Expr → IsName w → Reads p (atom at w) (a_place (root (id_at at w)))
    says_scalar : (p : Place) (at : ℕ) (w : List ℕ) (s : Scalar) → atoms_at p ≡ atoms.Type → scalar_named w ≡ Some s → Reads p (atom at w) (a_type (word at s))
    says_truth : (p : Place) (at : ℕ) (w : List ℕ) (b : Bool) → atoms_at p ≡ atoms.Expr → w ≡ truth_word b → Reads p (atom at w) (an_expr (truth at b))
    counts : (p : Place) (at : ℕ) (w : List ℕ) (low high n : ℕ) → atoms_at p ≡ atoms.Number low high → IsWithin low high n → w ≡ decimal n → Reads p (atom at w) (a_number n)
    counts_literal : (p : Place) (at : ℕ) (w : List ℕ) (z : ℤ) → atoms_at p ≡ atoms.Literal → IsLiteral z → w ≡ signed_decimal z → Reads p (atom at w) (a_literal z)
    has_row : (p : Place) (at : ℕ) (head : Tree) (ts : Trees) (r : Row) (ps : List Part) → row_for p (tree head ts) ≡ Some r → ReadsAll r 0 ts ps → Reads p (list at (tree head ts)) (build r at ps)

  -- the children of a row from the i-th on, and their parts
  pub data ReadsAll : Row → ℕ → Trees → List Part → Type 0 where
    no_more : (r : Row) (i : ℕ) → ReadsAll r i no_trees []
    one_more : (r : Row) (i : ℕ) (t : Tree) (ts : Trees) (p : Part) (ps : List Part) → Reads (place_at r i) t p → ReadsAll r (i + 1) ts ps → ReadsAll r i (tree t ts) (p ∷ ps)

-- how many bytes a text may have
abbrev pub byte_limit : ℕ
byte_limit = 1048576

-- a text and its tree
pub record Spells (bs : List ℕ) (r : Raw Id) : Type 0 where
  pub within : length bs ≤ byte_limit
  pub faultless : IsFaultless bs
  pub node : Tree
  pub spelled : TreesSpell (tree node no_trees) (tokens_of bs)
  pub reads : Reads place.Tower node (a_tower r)
