-- A node is read as a part exactly where none of its nodes offends.
use Rattle.std.proofs.Common.{◌≡◌, ◌≤◌, ◌<◌, ◌^◌, ℕ, ◌+◌, pos, List, [], ◌∷◌, ◌++◌, Bool, true, false, cond, length, Option, Some, None, refl, ap, sym, ◌∙◌, subst, arith}
use Rattle.std.proofs.lemmas.Bool.{le-leb, leb-true}
use Rattle.tower_types.specs.declared.scalar.Scalar.{Scalar}
use Rattle.tower_sexp.specs.Trees.{Tree, atom, list, Trees, no_trees, tree}
use Rattle.tower_syntax.specs.RawTree.{rec, root}
use Rattle.tower_syntax.specs.Spelling.{is_name}
use Rattle.tower_syntax.specs.Words.{IsName, IsWithin}
use Rattle.tower_reader.specs.declared.table.Place.{Place}
use Rattle.tower_reader.specs.declared.table.Place.TheVariants as place
use Rattle.tower_reader.specs.declared.table.Atoms.{Atoms}
use Rattle.tower_reader.specs.declared.table.Atoms.TheVariants as atoms
use Rattle.tower_reader.specs.declared.table.Row.{Row}
use Rattle.tower_reader.specs.Table.{atoms_at, place_at}
use Rattle.tower_reader.specs.Words.{scalar_named, truth_named, is_short, number_in, literal_in}
use Rattle.tower_reader.specs.Part.{Part, nothing, a_name, a_number, a_literal, a_type, a_place, build}
use Rattle.tower_reader.specs.Spelled.{row_for, id_at, Reads, names, names_place, names_record, names_value, says_scalar, says_truth, counts, counts_literal, has_row, ReadsAll, no_more, one_more}
use Rattle.tower_reader.specs.Faults.{Offence, form_at, number_at, length_at}
use Rattle.tower_reader.specs.Reading.{name_offences, if_none, atom_offences, id_of_atom, type_of_atom, value_of_atom, or_this, atom_part, at_row, offences, offences_in, part_of, parts_of}
use Rattle.tower_reader.proofs.Numbers.{number_is, number_of}
use Rattle.tower_reader.proofs.Literals.{literal_is, literal_of}
use Rattle.tower_reader.proofs.Words.{scalar_no_name, truth_is, truth_of}

pub record Clean (p : Place) (t : Tree) (x : Part) : Type 0 where
  pub none : offences p t ≡ []
  pub part : part_of p t ≡ x

pub record CleanAll (r : Row) (i : ℕ) (ts : Trees) (xs : List Part) : Type 0 where
  pub none : offences_in r i ts ≡ []
  pub parts : parts_of r i ts ≡ xs

name_clean : (at : ℕ) (w : List ℕ) → IsName w → name_offences at w ≡ []
name_clean at w h =
    let e : is_short w ≡ true = le-leb (length w) 64 h.1 in
    ap (λ b. cond b (cond (is_short w) [] (length_at at ∷ [])) (form_at at ∷ [])) h.0 ∙ ap (λ b. cond b [] (length_at at ∷ [])) e

name_kept : (at : ℕ) (w : List ℕ) → IsName w → id_of_atom at w ≡ id_at at w
name_kept at w h =
    let e : is_short w ≡ true = le-leb (length w) 64 h.1 in
    ap (λ b. id_at at (cond b w [])) e

-- an atom where such atoms may stand
record CleanAtom (a : Atoms) (at : ℕ) (w : List ℕ) (x : Part) : Type 0 where
  none : atom_offences a at w ≡ []
  part : atom_part a at w ≡ x

clean_atom : (p : Place) (a : Atoms) (at : ℕ) (w : List ℕ) (x : Part) → atoms_at p ≡ a → CleanAtom a at w x → Clean p (atom at w) x
clean_atom p a at w x e c = record { none = ap (λ a. atom_offences a at w) e ∙ c.none; part = ap (λ a. atom_part a at w) e ∙ c.part }

no_scalar : (w : List ℕ) (o : Option Scalar) → scalar_named w ≡ o → is_name w ≡ true → o ≡ None
no_scalar w None e h = refl
no_scalar w (Some s) e h = let k = scalar_no_name w s e in cc

no_truth : (w : List ℕ) (o : Option Bool) → truth_named w ≡ o → is_name w ≡ true → o ≡ None
no_truth w None e h = refl
no_truth w (Some b) e h = let k = (truth_is w b e).0 in cc

record_clean : (at : ℕ) (w : List ℕ) → IsName w → CleanAtom atoms.Type at w (a_type (rec (id_at at w)))
record_clean at w h =
    let o = no_scalar w (scalar_named w) refl h.0 in
    record {
      none = ap (if_none (name_offences at w)) o ∙ name_clean at w h;
      part = ap (type_of_atom at w) o ∙ ap (λ i. a_type (rec i)) (name_kept at w h);
    }

value_clean : (at : ℕ) (w : List ℕ) → IsName w → CleanAtom atoms.Expr at w (a_place (root (id_at at w)))
value_clean at w h =
    let o = no_truth w (truth_named w) refl h.0 in
    record {
      none = ap (if_none (name_offences at w)) o ∙ name_clean at w h;
      part = ap (value_of_atom at w) o ∙ ap (λ i. a_place (root i)) (name_kept at w h);
    }

abbrev Small : Atoms → Type 0
Small (atoms.Number low high) = high ≤ 1000000
Small _ = Unit {0}

small_at : (p : Place) → Small (atoms_at p)
small_at place.Nowhere = tt
small_at place.Name = tt
small_at place.Use = tt
small_at place.Priority = omega arith
small_at place.Period = omega arith
small_at place.Depth = omega arith
small_at place.Bound = omega arith
small_at place.Size = omega arith
small_at place.Times = omega arith
small_at place.Length = omega arith
small_at place.Literal = tt
small_at place.Tower = tt
small_at place.Item = tt
small_at place.Item2 = tt
small_at place.Field = tt
small_at place.Part = tt
small_at place.Hpart = tt
small_at place.Type = tt
small_at place.Stmt = tt
small_at place.Then = tt
small_at place.Else = tt
small_at place.Place = tt
small_at place.Expr = tt

-- the numbers of a place are small
pub small : (p : Place) (low high n : ℕ) → atoms_at p ≡ atoms.Number low high → IsWithin low high n → n < 2 ^ 64
small p low high n e h = let k : high ≤ 1000000 = subst Small e (small_at p) in omega (arith, h.1)

mutual
  pub complete : (p : Place) (t : Tree) (x : Part) → Reads p t x → Clean p t x
  complete p t x (names q at w e h) = clean_atom q atoms.Name at w _ e (record { none = name_clean at w h; part = ap a_name (name_kept at w h) })
  complete p t x (names_place q at w e h) = clean_atom q atoms.Place at w _ e (record { none = name_clean at w h; part = ap (λ i. a_place (root i)) (name_kept at w h) })
  complete p t x (names_record q at w e h) = clean_atom q atoms.Type at w _ e (record_clean at w h)
  complete p t x (names_value q at w e h) = clean_atom q atoms.Expr at w _ e (value_clean at w h)
  complete p t x (says_scalar q at w s e h) = clean_atom q atoms.Type at w _ e (record { none = ap (if_none (name_offences at w)) h; part = ap (type_of_atom at w) h })
  complete p t x (says_truth q at w b e h) = clean_atom q atoms.Expr at w _ e (record { none = ap (if_none (name_offences at w)) (truth_of w b h); part = ap (value_of_atom at w) (truth_of w b h) })
  complete p t x (counts q at w low high n e h d) =
      let k = number_of low high n w (small q low high n e h) h d in
      clean_atom q (atoms.Number low high) at w _ e (record { none = ap (if_none (number_at at ∷ [])) k; part = ap (λ o. a_number (or_this 0 o)) k })
  complete p t x (counts_literal q at w z e h d) =
      let k = literal_of z w h d in
      clean_atom q atoms.Literal at w _ e (record { none = ap (if_none (number_at at ∷ [])) k; part = ap (λ o. a_literal (or_this (pos 0) o)) k })
  complete p t x (has_row q at head ts r ps h s) =
      let c : CleanAll r 0 ts ps = complete_all r 0 ts ps s in
      record {
        none = ap (at_row (form_at at ∷ []) (λ r. offences_in r 0 ts)) h ∙ c.none;
        part = ap (at_row nothing (λ r. build r at (parts_of r 0 ts))) h ∙ ap (build r at) c.parts;
      }

  complete_all : (r : Row) (i : ℕ) (ts : Trees) (xs : List Part) → ReadsAll r i ts xs → CleanAll r i ts xs
  complete_all r i ts xs (no_more q j) = record { none = refl; parts = refl }
  complete_all r i ts xs (one_more q j t us p ps s more) =
      let c : Clean (place_at q j) t p = complete (place_at q j) t p s in
      let d : CleanAll q (j + 1) us ps = complete_all q (j + 1) us ps more in
      record {
        none = ap (λ os. os ++ offences_in q (j + 1) us) c.none ∙ d.none;
        parts = ap (λ x. x ∷ parts_of q (j + 1) us) c.part ∙ ap (λ xs. p ∷ xs) d.parts;
      }

name_by : (b c : Bool) (x y : Offence) → cond b (cond c [] (x ∷ [])) (y ∷ []) ≡ [] → (b ≡ true) × (c ≡ true)
name_by true true x y h = (refl, refl)
name_by true false x y h = cc
name_by false c x y h = cc

name_sound : (at : ℕ) (w : List ℕ) → name_offences at w ≡ [] → IsName w
name_sound at w h = let k = name_by (is_name w) (is_short w) (length_at at) (form_at at) h in (k.0, leb-true (length w) 64 k.1)

some_by : {A : Type 0} (o : Option A) (d : A) (x : Offence) → if_none (x ∷ []) o ≡ [] → o ≡ Some (or_this d o)
some_by None d x h = cc
some_by (Some n) d x h = refl

pub nil_left : (xs ys : List Offence) → xs ++ ys ≡ [] → xs ≡ []
nil_left [] ys h = refl
nil_left (x ∷ xs) ys h = cc

pub nil_right : (xs ys : List Offence) → xs ++ ys ≡ [] → ys ≡ []
nil_right [] ys h = h
nil_right (x ∷ xs) ys h = cc

type_sound : (p : Place) (at : ℕ) (w : List ℕ) (o : Option Scalar) → atoms_at p ≡ atoms.Type → scalar_named w ≡ o → if_none (name_offences at w) o ≡ [] → Reads p (atom at w) (type_of_atom at w o)
type_sound p at w None e f h =
    let k = name_sound at w h in
    subst (λ i. Reads p (atom at w) (a_type (rec i))) (sym (name_kept at w k)) (names_record p at w e k)
type_sound p at w (Some s) e f h = says_scalar p at w s e f

value_sound : (p : Place) (at : ℕ) (w : List ℕ) (o : Option Bool) → atoms_at p ≡ atoms.Expr → truth_named w ≡ o → if_none (name_offences at w) o ≡ [] → Reads p (atom at w) (value_of_atom at w o)
value_sound p at w None e f h =
    let k = name_sound at w h in
    subst (λ i. Reads p (atom at w) (a_place (root i))) (sym (name_kept at w k)) (names_value p at w e k)
value_sound p at w (Some b) e f h = says_truth p at w b e (truth_is w b f).1

atom_sound : (p : Place) (at : ℕ) (w : List ℕ) (a : Atoms) → atoms_at p ≡ a → atom_offences a at w ≡ [] → Reads p (atom at w) (atom_part a at w)
atom_sound p at w atoms.None e h = cc
atom_sound p at w atoms.Name e h =
    let k = name_sound at w h in
    subst (λ i. Reads p (atom at w) (a_name i)) (sym (name_kept at w k)) (names p at w e k)
atom_sound p at w atoms.Place e h =
    let k = name_sound at w h in
    subst (λ i. Reads p (atom at w) (a_place (root i))) (sym (name_kept at w k)) (names_place p at w e k)
atom_sound p at w atoms.Type e h = type_sound p at w (scalar_named w) e refl h
atom_sound p at w atoms.Expr e h = value_sound p at w (truth_named w) e refl h
atom_sound p at w (atoms.Number low high) e h =
    let k = number_is low high _ w (some_by (number_in low high w) 0 (number_at at) h) in
    counts p at w low high _ e k.0 k.1
atom_sound p at w atoms.Literal e h =
    let k = literal_is _ w (some_by (literal_in w) (pos 0) (number_at at) h) in
    counts_literal p at w _ e k.0 k.1

-- what a clean list has
pub record Fitted (o : Option Row) (ts : Trees) : Type 0 where
  pub row : Row
  pub is : o ≡ Some row
  pub clean : offences_in row 0 ts ≡ []

pub fitted : (o : Option Row) (ts : Trees) (x : Offence) → at_row (x ∷ []) (λ r. offences_in r 0 ts) o ≡ [] → Fitted o ts
fitted None ts x h = cc
fitted (Some r) ts x h = record { row = r; is = refl; clean = h }

mutual
  pub sound : (p : Place) (t : Tree) → offences p t ≡ [] → Reads p t (part_of p t)
  sound p (atom at w) h = atom_sound p at w (atoms_at p) refl h
  sound p (list at no_trees) h = cc
  sound p (list at (tree head ts)) h =
      let k : Fitted (row_for p (tree head ts)) ts = fitted (row_for p (tree head ts)) ts (form_at at) h in
      subst (λ x. Reads p (list at (tree head ts)) x) (sym (ap (at_row nothing (λ r. build r at (parts_of r 0 ts))) k.is)) (has_row p at head ts k.row _ k.is (sound_all k.row 0 ts k.clean))

  sound_all : (r : Row) (i : ℕ) (ts : Trees) → offences_in r i ts ≡ [] → ReadsAll r i ts (parts_of r i ts)
  sound_all r i no_trees h = no_more r i
  sound_all r i (tree t ts) h = one_more r i t ts _ _ (sound (place_at r i) t (nil_left _ _ h)) (sound_all r (i + 1) ts (nil_right _ _ h))

-- a node is one part at most
pub one_part : (p : Place) (t : Tree) (x y : Part) → Reads p t x → Reads p t y → x ≡ y
one_part p t x y h k = sym (complete p t x h).part ∙ (complete p t y k).part
