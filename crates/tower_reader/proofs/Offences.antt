-- What offends is what is listed.
use Rattle.std.proofs.Common.{◌≡◌, ◌≢◌, ◌⊎◌, inl, inr, ◌<◌, ℕ, ◌+◌, ℤ, List, [], ◌∷◌, ◌++◌, Bool, true, false, cond, length, Option, Some, None, refl, ap, sym, ◌∙◌, subst, decimal}
use Rattle.std.specs.Fmt.{signed_decimal}
use Rattle.std.proofs.lemmas.Bool.{lt-leb, leb-false}
use Rattle.tower_types.specs.declared.scalar.Scalar.{Scalar}
use Rattle.tower_sexp.specs.Trees.{Tree, atom, list, Trees, no_trees, tree}
use Rattle.tower_syntax.specs.Spelling.{is_name}
use Rattle.tower_syntax.specs.Words.{IsWithin, IsLiteral}
use Rattle.tower_reader.specs.declared.table.Place.{Place}
use Rattle.tower_reader.specs.declared.table.Atoms.{Atoms}
use Rattle.tower_reader.specs.declared.table.Atoms.TheVariants as atoms
use Rattle.tower_reader.specs.declared.table.Row.{Row}
use Rattle.tower_reader.specs.Table.{atoms_at, place_at}
use Rattle.tower_reader.specs.Words.{scalar_named, truth_named, is_short, number_in, literal_in}
use Rattle.tower_reader.specs.Spelled.{row_for}
use Rattle.tower_reader.specs.Faults.{Offence, form_at, number_at, length_at, IsForName, Offends, no_atom, no_name, no_row, no_number, no_literal, long_name, within, OffendsIn, here, behind}
use Rattle.tower_reader.specs.Reading.{name_offences, if_none, atom_offences, at_row, offences, offences_in}
use Rattle.tower_reader.proofs.Numbers.{number_is, number_of}
use Rattle.tower_reader.proofs.Literals.{literal_is, literal_of}
use Rattle.tower_reader.proofs.Exact.{small}

abbrev pub Among : Offence → List Offence → Type 0
Among o [] = ⊥
Among o (x ∷ xs) = (x ≡ o) ⊎ Among o xs

among_left : (o : Offence) (xs ys : List Offence) → Among o xs → Among o (xs ++ ys)
among_left o [] ys h = absurd h
among_left o (x ∷ xs) ys h = elim h [ inl e ↦ inl e | inr k ↦ inr (among_left o xs ys k) ]

among_right : (o : Offence) (xs ys : List Offence) → Among o ys → Among o (xs ++ ys)
among_right o [] ys h = h
among_right o (x ∷ xs) ys h = inr (among_right o xs ys h)

among_either : (o : Offence) (xs ys : List Offence) → Among o (xs ++ ys) → Among o xs ⊎ Among o ys
among_either o [] ys h = inr h
among_either o (x ∷ xs) ys h = elim h [ inl e ↦ inl (inl e) | inr k ↦ elim (among_either o xs ys k) [ inl l ↦ inl (inr l) | inr r ↦ inr r ] ]

only : (o x : Offence) → Among o (x ∷ []) → x ≡ o
only o x h = elim h [ inl e ↦ e | inr k ↦ absurd k ]

-- the offences of an atom that is to be a name
for_name : (a : Atoms) (at : ℕ) (w : List ℕ) → IsForName a w → atom_offences a at w ≡ name_offences at w
for_name atoms.None at w h = absurd h
for_name atoms.Name at w h = refl
for_name atoms.Place at w h = refl
for_name atoms.Type at w h = ap (if_none (name_offences at w)) h
for_name atoms.Expr at w h = ap (if_none (name_offences at w)) h
for_name (atoms.Number low high) at w h = absurd h
for_name atoms.Literal at w h = absurd h

bad_name : (at : ℕ) (w : List ℕ) → is_name w ≡ false → name_offences at w ≡ form_at at ∷ []
bad_name at w h = ap (λ b. cond b (cond (is_short w) [] (length_at at ∷ [])) (form_at at ∷ [])) h

too_long : (at : ℕ) (w : List ℕ) → is_name w ≡ true → 64 < length w → name_offences at w ≡ length_at at ∷ []
too_long at w h l =
    let e : is_short w ≡ false = lt-leb (length w) 64 l in
    ap (λ b. cond b (cond (is_short w) [] (length_at at ∷ [])) (form_at at ∷ [])) h ∙ ap (λ b. cond b [] (length_at at ∷ [])) e

is_one : (o : Offence) (xs : List Offence) → xs ≡ o ∷ [] → Among o xs
is_one o xs e = subst (Among o) (sym e) (inl refl)

never_number : (low high : ℕ) (w : List ℕ) (o : Option ℕ) → number_in low high w ≡ o → ((n : ℕ) → IsWithin low high n → w ≢ decimal n) → o ≡ None
never_number low high w None e h = refl
never_number low high w (Some n) e h = let k = number_is low high n w e in absurd (h n k.0 k.1)

never_literal : (w : List ℕ) (o : Option ℤ) → literal_in w ≡ o → ((z : ℤ) → IsLiteral z → w ≢ signed_decimal z) → o ≡ None
never_literal w None e h = refl
never_literal w (Some z) e h = let k = literal_is z w e in absurd (h z k.0 k.1)

without_row : (p : Place) (at : ℕ) (ts : Trees) → row_for p ts ≡ None → offences p (list at ts) ≡ form_at at ∷ []
without_row p at no_trees h = refl
without_row p at (tree head ts) h = ap (at_row (form_at at ∷ []) (λ r. offences_in r 0 ts)) h

mutual
  pub listed : (p : Place) (t : Tree) (o : Offence) → Offends p t o → Among o (offences p t)
  listed p t o (no_atom q at w e) = is_one _ _ (ap (λ a. atom_offences a at w) e)
  listed p t o (no_name q at w h e) = is_one _ _ (for_name (atoms_at q) at w h ∙ bad_name at w e)
  listed p t o (no_row q at ts e) = is_one _ _ (without_row q at ts e)
  listed p t o (no_number q at w low high e h) = is_one _ _ (ap (λ a. atom_offences a at w) e ∙ ap (if_none (number_at at ∷ [])) (never_number low high w (number_in low high w) refl h))
  listed p t o (no_literal q at w e h) = is_one _ _ (ap (λ a. atom_offences a at w) e ∙ ap (if_none (number_at at ∷ [])) (never_literal w (literal_in w) refl h))
  listed p t o (long_name q at w h e l) = is_one _ _ (for_name (atoms_at q) at w h ∙ too_long at w e l)
  listed p t o (within q at head ts r x e h) = subst (Among x) (sym (ap (at_row (form_at at ∷ []) (λ r. offences_in r 0 ts)) e)) (listed_in r 0 ts x h)

  pub listed_in : (r : Row) (i : ℕ) (ts : Trees) (o : Offence) → OffendsIn r i ts o → Among o (offences_in r i ts)
  listed_in r i ts o (here q j t us x h) = among_left x (offences (place_at q j) t) (offences_in q (j + 1) us) (listed (place_at q j) t x h)
  listed_in r i ts o (behind q j t us x h) = among_right x (offences (place_at q j) t) (offences_in q (j + 1) us) (listed_in q (j + 1) us x h)

name_by : (p : Place) (at : ℕ) (w : List ℕ) (b c : Bool) (o : Offence) → IsForName (atoms_at p) w → is_name w ≡ b → is_short w ≡ c → Among o (cond b (cond c [] (length_at at ∷ [])) (form_at at ∷ [])) → Offends p (atom at w) o
name_by p at w false c o f e k h = subst (Offends p (atom at w)) (only o (form_at at) h) (no_name p at w f e)
name_by p at w true false o f e k h = subst (Offends p (atom at w)) (only o (length_at at) h) (long_name p at w f e (leb-false (length w) 64 k))
name_by p at w true true o f e k h = absurd h

name_offends : (p : Place) (at : ℕ) (w : List ℕ) (a : Atoms) (o : Offence) → atoms_at p ≡ a → IsForName a w → Among o (name_offences at w) → Offends p (atom at w) o
name_offends p at w a o e f h = name_by p at w (is_name w) (is_short w) o (subst (λ a. IsForName a w) (sym e) f) refl refl h

type_offends : (p : Place) (at : ℕ) (w : List ℕ) (s : Option Scalar) (o : Offence) → atoms_at p ≡ atoms.Type → scalar_named w ≡ s → Among o (if_none (name_offences at w) s) → Offends p (atom at w) o
type_offends p at w None o e f h = name_offends p at w atoms.Type o e f h
type_offends p at w (Some s) o e f h = absurd h

value_offends : (p : Place) (at : ℕ) (w : List ℕ) (b : Option Bool) (o : Offence) → atoms_at p ≡ atoms.Expr → truth_named w ≡ b → Among o (if_none (name_offences at w) b) → Offends p (atom at w) o
value_offends p at w None o e f h = name_offends p at w atoms.Expr o e f h
value_offends p at w (Some b) o e f h = absurd h

number_offends : (p : Place) (at : ℕ) (w : List ℕ) (low high : ℕ) (n : Option ℕ) (o : Offence) → atoms_at p ≡ atoms.Number low high → number_in low high w ≡ n → Among o (if_none (number_at at ∷ []) n) → Offends p (atom at w) o
number_offends p at w low high None o e f h = subst (Offends p (atom at w)) (only o (number_at at) h) (no_number p at w low high e (λ n k d. let s = number_of low high n w (small p low high n e k) k d in absurd cc))
number_offends p at w low high (Some n) o e f h = absurd h

literal_offends : (p : Place) (at : ℕ) (w : List ℕ) (z : Option ℤ) (o : Offence) → atoms_at p ≡ atoms.Literal → literal_in w ≡ z → Among o (if_none (number_at at ∷ []) z) → Offends p (atom at w) o
literal_offends p at w None o e f h = subst (Offends p (atom at w)) (only o (number_at at) h) (no_literal p at w e (λ z k d. let s = literal_of z w k d in absurd cc))
literal_offends p at w (Some z) o e f h = absurd h

atom_offends : (p : Place) (at : ℕ) (w : List ℕ) (a : Atoms) (o : Offence) → atoms_at p ≡ a → Among o (atom_offences a at w) → Offends p (atom at w) o
atom_offends p at w atoms.None o e h = subst (Offends p (atom at w)) (only o (form_at at) h) (no_atom p at w e)
atom_offends p at w atoms.Name o e h = name_offends p at w atoms.Name o e tt h
atom_offends p at w atoms.Place o e h = name_offends p at w atoms.Place o e tt h
atom_offends p at w atoms.Type o e h = type_offends p at w (scalar_named w) o e refl h
atom_offends p at w atoms.Expr o e h = value_offends p at w (truth_named w) o e refl h
atom_offends p at w (atoms.Number low high) o e h = number_offends p at w low high (number_in low high w) o e refl h
atom_offends p at w atoms.Literal o e h = literal_offends p at w (literal_in w) o e refl h

row_offends : (p : Place) (at : ℕ) (head : Tree) (ts : Trees) (r : Option Row) (o : Offence) → row_for p (tree head ts) ≡ r → ((r : Row) → Among o (offences_in r 0 ts) → OffendsIn r 0 ts o) → Among o (at_row (form_at at ∷ []) (λ r. offences_in r 0 ts) r) → Offends p (list at (tree head ts)) o
row_offends p at head ts None o e f h = subst (Offends p (list at (tree head ts))) (only o (form_at at) h) (no_row p at (tree head ts) e)
row_offends p at head ts (Some r) o e f h = within p at head ts r o e (f r h)

mutual
  pub offends : (p : Place) (t : Tree) (o : Offence) → Among o (offences p t) → Offends p t o
  offends p (atom at w) o h = atom_offends p at w (atoms_at p) o refl h
  offends p (list at no_trees) o h = subst (Offends p (list at no_trees)) (only o (form_at at) h) (no_row p at no_trees refl)
  offends p (list at (tree head ts)) o h = row_offends p at head ts (row_for p (tree head ts)) o refl (λ r k. offends_in r 0 ts o k) h

  pub offends_in : (r : Row) (i : ℕ) (ts : Trees) (o : Offence) → Among o (offences_in r i ts) → OffendsIn r i ts o
  offends_in r i no_trees o h = absurd h
  offends_in r i (tree t ts) o h = elim (among_either o (offences (place_at r i) t) (offences_in r (i + 1) ts) h) [ inl k ↦ here r i t ts o (offends (place_at r i) t o k) | inr k ↦ behind r i t ts o (offends_in r (i + 1) ts o k) ]
