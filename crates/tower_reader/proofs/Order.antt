-- Offences are listed in the order of their offsets.
use Rattle.std.proofs.Common.{◌≡◌, ◌⊎◌, inl, inr, ◌<◌, ◌≤◌, ℕ, ◌+◌, List, [], ◌∷◌, ◌++◌, Bool, true, false, cond, Option, Some, None, refl, ap, subst, arith}
use Rattle.tower_sexp.specs.declared.token.Token.{Token}
use Rattle.tower_sexp.specs.declared.token.Token.TheVariants as token
use Rattle.tower_sexp.specs.Marks.{Mark, good, stray, tokens, marks_of, tokens_of}
use Rattle.tower_sexp.specs.Trees.{atom, list, Trees, tree}
use Rattle.tower_sexp.specs.Trees.{Spells as TreesSpell, nothing, an_atom, a_list}
use Rattle.tower_sexp.proofs.Order.{Ascends, marks_ascend}
use Rattle.tower_syntax.specs.Spelling.{is_name}
use Rattle.tower_reader.specs.declared.table.Place.{Place}
use Rattle.tower_reader.specs.declared.table.Atoms.{Atoms}
use Rattle.tower_reader.specs.declared.table.Atoms.TheVariants as atoms
use Rattle.tower_reader.specs.declared.table.Row.{Row}
use Rattle.tower_reader.specs.Table.{atoms_at, place_at}
use Rattle.tower_reader.specs.Words.{scalar_named, truth_named, is_short, number_in, literal_in}
use Rattle.tower_reader.specs.Spelled.{row_for}
use Rattle.tower_reader.specs.Faults.{Offence, form_at, number_at, length_at}
use Rattle.tower_reader.specs.Reading.{name_offences, if_none, atom_offences, at_row, offences, offences_in, first_form, first_number, first_length}
use Rattle.tower_reader.proofs.Offences.{Among}

abbrev pub place_of : Offence → ℕ
place_of (form_at at) = at
place_of (number_at at) = at
place_of (length_at at) = at

-- each offence is behind the one before it, none before `from`, and all before `end`
abbrev pub AscendTo : ℕ → ℕ → List Offence → Type 0
AscendTo from end [] = from ≤ end
AscendTo from end (o ∷ os) = (from ≤ place_of o) × AscendTo (place_of o + 1) end os

-- the same of tokens
abbrev TokensTo : ℕ → ℕ → List Token → Type 0
TokensTo from end [] = from ≤ end
TokensTo from end (token.Left at ∷ us) = (from ≤ at) × TokensTo (at + 1) end us
TokensTo from end (token.Right at ∷ us) = (from ≤ at) × TokensTo (at + 1) end us
TokensTo from end (token.Atom at text ∷ us) = (from ≤ at) × TokensTo (at + 1) end us

from_earlier : (a b end : ℕ) (os : List Offence) → a ≤ b → AscendTo b end os → AscendTo a end os
from_earlier a b end [] h t = omega arith
from_earlier a b end (o ∷ os) h t = (omega (arith, t.0), t.1)

to_later : (a b end : ℕ) (os : List Offence) → b ≤ end → AscendTo a b os → AscendTo a end os
to_later a b end [] h t = omega arith
to_later a b end (o ∷ os) h t = (t.0, to_later (place_of o + 1) b end os h t.1)

both : (a b c : ℕ) (xs ys : List Offence) → AscendTo a b xs → AscendTo b c ys → AscendTo a c (xs ++ ys)
both a b c [] ys s t = from_earlier a b c ys s t
both a b c (x ∷ xs) ys s t = (s.0, both (place_of x + 1) b c xs ys s.1 t)

tokens_order : (a b : ℕ) (us : List Token) → TokensTo a b us → a ≤ b
tokens_order a b [] t = t
tokens_order a b (token.Left at ∷ us) t = let k = tokens_order (at + 1) b us t.1 in omega (arith, t.0, k)
tokens_order a b (token.Right at ∷ us) t = let k = tokens_order (at + 1) b us t.1 in omega (arith, t.0, k)
tokens_order a b (token.Atom at text ∷ us) t = let k = tokens_order (at + 1) b us t.1 in omega (arith, t.0, k)

abbrev Parted : ℕ → ℕ → List Token → List Token → Type 0
Parted a c us vs = (b : ℕ) × TokensTo a b us × TokensTo b c vs

parted : (a c : ℕ) (us vs : List Token) → TokensTo a c (us ++ vs) → Parted a c us vs
parted a c [] vs t = (a, omega arith, t)
parted a c (token.Left at ∷ us) vs t = let k = parted (at + 1) c us vs t.1 in (k.0, (t.0, k.1), k.2)
parted a c (token.Right at ∷ us) vs t = let k = parted (at + 1) c us vs t.1 in (k.0, (t.0, k.1), k.2)
parted a c (token.Atom at text ∷ us) vs t = let k = parted (at + 1) c us vs t.1 in (k.0, (t.0, k.1), k.2)

one : (a at : ℕ) (o : Offence) → a ≤ at → place_of o ≡ at → AscendTo a (at + 1) (o ∷ [])
one a at o h e = (omega (arith, h, e), omega (arith, e))

none : (a at : ℕ) → a ≤ at → AscendTo a (at + 1) []
none a at h = omega arith

name_by : (a at : ℕ) (b c : Bool) → a ≤ at → AscendTo a (at + 1) (cond b (cond c [] (length_at at ∷ [])) (form_at at ∷ []))
name_by a at true true h = none a at h
name_by a at true false h = one a at (length_at at) h refl
name_by a at false c h = one a at (form_at at) h refl

unless : {A : Type 0} (a at : ℕ) (os : List Offence) (o : Option A) → a ≤ at → AscendTo a (at + 1) os → AscendTo a (at + 1) (if_none os o)
unless a at os None h t = t
unless a at os (Some x) h t = none a at h

atom_order : (x : Atoms) (a at : ℕ) (w : List ℕ) → a ≤ at → AscendTo a (at + 1) (atom_offences x at w)
atom_order atoms.None a at w h = one a at (form_at at) h refl
atom_order atoms.Name a at w h = name_by a at (is_name w) (is_short w) h
atom_order atoms.Place a at w h = name_by a at (is_name w) (is_short w) h
atom_order atoms.Type a at w h = unless a at (name_offences at w) (scalar_named w) h (name_by a at (is_name w) (is_short w) h)
atom_order atoms.Expr a at w h = unless a at (name_offences at w) (truth_named w) h (name_by a at (is_name w) (is_short w) h)
atom_order (atoms.Number low high) a at w h = unless a at (number_at at ∷ []) (number_in low high w) h (one a at (number_at at) h refl)
atom_order atoms.Literal a at w h = unless a at (number_at at ∷ []) (literal_in w) h (one a at (number_at at) h refl)

-- the offences of a list, where those of its children behind the head are in order
abbrev ListOrder : Place → ℕ → ℕ → ℕ → Trees → Type 0
ListOrder p at a b items = AscendTo a b (offences p (list at items))

row_order : (p : Place) (at b : ℕ) (ts : Trees) (o : Option Row) → at + 1 ≤ b → ((r : Row) → AscendTo (at + 1) b (offences_in r 0 ts)) → AscendTo at b (at_row (form_at at ∷ []) (λ r. offences_in r 0 ts) o)
row_order p at b ts None l h = (omega arith, l)
row_order p at b ts (Some r) l h = from_earlier at (at + 1) b (offences_in r 0 ts) (omega arith) (h r)

-- of trees that tokens spell, offences are in the order of the tokens
mutual
  pub in_order : {ts : Trees} {us : List Token} → TreesSpell ts us → (r : Row) (i a b : ℕ) → TokensTo a b us → AscendTo a b (offences_in r i ts)
  in_order nothing r i a b t = t
  in_order (an_atom {at = at} {text = w} {ts = ts} {us = us} s) r i a b t = both a (at + 1) b (atom_offences (atoms_at (place_at r i)) at w) (offences_in r (i + 1) ts) (atom_order (atoms_at (place_at r i)) a at w t.0) (in_order s r (i + 1) (at + 1) b t.1)
  in_order (a_list {at = at} {items = items} {ts = ts} {vs = vs} {us = us} end inner s) r i a b t =
      let k : Parted (at + 1) b vs (token.Right end ∷ us) = parted (at + 1) b vs (token.Right end ∷ us) t.1 in
      let l : AscendTo at k.0 (offences (place_at r i) (list at items)) = list_order inner (place_at r i) at k.0 k.1 in
      both a (end + 1) b (offences (place_at r i) (list at items)) (offences_in r (i + 1) ts) (from_earlier a at (end + 1) _ t.0 (to_later at k.0 (end + 1) _ (omega (arith, k.2.0)) l)) (in_order s r (i + 1) (end + 1) b k.2.1)

  list_order : {items : Trees} {vs : List Token} → TreesSpell items vs → (p : Place) (at b : ℕ) → TokensTo (at + 1) b vs → AscendTo at b (offences p (list at items))
  list_order nothing p at b t = (omega arith, t)
  list_order (an_atom {at = x} {text = w} {ts = ts} {us = us} s) p at b t =
      let l : at + 1 ≤ b = omega (arith, t.0, tokens_order (x + 1) b us t.1) in
      row_order p at b ts (row_for p (tree (atom x w) ts)) l (λ r. from_earlier (at + 1) (x + 1) b (offences_in r 0 ts) (omega (arith, t.0)) (in_order s r 0 (x + 1) b t.1))
  list_order (a_list {at = x} {items = items} {ts = ts} {vs = vs} {us = us} end inner s) p at b t =
      let k : Parted (x + 1) b vs (token.Right end ∷ us) = parted (x + 1) b vs (token.Right end ∷ us) t.1 in
      (omega arith, omega (arith, t.0, tokens_order (x + 1) k.0 vs k.1, k.2.0, tokens_order (end + 1) b us k.2.1))

-- the tokens of a text are in order
marks_tokens : (from : ℕ) (ms : List Mark) → Ascends from ms → (b : ℕ) × TokensTo from b (tokens ms)
marks_tokens from [] t = (from, omega arith)
marks_tokens from (good (token.Left at) ∷ ms) t = let k = marks_tokens (at + 1) ms t.1 in (k.0, (t.0, k.1))
marks_tokens from (good (token.Right at) ∷ ms) t = let k = marks_tokens (at + 1) ms t.1 in (k.0, (t.0, k.1))
marks_tokens from (good (token.Atom at text) ∷ ms) t = let k = marks_tokens (at + 1) ms t.1 in (k.0, (t.0, k.1))
marks_tokens from (stray at ∷ ms) t = let k = marks_tokens (at + 1) ms t.1 in (k.0, tokens_earlier from (at + 1) k.0 (tokens ms) (omega (arith, t.0)) k.1)
  where
    tokens_earlier : (a b c : ℕ) (us : List Token) → a ≤ b → TokensTo b c us → TokensTo a c us
    tokens_earlier a b c [] h t = omega arith
    tokens_earlier a b c (token.Left at ∷ us) h t = (omega (arith, t.0), t.1)
    tokens_earlier a b c (token.Right at ∷ us) h t = (omega (arith, t.0), t.1)
    tokens_earlier a b c (token.Atom at text ∷ us) h t = (omega (arith, t.0), t.1)

-- the offences of the trees of a text are in order
pub text_order : (bs : List ℕ) (ts : Trees) (r : Row) → TreesSpell ts (tokens_of bs) → (b : ℕ) × AscendTo 0 b (offences_in r 0 ts)
text_order bs ts r s = let k = marks_tokens 0 (marks_of bs) (marks_ascend false 0 bs) in (k.0, in_order s r 0 0 k.0 k.1)

-- all of a list are at its beginning or behind it
behind_start : (a b : ℕ) (os : List Offence) (o : Offence) → AscendTo a b os → Among o os → a ≤ place_of o
behind_start a b [] o t h = absurd h
behind_start a b (x ∷ os) o t h = elim h [ inl e ↦ subst (λ o. a ≤ place_of o) e t.0 | inr k ↦ (let l = behind_start (place_of x + 1) b os o t.1 k in omega (arith, t.0, l)) ]

abbrev pub Later : ℕ → ℕ → Type 0
Later at x = (x ≡ at) ⊎ (at < x)

later : (at b x : ℕ) (os : List Offence) (o : Offence) → place_of o ≡ x → AscendTo (at + 1) b os → Among o os → Later at x
later at b x os o e t h = inr (omega (arith, e, behind_start (at + 1) b os o t h))

-- the first of each kind is the least
pub form_least : (a b at x : ℕ) (os : List Offence) → AscendTo a b os → first_form os ≡ Some at → Among (form_at x) os → Later at x
form_least a b at x [] t f h = absurd h
form_least a b at x (form_at y ∷ os) t f h = let e : y ≡ at = cc in elim h [ inl k ↦ inl (let j : y ≡ x = cc in cc) | inr k ↦ later at b x os (form_at x) refl (subst (λ y. AscendTo (y + 1) b os) e t.1) k ]
form_least a b at x (number_at y ∷ os) t f h = elim h [ inl k ↦ cc | inr k ↦ form_least (y + 1) b at x os t.1 f k ]
form_least a b at x (length_at y ∷ os) t f h = elim h [ inl k ↦ cc | inr k ↦ form_least (y + 1) b at x os t.1 f k ]

pub number_least : (a b at x : ℕ) (os : List Offence) → AscendTo a b os → first_number os ≡ Some at → Among (number_at x) os → Later at x
number_least a b at x [] t f h = absurd h
number_least a b at x (number_at y ∷ os) t f h = let e : y ≡ at = cc in elim h [ inl k ↦ inl (let j : y ≡ x = cc in cc) | inr k ↦ later at b x os (number_at x) refl (subst (λ y. AscendTo (y + 1) b os) e t.1) k ]
number_least a b at x (form_at y ∷ os) t f h = elim h [ inl k ↦ cc | inr k ↦ number_least (y + 1) b at x os t.1 f k ]
number_least a b at x (length_at y ∷ os) t f h = elim h [ inl k ↦ cc | inr k ↦ number_least (y + 1) b at x os t.1 f k ]

pub length_least : (a b at x : ℕ) (os : List Offence) → AscendTo a b os → first_length os ≡ Some at → Among (length_at x) os → Later at x
length_least a b at x [] t f h = absurd h
length_least a b at x (length_at y ∷ os) t f h = let e : y ≡ at = cc in elim h [ inl k ↦ inl (let j : y ≡ x = cc in cc) | inr k ↦ later at b x os (length_at x) refl (subst (λ y. AscendTo (y + 1) b os) e t.1) k ]
length_least a b at x (form_at y ∷ os) t f h = elim h [ inl k ↦ cc | inr k ↦ length_least (y + 1) b at x os t.1 f k ]
length_least a b at x (number_at y ∷ os) t f h = elim h [ inl k ↦ cc | inr k ↦ length_least (y + 1) b at x os t.1 f k ]

-- where there is none, and where there is one
pub no_form : (os : List Offence) (x : ℕ) → first_form os ≡ None → Among (form_at x) os → ⊥
no_form [] x f h = h
no_form (form_at y ∷ os) x f h = cc
no_form (number_at y ∷ os) x f h = elim h [ inl k ↦ cc | inr k ↦ no_form os x f k ]
no_form (length_at y ∷ os) x f h = elim h [ inl k ↦ cc | inr k ↦ no_form os x f k ]

pub no_number : (os : List Offence) (x : ℕ) → first_number os ≡ None → Among (number_at x) os → ⊥
no_number [] x f h = h
no_number (number_at y ∷ os) x f h = cc
no_number (form_at y ∷ os) x f h = elim h [ inl k ↦ cc | inr k ↦ no_number os x f k ]
no_number (length_at y ∷ os) x f h = elim h [ inl k ↦ cc | inr k ↦ no_number os x f k ]

pub no_length : (os : List Offence) (x : ℕ) → first_length os ≡ None → Among (length_at x) os → ⊥
no_length [] x f h = h
no_length (length_at y ∷ os) x f h = cc
no_length (form_at y ∷ os) x f h = elim h [ inl k ↦ cc | inr k ↦ no_length os x f k ]
no_length (number_at y ∷ os) x f h = elim h [ inl k ↦ cc | inr k ↦ no_length os x f k ]

pub form_there : (os : List Offence) (at : ℕ) → first_form os ≡ Some at → Among (form_at at) os
form_there [] at f = cc
form_there (form_at y ∷ os) at f = inl (let e : y ≡ at = cc in ap form_at e)
form_there (number_at y ∷ os) at f = inr (form_there os at f)
form_there (length_at y ∷ os) at f = inr (form_there os at f)

pub number_there : (os : List Offence) (at : ℕ) → first_number os ≡ Some at → Among (number_at at) os
number_there [] at f = cc
number_there (number_at y ∷ os) at f = inl (let e : y ≡ at = cc in ap number_at e)
number_there (form_at y ∷ os) at f = inr (number_there os at f)
number_there (length_at y ∷ os) at f = inr (number_there os at f)

pub length_there : (os : List Offence) (at : ℕ) → first_length os ≡ Some at → Among (length_at at) os
length_there [] at f = cc
length_there (length_at y ∷ os) at f = inl (let e : y ≡ at = cc in ap length_at e)
length_there (form_at y ∷ os) at f = inr (length_there os at f)
length_there (number_at y ∷ os) at f = inr (length_there os at f)

-- no offence of any kind is none at all
pub none_at_all : (os : List Offence) → first_form os ≡ None → first_number os ≡ None → first_length os ≡ None → os ≡ []
none_at_all [] f n l = refl
none_at_all (form_at y ∷ os) f n l = cc
none_at_all (number_at y ∷ os) f n l = cc
none_at_all (length_at y ∷ os) f n l = cc
