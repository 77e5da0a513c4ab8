-- The first wrong mark of marks one after another.
use Rattle.std.proofs.Common.{◌≡◌, ℕ, List, [], ◌∷◌, ◌++◌, refl, ap, sym, ◌∙◌, Option, Some, None}
use Rattle.std.specs.List.{fold}
use Rattle.tower_sexp.specs.declared.fault.SexpFault.{SexpFault}
use Rattle.tower_sexp.specs.Marks.{Mark}
use Rattle.tower_sexp.specs.Faults.{unclosed_behind}
use Rattle.tower_sexp.specs.FirstFault.{wrong_mark, or_else, first_wrong}
use Rattle.tower_sexp.proofs.Gaps.{atom_marks}

-- the lists that are unclosed behind marks, where these lists are before them
abbrev pub unclosed_from : List ℕ → List Mark → List ℕ
unclosed_from lists ms = fold unclosed_behind lists ms

pub or_assoc : (a b c : Option SexpFault) → or_else (or_else a b) c ≡ or_else a (or_else b c)
or_assoc None b c = refl
or_assoc (Some f) b c = refl

pub first_wrong-append : (lists : List ℕ) (xs ys : List Mark) → first_wrong lists (xs ++ ys) ≡ or_else (first_wrong lists xs) (first_wrong (unclosed_from lists xs) ys)
first_wrong-append lists [] ys = refl
first_wrong-append lists (x ∷ xs) ys =
    ap (or_else (wrong_mark lists x)) (first_wrong-append (unclosed_behind lists x) xs ys)
    ∙ sym (or_assoc (wrong_mark lists x) (first_wrong (unclosed_behind lists x) xs) (first_wrong (unclosed_from lists (x ∷ xs)) ys))

-- an atom is never wrong, and leaves the lists as they are
pub atom_sound : (lists : List ℕ) (at : ℕ) (atom : List ℕ) → first_wrong lists (atom_marks at atom) ≡ None
atom_sound lists at [] = refl
atom_sound lists at (b ∷ atom) = refl

pub atom_lists : (lists : List ℕ) (at : ℕ) (atom : List ℕ) → unclosed_from lists (atom_marks at atom) ≡ lists
atom_lists lists at [] = refl
atom_lists lists at (b ∷ atom) = refl
