-- A byte that is none of an atom ends the atom before it.
use Rattle.std.proofs.Common.{◌≡◌, ◌≢◌, ℕ, ◌+◌, ◌≤◌, length, List, [], ◌∷◌, ◌++◌, Bool, true, false, cond, eqb, refl, ap, ◌∙◌, arith, append-nil}
use Rattle.tower_sexp.specs.declared.byte.Class.{Class}
use Rattle.tower_sexp.specs.declared.byte.Class.TheVariants as class
use Rattle.tower_sexp.specs.declared.token.Token.TheVariants as token
use Rattle.tower_sexp.specs.Marks.{Mark, good, stray, marks, marked, joined, alone, class_in, is_comment}
use Rattle.tower_sexp.specs.Lexing.{State}
use Rattle.tower_sexp.specs.Standing.{AllAtom}
use Rattle.std.proofs.lemmas.Bool.{eqb-true, eqb-false}
use Rattle.tower_sexp.proofs.Order.{Ascends, marks_ascend}

-- the marks of an atom's bytes, if there are any
abbrev pub atom_marks : ℕ → List ℕ → List Mark
atom_marks at [] = []
atom_marks at (b ∷ bs) = good (token.Atom at (b ∷ bs)) ∷ []

-- the mark of a byte that is none of an atom, if it makes one
abbrev pub own_marks : Class → ℕ → List Mark
own_marks class.Left at = good (token.Left at) ∷ []
own_marks class.Right at = good (token.Right at) ∷ []
own_marks class.Stray at = stray at ∷ []
own_marks class.Blank at = []
own_marks class.Comment at = []
own_marks class.Atom at = []

-- no byte of an atom right before an offset joins the marks from there on
abbrev pub IsCut : ℕ → List Mark → Type 0
IsCut end ms = (at b : ℕ) → at + 1 ≡ end → joined at b ms ≡ alone at b ∷ ms

apart_atom : (at b next : ℕ) (text : List ℕ) (ms : List Mark) → at + 2 ≤ next → (e : Bool) → eqb next (at + 1) ≡ e → cond e (good (token.Atom at (b ∷ text)) ∷ ms) (alone at b ∷ good (token.Atom next text) ∷ ms) ≡ alone at b ∷ good (token.Atom next text) ∷ ms
apart_atom at b next text ms h true e = absurd (omega (arith, eqb-true next (at + 1) e))
apart_atom at b next text ms h false e = refl

joined_apart : (at b : ℕ) (ms : List Mark) → Ascends (at + 2) ms → joined at b ms ≡ alone at b ∷ ms
joined_apart at b [] t = refl
joined_apart at b (good (token.Left x) ∷ ms) t = refl
joined_apart at b (good (token.Right x) ∷ ms) t = refl
joined_apart at b (good (token.Atom next text) ∷ ms) t = apart_atom at b next text ms t.0 (eqb next (at + 1)) refl
joined_apart at b (stray x ∷ ms) t = refl

blank_cut : (end : ℕ) (ms : List Mark) → Ascends (end + 1) ms → IsCut end ms
blank_cut end ms t = λ at b e. joined_apart at b ms (let e' : end + 1 ≡ at + 2 = omega arith in rw e' at t)

-- the marks of bytes that begin with one that is none of an atom
pub gap_cut : (k : Class) (end x : ℕ) (ms : List Mark) → k ≢ class.Atom → Ascends (end + 1) ms → IsCut end (marked k end x ms)
gap_cut class.Left end x ms n t = λ at b e. refl
gap_cut class.Right end x ms n t = λ at b e. refl
gap_cut class.Stray end x ms n t = λ at b e. refl
gap_cut class.Atom end x ms n t = absurd (n refl)
gap_cut class.Blank end x ms n t = blank_cut end ms t
gap_cut class.Comment end x ms n t = blank_cut end ms t

gap_marks : (k : Class) (at x : ℕ) (ms : List Mark) → k ≢ class.Atom → marked k at x ms ≡ own_marks k at ++ ms
gap_marks class.Left at x ms n = refl
gap_marks class.Right at x ms n = refl
gap_marks class.Stray at x ms n = refl
gap_marks class.Atom at x ms n = absurd (n refl)
gap_marks class.Blank at x ms n = refl
gap_marks class.Comment at x ms n = refl

joined_next : (at b c : ℕ) (text : List ℕ) (ms : List Mark) (e : Bool) → eqb (at + 1) (at + 1) ≡ e → cond e (good (token.Atom at (b ∷ text)) ∷ ms) (alone at b ∷ good (token.Atom (at + 1) text) ∷ ms) ≡ good (token.Atom at (b ∷ text)) ∷ ms
joined_next at b c text ms true e = refl
joined_next at b c text ms false e = absurd (eqb-false (at + 1) (at + 1) e refl)

abbrev pub step : Bool → ℕ → ℕ → List ℕ → Class → List Mark
step comment at b bs k = marked k at b (marks (is_comment k) (at + 1) bs)

-- the marks of an atom's bytes, before bytes from which they are cut
pub atom_then : (atom rest : List ℕ) (start end : ℕ) → AllAtom atom → start + length atom ≡ end → IsCut end (marks false end rest) → marks false start (atom ++ rest) ≡ atom_marks start atom ++ marks false end rest
atom_then [] rest start end a e cut = let s : start ≡ end = omega arith in ap (λ n. marks false n rest) s
atom_then (b ∷ []) rest start end a e cut =
    let s : start + 1 ≡ end = omega arith in
    ap (step false start b rest) a.0
    ∙ ap (λ n. joined start b (marks false n rest)) s
    ∙ cut start b s
atom_then (b ∷ c ∷ atom) rest start end a e cut =
    ap (step false start b (c ∷ atom ++ rest)) a.0
    ∙ ap (joined start b) (atom_then (c ∷ atom) rest (start + 1) end a.1 (omega arith) cut)
    ∙ joined_next start b c (c ∷ atom) (marks false end rest) (eqb (start + 1) (start + 1)) refl

no_bytes_cut : (end : ℕ) → IsCut end []
no_bytes_cut end = λ at b e. refl

-- an atom that the text's end makes whole
pub atom_last : (atom : List ℕ) (start end : ℕ) → AllAtom atom → start + length atom ≡ end → marks false start (atom ++ []) ≡ atom_marks start atom
atom_last atom start end a e = atom_then atom [] start end a e (no_bytes_cut end) ∙ append-nil (atom_marks start atom)

-- what a lexer keeps, with a byte that is none of an atom
pub gap : (s : State) (x : ℕ) (more : List ℕ) (k : Class) → class_in s.comment x ≡ k → k ≢ class.Atom → AllAtom s.atom → (s.comment ≡ true → s.atom ≡ []) → s.start + length s.atom ≡ s.taken → marks s.comment s.start (s.atom ++ x ∷ more) ≡ atom_marks s.start s.atom ++ (own_marks k s.taken ++ marks (is_comment k) (s.taken + 1) more)
gap s x more k h n a in_comment e = by_comment s.comment s.atom h a in_comment e
  where
    behind : List Mark
    behind = marks (is_comment k) (s.taken + 1) more

    own : marked k s.taken x behind ≡ own_marks k s.taken ++ behind
    own = gap_marks k s.taken x behind n

    by_comment : (comment : Bool) (atom : List ℕ) → class_in comment x ≡ k → AllAtom atom → (comment ≡ true → atom ≡ []) → s.start + length atom ≡ s.taken → marks comment s.start (atom ++ x ∷ more) ≡ atom_marks s.start atom ++ (own_marks k s.taken ++ behind)
    by_comment true [] h a in_comment e =
        let t : s.start ≡ s.taken = omega arith in
        ap (step true s.start x more) h ∙ ap (λ n. marked k n x (marks (is_comment k) (n + 1) more)) t ∙ own
    by_comment true (b ∷ atom) h a in_comment e = let f = in_comment refl in cc
    by_comment false atom h a in_comment e =
        let first : marks false s.taken (x ∷ more) ≡ marked k s.taken x behind = ap (step false s.taken x more) h in
        let cut : IsCut s.taken (marks false s.taken (x ∷ more)) = rw first (gap_cut k s.taken x behind n (marks_ascend (is_comment k) (s.taken + 1) more)) in
        atom_then atom (x ∷ more) s.start s.taken a e cut ∙ ap (λ ms. atom_marks s.start atom ++ ms) (first ∙ own)
