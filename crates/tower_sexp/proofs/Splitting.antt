-- A text splits in one way, and the marks of its pieces are those that `marks_of` computes.
use Rattle.std.proofs.Common.{◌≡◌, ◌≢◌, ◌⊎◌, ℕ, zero, suc, ◌+◌, ◌≤◌, length, List, [], ◌∷◌, ◌++◌, Bool, true, false, cond, eqb, refl, ap, sym, ◌∙◌, arith, subst, inl, inr}
use Rattle.std.proofs.lemmas.Bool.{eqb-true, eqb-false, ne_eqb}
use Rattle.std.proofs.lemmas.List.{length-append}
use Rattle.tower_sexp.specs.declared.byte.Class.{Class}
use Rattle.tower_sexp.specs.declared.byte.Class.TheVariants as class
use Rattle.tower_sexp.specs.declared.token.Token.TheVariants as token
use Rattle.tower_sexp.specs.Marks.{Mark, good, stray, marks, marks_of, marked, class_of, class_behind, is_comment}
use Rattle.tower_sexp.specs.Pieces.{IsOfAtom, AllBytes, BeginsNot, IsRun, IsInComment, Splits, at_end, a_blank, a_comment, a_left, a_right, an_atom, a_stray}
use Rattle.tower_sexp.specs.Standing.{AllAtom}
use Rattle.tower_sexp.proofs.Order.{marks_ascend}
use Rattle.tower_sexp.proofs.Gaps.{atom_marks, IsCut, gap_cut, atom_then, step}
use Rattle.tower_sexp.proofs.Classes.{blank_is, left_is, right_is, comment_is, atom_is, is_atom, is_stray, is_blank, stray_is}

-- a byte outside a comment, by its class
by_class : (at b : ℕ) (bs : List ℕ) (k : Class) → class_of b ≡ k → marks false at (b ∷ bs) ≡ step false at b bs k
by_class at b bs k h = ap (step false at b bs) h

-- an atom's bytes
all_atom : (text : List ℕ) → AllBytes IsOfAtom text → AllAtom text
all_atom [] h = tt
all_atom (b ∷ text) h = (is_atom b h.0, all_atom text h.1)

atom_cut : (end : ℕ) (bs : List ℕ) → BeginsNot IsOfAtom bs → IsCut end (marks false end bs)
atom_cut end [] h = λ at b e. refl
atom_cut end (b ∷ bs) h = gap_cut (class_of b) end b (marks (is_comment (class_of b)) (end + 1) bs) (λ e. h (atom_is b e)) (marks_ascend (is_comment (class_of b)) (end + 1) bs)

atom_read : (at : ℕ) (text bs : List ℕ) → IsRun IsOfAtom text bs → marks false at (text ++ bs) ≡ atom_marks at text ++ marks false (at + length text) bs
atom_read at text bs r = atom_then text bs at (at + length text) (all_atom text r.all) refl (atom_cut (at + length text) bs r.ends)

-- a comment's bytes
in_comment : (b : ℕ) → IsInComment b → class_behind b ≡ class.Comment
in_comment b h = ap (λ e. cond e class.Blank class.Comment) (ne_eqb b 10 h)

behind_comment : (at : ℕ) (bs : List ℕ) → BeginsNot IsInComment bs → marks true at bs ≡ marks false at bs
behind_comment at [] h = refl
behind_comment at (b ∷ bs) h = by_test (eqb b 10) refl
  where
    by_test : (e : Bool) → eqb b 10 ≡ e → marks true at (b ∷ bs) ≡ marks false at (b ∷ bs)
    by_test true e = ap (λ x. marks true at (x ∷ bs)) (eqb-true b 10 e) ∙ ap (λ x. marks false at (x ∷ bs)) (sym (eqb-true b 10 e))
    by_test false e = absurd (h (eqb-false b 10 e))

comment_read : (at : ℕ) (text bs : List ℕ) (end : ℕ) → at + length text ≡ end → AllBytes IsInComment text → BeginsNot IsInComment bs → marks true at (text ++ bs) ≡ marks false end bs
comment_read at [] bs end e a n = let same : at ≡ end = omega arith in behind_comment at bs n ∙ ap (λ at. marks false at bs) same
comment_read at (b ∷ text) bs end e a n = ap (λ k. marked k at b (marks (is_comment k) (at + 1) (text ++ bs))) (in_comment b a.0) ∙ comment_read (at + 1) text bs end (omega arith) a.1 n

-- the marks of pieces are the marks of the text
pub splits_are : {at : ℕ} {bs : List ℕ} {ms : List Mark} → Splits at bs ms → ms ≡ marks false at bs
splits_are at_end = refl
splits_are {at = at} (a_blank {b = b} {bs = bs} h s) = splits_are s ∙ sym (by_class at b bs class.Blank (is_blank b h))
splits_are {at = at} (a_comment {bs = bs} text r s) = splits_are s ∙ sym (comment_read (at + 1) text bs (at + 1 + length text) refl r.all r.ends)
splits_are {at = at} (a_left s) = ap (λ ms. good (token.Left at) ∷ ms) (splits_are s)
splits_are {at = at} (a_right s) = ap (λ ms. good (token.Right at) ∷ ms) (splits_are s)
splits_are {at = at} (an_atom {b = b} {text = text} {bs = bs} r s) = ap (λ ms. good (token.Atom at (b ∷ text)) ∷ ms) (splits_are s) ∙ sym (atom_read at (b ∷ text) bs r)
splits_are {at = at} (a_stray {b = b} {bs = bs} h s) = ap (λ ms. stray at ∷ ms) (splits_are s) ∙ sym (by_class at b bs class.Stray (is_stray b h))

-- The longest run of such bytes that a text begins with.
record Front (P : ℕ → Type 0) (bs : List ℕ) : Type 0 where
  run : List ℕ
  rest : List ℕ
  parts : bs ≡ run ++ rest
  is_run : IsRun P run rest

longer : (P : ℕ → Type 0) (b : ℕ) (bs : List ℕ) → P b → Front P bs → Front P (b ∷ bs)
longer P b bs h f = record { run = b ∷ f.run; rest = f.rest; parts = ap (λ bs. b ∷ bs) f.parts; is_run = record { all = (h, f.is_run.all); ends = f.is_run.ends } }

front : (P : ℕ → Type 0) → ((b : ℕ) → P b ⊎ (P b → ⊥)) → (bs : List ℕ) → Front P bs
front P tells [] = record { run = []; rest = []; parts = refl; is_run = record { all = tt; ends = tt } }
front P tells (b ∷ bs) = by_test (tells b) (front P tells bs)
  where
    by_test : P b ⊎ (P b → ⊥) → Front P bs → Front P (b ∷ bs)
    by_test (inl h) f = longer P b bs h f
    by_test (inr n) f = record { run = []; rest = b ∷ bs; parts = refl; is_run = record { all = tt; ends = n } }

tells_comment : (b : ℕ) → IsInComment b ⊎ (IsInComment b → ⊥)
tells_comment b = by_test (eqb b 10) refl
  where
    by_test : (e : Bool) → eqb b 10 ≡ e → IsInComment b ⊎ (IsInComment b → ⊥)
    by_test true e = inr (λ n. n (eqb-true b 10 e))
    by_test false e = inl (eqb-false b 10 e)

tells_atom : (b : ℕ) → IsOfAtom b ⊎ (IsOfAtom b → ⊥)
tells_atom b = by_test (class_of b) refl
  where
    other : (k : Class) → class_of b ≡ k → k ≢ class.Atom → IsOfAtom b ⊎ (IsOfAtom b → ⊥)
    other k e n = inr (λ a. n (sym e ∙ is_atom b a))

    by_test : (k : Class) → class_of b ≡ k → IsOfAtom b ⊎ (IsOfAtom b → ⊥)
    by_test class.Atom e = inl (atom_is b e)
    by_test class.Blank e = other class.Blank e (λ e. cc)
    by_test class.Left e = other class.Left e (λ e. cc)
    by_test class.Right e = other class.Right e (λ e. cc)
    by_test class.Comment e = other class.Comment e (λ e. cc)
    by_test class.Stray e = other class.Stray e (λ e. cc)

-- the pieces of a text with at most `n` bytes
abbrev Whole : ℕ → List ℕ → Type 0
Whole at bs = Splits at bs (marks false at bs)

abbrev Below : ℕ → Type 0
Below n = (at : ℕ) (bs : List ℕ) → length bs ≤ n → Whole at bs

comment_whole : (n at : ℕ) (bs : List ℕ) → length bs ≤ n → Below n → Whole at (0x3B ∷ bs)
comment_whole n at bs l below =
    let f = front IsInComment tells_comment bs in
    let end : ℕ = at + 1 + length f.run in
    let short : length f.rest ≤ n = omega (arith, l, ap length f.parts, length-append f.run f.rest) in
    let read : marks false at (0x3B ∷ (f.run ++ f.rest)) ≡ marks false end f.rest = comment_read (at + 1) f.run f.rest end refl f.is_run.all f.is_run.ends in
    let whole : Whole at (0x3B ∷ (f.run ++ f.rest)) = subst (λ ms. Splits at (0x3B ∷ (f.run ++ f.rest)) ms) (sym read) (a_comment f.run f.is_run (below end f.rest short)) in
    subst (λ bs. Whole at (0x3B ∷ bs)) (sym f.parts) whole

atom_whole : (n at b : ℕ) (bs : List ℕ) → length bs ≤ n → IsOfAtom b → Below n → Whole at (b ∷ bs)
atom_whole n at b bs l h below =
    let f = front IsOfAtom tells_atom bs in
    let run : IsRun IsOfAtom (b ∷ f.run) f.rest = record { all = (h, f.is_run.all); ends = f.is_run.ends } in
    let end : ℕ = at + length (b ∷ f.run) in
    let short : length f.rest ≤ n = omega (arith, l, ap length f.parts, length-append f.run f.rest) in
    let read : marks false at (b ∷ (f.run ++ f.rest)) ≡ good (token.Atom at (b ∷ f.run)) ∷ marks false end f.rest = atom_read at (b ∷ f.run) f.rest run in
    let whole : Whole at (b ∷ (f.run ++ f.rest)) = subst (λ ms. Splits at (b ∷ (f.run ++ f.rest)) ms) (sym read) (an_atom run (below end f.rest short)) in
    subst (λ bs. Whole at (b ∷ bs)) (sym f.parts) whole

splits_by : (n at b : ℕ) (bs : List ℕ) → length bs ≤ n → Below n → (k : Class) → class_of b ≡ k → Whole at (b ∷ bs)
splits_by n at b bs l below class.Blank e = subst (λ ms. Splits at (b ∷ bs) ms) (sym (by_class at b bs class.Blank e)) (a_blank (blank_is b e) (below (at + 1) bs l))
splits_by n at b bs l below class.Stray e = subst (λ ms. Splits at (b ∷ bs) ms) (sym (by_class at b bs class.Stray e)) (a_stray (stray_is b e) (below (at + 1) bs l))
splits_by n at b bs l below class.Left e = subst (λ b. Whole at (b ∷ bs)) (sym (left_is b e)) (a_left (below (at + 1) bs l))
splits_by n at b bs l below class.Right e = subst (λ b. Whole at (b ∷ bs)) (sym (right_is b e)) (a_right (below (at + 1) bs l))
splits_by n at b bs l below class.Comment e = subst (λ b. Whole at (b ∷ bs)) (sym (comment_is b e)) (comment_whole n at bs l below)
splits_by n at b bs l below class.Atom e = atom_whole n at b bs l (atom_is b e) below

splits_below : (n at : ℕ) (bs : List ℕ) → length bs ≤ n → Whole at bs
splits_below n at [] l = at_end
splits_below zero at (b ∷ bs) l = absurd (omega arith)
splits_below (suc n) at (b ∷ bs) l = splits_by n at b bs (omega arith) (splits_below n) (class_of b) refl

pub text_splits : (bs : List ℕ) → Splits 0 bs (marks_of bs)
text_splits bs = splits_below (length bs) 0 bs (omega arith)
