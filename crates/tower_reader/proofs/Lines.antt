-- A printed line: its marks, its tokens, and the tree that they spell.
use Rattle.std.proofs.Common.{◌≡◌, ℕ, ◌+◌, ◌≤◌, length, List, [], ◌∷◌, ◌++◌, Bool, true, false, cond, eqb, Option, Some, None, refl, ap, sym, ◌∙◌, subst, append_assoc, append-nil, arith, inl, inr}
use Rattle.std.proofs.lemmas.Bool.{eqb-true}
use Rattle.std.proofs.lemmas.List.{length-append}
use Rattle.tower_sexp.specs.declared.fault.SexpFault.{SexpFault}
use Rattle.tower_sexp.specs.declared.fault.SexpFault.TheVariants as fault
use Rattle.tower_sexp.specs.declared.token.Token.{Token}
use Rattle.tower_sexp.specs.declared.token.Token.TheVariants as token
use Rattle.tower_sexp.specs.Marks.{Mark, good, marks_of, tokens, tokens_of}
use Rattle.tower_sexp.specs.Pieces.{IsOfAtom, AllBytes, BeginsNot, Splits}
use Rattle.tower_sexp.specs.Pieces.{at_end, a_blank, a_left, a_right, an_atom as an_atom_piece}
use Rattle.tower_sexp.specs.Faults.{IsFaultless, unclosed}
use Rattle.tower_sexp.specs.FirstFault.{or_else, first_wrong, fault_at_end, no_marks, first_fault}
use Rattle.tower_sexp.specs.Trees.{Tree, Trees, no_trees, tree}
use Rattle.tower_sexp.specs.Trees.{atom as leaf, list as branch}
use Rattle.tower_sexp.specs.Trees.{Spells as TreesSpell, nothing as spells_nothing, an_atom, a_list}
use Rattle.tower_sexp.proofs.Firsts.{computed_is_faultless}
use Rattle.tower_sexp.proofs.Splitting.{splits_are}
use Rattle.tower_sexp.proofs.Wrong.{unclosed_from}
use Rattle.tower_syntax.specs.Form.{Form, atom, list, Forms, no_forms, form, text, line, each_spaced, nesting, nesting_of_all}

-- the tree of a form that is printed from an offset on
abbrev mutual
  pub tree_at : ℕ → Form → Tree
  tree_at n (atom w) = leaf n w
  tree_at n (list fs) = branch n (trees_at (n + 1) fs)

  pub trees_at : ℕ → Forms → Trees
  trees_at n no_forms = no_trees
  trees_at n (form f fs) = tree (tree_at n f) (trees_spaced (n + length (text f)) fs)

  pub trees_spaced : ℕ → Forms → Trees
  trees_spaced n no_forms = no_trees
  trees_spaced n (form f fs) = tree (tree_at (n + 1) f) (trees_spaced (n + 1 + length (text f)) fs)

-- a text of one or more bytes of atoms
abbrev pub IsWord : List ℕ → Type 0
IsWord [] = ⊥
IsWord (b ∷ bs) = AllBytes IsOfAtom (b ∷ bs)

-- each atom is a word
abbrev mutual
  pub IsWordy : Tree → Type 0
  IsWordy (leaf n w) = IsWord w
  IsWordy (branch n ts) = AreWordy ts

  pub AreWordy : Trees → Type 0
  AreWordy no_trees = Unit {0}
  AreWordy (tree t ts) = IsWordy t × AreWordy ts

-- The marks of a line, before those of what stands behind it.

abbrev mutual
  marks_at : ℕ → Form → List Mark → List Mark
  marks_at n (atom w) ms = good (token.Atom n w) ∷ ms
  marks_at n (list fs) ms = good (token.Left n) ∷ marks_in (n + 1) fs (good (token.Right (n + 1 + length (line fs))) ∷ ms)

  marks_in : ℕ → Forms → List Mark → List Mark
  marks_in n no_forms ms = ms
  marks_in n (form f fs) ms = marks_at n f (marks_spaced (n + length (text f)) fs ms)

  marks_spaced : ℕ → Forms → List Mark → List Mark
  marks_spaced n no_forms ms = ms
  marks_spaced n (form f fs) ms = marks_at (n + 1) f (marks_spaced (n + 1 + length (text f)) fs ms)

-- A place where an atom ends: what follows begins with no byte of an atom.
abbrev Ends : List ℕ → Type 0
Ends rest = BeginsNot IsOfAtom rest

ends_right : (rest : List ℕ) → Ends (41 ∷ rest)
ends_right rest = λ h. h.no_sign (inr (inl refl))

ends_spaced : (fs : Forms) (rest : List ℕ) → Ends rest → Ends (each_spaced fs ++ rest)
ends_spaced no_forms rest h = h
ends_spaced (form f fs) rest h = λ k. let low : 33 ≤ 32 = k.low in omega arith

word_splits : (w : List ℕ) (n end : ℕ) (rest : List ℕ) (ms : List Mark) → IsWord w → n + length w ≡ end → Ends rest → Splits end rest ms → Splits n (w ++ rest) (good (token.Atom n w) ∷ ms)
word_splits [] n end rest ms h e c s = absurd h
word_splits (b ∷ w) n end rest ms h e c s = an_atom_piece (record { all = h; ends = c }) (subst (λ k. Splits k rest ms) (sym e) s)

mutual
  text_splits : (f : Form) (n end : ℕ) (rest : List ℕ) (ms : List Mark) → IsWordy (tree_at n f) → n + length (text f) ≡ end → Ends rest → Splits end rest ms → Splits n (text f ++ rest) (marks_at n f ms)
  text_splits (atom w) n end rest ms h e c s = word_splits w n end rest ms h e c s
  text_splits (list fs) n end rest ms h e c s =
      let last : ℕ = n + 1 + length (line fs) in
      let k : end ≡ last + 1 = omega (arith, length-append (line fs) (41 ∷ [])) in
      let t : Splits last (41 ∷ rest) (good (token.Right last) ∷ ms) = a_right (subst (λ k. Splits k rest ms) k s) in
      let u : Splits (n + 1) (line fs ++ 41 ∷ rest) (marks_in (n + 1) fs (good (token.Right last) ∷ ms)) = line_splits fs (n + 1) last (41 ∷ rest) (good (token.Right last) ∷ ms) h refl (ends_right rest) t in
      a_left (subst (λ bs. Splits (n + 1) bs (marks_in (n + 1) fs (good (token.Right last) ∷ ms))) (sym (append_assoc (line fs) (41 ∷ []) rest)) u)

  line_splits : (fs : Forms) (n end : ℕ) (rest : List ℕ) (ms : List Mark) → AreWordy (trees_at n fs) → n + length (line fs) ≡ end → Ends rest → Splits end rest ms → Splits n (line fs ++ rest) (marks_in n fs ms)
  line_splits no_forms n end rest ms h e c s = let k : end ≡ n = omega arith in subst (λ k. Splits k rest ms) k s
  line_splits (form f fs) n end rest ms h e c s =
      let k : n + length (text f) + length (each_spaced fs) ≡ end = omega (arith, length-append (text f) (each_spaced fs)) in
      let t : Splits (n + length (text f)) (each_spaced fs ++ rest) (marks_spaced (n + length (text f)) fs ms) = spaced_splits fs (n + length (text f)) end rest ms h.1 k c s in
      let u : Splits n (text f ++ (each_spaced fs ++ rest)) (marks_at n f (marks_spaced (n + length (text f)) fs ms)) = text_splits f n (n + length (text f)) (each_spaced fs ++ rest) _ h.0 refl (ends_spaced fs rest c) t in
      subst (λ bs. Splits n bs (marks_at n f (marks_spaced (n + length (text f)) fs ms))) (sym (append_assoc (text f) (each_spaced fs) rest)) u

  spaced_splits : (fs : Forms) (n end : ℕ) (rest : List ℕ) (ms : List Mark) → AreWordy (trees_spaced n fs) → n + length (each_spaced fs) ≡ end → Ends rest → Splits end rest ms → Splits n (each_spaced fs ++ rest) (marks_spaced n fs ms)
  spaced_splits no_forms n end rest ms h e c s = let k : end ≡ n = omega arith in subst (λ k. Splits k rest ms) k s
  spaced_splits (form f fs) n end rest ms h e c s =
      let m : ℕ = n + 1 + length (text f) in
      let k : m + length (each_spaced fs) ≡ end = omega (arith, length-append (text f) (each_spaced fs)) in
      let t : Splits m (each_spaced fs ++ rest) (marks_spaced m fs ms) = spaced_splits fs m end rest ms h.1 k c s in
      let u : Splits (n + 1) (text f ++ (each_spaced fs ++ rest)) (marks_at (n + 1) f (marks_spaced m fs ms)) = text_splits f (n + 1) m (each_spaced fs ++ rest) (marks_spaced m fs ms) h.0 refl (ends_spaced fs rest c) t in
      a_blank (inl (inl refl)) (subst (λ bs. Splits (n + 1) bs (marks_at (n + 1) f (marks_spaced m fs ms))) (sym (append_assoc (text f) (each_spaced fs) rest)) u)

-- the marks of a printed form
form_marks : (f : Form) → IsWordy (tree_at 0 f) → marks_of (text f) ≡ marks_at 0 f []
form_marks f h =
    let s : Splits 0 (text f ++ []) (marks_at 0 f []) = text_splits f 0 (length (text f)) [] [] h (omega arith) tt at_end in
    let e : text f ++ [] ≡ text f = append-nil (text f) in
    sym (splits_are (subst (λ bs. Splits 0 bs (marks_at 0 f [])) e s))

-- The tokens of a line.

abbrev mutual
  tokens_at : ℕ → Form → List Token
  tokens_at n (atom w) = token.Atom n w ∷ []
  tokens_at n (list fs) = token.Left n ∷ (tokens_in (n + 1) fs ++ token.Right (n + 1 + length (line fs)) ∷ [])

  tokens_in : ℕ → Forms → List Token
  tokens_in n no_forms = []
  tokens_in n (form f fs) = tokens_at n f ++ tokens_spaced (n + length (text f)) fs

  tokens_spaced : ℕ → Forms → List Token
  tokens_spaced n no_forms = []
  tokens_spaced n (form f fs) = tokens_at (n + 1) f ++ tokens_spaced (n + 1 + length (text f)) fs

mutual
  text_tokens : (f : Form) (n : ℕ) (ms : List Mark) → tokens (marks_at n f ms) ≡ tokens_at n f ++ tokens ms
  text_tokens (atom w) n ms = refl
  text_tokens (list fs) n ms =
      ap (λ us. token.Left n ∷ us) (line_tokens fs (n + 1) (good (token.Right (n + 1 + length (line fs))) ∷ ms) ∙ sym (append_assoc (tokens_in (n + 1) fs) (token.Right (n + 1 + length (line fs)) ∷ []) (tokens ms)))

  line_tokens : (fs : Forms) (n : ℕ) (ms : List Mark) → tokens (marks_in n fs ms) ≡ tokens_in n fs ++ tokens ms
  line_tokens no_forms n ms = refl
  line_tokens (form f fs) n ms =
      text_tokens f n (marks_spaced (n + length (text f)) fs ms)
      ∙ ap (λ us. tokens_at n f ++ us) (spaced_tokens fs (n + length (text f)) ms)
      ∙ sym (append_assoc (tokens_at n f) (tokens_spaced (n + length (text f)) fs) (tokens ms))

  spaced_tokens : (fs : Forms) (n : ℕ) (ms : List Mark) → tokens (marks_spaced n fs ms) ≡ tokens_spaced n fs ++ tokens ms
  spaced_tokens no_forms n ms = refl
  spaced_tokens (form f fs) n ms =
      text_tokens f (n + 1) (marks_spaced (n + 1 + length (text f)) fs ms)
      ∙ ap (λ us. tokens_at (n + 1) f ++ us) (spaced_tokens fs (n + 1 + length (text f)) ms)
      ∙ sym (append_assoc (tokens_at (n + 1) f) (tokens_spaced (n + 1 + length (text f)) fs) (tokens ms))

mutual
  text_spells : (f : Form) (n : ℕ) (ts : Trees) (us : List Token) → TreesSpell ts us → TreesSpell (tree (tree_at n f) ts) (tokens_at n f ++ us)
  text_spells (atom w) n ts us s = an_atom s
  text_spells (list fs) n ts us s =
      let last : ℕ = n + 1 + length (line fs) in
      subst (λ vs. TreesSpell (tree (branch n (trees_at (n + 1) fs)) ts) (token.Left n ∷ vs)) (sym (append_assoc (tokens_in (n + 1) fs) (token.Right last ∷ []) us)) (a_list last (line_spells fs (n + 1)) s)

  line_spells : (fs : Forms) (n : ℕ) → TreesSpell (trees_at n fs) (tokens_in n fs)
  line_spells no_forms n = spells_nothing
  line_spells (form f fs) n = text_spells f n _ _ (spaced_spells fs (n + length (text f)))

  spaced_spells : (fs : Forms) (n : ℕ) → TreesSpell (trees_spaced n fs) (tokens_spaced n fs)
  spaced_spells no_forms n = spells_nothing
  spaced_spells (form f fs) n = text_spells f (n + 1) _ _ (spaced_spells fs (n + 1 + length (text f)))

-- a printed form spells its tree
pub form_spells : (f : Form) → IsWordy (tree_at 0 f) → TreesSpell (tree (tree_at 0 f) no_trees) (tokens_of (text f))
form_spells f h =
    let e : tokens_at 0 f ++ [] ≡ tokens_of (text f) = sym (ap tokens (form_marks f h) ∙ text_tokens f 0 []) in
    subst (TreesSpell (tree (tree_at 0 f) no_trees)) e (text_spells f 0 no_trees [] spells_nothing)

-- The faults of a line: none, where it is nested within the limit.

nest_by : (k : ℕ) (e : Bool) (f : SexpFault) (o : Option SexpFault) → eqb k 256 ≡ e → k + 1 ≤ 256 → or_else (cond e (Some f) None) o ≡ o
nest_by k true f o h l = absurd (omega (arith, eqb-true k 256 h))
nest_by k false f o h l = refl

mutual
  text_sound : (f : Form) (n : ℕ) (lists : List ℕ) (ms : List Mark) → length lists + nesting f ≤ 256 → first_wrong lists (marks_at n f ms) ≡ first_wrong lists ms
  text_sound (atom w) n lists ms h = refl
  text_sound (list fs) n lists ms h =
      nest_by (length lists) (eqb (length lists) 256) (fault.Nest n) _ refl (omega arith)
      ∙ line_sound fs (n + 1) (n ∷ lists) (good (token.Right (n + 1 + length (line fs))) ∷ ms) (omega arith)

  line_sound : (fs : Forms) (n : ℕ) (lists : List ℕ) (ms : List Mark) → length lists + nesting_of_all fs ≤ 256 → first_wrong lists (marks_in n fs ms) ≡ first_wrong lists ms
  line_sound no_forms n lists ms h = refl
  line_sound (form f fs) n lists ms h = text_sound f n lists (marks_spaced (n + length (text f)) fs ms) (omega arith) ∙ spaced_sound fs (n + length (text f)) lists ms (omega arith)

  spaced_sound : (fs : Forms) (n : ℕ) (lists : List ℕ) (ms : List Mark) → length lists + nesting_of_all fs ≤ 256 → first_wrong lists (marks_spaced n fs ms) ≡ first_wrong lists ms
  spaced_sound no_forms n lists ms h = refl
  spaced_sound (form f fs) n lists ms h = text_sound f (n + 1) lists (marks_spaced (n + 1 + length (text f)) fs ms) (omega arith) ∙ spaced_sound fs (n + 1 + length (text f)) lists ms (omega arith)

mutual
  text_closed : (f : Form) (n : ℕ) (lists : List ℕ) (ms : List Mark) → unclosed_from lists (marks_at n f ms) ≡ unclosed_from lists ms
  text_closed (atom w) n lists ms = refl
  text_closed (list fs) n lists ms = line_closed fs (n + 1) (n ∷ lists) (good (token.Right (n + 1 + length (line fs))) ∷ ms)

  line_closed : (fs : Forms) (n : ℕ) (lists : List ℕ) (ms : List Mark) → unclosed_from lists (marks_in n fs ms) ≡ unclosed_from lists ms
  line_closed no_forms n lists ms = refl
  line_closed (form f fs) n lists ms = text_closed f n lists (marks_spaced (n + length (text f)) fs ms) ∙ spaced_closed fs (n + length (text f)) lists ms

  spaced_closed : (fs : Forms) (n : ℕ) (lists : List ℕ) (ms : List Mark) → unclosed_from lists (marks_spaced n fs ms) ≡ unclosed_from lists ms
  spaced_closed no_forms n lists ms = refl
  spaced_closed (form f fs) n lists ms = text_closed f (n + 1) lists (marks_spaced (n + 1 + length (text f)) fs ms) ∙ spaced_closed fs (n + 1 + length (text f)) lists ms

some_marks : (f : Form) (n : ℕ) (ms : List Mark) → no_marks (marks_at n f ms) ≡ false
some_marks (atom w) n ms = refl
some_marks (list fs) n ms = refl

-- a printed form has no fault
pub form_faultless : (f : Form) → IsWordy (tree_at 0 f) → nesting f ≤ 256 → IsFaultless (text f)
form_faultless f h l =
    let w : first_wrong [] (marks_at 0 f []) ≡ None = text_sound f 0 [] [] (omega arith) in
    let c : unclosed (marks_at 0 f []) ≡ [] = text_closed f 0 [] [] in
    let e : first_fault (marks_at 0 f []) ≡ None =
    ap (λ o. or_else o (fault_at_end (unclosed (marks_at 0 f [])) (no_marks (marks_at 0 f [])))) w
    ∙ ap (λ ls. fault_at_end ls (no_marks (marks_at 0 f []))) c
    ∙ ap (fault_at_end []) (some_marks f 0 []) in
    computed_is_faultless (text f) (ap first_fault (form_marks f h) ∙ e)
