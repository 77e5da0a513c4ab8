-- Where the trees of a text stand: each behind the one before it, and in at most 256 lists.
use Rattle.std.proofs.Common.{◌≡◌, ℕ, suc, ◌+◌, ◌<◌, ◌≤◌, inl, inr, eq-or-lt_of_le, List, [], ◌∷◌, ◌++◌, length, cond, eqb, ap, sym, subst, append_assoc, append-nil, arith, Some, None}
use Rattle.std.proofs.lemmas.Bool.{eq-eqb}
use Rattle.std.proofs.lemmas.List.{length-append}
use Rattle.tower_sexp.specs.declared.fault.SexpFault.TheVariants as fault
use Rattle.tower_sexp.specs.declared.token.Token.{Token}
use Rattle.tower_sexp.specs.declared.token.Token.TheVariants as token
use Rattle.tower_sexp.specs.Marks.{Mark, good, stray, marks_of, tokens, tokens_of}
use Rattle.tower_sexp.specs.Pieces.{Splits, at_end, a_blank, a_comment, a_left, a_right, a_stray}
use Rattle.tower_sexp.specs.Pieces.{an_atom as a_run}
use Rattle.tower_sexp.specs.Faults.{IsFaultless, tail, unclosed}
use Rattle.tower_sexp.specs.FirstFault.{wrong_mark, first_wrong, fault_at_end, no_marks}
use Rattle.tower_sexp.specs.Trees.{Tree, atom, list, Trees, no_trees, tree, Spells, nothing, an_atom, a_list}
use Rattle.tower_sexp.proofs.Order.{place}
use Rattle.tower_sexp.proofs.Splitting.{text_splits}
use Rattle.tower_sexp.proofs.Firsts.{none_by, faultless_is_computed}

-- a tree stands from `a` on and before `b`, in n lists
abbrev mutual
  pub Stands : ℕ → Tree → ℕ → ℕ → Type 0
  Stands n (atom at w) a b = (a ≤ at) × (at < b) × (n ≤ 256)
  Stands n (list at ts) a b = (a ≤ at) × (n < 256) × AllStand (suc n) ts (at + 1) b

  pub AllStand : ℕ → Trees → ℕ → ℕ → Type 0
  AllStand n no_trees a b = a ≤ b
  AllStand n (tree t ts) a b = (c : ℕ) × Stands n t a c × AllStand n ts c b

-- marks stand from `a` on and before `b`
abbrev MarksStand : List Mark → ℕ → ℕ → Type 0
MarksStand [] a b = a ≤ b
MarksStand (m ∷ ms) a b = (a ≤ place m) × MarksStand ms (place m + 1) b

marks_from : (ms : List Mark) (a c b : ℕ) → a ≤ c → MarksStand ms c b → MarksStand ms a b
marks_from [] a c b h t = omega arith
marks_from (m ∷ ms) a c b h t = (omega (arith, t.0), t.1)

same_place : (at : ℕ) → at ≤ at
same_place at = omega arith

-- the marks of a text's pieces
marks_stand : {at : ℕ} {bs : List ℕ} {ms : List Mark} → Splits at bs ms → (end : ℕ) → at + length bs ≡ end → MarksStand ms at end
marks_stand {at = at} at_end end e = omega (arith, e)
marks_stand {at = at} (a_blank {ms = ms} h s) end e = marks_from ms at (at + 1) end (omega arith) (marks_stand s end (omega (arith, e)))
marks_stand {at = at} (a_comment {bs = bs} {ms = ms} text h s) end e = marks_from ms at (at + 1 + length text) end (omega arith) (marks_stand s end (omega (arith, e, length-append text bs)))
marks_stand {at = at} (a_left s) end e = (same_place at, marks_stand s end (omega (arith, e)))
marks_stand {at = at} (a_right s) end e = (same_place at, marks_stand s end (omega (arith, e)))
marks_stand {at = at} (a_run {text = text} {bs = bs} {ms = ms} h s) end e = (same_place at, marks_from ms (at + 1) (at + suc (length text)) end (omega arith) (marks_stand s end (omega (arith, e, length-append text bs))))
marks_stand {at = at} (a_stray h s) end e = (same_place at, marks_stand s end (omega (arith, e)))

-- tokens stand so behind these unclosed lists, and nest no deeper than 256
abbrev TokensStand : List ℕ → List Token → ℕ → ℕ → Type 0
TokensStand lists [] a b = a ≤ b
TokensStand lists (token.Left at ∷ us) a b = (a ≤ at) × (length lists < 256) × TokensStand (at ∷ lists) us (at + 1) b
TokensStand lists (token.Right at ∷ us) a b = (a ≤ at) × TokensStand (tail lists) us (at + 1) b
TokensStand lists (token.Atom at text ∷ us) a b = (a ≤ at) × TokensStand lists us (at + 1) b

few_lists : (at n : ℕ) → n ≤ 256 → cond (eqb n 256) (Some (fault.Nest at)) None ≡ None → n < 256
few_lists at n l h = elim (eq-or-lt_of_le l) [
  | inl e ↦ (let k : cond (eqb n 256) (Some (fault.Nest at)) None ≡ Some (fault.Nest at) = ap (λ b. cond b (Some (fault.Nest at)) None) (eq-eqb n 256 e) in cc)
  | inr e ↦ e
]

tokens_stand : (ms : List Mark) (lists : List ℕ) (a b : ℕ) → length lists ≤ 256 → MarksStand ms a b → first_wrong lists ms ≡ None → TokensStand lists (tokens ms) a b
tokens_stand [] lists a b n t h = t
tokens_stand (stray at ∷ ms) lists a b n t h = cc
tokens_stand (good (token.Left at) ∷ ms) lists a b n t h =
    let w = none_by (wrong_mark lists (good (token.Left at))) (first_wrong (at ∷ lists) ms) h in
    let k : length lists < 256 = few_lists at (length lists) n w.0 in
    (t.0, k, tokens_stand ms (at ∷ lists) (at + 1) b (omega (arith, k)) t.1 w.1)
tokens_stand (good (token.Right at) ∷ ms) [] a b n t h = cc
tokens_stand (good (token.Right at) ∷ ms) (l ∷ lists) a b n t h = (t.0, tokens_stand ms lists (at + 1) b (omega (arith, n)) t.1 h)
tokens_stand (good (token.Atom at text) ∷ ms) lists a b n t h = (t.0, tokens_stand ms lists (at + 1) b n t.1 h)

trees_to : (n : ℕ) (ts : Trees) (a b c : ℕ) → b ≤ c → AllStand n ts a b → AllStand n ts a c
trees_to n no_trees a b c h t = omega (arith, t)
trees_to n (tree x ts) a b c h t = (t.0, t.1, trees_to n ts t.0 b c h t.2)

tree_from : (n : ℕ) (t : Tree) (a c b : ℕ) → a ≤ c → Stands n t c b → Stands n t a b
tree_from n (atom at w) a c b h t = (omega (arith, t.0), t.1, t.2)
tree_from n (list at ts) a c b h t = (omega (arith, t.0), t.1, t.2)

-- the same trees from an earlier place on
pub trees_from : (n : ℕ) (ts : Trees) (a c b : ℕ) → a ≤ c → AllStand n ts c b → AllStand n ts a b
trees_from n no_trees a c b h t = omega (arith, t)
trees_from n (tree x ts) a c b h t = (t.0, tree_from n x a c t.0 h t.1, t.2)

pub tree_to : (n : ℕ) (t : Tree) (a b c : ℕ) → b ≤ c → Stands n t a b → Stands n t a c
tree_to n (atom at w) a b c h t = (t.0, omega (arith, h, t.1), t.2)
tree_to n (list at ts) a b c h t = (t.0, t.1, trees_to (suc n) ts (at + 1) b c h t.2)

-- the trees that tokens spell, and the tokens behind them
abbrev Spelled : List ℕ → Trees → List Token → ℕ → ℕ → Type 0
Spelled lists ts vs a c = (b : ℕ) × AllStand (length lists) ts a b × TokensStand lists vs b c

spelled_stand : {ts : Trees} {us : List Token} → Spells ts us → (lists : List ℕ) (vs : List Token) (a c : ℕ) → length lists ≤ 256 → TokensStand lists (us ++ vs) a c → Spelled lists ts vs a c
spelled_stand nothing lists vs a c n t = (a, same_place a, t)
spelled_stand (an_atom {at = at} s) lists vs a c n t =
    let k = spelled_stand s lists vs (at + 1) c n t.1 in
    (k.0, (at + 1, (t.0, omega arith, n), k.1), k.2)
spelled_stand (a_list {at = at} {items = items} {ts = ts} {vs = ws} {us = us} end inner s) lists vs a c n t =
    let m : length lists < 256 = t.1 in
    let u : TokensStand (at ∷ lists) (ws ++ token.Right end ∷ (us ++ vs)) (at + 1) c = subst (λ xs. TokensStand (at ∷ lists) xs (at + 1) c) (append_assoc ws (token.Right end ∷ us) vs) t.2 in
    let k = spelled_stand inner (at ∷ lists) (token.Right end ∷ (us ++ vs)) (at + 1) c (omega (arith, m)) u in
    let l = spelled_stand s lists vs (end + 1) c n k.2.1 in
    (l.0, (end + 1, (t.0, m, trees_to (suc (length lists)) items (at + 1) k.0 (end + 1) (omega (arith, k.2.0)) k.1), l.1), l.2)

-- the trees of a text
pub text_stands : (bs : List ℕ) (ts : Trees) → IsFaultless bs → Spells ts (tokens_of bs) → AllStand 0 ts 0 (length bs)
text_stands bs ts h s =
    let w = none_by (first_wrong [] (marks_of bs)) (fault_at_end (unclosed (marks_of bs)) (no_marks (marks_of bs))) (faultless_is_computed bs h) in
    let t : TokensStand [] (tokens_of bs) 0 (length bs) = tokens_stand (marks_of bs) [] 0 (length bs) (omega arith) (marks_stand (text_splits bs) (length bs) (omega arith)) w.0 in
    let k = spelled_stand s [] [] 0 (length bs) (omega arith) (subst (λ us. TokensStand [] us 0 (length bs)) (sym (append-nil (tokens_of bs))) t) in
    trees_to 0 ts 0 k.0 (length bs) k.2 k.1
