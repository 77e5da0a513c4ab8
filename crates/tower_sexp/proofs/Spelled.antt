-- Tokens with no fault spell exactly one list of trees, which `trees_spelled` computes.
use Rattle.std.proofs.Common.{◌≡◌, ℕ, length, List, [], ◌∷◌, ◌++◌, Bool, refl, ap, sym, ◌∙◌, arith, subst, append-nil, append_assoc, None}
use Rattle.tower_sexp.specs.declared.token.Token.{Token}
use Rattle.tower_sexp.specs.declared.token.Token.TheVariants as token
use Rattle.tower_sexp.specs.Marks.{Mark, good, stray, marks_of, tokens, tokens_of}
use Rattle.tower_sexp.specs.Faults.{unclosed, IsFaultless}
use Rattle.tower_sexp.specs.FirstFault.{wrong_mark, first_wrong, fault_at_end, no_marks}
use Rattle.tower_sexp.specs.Trees.{Tree, atom, list, Trees, no_trees, tree, Spells, nothing, an_atom, a_list}
use Rattle.tower_sexp.specs.Nesting.{appended, pushed, Unclosed, Nesting, nest_begun, nested, nested_all, trees_spelled}
use Rattle.tower_sexp.proofs.Wrong.{unclosed_from}
use Rattle.tower_sexp.proofs.Firsts.{none_by, faultless_is_computed}

appended-none : (ts : Trees) → appended ts no_trees ≡ ts
appended-none no_trees = refl
appended-none (tree t ts) = ap (tree t) (appended-none ts)

appended_assoc : (xs ys zs : Trees) → appended (appended xs ys) zs ≡ appended xs (appended ys zs)
appended_assoc no_trees ys zs = refl
appended_assoc (tree x xs) ys zs = ap (tree x) (appended_assoc xs ys zs)

-- with more trees behind those of the innermost list
abbrev with_more : Nesting → Trees → Nesting
with_more n ts = record n { within = appended n.within ts }

pushed_more : (n : Nesting) (t : Tree) (ts : Trees) → with_more (record n { within = pushed n.within t }) ts ≡ with_more n (tree t ts)
pushed_more n t ts = ap (λ xs. record n { within = xs }) (appended_assoc n.within (tree t no_trees) ts)

run_spelled : {ts : Trees} {us : List Token} → Spells ts us → (n : Nesting) (more : List Token) → nested_all (us ++ more) n ≡ nested_all more (with_more n ts)
run_spelled nothing n more = ap (λ xs. nested_all more (record n { within = xs })) (sym (appended-none n.within))
run_spelled (an_atom {at = at} {text = text} {ts = ts} s) n more =
    run_spelled s (nested (token.Atom at text) n) more
    ∙ ap (nested_all more) (pushed_more n (atom at text) ts)
run_spelled (a_list {at = at} {items = items} {ts = ts} {vs = vs} {us = us} end inner s) n more =
    let open_list : Nesting = nested (token.Left at) n in
    let list_read : Nesting = record n { within = pushed n.within (list at items) } in
    ap (λ ts. nested_all ts open_list) (append_assoc vs (token.Right end ∷ us) more)
    ∙ run_spelled inner open_list (token.Right end ∷ (us ++ more))
    ∙ run_spelled s list_read more
    ∙ ap (nested_all more) (pushed_more n (list at items) ts)

-- tokens spell one list of trees at most
pub spelled_is : (ts : Trees) (us : List Token) → Spells ts us → ts ≡ trees_spelled us
spelled_is ts us s = sym (ap (λ us. (nested_all us nest_begun).within) (sym (append-nil us)) ∙ ap (λ n. n.within) (run_spelled s nest_begun []))

pub spells_more : {ts more : Trees} {us vs : List Token} → Spells ts us → Spells more vs → Spells (appended ts more) (us ++ vs)
spells_more nothing t = t
spells_more (an_atom s) t = an_atom (spells_more s t)
spells_more {more = more} {vs = vs} (a_list {at = at} {items = items} {ts = ts} {vs = ws} {us = us} end inner s) t =
    subst (λ xs. Spells (tree (list at items) (appended ts more)) (token.Left at ∷ xs)) (sym (append_assoc ws (token.Right end ∷ us) vs)) (a_list end inner (spells_more s t))

-- Tokens up to a place inside lists that are unclosed: those of the trees before each list, its bracket, and those of
-- the trees in the innermost.
abbrev Nests : List Unclosed → Trees → List Token → Type 0
Nests [] within us = Spells within us
Nests (l ∷ outer) within us = (xs : List Token) × (vs : List Token) × (us ≡ xs ++ token.Left l.at ∷ vs) × Nests outer l.before xs × Spells within vs

grows : (outer : List Unclosed) (within more : Trees) (us vs : List Token) → Nests outer within us → Spells more vs → Nests outer (appended within more) (us ++ vs)
grows [] within more us vs h s = spells_more h s
grows (l ∷ outer) within more us vs h s =
    (h.0, h.1 ++ vs, ap (λ ts. ts ++ vs) h.2 ∙ append_assoc h.0 (token.Left l.at ∷ h.1) vs, h.3, spells_more h.4 s)

opens : (outer : List Unclosed) (within : Trees) (us : List Token) (at : ℕ) → Nests outer within us → Nests (record { at = at; before = within } ∷ outer) no_trees (us ++ token.Left at ∷ [])
opens outer within us at h = (us, [], refl, h, nothing)

closes : (l : Unclosed) (outer : List Unclosed) (within : Trees) (us : List Token) (end : ℕ) → Nests (l ∷ outer) within us → Nests outer (pushed l.before (list l.at within)) (us ++ token.Right end ∷ [])
closes l outer within us end h =
    let e : us ++ token.Right end ∷ [] ≡ h.0 ++ token.Left l.at ∷ (h.1 ++ token.Right end ∷ []) = ap (λ ts. ts ++ token.Right end ∷ []) h.2 ∙ append_assoc h.0 (token.Left l.at ∷ h.1) (token.Right end ∷ []) in
    subst (λ us. Nests outer (pushed l.before (list l.at within)) us) (sym e) (grows outer l.before (tree (list l.at within) no_trees) h.0 (token.Left l.at ∷ (h.1 ++ token.Right end ∷ [])) h.3 (a_list end h.4 nothing))

abbrev Goal : List Mark → Nesting → List Token → Type 0
Goal ms n us = Spells (nested_all (tokens ms) n).within (us ++ tokens ms)

regrouped : (ms : List Mark) (n : Nesting) (us : List Token) (t : Token) → Goal ms n (us ++ t ∷ []) → Spells (nested_all (tokens ms) n).within (us ++ t ∷ tokens ms)
regrouped ms n us t g = subst (λ ts. Spells (nested_all (tokens ms) n).within ts) (append_assoc us (t ∷ []) (tokens ms)) g

run_nests : (ms : List Mark) (lists : List ℕ) (outer : List Unclosed) (within : Trees) (us : List Token) → length outer ≡ length lists → first_wrong lists ms ≡ None → unclosed_from lists ms ≡ [] → Nests outer within us → Goal ms (record { outer = outer; within = within }) us
run_nests [] lists [] within us e w u h = subst (λ ts. Spells within ts) (sym (append-nil us)) h
run_nests [] [] (l ∷ outer) within us e w u h = absurd (omega arith)
run_nests [] (x ∷ lists) (l ∷ outer) within us e w u h = cc
run_nests (stray at ∷ ms) lists outer within us e w u h = cc
run_nests (good (token.Left at) ∷ ms) lists outer within us e w u h =
    regrouped ms (nested (token.Left at) (record { outer = outer; within = within })) us (token.Left at)
    (run_nests ms (at ∷ lists) (record { at = at; before = within } ∷ outer) no_trees (us ++ token.Left at ∷ []) (omega arith) (none_by (wrong_mark lists (good (token.Left at))) (first_wrong (at ∷ lists) ms) w).1 u (opens outer within us at h))
run_nests (good (token.Right at) ∷ ms) [] outer within us e w u h = cc
run_nests (good (token.Right at) ∷ ms) (x ∷ lists) [] within us e w u h = absurd (omega arith)
run_nests (good (token.Right at) ∷ ms) (x ∷ lists) (l ∷ outer) within us e w u h =
    regrouped ms (nested (token.Right at) (record { outer = l ∷ outer; within = within })) us (token.Right at)
    (run_nests ms lists outer (pushed l.before (list l.at within)) (us ++ token.Right at ∷ []) (omega arith) w u (closes l outer within us at h))
run_nests (good (token.Atom at text) ∷ ms) lists outer within us e w u h =
    regrouped ms (nested (token.Atom at text) (record { outer = outer; within = within })) us (token.Atom at text)
    (run_nests ms lists outer (pushed within (atom at text)) (us ++ token.Atom at text ∷ []) e w u (grows outer within (tree (atom at text) no_trees) us (token.Atom at text ∷ []) h (an_atom nothing)))

-- with no fault there is no wrong mark and no unclosed list
none_unclosed : (lists : List ℕ) (e : Bool) → fault_at_end lists e ≡ None → lists ≡ []
none_unclosed [] e h = refl
none_unclosed (x ∷ lists) e h = cc

-- a text with no fault spells trees
pub faultless_spells : (bs : List ℕ) → IsFaultless bs → Spells (trees_spelled (tokens_of bs)) (tokens_of bs)
faultless_spells bs h =
    let both = none_by (first_wrong [] (marks_of bs)) (fault_at_end (unclosed (marks_of bs)) (no_marks (marks_of bs))) (faultless_is_computed bs h) in
    run_nests (marks_of bs) [] [] no_trees [] refl both.0 (none_unclosed (unclosed (marks_of bs)) (no_marks (marks_of bs)) both.1) nothing
