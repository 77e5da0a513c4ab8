-- What a text spells can be printed, and is printed as the nodes of the text.
use Rattle.std.proofs.Common.{◌≡◌, ◌+◌, ◌<◌, ◌≤◌, ℕ, List, [], ◌∷◌, ◌++◌, length, cond, eqb, Some, None, refl, ap, sym, subst, append_assoc, append-nil, arith, inl, inr, eq-or-lt_of_le}
use Rattle.std.proofs.lemmas.Bool.{eq-eqb}
use Rattle.tower_sexp.specs.declared.fault.SexpFault.TheVariants as fault
use Rattle.tower_sexp.specs.declared.token.Token.{Token}
use Rattle.tower_sexp.specs.declared.token.Token.TheVariants as token
use Rattle.tower_sexp.specs.Marks.{Mark, good, stray, marks_of, tokens, tokens_of}
use Rattle.tower_sexp.specs.Faults.{IsFaultless, tail, unclosed}
use Rattle.tower_sexp.specs.FirstFault.{wrong_mark, first_wrong, fault_at_end, no_marks}
use Rattle.tower_sexp.specs.Trees.{Trees, no_trees, tree}
use Rattle.tower_sexp.specs.Trees.{Spells as TreesSpell, nothing as spells_nothing, an_atom, a_list}
use Rattle.tower_sexp.proofs.Firsts.{none_by, faultless_is_computed}
use Rattle.tower_syntax.specs.RawTree.{Raw}
use Rattle.tower_syntax.specs.Form.{nesting, nesting_of_all}
use Rattle.tower_syntax.specs.Printed.{raw_form}
use Rattle.tower_syntax.specs.Printable.{IsPrintable, IsPrintableItem}
use Rattle.tower_reader.specs.declared.table.Place.TheVariants as place
use Rattle.tower_reader.specs.Part.{a_tower}
use Rattle.tower_reader.specs.Forms.{form_of, forms_of}
use Rattle.tower_reader.specs.Spelled.{Spells}
use Rattle.tower_reader.specs.Laws.{SpelledIsPrintable, SpelledPrintsAsWritten}
use Rattle.tower_reader.proofs.SpelledRows.{each}
use Rattle.tower_reader.proofs.SpelledNodes.{node_made}

-- Behind these unclosed lists no token opens the 257th.
abbrev Nests : List ℕ → List Token → Type 0
Nests lists [] = Unit {0}
Nests lists (token.Left at ∷ us) = (length lists < 256) × Nests (at ∷ lists) us
Nests lists (token.Right at ∷ us) = Nests (tail lists) us
Nests lists (token.Atom at text ∷ us) = Nests lists us

few_lists : (at n : ℕ) → n ≤ 256 → cond (eqb n 256) (Some (fault.Nest at)) None ≡ None → n < 256
few_lists at n l h = elim (eq-or-lt_of_le l) [
  | inl e ↦ (let k : cond (eqb n 256) (Some (fault.Nest at)) None ≡ Some (fault.Nest at) = ap (λ b. cond b (Some (fault.Nest at)) None) (eq-eqb n 256 e) in cc)
  | inr e ↦ e
]

tokens_nest : (ms : List Mark) (lists : List ℕ) → length lists ≤ 256 → first_wrong lists ms ≡ None → Nests lists (tokens ms)
tokens_nest [] lists n h = tt
tokens_nest (stray at ∷ ms) lists n h = cc
tokens_nest (good (token.Left at) ∷ ms) lists n h =
    let w = none_by (wrong_mark lists (good (token.Left at))) (first_wrong (at ∷ lists) ms) h in
    let k : length lists < 256 = few_lists at (length lists) n w.0 in
    (k, tokens_nest ms (at ∷ lists) (omega (arith, k)) w.1)
tokens_nest (good (token.Right at) ∷ ms) [] n h = cc
tokens_nest (good (token.Right at) ∷ ms) (l ∷ lists) n h = tokens_nest ms lists (omega (arith, n)) h
tokens_nest (good (token.Atom at text) ∷ ms) lists n h = tokens_nest ms lists n h

-- the trees that tokens spell, and the tokens behind them
spelled_nest : {ts : Trees} {us : List Token} → TreesSpell ts us → (lists : List ℕ) (vs : List Token) → length lists ≤ 256 → Nests lists (us ++ vs) → (length lists + nesting_of_all (forms_of ts) ≤ 256) × Nests lists vs
spelled_nest spells_nothing lists vs n t = (omega (arith, n), t)
spelled_nest (an_atom s) lists vs n t = let k = spelled_nest s lists vs n t in (omega (arith, k.0), k.1)
spelled_nest (a_list {at = at} {items = items} {ts = ts} {vs = ws} {us = us} end inner s) lists vs n t =
    let u : Nests (at ∷ lists) (ws ++ token.Right end ∷ (us ++ vs)) = subst (Nests (at ∷ lists)) (append_assoc ws (token.Right end ∷ us) vs) t.1 in
    let k = spelled_nest inner (at ∷ lists) (token.Right end ∷ (us ++ vs)) (omega (arith, t.0)) u in
    let l = spelled_nest s lists vs n k.1 in
    (omega (arith, k.0, l.0), l.1)

text_nests : (bs : List ℕ) (ts : Trees) → IsFaultless bs → TreesSpell ts (tokens_of bs) → nesting_of_all (forms_of ts) ≤ 256
text_nests bs ts h s =
    let w = none_by (first_wrong [] (marks_of bs)) (fault_at_end (unclosed (marks_of bs)) (no_marks (marks_of bs))) (faultless_is_computed bs h) in
    let t : Nests [] (tokens_of bs) = tokens_nest (marks_of bs) [] (omega arith) w.0 in
    let k = spelled_nest s [] [] (omega arith) (subst (Nests []) (sym (append-nil (tokens_of bs))) t) in
    omega (arith, k.0)

pub spelled_prints_as_written : SpelledPrintsAsWritten
spelled_prints_as_written bs r s = (node_made place.Tower s.node (a_tower r) s.reads).formed

pub spelled_is_printable : SpelledIsPrintable
spelled_is_printable bs r s =
    let m = node_made place.Tower s.node (a_tower r) s.reads in
    let n = text_nests bs (tree s.node no_trees) s.faultless s.spelled in
    let k : nesting (form_of s.node) ≤ 256 = omega (arith, n) in
    record {
      version = m.kept.0;
      name = m.kept.1;
      items = each (IsPrintableItem r.version) r.items m.kept.2;
      nested = subst (λ f. nesting f ≤ 256) (sym m.formed) k;
    }
