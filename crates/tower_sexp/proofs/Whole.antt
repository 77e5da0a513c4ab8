-- The whole tokens of a text that a lexer stands for.
use Rattle.std.proofs.Common.{◌≡◌, ℕ, ◌+◌, ◌≤◌, length, List, [], ◌∷◌, ◌++◌, Bool, true, false, cond, ltb, refl, ap, sym, ◌∙◌, arith, append-nil, Option, None}
use Rattle.std.proofs.lemmas.Bool.{lt-ltb}
use Rattle.std.proofs.lemmas.Bool.Decides.{nat_tests}
use Rattle.std.proofs.lemmas.List.Elements.{filter-append, filter_map-append}
use Rattle.tower_sexp.specs.declared.fault.SexpFault.{SexpFault}
use Rattle.tower_sexp.specs.declared.token.Token.{Token}
use Rattle.tower_sexp.specs.declared.token.Token.TheVariants as token
use Rattle.tower_sexp.specs.Marks.{Mark, good, stray, marks, marks_of, tokens, token_of}
use Rattle.tower_sexp.specs.FirstFault.{first_wrong, or_else}
use Rattle.tower_sexp.specs.Faults.{unclosed}
use Rattle.tower_sexp.specs.Lexing.{State, atom_if}
use Rattle.tower_sexp.specs.Standing.{Reads, AllAtom, AllMade}
use Rattle.tower_sexp.specs.WholeTokens.{made_at, made_before, end_by, whole_tokens}
use Rattle.tower_sexp.proofs.Order.{Ascends, place, ascends_from}
use Rattle.tower_sexp.proofs.Gaps.{atom_marks, atom_last}
use Rattle.tower_sexp.proofs.Wrong.{first_wrong-append, atom_sound}

pub tokens-append : (xs ys : List Mark) → tokens (xs ++ ys) ≡ tokens xs ++ tokens ys
tokens-append xs ys = filter_map-append token_of xs ys

pub tokens-atom : (at : ℕ) (atom : List ℕ) → tokens (atom_marks at atom) ≡ atom_if at atom
tokens-atom at [] = refl
tokens-atom at (b ∷ atom) = refl

before-append : (n : ℕ) (xs ys : List Mark) → made_before n (tokens (xs ++ ys)) ≡ made_before n (tokens xs) ++ made_before n (tokens ys)
before-append n xs ys = ap (made_before n) (tokens-append xs ys) ∙ filter-append _ (tokens xs) (tokens ys)

kept_one : (t : Token) (ts : List Token) (e : Bool) → e ≡ true → cond e (t ∷ ts) ts ≡ t ∷ ts
kept_one t ts true h = refl
kept_one t ts false h = cc

left_out : (t : Token) (ts : List Token) (e : Bool) → e ≡ false → cond e (t ∷ ts) ts ≡ ts
left_out t ts true h = cc
left_out t ts false h = refl

not_below : (a n : ℕ) → n ≤ a → ltb a n ≡ false
not_below a n h = grind (arith, nat_tests)

-- marks that are made before `n` give all their tokens, and marks from `n` on none
all_before : (n : ℕ) (ms : List Mark) → AllMade n ms → made_before n (tokens ms) ≡ tokens ms
all_before n [] h = refl
all_before n (good t ∷ ms) h = kept_one t _ (ltb (made_at t) n) (lt-ltb (made_at t) n h.0) ∙ ap (λ ts. t ∷ ts) (all_before n ms h.1)
all_before n (stray at ∷ ms) h = all_before n ms h.1

made_behind : (t : Token) → place (good t) ≤ made_at t
made_behind (token.Left at) = omega arith
made_behind (token.Right at) = omega arith
made_behind (token.Atom at text) = omega arith

none_before : (n : ℕ) (ms : List Mark) → Ascends n ms → made_before n (tokens ms) ≡ []
none_before n [] h = refl
none_before n (good t ∷ ms) h =
    left_out t _ (ltb (made_at t) n) (not_below (made_at t) n (omega (arith, made_behind t, h.0)))
    ∙ none_before n ms (ascends_from n (place (good t) + 1) ms (omega (arith, h.0)) h.1)
none_before n (stray at ∷ ms) h = none_before n ms (ascends_from n (at + 1) ms (omega (arith, h.0)) h.1)

atom_before : (n at : ℕ) (atom : List ℕ) → n ≤ at + length atom → made_before n (tokens (atom_marks at atom)) ≡ []
atom_before n at [] h = refl
atom_before n at (b ∷ atom) h = left_out (token.Atom at (b ∷ atom)) [] (ltb (at + length (b ∷ atom)) n) (not_below _ n h)

-- the tokens made before `n`: those of `done`, and neither an atom that reaches to `n` nor what is behind it
pub cut_tokens : (n at : ℕ) (atom : List ℕ) (done behind : List Mark) → AllMade n done → at + length atom ≡ n → Ascends n behind → made_before n (tokens (done ++ (atom_marks at atom ++ behind))) ≡ tokens done
cut_tokens n at atom done behind d e t =
    before-append n done (atom_marks at atom ++ behind)
    ∙ ap (λ ts. ts ++ made_before n (tokens (atom_marks at atom ++ behind))) (all_before n done d)
    ∙ ap (λ ts. tokens done ++ ts) (before-append n (atom_marks at atom) behind)
    ∙ ap (λ ts. tokens done ++ (ts ++ made_before n (tokens behind))) (atom_before n at atom (omega arith))
    ∙ ap (λ ts. tokens done ++ ts) (none_before n behind t)
    ∙ append-nil (tokens done)

-- the whole tokens of a text with these marks
pub by_marks : (bs : List ℕ) (ms : List Mark) → marks_of bs ≡ ms → whole_tokens bs ≡ made_before (end_by (first_wrong [] ms) (length bs)) (tokens ms)
by_marks bs ms e = ap (λ ms. made_before (end_by (first_wrong [] ms) (length bs)) (tokens ms)) e

by_wrong : (ms : List Mark) (n : ℕ) (f : Option SexpFault) → first_wrong [] ms ≡ f → made_before (end_by (first_wrong [] ms) n) (tokens ms) ≡ made_before (end_by f n) (tokens ms)
by_wrong ms n f e = ap (λ o. made_before (end_by o n) (tokens ms)) e

pub whole_by : (bs : List ℕ) (ms : List Mark) (f : Option SexpFault) → marks_of bs ≡ ms → first_wrong [] ms ≡ f → whole_tokens bs ≡ made_before (end_by f (length bs)) (tokens ms)
whole_by bs ms f e w = by_marks bs ms e ∙ by_wrong ms (length bs) f w

-- marks behind which an atom reaches to the end of a text
module _ (s : State) (bs : List ℕ) (r : Reads s bs) where
  last : marks s.comment s.start (s.atom ++ []) ≡ atom_marks s.start s.atom
  last = by_comment s.comment s.atom r.atom r.comment r.start
    where
      by_comment : (comment : Bool) (atom : List ℕ) → AllAtom atom → (comment ≡ true → atom ≡ []) → s.start + length atom ≡ s.taken → marks comment s.start (atom ++ []) ≡ atom_marks s.start atom
      by_comment true [] a in_comment e = refl
      by_comment true (b ∷ atom) a in_comment e = let f = in_comment refl in cc
      by_comment false atom a in_comment e = atom_last atom s.start s.taken a e

  pub all_marks : marks_of bs ≡ r.done ++ atom_marks s.start s.atom
  all_marks = ap marks_of (sym (append-nil bs)) ∙ r.resumes [] ∙ ap (λ ms. r.done ++ ms) last

  pub none_wrong : first_wrong [] (r.done ++ atom_marks s.start s.atom) ≡ None
  none_wrong =
      first_wrong-append [] r.done (atom_marks s.start s.atom)
      ∙ ap (λ o. or_else o (first_wrong (unclosed r.done) (atom_marks s.start s.atom))) r.sound
      ∙ atom_sound (unclosed r.done) s.start s.atom

  pub whole_done : whole_tokens bs ≡ tokens r.done
  whole_done =
      whole_by bs (r.done ++ atom_marks s.start s.atom) None all_marks none_wrong
      ∙ ap (λ n. made_before n (tokens (r.done ++ atom_marks s.start s.atom))) (sym r.taken)
      ∙ ap (λ ms. made_before s.taken (tokens (r.done ++ ms))) (sym (append-nil (atom_marks s.start s.atom)))
      ∙ cut_tokens s.taken s.start s.atom r.done [] r.made r.start tt
