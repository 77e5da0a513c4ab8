-- How many lists are unclosed behind a byte.
use Rattle.std.proofs.Common.{◌≡◌, ◌≤◌, ℕ, length, List, [], ◌∷◌, ◌++◌, Bool, true, false, cond, eqb, refl, ap, sym, ◌∙◌, subst, arith}
use Rattle.std.proofs.lemmas.Bool.{eqb-false}
use Rattle.tower_sexp.specs.declared.byte.Class.{Class}
use Rattle.tower_sexp.specs.declared.byte.Class.TheVariants as class
use Rattle.tower_sexp.specs.declared.fault.SexpFault.TheVariants as fault
use Rattle.tower_sexp.specs.declared.token.Token.{Token}
use Rattle.tower_sexp.specs.declared.token.Token.TheVariants as token
use Rattle.tower_sexp.specs.declared.lexer.Lexer.{Lexer}
use Rattle.tower_sexp.specs.Standing.{count_unclosed}
use Rattle.tower_sexp.specs.Marks.{class_in}
use Rattle.tower_sexp.specs.WholeTokens.{depth_behind}
use Rattle.tower_sexp.specs.Lexing.{State, state_of, atom_if, atom_put, stopped_by, bracketed, closed_by, close_put, read_by, put_by, next_state, next_put}

depth_atom : (n at : ℕ) (w : List ℕ) (ts : List Token) → depth_behind n (atom_if at w ++ ts) ≡ depth_behind n ts
depth_atom n at [] ts = refl
depth_atom n at (b ∷ w) ts = refl

depth_one : (n at : ℕ) (w : List ℕ) → depth_behind n (atom_if at w) ≡ n
depth_one n at [] = refl
depth_one n at (b ∷ w) = refl

-- what is known of the lists behind a byte
record Behind (n depth : ℕ) : Type 0 where
  is : n ≡ depth
  within : n ≤ 256

open_behind : (s : State) (b : Bool) → eqb (length s.lists) 256 ≡ b → length s.lists ≤ 256
    → Behind (length (cond b (stopped_by (fault.Nest s.taken) s) (bracketed (s.taken ∷ s.lists) s)).lists) (depth_behind (length s.lists) (cond b [] (atom_put s ++ token.Left s.taken ∷ [])))
open_behind s true e l = record { is = refl; within = l }
open_behind s false e l =
    let n = eqb-false (length s.lists) 256 e in
    record { is = omega (arith, depth_atom (length s.lists) s.start s.atom (token.Left s.taken ∷ [])); within = omega (arith, n) }

close_behind : (s : State) (ls : List ℕ) → s.lists ≡ ls → length ls ≤ 256 → Behind (length (closed_by ls s).lists) (depth_behind (length ls) (close_put ls s))
close_behind s [] e l = record { is = ap length e; within = omega (arith, ap length e) }
close_behind s (x ∷ ls) e l = record { is = omega (arith, depth_atom (length (x ∷ ls)) s.start s.atom (token.Right s.taken ∷ [])); within = omega (arith, l) }

class_behind : (c : Class) (b : ℕ) (s : State) → length s.lists ≤ 256 → Behind (length (read_by c b s).lists) (depth_behind (length s.lists) (put_by c s))
class_behind class.Blank b s l = record { is = sym (depth_one (length s.lists) s.start s.atom); within = l }
class_behind class.Left b s l = open_behind s (eqb (length s.lists) 256) refl l
class_behind class.Right b s l = close_behind s s.lists refl l
class_behind class.Comment b s l = record { is = sym (depth_one (length s.lists) s.start s.atom); within = l }
class_behind class.Atom b s l = record { is = refl; within = l }
class_behind class.Stray b s l = record { is = refl; within = l }

depth_step : (b : ℕ) (s : State) → length s.lists ≤ 256 → Behind (length (next_state b s).lists) (depth_behind (length s.lists) (next_put b s))
depth_step b s l = class_behind (class_in s.comment b) b s l

pub fed_depth : (l next : Lexer) (b : ℕ) (old new : List Token) → state_of next ≡ next_state b (state_of l) → new ≡ old ++ next_put b (state_of l) → old ≡ [] → count_unclosed l ≤ 256 → count_unclosed next ≡ depth_behind (count_unclosed l) new
fed_depth l next b old new e p o k =
    let d : Behind (length (next_state b (state_of l)).lists) (depth_behind (count_unclosed l) (next_put b (state_of l))) = depth_step b (state_of l) k in
    ap (λ s. length s.lists) e ∙ d.is ∙ ap (depth_behind (count_unclosed l)) (sym (p ∙ ap (λ ts. ts ++ next_put b (state_of l)) o))

pub fed_few : (l next : Lexer) (b : ℕ) → state_of next ≡ next_state b (state_of l) → count_unclosed l ≤ 256 → count_unclosed next ≤ 256
fed_few l next b e k = subst (λ s. length s.lists ≤ 256) (sym e) (depth_step b (state_of l) k).within
