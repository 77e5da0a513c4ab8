-- What `first_fault` computes is the first of what offends.
use Rattle.std.proofs.Common.{◌≡◌, ◌⊎◌, ℕ, ◌+◌, ◌<◌, ◌≤◌, length, List, [], ◌∷◌, ◌++◌, Bool, true, false, cond, eqb, refl, ap, sym, ◌∙◌, arith, inl, inr, subst, Option, Some, None}
use Rattle.std.proofs.lemmas.Bool.{eqb-true, eq-eqb}
use Rattle.tower_sexp.specs.declared.fault.SexpFault.{SexpFault}
use Rattle.tower_sexp.specs.declared.fault.SexpFault.TheVariants as fault
use Rattle.tower_sexp.specs.declared.token.Token.TheVariants as token
use Rattle.tower_sexp.specs.Marks.{Mark, good, stray, marks_of}
use Rattle.tower_sexp.specs.Faults.{unclosed, unclosed_behind, nest_limit, Offends, Precedes, IsFirst, IsFault, IsFaultless, rank, offset}
use Rattle.tower_sexp.specs.FirstFault.{wrong_mark, or_else, first_wrong, no_marks, fault_at_end, first_fault}
use Rattle.tower_sexp.proofs.Order.{Ascends, place, ascends_behind, marks_ascend}
use Rattle.tower_sexp.proofs.Wrong.{unclosed_from}

-- a wrong mark, behind these lists
pub record WrongIn (lists : List ℕ) (ms : List Mark) (f : SexpFault) : Type 0 where
  pub before : List Mark
  pub mark : Mark
  pub behind : List Mark
  pub parts : ms ≡ before ++ mark ∷ behind
  pub wrong : wrong_mark (unclosed_from lists before) mark ≡ Some f

-- a wrong mark has its own offset, and a kind that goes by offsets
nest_is : (at : ℕ) (e : Bool) (f : SexpFault) → cond e (Some (fault.Nest at)) None ≡ Some f → (e ≡ true) × (fault.Nest at ≡ f)
nest_is at true f h = (refl, cc)
nest_is at false f h = cc

wrong_place : (lists : List ℕ) (m : Mark) (f : SexpFault) → wrong_mark lists m ≡ Some f → (offset f ≡ place m) × (rank f ≡ 0)
wrong_place lists (stray at) f h = let e : fault.Byte at ≡ f = cc in (ap offset (sym e), ap rank (sym e))
wrong_place lists (good (token.Left at)) f h = let e = (nest_is at (eqb (length lists) nest_limit) f h).1 in (ap offset (sym e), ap rank (sym e))
wrong_place [] (good (token.Right at)) f h = let e : fault.Unopened at ≡ f = cc in (ap offset (sym e), ap rank (sym e))
wrong_place (list ∷ lists) (good (token.Right at)) f h = cc
wrong_place lists (good (token.Atom at text)) f h = cc

-- the first one is there
found_by : (lists : List ℕ) (m : Mark) (ms : List Mark) (f : SexpFault) (o : Option SexpFault) → wrong_mark lists m ≡ o → or_else o (first_wrong (unclosed_behind lists m) ms) ≡ Some f → (first_wrong (unclosed_behind lists m) ms ≡ Some f → WrongIn (unclosed_behind lists m) ms f) → WrongIn lists (m ∷ ms) f
found_by lists m ms f (Some g) e h rest = record { before = []; mark = m; behind = ms; parts = refl; wrong = e ∙ h }
found_by lists m ms f None e h rest = let w = rest h in record { before = m ∷ w.before; mark = w.mark; behind = w.behind; parts = ap (λ xs. m ∷ xs) w.parts; wrong = w.wrong }

found : (lists : List ℕ) (ms : List Mark) (f : SexpFault) → first_wrong lists ms ≡ Some f → WrongIn lists ms f
found lists [] f h = cc
found lists (m ∷ ms) f h = found_by lists m ms f (wrong_mark lists m) refl h (found (unclosed_behind lists m) ms f)

-- and no other comes before it
behind_by : (lists : List ℕ) (x : Mark) (xs : List Mark) (f g : SexpFault) (o : Option SexpFault) → wrong_mark lists x ≡ o → or_else o (first_wrong (unclosed_behind lists x) xs) ≡ Some f → place x + 1 ≤ offset g → (first_wrong (unclosed_behind lists x) xs ≡ Some f → (g ≡ f) ⊎ (offset f < offset g)) → (g ≡ f) ⊎ (offset f < offset g)
behind_by lists x xs f g (Some h) e w l rest = inr (omega (arith, (wrong_place lists x f (e ∙ w)).0, l))
behind_by lists x xs f g None e w l rest = rest w

least : (before : List Mark) (m : Mark) (behind : List Mark) (lists : List ℕ) (from : ℕ) (f g : SexpFault) → Ascends from (before ++ m ∷ behind) → wrong_mark (unclosed_from lists before) m ≡ Some g → first_wrong lists (before ++ m ∷ behind) ≡ Some f → (g ≡ f) ⊎ (offset f < offset g)
least [] m behind lists from f g t w h = let e : or_else (Some g) (first_wrong (unclosed_behind lists m) behind) ≡ Some f = ap (λ o. or_else o (first_wrong (unclosed_behind lists m) behind)) (sym w) ∙ h in inl cc
least (x ∷ before) m behind lists from f g t w h =
    let l = ascends_behind (place x + 1) before m behind t.1 in
    behind_by lists x (before ++ m ∷ behind) f g (wrong_mark lists x) refl h
    (omega (arith, l.0, (wrong_place (unclosed_from lists (x ∷ before)) m g w).0))
    (least before m behind (unclosed_behind lists x) (place x + 1) f g t.1 w)

pub none_by : (o p : Option SexpFault) → or_else o p ≡ None → (o ≡ None) × (p ≡ None)
none_by None p h = (refl, h)
none_by (Some f) p h = cc

none_wrong : (before : List Mark) (m : Mark) (behind : List Mark) (lists : List ℕ) (g : SexpFault) → wrong_mark (unclosed_from lists before) m ≡ Some g → first_wrong lists (before ++ m ∷ behind) ≡ None → ⊥
none_wrong [] m behind lists g w h = let e = (none_by (wrong_mark lists m) (first_wrong (unclosed_behind lists m) behind) h).0 in absurd cc
none_wrong (x ∷ before) m behind lists g w h = none_wrong before m behind (unclosed_behind lists x) g w (none_by (wrong_mark lists x) (first_wrong (unclosed_behind lists x) (before ++ m ∷ behind)) h).1

-- what offends at a mark is a wrong mark
pub wrong_of : (ms : List Mark) (g : SexpFault) → Offends ms g → rank g ≡ 0 → WrongIn [] ms g
wrong_of ms (fault.Byte at) o r = record { before = o.0; mark = stray at; behind = o.1.0; parts = o.1.1; wrong = refl }
wrong_of ms (fault.Unopened at) o r = record { before = o.0; mark = good (token.Right at); behind = o.1.0; parts = o.1.1; wrong = ap (λ ls. wrong_mark ls (good (token.Right at))) o.2 }
wrong_of ms (fault.Nest at) o r = record { before = o.0; mark = good (token.Left at); behind = o.1.0; parts = o.1.1; wrong = ap (λ e. cond e (Some (fault.Nest at)) None) (eq-eqb (length (unclosed o.0)) nest_limit o.2) }
wrong_of ms (fault.Unclosed at) o r = absurd (omega arith)
wrong_of ms fault.Empty o r = absurd (omega arith)
wrong_of ms fault.NoMemory o r = absurd o

-- and a wrong mark offends
right_is : (at : ℕ) (lists : List ℕ) (f : SexpFault) → wrong_mark lists (good (token.Right at)) ≡ Some f → (lists ≡ []) × (fault.Unopened at ≡ f)
right_is at [] f h = (refl, cc)
right_is at (list ∷ lists) f h = cc

offends_at : (ms before : List Mark) (m : Mark) (behind : List Mark) (f : SexpFault) → ms ≡ before ++ m ∷ behind → wrong_mark (unclosed before) m ≡ Some f → Offends ms f
offends_at ms before (stray at) behind f p w = let e : fault.Byte at ≡ f = cc in subst (λ f. Offends ms f) e (before, (behind, p))
offends_at ms before (good (token.Left at)) behind f p w =
    let e = nest_is at (eqb (length (unclosed before)) nest_limit) f w in
    subst (λ f. Offends ms f) e.1 (before, (behind, p), eqb-true (length (unclosed before)) nest_limit e.0)
offends_at ms before (good (token.Right at)) behind f p w =
    let e = right_is at (unclosed before) f w in
    subst (λ f. Offends ms f) e.1 (before, (behind, p), e.0)
offends_at ms before (good (token.Atom at text)) behind f p w = cc

-- where a mark is wrong
abbrev Answer : SexpFault → SexpFault → Type 0
Answer f g = (g ≡ f) ⊎ Precedes f g

of_wrong : (ms : List Mark) (f g : SexpFault) → Ascends 0 ms → first_wrong [] ms ≡ Some f → rank f ≡ 0 → WrongIn [] ms g → rank g ≡ 0 → Answer f g
of_wrong ms f g t h rf w rg =
    let l = least w.before w.mark w.behind [] 0 f g (subst (λ ms. Ascends 0 ms) w.parts t) w.wrong (ap (first_wrong []) (sym w.parts) ∙ h) in
    elim l [ inl e ↦ inl e | inr lt ↦ inr (inr (rf ∙ sym rg, lt)) ]

before_end : (f g : SexpFault) → rank f ≡ 0 → 0 < rank g → Answer f g
before_end f g rf rg = inr (inl (omega arith))

wrong_precedes : (ms : List Mark) (f g : SexpFault) → Ascends 0 ms → first_wrong [] ms ≡ Some f → rank f ≡ 0 → Offends ms g → Answer f g
wrong_precedes ms f (fault.Byte at) t h rf o = of_wrong ms f (fault.Byte at) t h rf (wrong_of ms (fault.Byte at) o refl) refl
wrong_precedes ms f (fault.Unopened at) t h rf o = of_wrong ms f (fault.Unopened at) t h rf (wrong_of ms (fault.Unopened at) o refl) refl
wrong_precedes ms f (fault.Nest at) t h rf o = of_wrong ms f (fault.Nest at) t h rf (wrong_of ms (fault.Nest at) o refl) refl
wrong_precedes ms f (fault.Unclosed at) t h rf o = before_end f (fault.Unclosed at) rf (omega arith)
wrong_precedes ms f fault.Empty t h rf o = before_end f fault.Empty rf (omega arith)
wrong_precedes ms f fault.NoMemory t h rf o = absurd o

first_of_wrong : (ms : List Mark) (f : SexpFault) → Ascends 0 ms → first_wrong [] ms ≡ Some f → IsFirst ms f
first_of_wrong ms f t h =
    let w = found [] ms f h in
    let r = (wrong_place (unclosed w.before) w.mark f w.wrong).1 in
    record {
      offends = offends_at ms w.before w.mark w.behind f w.parts w.wrong;
      precedes = λ g o. wrong_precedes ms f g t h r o;
    }

-- where none is
not_wrong : {A : Type 0} (ms : List Mark) (g : SexpFault) → first_wrong [] ms ≡ None → Offends ms g → rank g ≡ 0 → A
not_wrong ms g h o r =
    let w = wrong_of ms g o r in
    absurd (none_wrong w.before w.mark w.behind [] g w.wrong (ap (first_wrong []) (sym w.parts) ∙ h))

unclosed_precedes : (ms : List Mark) (at : ℕ) (outer : List ℕ) (g : SexpFault) → first_wrong [] ms ≡ None → unclosed ms ≡ at ∷ outer → Offends ms g → Answer (fault.Unclosed at) g
unclosed_precedes ms at outer (fault.Byte x) h u o = not_wrong ms (fault.Byte x) h o refl
unclosed_precedes ms at outer (fault.Unopened x) h u o = not_wrong ms (fault.Unopened x) h o refl
unclosed_precedes ms at outer (fault.Nest x) h u o = not_wrong ms (fault.Nest x) h o refl
unclosed_precedes ms at outer (fault.Unclosed x) h u o = let e : x ∷ o.0 ≡ at ∷ outer = sym o.1 ∙ u in inl cc
unclosed_precedes ms at outer fault.Empty h u o = inr (inl (omega arith))
unclosed_precedes ms at outer fault.NoMemory h u o = absurd o

empty_precedes : (g : SexpFault) → Offends [] g → Answer fault.Empty g
empty_precedes (fault.Byte x) o = not_wrong [] (fault.Byte x) refl o refl
empty_precedes (fault.Unopened x) o = not_wrong [] (fault.Unopened x) refl o refl
empty_precedes (fault.Nest x) o = not_wrong [] (fault.Nest x) refl o refl
empty_precedes (fault.Unclosed x) o = let e : [] ≡ x ∷ o.0 = o.1 in cc
empty_precedes fault.Empty o = inl refl
empty_precedes fault.NoMemory o = absurd o

first_at_end : (ms : List Mark) (f : SexpFault) (lists : List ℕ) → first_wrong [] ms ≡ None → unclosed ms ≡ lists → fault_at_end lists (no_marks ms) ≡ Some f → IsFirst ms f
first_at_end ms f (at ∷ outer) h u e =
    let same : fault.Unclosed at ≡ f = cc in
    subst (IsFirst ms) same (record { offends = (outer, u); precedes = λ g o. unclosed_precedes ms at outer g h u o })
first_at_end [] f [] h u e =
    let same : fault.Empty ≡ f = cc in
    subst (IsFirst []) same (record { offends = refl; precedes = empty_precedes })
first_at_end (m ∷ ms) f [] h u e = cc

first_by : (ms : List Mark) (f : SexpFault) (o : Option SexpFault) → Ascends 0 ms → first_wrong [] ms ≡ o → or_else o (fault_at_end (unclosed ms) (no_marks ms)) ≡ Some f → IsFirst ms f
first_by ms f (Some g) t h e = let same : g ≡ f = cc in first_of_wrong ms f t (h ∙ ap Some same)
first_by ms f None t h e = first_at_end ms f (unclosed ms) h refl e

none_at_end : (ms : List Mark) (g : SexpFault) (lists : List ℕ) → first_wrong [] ms ≡ None → unclosed ms ≡ lists → fault_at_end lists (no_marks ms) ≡ None → Offends ms g → ⊥
none_at_end ms g (at ∷ outer) h u e o = absurd cc
none_at_end [] g [] h u e o = absurd cc
none_at_end (m ∷ ms) (fault.Byte x) [] h u e o = not_wrong (m ∷ ms) (fault.Byte x) h o refl
none_at_end (m ∷ ms) (fault.Unopened x) [] h u e o = not_wrong (m ∷ ms) (fault.Unopened x) h o refl
none_at_end (m ∷ ms) (fault.Nest x) [] h u e o = not_wrong (m ∷ ms) (fault.Nest x) h o refl
none_at_end (m ∷ ms) (fault.Unclosed x) [] h u e o = let same : x ∷ o.0 ≡ [] = sym o.1 ∙ u in absurd cc
none_at_end (good t ∷ ms) fault.Empty [] h u e o = absurd cc
none_at_end (stray at ∷ ms) fault.Empty [] h u e o = absurd cc
none_at_end (m ∷ ms) fault.NoMemory [] h u e o = o

-- the law, for a text
pub computed_is_fault : (bs : List ℕ) (f : SexpFault) → first_fault (marks_of bs) ≡ Some f → IsFault bs f
computed_is_fault bs f e = first_by (marks_of bs) f (first_wrong [] (marks_of bs)) (marks_ascend false 0 bs) refl e

pub computed_is_faultless : (bs : List ℕ) → first_fault (marks_of bs) ≡ None → IsFaultless bs
computed_is_faultless bs e = λ g o.
    let both = none_by (first_wrong [] (marks_of bs)) (fault_at_end (unclosed (marks_of bs)) (no_marks (marks_of bs))) e in
    none_at_end (marks_of bs) g (unclosed (marks_of bs)) both.0 refl both.1 o

never_before : (f g : SexpFault) → Precedes f g → Precedes g f → ⊥
never_before f g (inl a) (inl b) = omega arith
never_before f g (inl a) (inr b) = omega arith
never_before f g (inr a) (inl b) = omega arith
never_before f g (inr a) (inr b) = omega arith

one_of : (f g : SexpFault) → Answer f g → Answer g f → f ≡ g
one_of f g (inl e) b = sym e
one_of f g (inr a) (inl e) = e
one_of f g (inr a) (inr b) = absurd (never_before f g a b)

-- a text has at most one fault
pub one_fault : (bs : List ℕ) (f g : SexpFault) → IsFault bs f → IsFault bs g → f ≡ g
one_fault bs f g a b = one_of f g (a.precedes g b.offends) (b.precedes f a.offends)

fault_by : (bs : List ℕ) (f : SexpFault) (o : Option SexpFault) → first_fault (marks_of bs) ≡ o → IsFault bs f → o ≡ Some f
fault_by bs f None e h = absurd (computed_is_faultless bs e f h.offends)
fault_by bs f (Some g) e h = ap Some (one_fault bs g f (computed_is_fault bs g e) h)

pub fault_is_computed : (bs : List ℕ) (f : SexpFault) → IsFault bs f → first_fault (marks_of bs) ≡ Some f
fault_is_computed bs f h = fault_by bs f (first_fault (marks_of bs)) refl h

none_by_faultless : (bs : List ℕ) (o : Option SexpFault) → first_fault (marks_of bs) ≡ o → IsFaultless bs → o ≡ None
none_by_faultless bs None e h = refl
none_by_faultless bs (Some f) e h = absurd (h f (computed_is_fault bs f e).offends)

pub faultless_is_computed : (bs : List ℕ) → IsFaultless bs → first_fault (marks_of bs) ≡ None
faultless_is_computed bs h = none_by_faultless bs (first_fault (marks_of bs)) refl h

-- the same of the faults that come by their offsets
pub wrong_is_fault : (bs : List ℕ) (f : SexpFault) → first_wrong [] (marks_of bs) ≡ Some f → IsFault bs f × (rank f ≡ 0)
wrong_is_fault bs f h =
    let w = found [] (marks_of bs) f h in
    (first_of_wrong (marks_of bs) f (marks_ascend false 0 bs) h, (wrong_place (unclosed w.before) w.mark f w.wrong).1)

wrong_by : (bs : List ℕ) (f : SexpFault) (o : Option SexpFault) → first_wrong [] (marks_of bs) ≡ o → IsFault bs f → rank f ≡ 0 → o ≡ Some f
wrong_by bs f None e h r = not_wrong (marks_of bs) f e h.offends r
wrong_by bs f (Some g) e h r = ap Some (one_fault bs g f (wrong_is_fault bs g e).0 h)

pub fault_is_wrong : (bs : List ℕ) (f : SexpFault) → IsFault bs f → rank f ≡ 0 → first_wrong [] (marks_of bs) ≡ Some f
fault_is_wrong bs f h r = wrong_by bs f (first_wrong [] (marks_of bs)) refl h r
