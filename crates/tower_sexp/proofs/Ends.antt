-- What a lexer answers where the text ends.
use Rattle.std.proofs.Common.{◌≡◌, ℕ, ◌+◌, length, List, [], ◌∷◌, ◌++◌, Bool, true, false, ◌&&◌, refl, ap, sym, ◌∙◌, subst, append-nil, reverse, Option, Some, None}
use Rattle.std.proofs.lemmas.List.Sums.{fold-append}
use Rattle.std.proofs.lemmas.List.{reverse-append}
use Rattle.tower_sexp.specs.declared.fault.SexpFault.{SexpFault}
use Rattle.tower_sexp.specs.declared.fault.SexpFault.TheVariants as fault
use Rattle.tower_sexp.specs.declared.lexer.Lexer.{Lexer}
use Rattle.tower_sexp.specs.declared.token.Token.{Token}
use Rattle.tower_sexp.specs.Marks.{Mark, marks_of, tokens, tokens_of}
use Rattle.tower_sexp.specs.Faults.{IsFault, IsFaultless, unclosed, unclosed_behind}
use Rattle.tower_sexp.specs.FirstFault.{or_else, first_wrong, no_marks, fault_at_end, first_fault}
use Rattle.tower_sexp.specs.Lexing.{State, state_of, atom_put, is_nil, next_state, next_put, begun}
use Rattle.tower_sexp.specs.Standing.{Reads, Stops, StandsBy, StandsFor}
use Rattle.tower_sexp.specs.WholeTokens.{whole_tokens, GrowsAlike}
use Rattle.tower_sexp.proofs.Gaps.{atom_marks}
use Rattle.tower_sexp.proofs.Wrong.{atom_lists}
use Rattle.tower_sexp.proofs.Whole.{tokens-append, tokens-atom, all_marks, none_wrong, whole_done}
use Rattle.tower_sexp.proofs.Firsts.{computed_is_fault, computed_is_faultless}
use Rattle.tower_sexp.proofs.Steps.{takes, takes_none, begins}

no_atom : (done : List Mark) (at : ℕ) (atom : List ℕ) → no_marks (done ++ atom_marks at atom) ≡ (no_marks done && is_nil atom)
no_atom [] at [] = refl
no_atom [] at (b ∷ atom) = refl
no_atom (m ∷ done) at atom = refl

-- the first fault, by what a lexer keeps that reads on
reads_fault : (s : State) (bs : List ℕ) → Reads s bs → first_fault (marks_of bs) ≡ fault_at_end s.lists (s.is_empty && is_nil s.atom)
reads_fault s bs r =
    let ms : List Mark = r.done ++ atom_marks s.start s.atom in
    let lists : unclosed ms ≡ s.lists = fold-append unclosed_behind [] r.done (atom_marks s.start s.atom) ∙ atom_lists (unclosed r.done) s.start s.atom ∙ sym r.lists in
    let empty : no_marks ms ≡ (s.is_empty && is_nil s.atom) = no_atom r.done s.start s.atom ∙ ap (λ e. e && is_nil s.atom) (sym r.is_empty) in
    ap first_fault (all_marks s bs r)
    ∙ ap (λ o. or_else o (fault_at_end (unclosed ms) (no_marks ms))) (none_wrong s bs r)
    ∙ ap (λ ls. fault_at_end ls (no_marks ms)) lists
    ∙ ap (fault_at_end s.lists) empty

stops_fault : (f : SexpFault) (s : State) (bs : List ℕ) → Stops f s bs → first_fault (marks_of bs) ≡ Some f
stops_fault f s bs t =
    let w : first_wrong [] (marks_of bs) ≡ Some f = ap (λ bs. first_wrong [] (marks_of bs)) (sym (append-nil bs)) ∙ t.wrong [] in
    ap (λ o. or_else o (fault_at_end (unclosed (marks_of bs)) (no_marks (marks_of bs)))) w

pub reading : (l : Lexer) (bs : List ℕ) → l.stopped ≡ None → StandsFor l bs → Reads (state_of l) bs
unfolding StandsFor
reading l bs e h = subst (λ o. StandsBy o (state_of l) bs) e h

pub stopping : (l : Lexer) (bs : List ℕ) (f : SexpFault) → l.stopped ≡ Some f → StandsFor l bs → Stops f (state_of l) bs
unfolding StandsFor
stopping l bs f e h = subst (λ o. StandsBy o (state_of l) bs) e h

pub stopped_fault : (l : Lexer) (bs : List ℕ) (f : SexpFault) → l.stopped ≡ Some f → StandsFor l bs → IsFault bs f
stopped_fault l bs f e h = computed_is_fault bs f (stops_fault f (state_of l) bs (stopping l bs f e h))

pub has_memory : (l : Lexer) (bs : List ℕ) (f : SexpFault) → l.stopped ≡ Some f → StandsFor l bs → f ≡ fault.NoMemory → ⊥
has_memory l bs f e h m = (subst (IsFault bs) m (stopped_fault l bs f e h)).offends

pub end_fault : (l : Lexer) (bs : List ℕ) (f : SexpFault) → l.stopped ≡ None → fault_at_end (reverse l.unclosed) (l.is_empty && is_nil l.atom) ≡ Some f → StandsFor l bs → IsFault bs f
end_fault l bs f e w h = computed_is_fault bs f (reads_fault (state_of l) bs (reading l bs e h) ∙ w)

pub no_fault : (l : Lexer) (bs : List ℕ) → l.stopped ≡ None → fault_at_end (reverse l.unclosed) (l.is_empty && is_nil l.atom) ≡ None → StandsFor l bs → IsFaultless bs
no_fault l bs e w h = computed_is_faultless bs (reads_fault (state_of l) bs (reading l bs e h) ∙ w)

pub all_tokens : (l : Lexer) (bs : List ℕ) → l.stopped ≡ None → StandsFor l bs → tokens_of bs ≡ whole_tokens bs ++ atom_put (state_of l)
all_tokens l bs e h =
    let s = state_of l in
    let r : Reads s bs = reading l bs e h in
    ap tokens (all_marks s bs r)
    ∙ tokens-append r.done (atom_marks s.start s.atom)
    ∙ ap (λ ts. ts ++ tokens (atom_marks s.start s.atom)) (sym (whole_done s bs r))
    ∙ ap (λ ts. whole_tokens bs ++ ts) (tokens-atom s.start s.atom)

-- where a list is unclosed, the innermost is the last
pub last_list : (lists rest : List ℕ) (at : ℕ) (is_empty : Bool) → lists ≡ rest ++ at ∷ [] → fault_at_end (reverse lists) is_empty ≡ Some (fault.Unclosed at)
last_list lists rest at is_empty e = ap (λ ls. fault_at_end (reverse ls) is_empty) e ∙ ap (λ ls. fault_at_end ls is_empty) (reverse-append rest (at ∷ []))

pub not_empty : (lists : List ℕ) (is_empty : Bool) → lists ≡ [] → is_empty ≡ false → fault_at_end (reverse lists) is_empty ≡ None
not_empty lists is_empty e h = ap (λ ls. fault_at_end (reverse ls) is_empty) e ∙ ap (fault_at_end []) h

pub empty : (lists : List ℕ) (is_empty : Bool) → lists ≡ [] → is_empty ≡ true → fault_at_end (reverse lists) is_empty ≡ Some fault.Empty
empty lists is_empty e h = ap (λ ls. fault_at_end (reverse ls) is_empty) e ∙ ap (fault_at_end []) h

-- a byte that was taken, and what was put
pub fed : (l next : Lexer) (bs : List ℕ) (x : ℕ) (old new : List Token) → l.stopped ≡ None → state_of next ≡ next_state x (state_of l) → new ≡ old ++ next_put x (state_of l) → StandsFor l bs → StandsFor next (bs ++ x ∷ []) × GrowsAlike old new (whole_tokens bs) (whole_tokens (bs ++ x ∷ []))
unfolding StandsFor
fed l next bs x old new live e p h =
    let t = takes (state_of l) bs x (reading l bs live h) live in (
      subst (λ s. StandsBy s.stopped s (bs ++ x ∷ [])) (sym e) t.0,
      record { more = next_put x (state_of l); put = p; made = t.1 },
    )

-- a byte that was only counted, behind something wrong
abbrev pub one_further : Lexer → Lexer
one_further l = record l { taken = l.taken + 1 }

pub counted : (l : Lexer) (bs : List ℕ) (x : ℕ) (ts : List Token) (f : SexpFault) → l.stopped ≡ Some f → StandsFor l bs → StandsFor (one_further l) (bs ++ x ∷ []) × GrowsAlike ts ts (whole_tokens bs) (whole_tokens (bs ++ x ∷ []))
unfolding StandsFor
counted l bs x ts f e h =
    let t = takes_none f (state_of l) (state_of (one_further l)) bs x (stopping l bs f e h) refl in (
      subst (λ o. StandsBy o (state_of (one_further l)) (bs ++ x ∷ [])) (sym e) t.0,
      record { more = []; put = sym (append-nil ts); made = t.1 ∙ sym (append-nil (whole_tokens bs)) },
    )

-- a lexer that has taken nothing
pub begun_stands : (l : Lexer) → state_of l ≡ begun → StandsFor l []
unfolding StandsFor
begun_stands l e = subst (λ s. StandsBy s.stopped s []) (sym e) begins

taken_by : (o : Option SexpFault) (s : State) (bs : List ℕ) → StandsBy o s bs → s.taken ≡ length bs
taken_by None s bs r = r.taken
taken_by (Some f) s bs t = t.taken

-- as many bytes as the text has
pub taken_all : (l : Lexer) (bs : List ℕ) → StandsFor l bs → l.taken ≡ length bs
unfolding StandsFor
taken_all l bs h = taken_by l.stopped (state_of l) bs h
