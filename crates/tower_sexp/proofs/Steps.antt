-- A byte takes what a lexer keeps of a text to what it keeps of the text with that byte.
use Rattle.std.proofs.Common.{◌≡◌, ◌≢◌, ℕ, ◌+◌, length, List, [], ◌∷◌, ◌++◌, Bool, true, false, cond, eqb, ◌&&◌, refl, ap, sym, ◌∙◌, arith, append-nil, append_assoc, subst, Some, None}
use Rattle.std.proofs.lemmas.List.{length-append}
use Rattle.std.proofs.lemmas.List.Sums.{fold-append}
use Rattle.tower_sexp.specs.declared.byte.Class.{Class}
use Rattle.tower_sexp.specs.declared.byte.Class.TheVariants as class
use Rattle.tower_sexp.specs.declared.fault.SexpFault.{SexpFault}
use Rattle.tower_sexp.specs.declared.fault.SexpFault.TheVariants as fault
use Rattle.tower_sexp.specs.declared.token.Token.{Token}
use Rattle.tower_sexp.specs.declared.token.Token.TheVariants as token
use Rattle.tower_sexp.specs.Marks.{Mark, good, marks, marks_of, tokens, class_in, is_comment}
use Rattle.tower_sexp.specs.FirstFault.{first_wrong, or_else, no_marks}
use Rattle.tower_sexp.specs.Faults.{offset, unclosed, unclosed_behind, nest_limit}
use Rattle.tower_sexp.specs.Lexing.{State, begun, atom_put, is_nil, lengthened, passed, bracketed, stopped_by, closed_by, read_by, next_state, close_put, put_by, next_put}
use Rattle.tower_sexp.specs.Standing.{Reads, Stops, StandsBy, AllAtom, AllMade}
use Rattle.tower_sexp.specs.WholeTokens.{made_before, whole_tokens}
use Rattle.tower_sexp.proofs.Order.{Ascends, ascends_from, marks_ascend}
use Rattle.tower_sexp.proofs.Gaps.{atom_marks, own_marks, gap}
use Rattle.tower_sexp.proofs.Wrong.{first_wrong-append, atom_sound, atom_lists, unclosed_from}
use Rattle.tower_sexp.proofs.Whole.{tokens-append, tokens-atom, cut_tokens, whole_by, whole_done}

all_made-append : (n : ℕ) (xs ys : List Mark) → AllMade n xs → AllMade n ys → AllMade n (xs ++ ys)
all_made-append n [] ys h k = k
all_made-append n (x ∷ xs) ys h k = (h.0, all_made-append n xs ys h.1 k)

made_later : (n : ℕ) (xs : List Mark) → AllMade n xs → AllMade (n + 1) xs
made_later n [] h = tt
made_later n (x ∷ xs) h = (omega (arith, h.0), made_later n xs h.1)

atom_made : (n at : ℕ) (atom : List ℕ) → at + length atom ≡ n → AllMade (n + 1) (atom_marks at atom)
atom_made n at [] e = tt
atom_made n at (b ∷ atom) e = (omega arith, tt)

own_made : (k : Class) (n : ℕ) → AllMade (n + 1) (own_marks k n)
own_made class.Left n = (omega arith, tt)
own_made class.Right n = (omega arith, tt)
own_made class.Stray n = (omega arith, tt)
own_made class.Atom n = tt
own_made class.Blank n = tt
own_made class.Comment n = tt

no_marks-append : (xs ys : List Mark) → no_marks (xs ++ ys) ≡ (no_marks xs && no_marks ys)
no_marks-append [] ys = refl
no_marks-append (x ∷ xs) ys = refl

all_atom-push : (atom : List ℕ) (b : ℕ) → AllAtom atom → class_in false b ≡ class.Atom → AllAtom (atom ++ b ∷ [])
all_atom-push [] b a h = (h, tt)
all_atom-push (c ∷ atom) b a h = (a.0, all_atom-push atom b a.1 h)

not_in_comment : (comment : Bool) (b : ℕ) → class_in comment b ≡ class.Atom → comment ≡ false
not_in_comment false b h = refl
not_in_comment true b h = behind (eqb b 10) h
  where
    behind : (e : Bool) → cond e class.Blank class.Comment ≡ class.Atom → true ≡ false
    behind true h = cc
    behind false h = cc

own_ascends : (k : Class) (n : ℕ) (ms : List Mark) → Ascends (n + 1) ms → Ascends n (own_marks k n ++ ms)
own_ascends class.Left n ms h = (omega arith, h)
own_ascends class.Right n ms h = (omega arith, h)
own_ascends class.Stray n ms h = (omega arith, h)
own_ascends class.Atom n ms h = ascends_from n (n + 1) ms (omega arith) h
own_ascends class.Blank n ms h = ascends_from n (n + 1) ms (omega arith) h
own_ascends class.Comment n ms h = ascends_from n (n + 1) ms (omega arith) h

no_atom : (at : ℕ) (atom : List ℕ) → no_marks (atom_marks at atom ++ []) ≡ is_nil atom
no_atom at [] = refl
no_atom at (b ∷ atom) = refl

never_empty : (xs ys : List Mark) (m : Mark) → false ≡ no_marks (xs ++ (ys ++ m ∷ []))
never_empty [] [] m = refl
never_empty [] (y ∷ ys) m = refl
never_empty (x ∷ xs) ys m = refl

-- What a lexer does at a byte, and what it puts.
abbrev pub Takes : State → List ℕ → ℕ → State → List Token → Type 0
Takes s bs x next put = StandsBy next.stopped next (bs ++ x ∷ []) × (whole_tokens (bs ++ x ∷ []) ≡ whole_tokens bs ++ put)

module _ (s : State) (bs : List ℕ) (x : ℕ) (r : Reads s bs) (live : s.stopped ≡ None) where
  one_more : s.taken + 1 ≡ length (bs ++ x ∷ [])
  one_more = omega (arith, r.taken, length-append bs (x ∷ []))

  regroup : (more : List ℕ) → marks_of ((bs ++ x ∷ []) ++ more) ≡ r.done ++ marks s.comment s.start (s.atom ++ x ∷ more)
  regroup more = ap marks_of (append_assoc bs (x ∷ []) more) ∙ r.resumes (x ∷ more)

  -- a byte of an atom
  longer : class_in s.comment x ≡ class.Atom → Reads (lengthened x s) (bs ++ x ∷ [])
  longer h =
      let outside : s.comment ≡ false = not_in_comment s.comment x h in
      record {
        taken = one_more;
        start = omega (arith, r.start, length-append s.atom (x ∷ []));
        atom = all_atom-push s.atom x r.atom (ap (λ c. class_in c x) (sym outside) ∙ h);
        comment = λ e. cc;
        done = r.done;
        resumes = λ more. regroup more ∙ ap (λ w. r.done ++ marks s.comment s.start w) (sym (append_assoc s.atom (x ∷ []) more));
        made = made_later s.taken r.done r.made;
        sound = r.sound;
        lists = r.lists;
        is_empty = r.is_empty;
      }

  takes_atom : class_in s.comment x ≡ class.Atom → Takes s bs x (lengthened x s) []
  unfolding longer
  takes_atom h =
      let next = longer h in (
        subst (λ o. StandsBy o (lengthened x s) (bs ++ x ∷ [])) (sym live) next,
        whole_done (lengthened x s) (bs ++ x ∷ []) next ∙ sym (whole_done s bs r) ∙ sym (append-nil (whole_tokens bs)),
      )

  module _ (k : Class) (h : class_in s.comment x ≡ k) (n : k ≢ class.Atom) where
    -- the marks that the byte makes whole
    new : List Mark
    new = atom_marks s.start s.atom ++ own_marks k s.taken

    behind : List ℕ → List Mark
    behind more = own_marks k s.taken ++ marks (is_comment k) (s.taken + 1) more

    split : (more : List ℕ) → marks_of ((bs ++ x ∷ []) ++ more) ≡ r.done ++ (atom_marks s.start s.atom ++ behind more)
    unfolding behind
    split more = regroup more ∙ ap (λ ms. r.done ++ ms) (gap s x more k h n r.atom r.comment r.start)

    -- a byte that is none of an atom and is not wrong
    pub further : (lists : List ℕ) (e : Bool) → first_wrong (unclosed r.done) (own_marks k s.taken) ≡ None → lists ≡ unclosed_from (unclosed r.done) (own_marks k s.taken) → e ≡ no_marks (r.done ++ (atom_marks s.start s.atom ++ own_marks k s.taken)) → Reads (record s { taken = s.taken + 1; comment = is_comment k; start = s.taken + 1; atom = []; lists = lists; is_empty = e }) (bs ++ x ∷ [])
    unfolding behind
    further lists e sound opens empty = record {
      taken = one_more;
      start = omega arith;
      atom = tt;
      comment = λ _. refl;
      done = r.done ++ (atom_marks s.start s.atom ++ own_marks k s.taken);
      resumes = λ more.
          split more
          ∙ ap (λ ms. r.done ++ ms) (sym (append_assoc (atom_marks s.start s.atom) (own_marks k s.taken) _))
          ∙ sym (append_assoc r.done (atom_marks s.start s.atom ++ own_marks k s.taken) _);
      made = all_made-append (s.taken + 1) r.done _ (made_later s.taken r.done r.made) (all_made-append (s.taken + 1) (atom_marks s.start s.atom) _ (atom_made s.taken s.start s.atom r.start) (own_made k s.taken));
      sound =
          first_wrong-append [] r.done _
          ∙ ap (λ o. or_else o (first_wrong (unclosed r.done) (atom_marks s.start s.atom ++ own_marks k s.taken))) r.sound
          ∙ first_wrong-append (unclosed r.done) (atom_marks s.start s.atom) _
          ∙ ap (λ o. or_else o (first_wrong (unclosed_from (unclosed r.done) (atom_marks s.start s.atom)) (own_marks k s.taken))) (atom_sound (unclosed r.done) s.start s.atom)
          ∙ ap (λ ls. first_wrong ls (own_marks k s.taken)) (atom_lists (unclosed r.done) s.start s.atom)
          ∙ sound;
      lists =
          opens
          ∙ ap (λ ls. unclosed_from ls (own_marks k s.taken)) (sym (atom_lists (unclosed r.done) s.start s.atom))
          ∙ sym (fold-append unclosed_behind (unclosed r.done) (atom_marks s.start s.atom) (own_marks k s.taken))
          ∙ sym (fold-append unclosed_behind [] r.done (atom_marks s.start s.atom ++ own_marks k s.taken));
      is_empty = empty;
    }

    further_takes : (lists : List ℕ) (e : Bool) → first_wrong (unclosed r.done) (own_marks k s.taken) ≡ None → lists ≡ unclosed_from (unclosed r.done) (own_marks k s.taken) → e ≡ no_marks (r.done ++ (atom_marks s.start s.atom ++ own_marks k s.taken)) → Takes s bs x (record s { taken = s.taken + 1; comment = is_comment k; start = s.taken + 1; atom = []; lists = lists; is_empty = e }) (atom_put s ++ tokens (own_marks k s.taken))
    unfolding further
    further_takes lists e sound opens empty =
        let next : Reads (record s { taken = s.taken + 1; comment = is_comment k; start = s.taken + 1; atom = []; lists = lists; is_empty = e }) (bs ++ x ∷ []) = further lists e sound opens empty in (
          subst (λ o. StandsBy o (record s { taken = s.taken + 1; comment = is_comment k; start = s.taken + 1; atom = []; lists = lists; is_empty = e }) (bs ++ x ∷ [])) (sym live) next,
          whole_done _ (bs ++ x ∷ []) next
              ∙ tokens-append r.done (atom_marks s.start s.atom ++ own_marks k s.taken)
              ∙ ap (λ ts. tokens r.done ++ ts) (tokens-append (atom_marks s.start s.atom) (own_marks k s.taken) ∙ ap (λ ts. ts ++ tokens (own_marks k s.taken)) (tokens-atom s.start s.atom))
              ∙ ap (λ ts. ts ++ (atom_put s ++ tokens (own_marks k s.taken))) (sym (whole_done s bs r)),
        )

    -- a byte that is wrong
    module _ (f : SexpFault) (wrong : first_wrong (unclosed r.done) (own_marks k s.taken) ≡ Some f) (there : offset f ≡ s.taken) where
      goes_wrong : (more : List ℕ) → first_wrong [] (r.done ++ (atom_marks s.start s.atom ++ behind more)) ≡ Some f
      unfolding behind
      goes_wrong more =
          first_wrong-append [] r.done _
          ∙ ap (λ o. or_else o (first_wrong (unclosed r.done) (atom_marks s.start s.atom ++ behind more))) r.sound
          ∙ first_wrong-append (unclosed r.done) (atom_marks s.start s.atom) _
          ∙ ap (λ o. or_else o (first_wrong (unclosed_from (unclosed r.done) (atom_marks s.start s.atom)) (behind more))) (atom_sound (unclosed r.done) s.start s.atom)
          ∙ ap (λ ls. first_wrong ls (behind more)) (atom_lists (unclosed r.done) s.start s.atom)
          ∙ first_wrong-append (unclosed r.done) (own_marks k s.taken) _
          ∙ ap (λ o. or_else o (first_wrong (unclosed_from (unclosed r.done) (own_marks k s.taken)) (marks (is_comment k) (s.taken + 1) more))) wrong

      keeps : (more : List ℕ) → whole_tokens ((bs ++ x ∷ []) ++ more) ≡ tokens r.done
      unfolding behind
      keeps more =
          whole_by ((bs ++ x ∷ []) ++ more) (r.done ++ (atom_marks s.start s.atom ++ behind more)) (Some f) (split more) (goes_wrong more)
          ∙ ap (λ n. made_before n (tokens (r.done ++ (atom_marks s.start s.atom ++ behind more)))) there
          ∙ cut_tokens s.taken s.start s.atom r.done (behind more) r.made r.start (own_ascends k s.taken _ (marks_ascend (is_comment k) (s.taken + 1) more))

      kept_all : whole_tokens (bs ++ x ∷ []) ≡ tokens r.done
      kept_all = ap whole_tokens (sym (append-nil (bs ++ x ∷ []))) ∙ keeps []

      stops : Takes s bs x (stopped_by f s) []
      stops = (
        record {
          taken = one_more;
          wrong = λ more. ap (first_wrong []) (split more) ∙ goes_wrong more;
          same = λ more. keeps more ∙ sym kept_all;
        },
        kept_all ∙ sym (whole_done s bs r) ∙ sym (append-nil (whole_tokens bs)),
      )

  -- by the class of the byte
  passed_empty : (s.is_empty && is_nil s.atom) ≡ no_marks (r.done ++ (atom_marks s.start s.atom ++ []))
  passed_empty =
      ap (λ e. e && is_nil s.atom) r.is_empty
      ∙ ap (λ e. no_marks r.done && e) (sym (no_atom s.start s.atom))
      ∙ sym (no_marks-append r.done (atom_marks s.start s.atom ++ []))

  takes_blank : class_in s.comment x ≡ class.Blank → Takes s bs x (passed false s) (atom_put s)
  takes_blank h =
      let t = further_takes class.Blank h (λ e. cc) s.lists (s.is_empty && is_nil s.atom) refl r.lists passed_empty in
      (t.0, t.1 ∙ ap (λ ts. whole_tokens bs ++ ts) (append-nil (atom_put s)))

  takes_comment : class_in s.comment x ≡ class.Comment → Takes s bs x (passed true s) (atom_put s)
  takes_comment h =
      let t = further_takes class.Comment h (λ e. cc) s.lists (s.is_empty && is_nil s.atom) refl r.lists passed_empty in
      (t.0, t.1 ∙ ap (λ ts. whole_tokens bs ++ ts) (append-nil (atom_put s)))

  nest_test : (e : Bool) → eqb (length s.lists) nest_limit ≡ e → first_wrong (unclosed r.done) (own_marks class.Left s.taken) ≡ or_else (cond e (Some (fault.Nest s.taken)) None) None
  nest_test e t =
      ap (λ ls. first_wrong ls (own_marks class.Left s.taken)) (sym r.lists)
      ∙ ap (λ e. or_else (cond e (Some (fault.Nest s.taken)) None) None) t

  takes_left : class_in s.comment x ≡ class.Left → (e : Bool) → eqb (length s.lists) nest_limit ≡ e → Takes s bs x (cond e (stopped_by (fault.Nest s.taken) s) (bracketed (s.taken ∷ s.lists) s)) (cond e [] (atom_put s ++ token.Left s.taken ∷ []))
  takes_left h true t = stops class.Left h (λ e. cc) (fault.Nest s.taken) (nest_test true t) refl
  takes_left h false t = further_takes class.Left h (λ e. cc) (s.taken ∷ s.lists) false (nest_test false t) (ap (λ ls. s.taken ∷ ls) r.lists) (never_empty r.done (atom_marks s.start s.atom) (good (token.Left s.taken)))

  takes_right : class_in s.comment x ≡ class.Right → (lists : List ℕ) → s.lists ≡ lists → Takes s bs x (closed_by lists s) (close_put lists s)
  takes_right h [] e = stops class.Right h (λ e. cc) (fault.Unopened s.taken) (ap (λ ls. first_wrong ls (own_marks class.Right s.taken)) (sym r.lists ∙ e)) refl
  takes_right h (list ∷ lists) e =
      let outer : unclosed r.done ≡ list ∷ lists = sym r.lists ∙ e in
      further_takes class.Right h (λ e. cc) lists false
      (ap (λ ls. first_wrong ls (own_marks class.Right s.taken)) outer)
      (sym (ap (λ ls. unclosed_from ls (own_marks class.Right s.taken)) outer))
      (never_empty r.done (atom_marks s.start s.atom) (good (token.Right s.taken)))

  takes_stray : class_in s.comment x ≡ class.Stray → Takes s bs x (stopped_by (fault.Byte s.taken) s) []
  takes_stray h = stops class.Stray h (λ e. cc) (fault.Byte s.taken) refl refl

  takes_by : (k : Class) → class_in s.comment x ≡ k → Takes s bs x (read_by k x s) (put_by k s)
  takes_by class.Atom h = takes_atom h
  takes_by class.Blank h = takes_blank h
  takes_by class.Comment h = takes_comment h
  takes_by class.Left h = takes_left h (eqb (length s.lists) nest_limit) refl
  takes_by class.Right h = takes_right h s.lists refl
  takes_by class.Stray h = takes_stray h

  pub takes : Takes s bs x (next_state x s) (next_put x s)
  takes = takes_by (class_in s.comment x) refl

-- a lexer that has stopped takes a byte and does nothing else
pub takes_none : (f : SexpFault) (s next : State) (bs : List ℕ) (x : ℕ) → Stops f s bs → next.taken ≡ s.taken + 1 → Stops f next (bs ++ x ∷ []) × (whole_tokens (bs ++ x ∷ []) ≡ whole_tokens bs)
takes_none f s next bs x t e = (
  record {
    taken = omega (arith, e, t.taken, length-append bs (x ∷ []));
    wrong = λ more. ap (λ bs. first_wrong [] (marks_of bs)) (append_assoc bs (x ∷ []) more) ∙ t.wrong (x ∷ more);
    same = λ more. ap whole_tokens (append_assoc bs (x ∷ []) more) ∙ t.same (x ∷ more) ∙ sym (t.same (x ∷ []));
  },
  t.same (x ∷ []),
)

-- a lexer that has taken nothing
pub begins : Reads begun []
begins = record {
  taken = refl;
  start = refl;
  atom = tt;
  comment = λ e. refl;
  done = [];
  resumes = λ more. refl;
  made = tt;
  sound = refl;
  lists = refl;
  is_empty = refl;
}
