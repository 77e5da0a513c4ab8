-- A list of statements, as far as it was gone through.
use Rattle.std.proofs.Common.{◌≡◌, ℕ, ◌+◌, ◌<◌, ◌≤◌, suc, List, [], ◌∷◌, ◌++◌, length, take, drop, get_or, None, Result, refl, sym, ap, subst, ◌∙◌, append_assoc, append-nil, arith, drop-cons}
use Rattle.std.specs.Result.{IsErrAnd, IfErr}
use Rattle.std.proofs.Math.Seq.{take-append_seam}
use Rattle.std.proofs.lemmas.List.{take_more, take-append-drop, take_all}
use Rattle.tower_syntax.specs.declared.named.Target.{Target}
use Rattle.tower_syntax.specs.RawTree.{RawStmt, RawStmts, no_stmts, stmt, bind, local, set, copy, branch, loop, emit, Id}
use Rattle.tower_syntax.specs.RawView.{raw_stmt_of, all_raw_stmts_of}
use Rattle.tower_syntax.specs.NamedView.{named_stmt_of, all_named_stmts_of}
use Rattle.tower_syntax.specs.declared.raw.RawStmt.{RawStmt as StmtValue}
use Rattle.tower_syntax.specs.declared.named.NamedStmt.{NamedStmt as NamedStmtValue}
use Rattle.arch_names.specs.declared.names.Scope.{Scope}
use Rattle.arch_names.specs.declared.fault.NameFault.{NameFault}
use Rattle.arch_names.specs.Names.{Names}
use Rattle.arch_names.specs.Sites.{Around, stmt_sites, all_sites, bound_by, bound_by_all, past, after}
use Rattle.arch_names.specs.Linked.{linked_stmt, linked_all}
use Rattle.arch_names.specs.Walk.{first, meant, IsMade, IsFault}
use Rattle.arch_names.proofs.First.{clean_both, fault_left, fault_right, exit}

-- the scope behind a list
abbrev pub after_all : Scope → RawStmts Id → Scope
after_all s no_stmts = s
after_all s (stmt t ts) = after_all (after s t) ts

abbrev pub snoc : {U : Type 0} → RawStmts U → RawStmt U → RawStmts U
snoc no_stmts t = stmt t no_stmts
snoc (stmt s ss) t = stmt s (snoc ss t)

named-push : (ms : List NamedStmtValue) (m : NamedStmtValue) → all_named_stmts_of (ms ++ m ∷ []) ≡ snoc (all_named_stmts_of ms) (named_stmt_of m)
named-push [] m = refl
named-push (x ∷ xs) m = ap (stmt (named_stmt_of x)) (named-push xs m)

module _ (a : Around) where
  linked-push : (s : Scope) (xs : List StmtValue) (y : StmtValue) → linked_all meant a s (all_raw_stmts_of (xs ++ y ∷ [])) ≡ snoc (linked_all meant a s (all_raw_stmts_of xs)) (linked_stmt meant a (after_all s (all_raw_stmts_of xs)) (raw_stmt_of y))
  linked-push s [] y = refl
  linked-push s (x ∷ xs) y = ap (stmt (linked_stmt meant a s (raw_stmt_of x))) (linked-push (after s (raw_stmt_of x)) xs y)

  sites-append : (s : Scope) (xs ys : List StmtValue) → all_sites a s (all_raw_stmts_of (xs ++ ys)) ≡ all_sites a s (all_raw_stmts_of xs) ++ all_sites a (after_all s (all_raw_stmts_of xs)) (all_raw_stmts_of ys)
  sites-append s [] ys = refl
  sites-append s (x ∷ xs) ys = ap (λ r. stmt_sites a s (raw_stmt_of x) ++ r) (sites-append (after s (raw_stmt_of x)) xs ys) ∙ sym (append_assoc (stmt_sites a s (raw_stmt_of x)) (all_sites a (after s (raw_stmt_of x)) (all_raw_stmts_of xs)) (all_sites a (after_all (after s (raw_stmt_of x)) (all_raw_stmts_of xs)) (all_raw_stmts_of ys)))

after-push : (s : Scope) (xs : List StmtValue) (y : StmtValue) → after_all s (all_raw_stmts_of (xs ++ y ∷ [])) ≡ after (after_all s (all_raw_stmts_of xs)) (raw_stmt_of y)
after-push s [] y = refl
after-push s (x ∷ xs) y = after-push (after s (raw_stmt_of x)) xs y

-- what a statement leaves in scope stands behind what was there, and its names are counted
record Longer (s n : Scope) (count : ℕ) : Type 0 where
  more : Names Target
  names : n.names ≡ s.names ++ more
  binders : n.binders ≡ s.binders + count

after_longer : (s : Scope) (t : RawStmt Id) → Longer s (after s t) (bound_by t)
after_longer s (bind at x e) = record { more = _; names = refl; binders = refl }
after_longer s (local at x t) = record { more = _; names = refl; binders = refl }
after_longer s (set at p e) = record { more = []; names = sym (append-nil s.names); binders = omega arith }
after_longer s (copy at p q) = record { more = []; names = sym (append-nil s.names); binders = omega arith }
after_longer s (branch at e then_at ss else_at ts) = record { more = []; names = sym (append-nil s.names); binders = omega arith }
after_longer s (loop at x n body) = record { more = []; names = sym (append-nil s.names); binders = refl }
after_longer s (emit at u e) = record { more = []; names = sym (append-nil s.names); binders = omega arith }

all_longer : (s : Scope) (ts : RawStmts Id) → Longer s (after_all s ts) (bound_by_all ts)
all_longer s no_stmts = record { more = []; names = sym (append-nil s.names); binders = omega arith }
all_longer s (stmt t ts) = let p = after_longer s t in let q = all_longer (after s t) ts in record {
  more = p.more ++ q.more;
  names = q.names ∙ ap (λ l. l ++ q.more) p.names ∙ append_assoc s.names p.more q.more;
  binders = let e : (after_all (after s t) ts).binders ≡ (s.binders + bound_by t) + bound_by_all ts = q.binders ∙ ap (λ n. n + bound_by_all ts) p.binders in omega (arith, e);
}

-- the names of a list are dropped behind it
pub all_past : (s now : Scope) (ts : RawStmts Id) (n : ℕ) (left : Names Target) → now ≡ after_all s ts → n ≡ length s.names → left ≡ take n now.names → (let r : Scope = record { names = left; binders = now.binders } in r) ≡ past s (bound_by_all ts)
all_past s now ts n left e l h = let p = all_longer s ts in
    let k : left ≡ s.names = h ∙ (λ i. take (l i) ((ap (λ z. z.names) e ∙ p.names) i)) ∙ take-append_seam s.names p.more in
    let b : now.binders ≡ s.binders + bound_by_all ts = ap (λ z. z.binders) e ∙ p.binders in
    λ i. record { names = k i; binders = b i }

pub record Passed (a : Around) (s : Scope) (xs : List StmtValue) (now : Scope) (made : List NamedStmtValue) : Type 0 where
  pub clean : first (all_sites a s (all_raw_stmts_of xs)) ≡ None
  pub tree : all_named_stmts_of made ≡ linked_all meant a s (all_raw_stmts_of xs)
  pub scope : now ≡ after_all s (all_raw_stmts_of xs)

pub none_passed : (a : Around) (s : Scope) → Passed a s [] s []
none_passed a s = record { clean = refl; tree = refl; scope = refl }

pub passed_more : (a : Around) (s : Scope) (xs : List StmtValue) (i : ℕ) (d : StmtValue) (now next : Scope) (made made' : List NamedStmtValue) (m : NamedStmtValue) → i < length xs → Passed a s (take i xs) now made → IsMade (stmt_sites a now (raw_stmt_of (get_or xs i d))) named_stmt_of (linked_stmt meant a now (raw_stmt_of (get_or xs i d))) m → next ≡ after now (raw_stmt_of (get_or xs i d)) → made' ≡ made ++ m ∷ [] → Passed a s (take (i + 1) xs) next made'
passed_more a s xs i d now next made made' m l p h n g = rw (take_more xs i d l) (
    let y = get_or xs i d in
    let h1 = subst (λ z. IsMade (stmt_sites a z (raw_stmt_of y)) named_stmt_of (linked_stmt meant a z (raw_stmt_of y)) m) p.scope h in
    record {
      clean = ap first (sites-append a s (take i xs) (y ∷ [])) ∙ clean_both (all_sites a s (all_raw_stmts_of (take i xs))) (stmt_sites a (after_all s (all_raw_stmts_of (take i xs))) (raw_stmt_of y) ++ []) p.clean (clean_both (stmt_sites a (after_all s (all_raw_stmts_of (take i xs))) (raw_stmt_of y)) [] h1.0 refl);
      tree = ap all_named_stmts_of g ∙ named-push made m ∙ (λ j. snoc (p.tree j) (h1.1 j)) ∙ sym (linked-push a s (take i xs) y);
      scope = n ∙ ap (λ z. after z (raw_stmt_of y)) p.scope ∙ sym (after-push s (take i xs) y);
    })

pub all_passed : (a : Around) (s : Scope) (xs : List StmtValue) (i : ℕ) (now : Scope) (made : List NamedStmtValue) → length xs ≤ i → Passed a s (take i xs) now made → Passed a s xs now made
all_passed a s xs i now made l p = subst (λ ys. Passed a s ys now made) (take_all i xs l) p

split : (xs : List StmtValue) (i : ℕ) (d : StmtValue) → i < length xs → xs ≡ take i xs ++ get_or xs i d ∷ drop (suc i) xs
split xs i d l = sym (take-append-drop i xs) ∙ ap (λ r. take i xs ++ r) (drop-cons xs i d l)

pub passed_exit : (a : Around) (s : Scope) (xs : List StmtValue) (i : ℕ) (d : StmtValue) (now : Scope) (made : List NamedStmtValue) {R : Type 0} (r : Result R NameFault) (f : NameFault) → i < length xs → Passed a s (take i xs) now made → IsErrAnd r (λ x. x ≡ f) → IsFault (stmt_sites a now (raw_stmt_of (get_or xs i d))) f → IfErr r (IsFault (all_sites a s (all_raw_stmts_of xs)))
passed_exit a s xs i d now made r f l p h k =
    let y = get_or xs i d in
    let front = all_sites a s (all_raw_stmts_of (take i xs)) in
    let now' = after_all s (all_raw_stmts_of (take i xs)) in
    let back = all_sites a (after now' (raw_stmt_of y)) (all_raw_stmts_of (drop (suc i) xs)) in
    let e : all_sites a s (all_raw_stmts_of xs) ≡ front ++ (stmt_sites a now' (raw_stmt_of y) ++ back) = ap (λ ys. all_sites a s (all_raw_stmts_of ys)) (split xs i d l) ∙ sites-append a s (take i xs) (y ∷ drop (suc i) xs) in
    let k1 : IsFault (stmt_sites a now' (raw_stmt_of y)) f = subst (λ z. IsFault (stmt_sites a z (raw_stmt_of y)) f) p.scope k in
    exit r (all_sites a s (all_raw_stmts_of xs)) f h (subst (λ ss. IsFault ss f) (sym e) (fault_right front (stmt_sites a now' (raw_stmt_of y) ++ back) f p.clean (fault_left (stmt_sites a now' (raw_stmt_of y)) back f k1)))

-- the same where y is the statement there
pub more_at : (a : Around) (s : Scope) (xs : List StmtValue) (i : ℕ) (y : StmtValue) (now next : Scope) (made made' : List NamedStmtValue) (m : NamedStmtValue) → y ≡ get_or xs i y → i < length xs → Passed a s (take i xs) now made → IsMade (stmt_sites a now (raw_stmt_of y)) named_stmt_of (linked_stmt meant a now (raw_stmt_of y)) m → next ≡ after now (raw_stmt_of y) → made' ≡ made ++ m ∷ [] → Passed a s (take (i + 1) xs) next made'
more_at a s xs i y now next made made' m e l p h n g = passed_more a s xs i y now next made made' m l p (subst (λ z. IsMade (stmt_sites a now (raw_stmt_of z)) named_stmt_of (linked_stmt meant a now (raw_stmt_of z)) m) e h) (n ∙ ap (λ z. after now (raw_stmt_of z)) e) g

pub exit_at : (a : Around) (s : Scope) (xs : List StmtValue) (i : ℕ) (y : StmtValue) (now : Scope) (made : List NamedStmtValue) {R : Type 0} (r : Result R NameFault) (f : NameFault) → y ≡ get_or xs i y → i < length xs → Passed a s (take i xs) now made → IsErrAnd r (λ x. x ≡ f) → IsFault (stmt_sites a now (raw_stmt_of y)) f → IfErr r (IsFault (all_sites a s (all_raw_stmts_of xs)))
exit_at a s xs i y now made r f e l p h k = passed_exit a s xs i y now made r f l p h (subst (λ z. IsFault (stmt_sites a now (raw_stmt_of z)) f) e k)
