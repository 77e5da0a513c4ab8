-- The sites of a statement by those of its parts, and what is made of it by what is made of these.
use Rattle.std.proofs.Common.{◌≡◌, ℕ, List, ◌++◌, None, Result, refl, sym, ap, ◌∙◌}
use Rattle.std.specs.Result.{IsErrAnd, IfErr}
use Rattle.tower_syntax.specs.RawTree.{RawStmt, Id, set, copy, branch}
use Rattle.tower_syntax.specs.RawView.{raw_place_of, raw_expr_of, all_raw_stmts_of}
use Rattle.tower_syntax.specs.NamedView.{named_place_of, named_expr_of, named_stmt_of, all_named_stmts_of}
use Rattle.tower_syntax.specs.declared.raw.RawPlace.{RawPlace as PlaceValue}
use Rattle.tower_syntax.specs.declared.raw.RawExpr.{RawExpr as ExprValue}
use Rattle.tower_syntax.specs.declared.raw.RawStmt.{RawStmt as StmtValue}
use Rattle.tower_syntax.specs.declared.named.NamedPlace.{NamedPlace as NamedPlaceValue}
use Rattle.tower_syntax.specs.declared.named.NamedExpr.{NamedExpr as NamedExprValue}
use Rattle.tower_syntax.specs.declared.named.NamedStmt.{NamedStmt as NamedStmtValue}
use Rattle.tower_syntax.specs.declared.named.NamedStmt.TheVariants as nstmt
use Rattle.tower_syntax.proofs.NamedViews.{named_stmt_of-Set, named_stmt_of-Copy, named_stmt_of-Branch}
use Rattle.arch_names.specs.declared.names.Scope.{Scope}
use Rattle.arch_names.specs.declared.fault.NameFault.{NameFault}
use Rattle.arch_names.specs.Site.{Site}
use Rattle.arch_names.specs.Sites.{Around, seen, place_sites, expr_sites, stmt_sites, all_sites, bound_by_all, past}
use Rattle.arch_names.specs.Linked.{linked_place, linked_expr, linked_stmt, linked_all}
use Rattle.arch_names.specs.Walk.{first, meant, IsMade, IsFault}
use Rattle.arch_names.proofs.First.{clean_both, fault_left, fault_right, exit_first, exit_second}

module _ (a : Around) (s : Scope) where
  abbrev pub P : PlaceValue → List Site
  P p = place_sites a.file (seen a s) (raw_place_of p)

  abbrev pub E : ExprValue → List Site
  E e = expr_sites a.file (seen a s) (raw_expr_of e)

  abbrev pub S : RawStmt Id → List Site
  S t = stmt_sites a s t

  abbrev pub MadePlace : PlaceValue → NamedPlaceValue → Type 0
  MadePlace p m = IsMade (P p) named_place_of (linked_place meant a.file (seen a s) (raw_place_of p)) m

  abbrev pub MadeExpr : ExprValue → NamedExprValue → Type 0
  MadeExpr e m = IsMade (E e) named_expr_of (linked_expr meant a.file (seen a s) (raw_expr_of e)) m

  abbrev pub MadeStmt : RawStmt Id → NamedStmtValue → Type 0
  MadeStmt t m = IsMade (S t) named_stmt_of (linked_stmt meant a s t) m

  module _ (at : ℕ) (p : PlaceValue) (e : ExprValue) where
    pub set_first : {R : Type 0} (r : Result R NameFault) (f : NameFault) → IsErrAnd r (λ x. x ≡ f) → IsFault (P p) f → IfErr r (IsFault (S (set at (raw_place_of p) (raw_expr_of e))))
    set_first r f h k = exit_first r (P p ++ E e) (P p) (E e) f h refl k

    pub set_second : {R : Type 0} (r : Result R NameFault) (f : NameFault) → IsErrAnd r (λ x. x ≡ f) → first (P p) ≡ None → IsFault (E e) f → IfErr r (IsFault (S (set at (raw_place_of p) (raw_expr_of e))))
    set_second r f h n k = exit_second r (P p ++ E e) (P p) (E e) f h refl n k

    pub set_made : (m : NamedPlaceValue) (n : NamedExprValue) → MadePlace p m → MadeExpr e n → MadeStmt (set at (raw_place_of p) (raw_expr_of e)) (nstmt.Set at m n)
    set_made m n h k = (clean_both (P p) (E e) h.0 k.0, named_stmt_of-Set at m n ∙ (λ i. set at (h.1 i) (k.1 i)))

  module _ (at : ℕ) (p q : PlaceValue) where
    pub copy_first : {R : Type 0} (r : Result R NameFault) (f : NameFault) → IsErrAnd r (λ x. x ≡ f) → IsFault (P p) f → IfErr r (IsFault (S (copy at (raw_place_of p) (raw_place_of q))))
    copy_first r f h k = exit_first r (P p ++ P q) (P p) (P q) f h refl k

    pub copy_second : {R : Type 0} (r : Result R NameFault) (f : NameFault) → IsErrAnd r (λ x. x ≡ f) → first (P p) ≡ None → IsFault (P q) f → IfErr r (IsFault (S (copy at (raw_place_of p) (raw_place_of q))))
    copy_second r f h n k = exit_second r (P p ++ P q) (P p) (P q) f h refl n k

    pub copy_made : (m n : NamedPlaceValue) → MadePlace p m → MadePlace q n → MadeStmt (copy at (raw_place_of p) (raw_place_of q)) (nstmt.Copy at m n)
    copy_made m n h k = (clean_both (P p) (P q) h.0 k.0, named_stmt_of-Copy at m n ∙ (λ i. copy at (h.1 i) (k.1 i)))

  -- z is the scope where the second list begins
  module _ (at : ℕ) (e : ExprValue) (then_at : ℕ) (ss : List StmtValue) (else_at : ℕ) (ts : List StmtValue) where
    abbrev pub Form : RawStmt Id
    Form = branch at (raw_expr_of e) then_at (all_raw_stmts_of ss) else_at (all_raw_stmts_of ts)

    abbrev pub Second : Scope
    Second = past s (bound_by_all (all_raw_stmts_of ss))

    abbrev pub Yes : List Site
    Yes = all_sites a s (all_raw_stmts_of ss)

    abbrev pub No : Scope → List Site
    No z = all_sites a z (all_raw_stmts_of ts)

    pub branch_first : {R : Type 0} (r : Result R NameFault) (f : NameFault) → IsErrAnd r (λ x. x ≡ f) → IsFault (E e) f → IfErr r (IsFault (S Form))
    branch_first r f h k = exit_first r ((E e ++ Yes) ++ No Second) (E e ++ Yes) (No Second) f h refl (fault_left (E e) Yes f k)

    pub branch_second : {R : Type 0} (r : Result R NameFault) (f : NameFault) → IsErrAnd r (λ x. x ≡ f) → first (E e) ≡ None → IsFault Yes f → IfErr r (IsFault (S Form))
    branch_second r f h n k = exit_first r ((E e ++ Yes) ++ No Second) (E e ++ Yes) (No Second) f h refl (fault_right (E e) Yes f n k)

    pub branch_third : (z : Scope) → z ≡ Second → {R : Type 0} (r : Result R NameFault) (f : NameFault) → IsErrAnd r (λ x. x ≡ f) → first (E e) ≡ None → first Yes ≡ None → IsFault (No z) f → IfErr r (IsFault (S Form))
    branch_third z o r f h n m k = exit_second r ((E e ++ Yes) ++ No Second) (E e ++ Yes) (No z) f h (λ i. (E e ++ Yes) ++ No (sym o i)) (clean_both (E e) Yes n m) k

    pub branch_made : (z : Scope) → z ≡ Second → (m : NamedExprValue) (n k : List NamedStmtValue) → MadeExpr e m → IsMade Yes all_named_stmts_of (linked_all meant a s (all_raw_stmts_of ss)) n → IsMade (No z) all_named_stmts_of (linked_all meant a z (all_raw_stmts_of ts)) k → MadeStmt Form (nstmt.Branch at m then_at n else_at k)
    branch_made z o m n k h i j = (
      clean_both (E e ++ Yes) (No Second) (clean_both (E e) Yes h.0 i.0) (ap (λ y. first (No y)) (sym o) ∙ j.0),
      named_stmt_of-Branch at m then_at n else_at k ∙ (λ l. branch at (h.1 l) then_at (i.1 l) else_at ((j.1 ∙ ap (λ y. linked_all meant a y (all_raw_stmts_of ts)) o) l)),
    )
