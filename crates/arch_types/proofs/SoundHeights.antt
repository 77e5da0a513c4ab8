-- What a place, expression or statement becomes is as high as it is, and statements that are typed name what exists.
use Rattle.std.proofs.Common.{◌≡◌, ℕ, ◌+◌, max, length, refl, ap, ◌∙◌, arith}
use Rattle.tower_types.specs.declared.scalar.Scalar.{Scalar}
use Rattle.tower_types.specs.declared.scalar.Scalar.TheVariants as is
use Rattle.tower_types.specs.Ty.{Ty, Fields, scalar, array, rec as record_type, Shape, one, many, all}
use Rattle.tower_syntax.specs.declared.body.Root.{Root}
use Rattle.tower_syntax.specs.declared.body.Root.TheVariants as root_of
use Rattle.tower_syntax.specs.RawTree.{Link, RawPlace, root, get, index, RawExpr, truth, read, lit, un, bin, choose, cast, RawStmt, bind, local, set, copy, branch, loop, emit, RawStmts, no_stmts, stmt}
use Rattle.tower_syntax.specs.Tree.{Expr, Place, Steps, Stmt, Stmts}
use Rattle.tower_syntax.specs.Tree as tree
use Rattle.tower_syntax.specs.WellNumbered.{height, place_height, steps_height, stmt_height, stmts_height, NamesRoot, IsNumberedExpr, IsNumberedPlace, AreNumberedSteps, IsNumberedStmt, AreNumberedStmts}
use Rattle.tower_syntax.specs.WellNumbered as numbers
use Rattle.tower_syntax.specs.Weights.{Scope, root_shape}
use Rattle.tower_syntax.specs.Typed.{Names, HasRoot, HasScalar, HasShape, Leads, Sends, names_after, IsTypedStmt, AreTypedStmts, with_name, read_only}
use Rattle.arch_types.specs.Typing.{Env, Path, with_step, place_from, BecomesPlace, Becomes}
use Rattle.arch_types.specs.Body.{message_of, emitter_number, BecomesStmt, BecomesAll}
use Rattle.arch_types.specs.Body as body
use Rattle.arch_types.specs.Numbered.{nested, nested_all}
use Rattle.arch_types.proofs.SoundExprs.{ending, ending-more, ends}

-- ---- heights

same_max : (a b x y : ℕ) → a ≡ x → b ≡ y → max a b ≡ max x y
same_max a b x y e f = ap (λ n. max n b) e ∙ ap (max x) f

module _ (Γ : Env) where
  grown : (q b : Path) (n m : ℕ) (step : Steps → Steps) → q ≡ with_step b step → ((rest : Steps) → steps_height 1 (ending b.steps rest) ≡ steps_height n rest) → ((rest : Steps) → steps_height n (step rest) ≡ steps_height m rest)
      → (rest : Steps) → steps_height 1 (ending q.steps rest) ≡ steps_height m rest
  grown q b n m step e h k rest = ap (λ x. steps_height 1 (ending x.steps rest)) e ∙ ap (steps_height 1) (ending-more b.steps step rest) ∙ h (step rest) ∙ k rest

  mutual
    pub place_high : (p : RawPlace Link) (t : Ty) (q : Path) → BecomesPlace Γ p t q → (rest : Steps) → steps_height 1 (ending q.steps rest) ≡ steps_height (body.place_height p) rest
    place_high (root u) t q h rest = ap (λ x. steps_height 1 (ending x.steps rest)) h.1
    place_high (get at p name) t q (r, k, b, h, found, e) rest =
        grown q b (body.place_height p) (body.place_height p + 1) (tree.field k) e (place_high p (record_type r) b h) (λ more. refl) rest
    place_high (index at p i) t q (n, b, x, h, g, e) rest =
        let same : max (body.place_height p) (height x) + 1 ≡ max (body.place_height p) (body.height i) + 1 = ap (λ k. max (body.place_height p) k + 1) (expr_high i (scalar (is.Ix n)) x g) in
        grown q b (body.place_height p) (max (body.place_height p) (body.height i) + 1) (tree.at x) e (place_high p (array n t) b h) (λ more. ap (λ k. steps_height k more) same) rest

    pub expr_high : (e : RawExpr Link) (t : Ty) (x : Expr) → Becomes Γ e t x → height x ≡ body.height e
    expr_high (truth at b) t x h = ap height h.1
    expr_high (read p) t x (q, h, ex) = ap height ex ∙ ap (steps_height 1) (ends q.steps) ∙ place_high p t q h tree.no_steps
    expr_high (lit at k n) t x (fits, et, ex) = ap height ex
    expr_high (un at o a) t x (k, y, ha, app, et, ex) = ap height ex ∙ ap (λ n. n + 1) (expr_high a (scalar k) y ha)
    expr_high (bin at o a b) t x (k, y, z, ha, hb, app, et, ex) =
        ap height ex ∙ ap (λ n. n + 1) (same_max (height y) (height z) (body.height a) (body.height b) (expr_high a (scalar k) y ha) (expr_high b (scalar k) z hb))
    expr_high (choose at d a b) t x (k, w, y, z, hd, ha, hb, et, ex) =
        let hw = expr_high d (scalar is.Bool) w hd in
        let hy = expr_high a (scalar k) y ha in
        let hz = expr_high b (scalar k) z hb in
        ap height ex ∙ omega arith
    expr_high (cast at u a) t x (k, r, y, eu, number, ha, was, et, ex) = ap height ex ∙ ap (λ n. n + 1) (expr_high a (scalar r) y ha)

  pub whole_high : (p : RawPlace Link) (t : Ty) (q : Path) → BecomesPlace Γ p t q → place_height (place_from q) ≡ body.place_height p
  whole_high p t q h = ap (steps_height 1) (ends q.steps) ∙ place_high p t q h tree.no_steps

mutual
  stmt_high : (Γ : Env) (s : RawStmt Link) (xs : Fields) (t : Stmt) → BecomesStmt Γ s xs t → stmt_height t ≡ nested s
  stmt_high Γ (bind at i e) xs t (k, x, h, names, made) = ap stmt_height made ∙ ap (λ n. n + 1) (expr_high Γ e (scalar k) x h)
  stmt_high Γ (local at i u) xs t (names, made) = ap stmt_height made
  stmt_high Γ (set at p e) xs t (k, q, x, h, w, g, names, made) =
      ap stmt_height made ∙ ap (λ n. n + 1) (same_max (place_height (place_from q)) (height x) (body.place_height p) (body.height e) (whole_high Γ p (scalar k) q h) (expr_high Γ e (scalar k) x g))
  stmt_high Γ (copy at p q) xs t (v, x, y, h, w, g, names, made) =
      ap stmt_height made ∙ ap (λ n. n + 1) (same_max (place_height (place_from x)) (place_height (place_from y)) (body.place_height p) (body.place_height q) (whole_high Γ p v x h) (whole_high Γ q v y g))
  stmt_high Γ (branch at e then_at a else_at b) xs t (x, ys, zs, l, r, hc, ha, hb, names, made) =
      ap stmt_height made ∙ ap (λ n. n + 1) (same_max (height x) (max (stmts_height l) (stmts_height r)) (body.height e) (max (nested_all a) (nested_all b)) (expr_high Γ e (scalar is.Bool) x hc)
      (same_max (stmts_height l) (stmts_height r) (nested_all a) (nested_all b) (all_high Γ a ys l ha) (all_high (body.after_all Γ a) b zs r hb)))
  stmt_high Γ (loop at i n ss) xs t (ys, l, h, names, made) = ap stmt_height made ∙ ap (λ k. k + 1) (all_high (body.with_loop Γ n) ss ys l h)
  stmt_high Γ (emit at u e) xs t (x, h, names, made) = ap stmt_height made ∙ ap (λ n. n + 1) (expr_high Γ e (message_of Γ (emitter_number u.target)) x h)

  pub all_high : (Γ : Env) (ss : RawStmts Link) (xs : Fields) (ts : Stmts) → BecomesAll Γ ss xs ts → stmts_height ts ≡ nested_all ss
  all_high Γ no_stmts xs ts (names, made) = ap stmts_height made
  all_high Γ (stmt s ss) xs ts (ys, zs, t, rest, h, hs, names, made) =
      ap stmts_height made ∙ same_max (stmt_height t) (stmts_height rest) (nested s) (nested_all ss) (stmt_high Γ s ys t h) (all_high (body.after Γ s) ss zs rest hs)

-- ---- what is typed names what exists

module _ (scope : Scope) (c : numbers.Counts) (binders : length scope.binders ≡ c.binders) (states : length scope.states ≡ c.states) (emitters : length scope.emitters ≡ c.emitters) where
  root_numbered : (names : Names) (r : Root) → HasRoot scope names r → NamesRoot c r
  root_numbered names root_of.Param h = tt
  root_numbered names (root_of.Binder b) h = omega (arith, h.0, binders)
  root_numbered names (root_of.State k) h = omega (arith, h, states)

  mutual
    expr_numbered : (names : Names) (x : Expr) (t : Scalar) → HasScalar scope names x t → IsNumberedExpr c x
    expr_numbered names (tree.lit s n) t h = tt
    expr_numbered names (tree.read p) t h = place_numbered names p (one t) h
    expr_numbered names (tree.un o s a) t h = expr_numbered names a s h.2
    expr_numbered names (tree.bin o s a b) t h = (expr_numbered names a s h.2, expr_numbered names b s h.3)
    expr_numbered names (tree.choose d a b) t h = (expr_numbered names d is.Bool h.0, expr_numbered names a t h.1, expr_numbered names b t h.2)
    expr_numbered names (tree.cast s a) t (number, p, same, (u, was, h)) = expr_numbered names a u h

    place_numbered : (names : Names) (p : Place) (s : Shape) → HasShape scope names p s → IsNumberedPlace c p
    place_numbered names (tree.place r steps) s h = (root_numbered names r h.0, steps_numbered names steps (root_shape scope r) s h.1)

    steps_numbered : (names : Names) (steps : Steps) (s t : Shape) → Leads scope names s steps t → AreNumberedSteps c steps
    steps_numbered names tree.no_steps s t h = tt
    steps_numbered names (tree.field k rest) (one u) t h = absurd h
    steps_numbered names (tree.field k rest) (many n u) t h = absurd h
    steps_numbered names (tree.field k rest) (all us) t h = steps_numbered names rest _ t h.1
    steps_numbered names (tree.at e rest) (one u) t h = absurd h
    steps_numbered names (tree.at e rest) (many n u) t h = (expr_numbered names e (is.Ix n) h.0, steps_numbered names rest u t h.1)
    steps_numbered names (tree.at e rest) (all us) t h = absurd h

  sent_numbered : (names : Names) (x : Expr) (s : Shape) → Sends scope names x s → IsNumberedExpr c x
  sent_numbered names (tree.lit k n) s h = tt
  sent_numbered names (tree.read p) s h = place_numbered names p s h
  sent_numbered names (tree.un o k a) s (t, e, h) = expr_numbered names (tree.un o k a) t h
  sent_numbered names (tree.bin o k a b) s (t, e, h) = expr_numbered names (tree.bin o k a b) t h
  sent_numbered names (tree.choose d a b) s (t, e, h) = expr_numbered names (tree.choose d a b) t h
  sent_numbered names (tree.cast k a) s (t, e, h) = expr_numbered names (tree.cast k a) t h

  mutual
    stmt_numbered : (names : Names) (s : Stmt) → IsTypedStmt scope names s → IsNumberedStmt c s
    stmt_numbered names (tree.bind b e) (fresh, (t, same, h)) = (omega (arith, fresh.0, binders), expr_numbered names e t h)
    stmt_numbered names (tree.local b) fresh = omega (arith, fresh.0, binders)
    stmt_numbered names (tree.set p e) (w, (t, h, g)) = (place_numbered names p (one t) h, expr_numbered names e t g)
    stmt_numbered names (tree.copy p q) (w, (s, h, g)) = (place_numbered names p s h, place_numbered names q s g)
    stmt_numbered names (tree.branch e a b) (h, f, g) = (expr_numbered names e is.Bool h, all_numbered names a f, all_numbered names b g)
    stmt_numbered names (tree.loop b n ss) (fresh, same, some, few, h) = (omega (arith, fresh.0, binders), all_numbered (with_name b read_only names) ss h)
    stmt_numbered names (tree.emit k e) (lt, h) = (omega (arith, lt, emitters), sent_numbered names e _ h)

    pub all_numbered : (names : Names) (ss : Stmts) → AreTypedStmts scope names ss → AreNumberedStmts c ss
    all_numbered names tree.no_stmts h = tt
    all_numbered names (tree.stmt s ss) h = (stmt_numbered names s h.0, all_numbered (names_after s names) ss h.1)
