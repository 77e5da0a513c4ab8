-- A file has at most one checked tree.
use Rattle.std.proofs.Common.{◌≡◌, ℕ, ◌+◌, ◌<◌, List, [], ◌∷◌, ◌++◌, length, All, refl, ap, sym, subst, ◌∙◌, arith, append-nil}
use Rattle.std.proofs.lemmas.List.Elements.{All-head, All-tail}
use Rattle.tower_types.specs.declared.scalar.Scalar.TheVariants as is
use Rattle.tower_types.specs.Ty.{Ty, Name, Fields, scalar, array, rec as record_type}
use Rattle.tower_syntax.specs.RawTree.{Id, Link, Raw, RawPlace, root, get, index, RawExpr, truth, read, lit, un, bin, choose, cast, RawStmt, bind, local, set, copy, branch, loop, emit, RawStmts, no_stmts, stmt}
use Rattle.tower_syntax.specs.declared.arch.On.{On}
use Rattle.tower_syntax.specs.Tree.{Expr, Stmt, Stmts}
use Rattle.tower_syntax.specs.Tree as tree
use Rattle.tower_syntax.specs.Arch.{Emitter, Body, Handler}
use Rattle.arch_types.specs.Typing.{Env, Path, with_step, place_from, BecomesPlace, Becomes}
use Rattle.arch_types.specs.Body.{emitter_number, message_of, BecomesStmt, BecomesAll}
use Rattle.arch_types.specs.Body as body
use Rattle.arch_types.specs.Outline.{each, outline, with_handlers, Written, handlers_of, callback_of}
use Rattle.arch_types.specs.File.{entry, AreBodies, AreHandlers, IsChecked}
use Rattle.arch_types.specs.File as file
use Rattle.arch_types.specs.Numbered.{Counts, past, naming, SeesPlace, Sees, SeesStmt, SeesAll, bound_by_all, IsNumbered}
use Rattle.arch_types.specs.Numbered as numbered
use Rattle.tower_syntax.specs.Typed.{read_only}
use Rattle.arch_types.specs.Laws.{TreesAreDetermined}
use Rattle.arch_types.proofs.SoundTypes.{AreFormed}
use Rattle.arch_types.proofs.SoundFile.{monitors_exist}
use Rattle.arch_types.proofs.SoundExprs.{Setting, Knows, scalar_same, same_field, place_once, expr_once}
use Rattle.arch_types.proofs.SoundStmts.{Sits, first_sits, rest_sits, all_grow, stmt_grows, stmt_names, all_names, knows_past, loop_knows, stmt_typed}
use Rattle.arch_types.proofs.SoundHandlers.{formed, setting, counts, knows, IsFine, all_fine}

-- ---- places and expressions

module _ (σ : Setting) (proper : AreFormed σ.records) (Γ : Env) (c : Counts) (K : Knows σ Γ c) where
  mutual
    place_tree : (p : RawPlace Link) (t u : Ty) (x y : Path) → SeesPlace c p → BecomesPlace Γ p t x → BecomesPlace Γ p u y → x ≡ y
    place_tree (root l) t u x y s h k = h.1 ∙ sym k.1
    place_tree (get at p name) t u x y s (r, k, b, hb, found, e) (q, j, d, hd, found_too, f) =
        let same = (same_field σ proper Γ c K r q k j t u name.name (place_once σ proper Γ c K p (record_type r) (record_type q) b d s hb hd) found found_too).0 in
        e ∙ ap (λ i. with_step b (tree.field i)) same ∙ ap (λ z. with_step z (tree.field j)) (place_tree p (record_type r) (record_type q) b d s hb hd) ∙ sym f
    place_tree (index at p e) t u x y s (n, b, i, hb, hi, made) (m, d, j, hd, hj, made_too) =
        made ∙ ap (λ z. with_step b (tree.at z)) (expr_tree e (scalar (is.Ix n)) (scalar (is.Ix m)) i j s.1 hi hj)
        ∙ ap (λ z. with_step z (tree.at j)) (place_tree p (array n t) (array m u) b d s.0 hb hd) ∙ sym made_too

    expr_tree : (e : RawExpr Link) (t u : Ty) (x y : Expr) → Sees c e → Becomes Γ e t x → Becomes Γ e u y → x ≡ y
    expr_tree (truth at b) t u x y s h k = h.1 ∙ sym k.1
    expr_tree (read p) t u x y s (q, h, ex) (r, k, ey) = ex ∙ ap (λ z. tree.read (place_from z)) (place_tree p t u q r s h k) ∙ sym ey
    expr_tree (lit at k n) t u x y s h j = h.2 ∙ sym j.2
    expr_tree (un at o a) t u x y s (k, v, ha, app, et, ex) (j, w, hb, app_too, eu, ey) =
        let same = scalar_same σ proper Γ c K k j (expr_once σ proper Γ c K a (scalar k) (scalar j) v w s ha hb) in
        ex ∙ ap (λ i. tree.un o i v) same ∙ ap (tree.un o j) (expr_tree a (scalar k) (scalar j) v w s ha hb) ∙ sym ey
    expr_tree (bin at o a b) t u x y s (k, v, z, ha, hb, app, et, ex) (j, w, z_too, ka, kb, app_too, eu, ey) =
        let same = scalar_same σ proper Γ c K k j (expr_once σ proper Γ c K a (scalar k) (scalar j) v w s.0 ha ka) in
        ex ∙ ap (λ i. tree.bin o i v z) same ∙ ap (λ i. tree.bin o j i z) (expr_tree a (scalar k) (scalar j) v w s.0 ha ka)
        ∙ ap (tree.bin o j w) (expr_tree b (scalar k) (scalar j) z z_too s.1 hb kb) ∙ sym ey
    expr_tree (choose at d a b) t u x y s (k, w, v, z, hd, ha, hb, et, ex) (j, w_too, v_too, z_too, kd, ka, kb, eu, ey) =
        ex ∙ ap (λ i. tree.choose i v z) (expr_tree d (scalar is.Bool) (scalar is.Bool) w w_too s.0 hd kd)
        ∙ ap (λ i. tree.choose w_too i z) (expr_tree a (scalar k) (scalar j) v v_too s.1 ha ka)
        ∙ ap (tree.choose w_too v_too) (expr_tree b (scalar k) (scalar j) z z_too s.2 hb kb) ∙ sym ey
    expr_tree (cast at l a) t u x y s (k, r, v, el, number, ha, was, et, ex) (j, q, w, el_too, number_too, ka, was_too, eu, ey) =
        let same = scalar_same σ proper Γ c K k j (sym el ∙ el_too) in
        ex ∙ ap (λ i. tree.cast i v) same ∙ ap (tree.cast j) (expr_tree a (scalar r) (scalar q) v w s.1 ha ka) ∙ sym ey

-- ---- statements

module _ (σ : Setting) (proper : AreFormed σ.records) where
  mutual
    stmt_once : (Γ : Env) (c : Counts) (K : Knows σ Γ c) (s : RawStmt Link) (xs ys : Fields) (t u : Stmt) → SeesStmt c s → BecomesStmt Γ s xs t → BecomesStmt Γ s ys u → Sits σ Γ.bound xs → (xs ≡ ys) × (t ≡ u)
    stmt_once Γ c K (bind at i e) xs ys t u s (k, x, h, names, made) (j, y, g, names_too, made_too) sits = (
      names ∙ ap (λ v. (i.name, v) ∷ []) (expr_once σ proper Γ c K e (scalar k) (scalar j) x y s h g) ∙ sym names_too,
      made ∙ ap (tree.bind Γ.bound) (expr_tree σ proper Γ c K e (scalar k) (scalar j) x y s h g) ∙ sym made_too,
    )
    stmt_once Γ c K (local at i l) xs ys t u s (names, made) (names_too, made_too) sits = (names ∙ sym names_too, made ∙ sym made_too)
    stmt_once Γ c K (set at p e) xs ys t u s (k, q, x, h, w, g, names, made) (j, r, y, h_too, w_too, g_too, names_too, made_too) sits = (
      names ∙ sym names_too,
      made ∙ ap (λ z. tree.set (place_from z) x) (place_tree σ proper Γ c K p (scalar k) (scalar j) q r s.0 h h_too)
          ∙ ap (tree.set (place_from r)) (expr_tree σ proper Γ c K e (scalar k) (scalar j) x y s.1 g g_too) ∙ sym made_too,
    )
    stmt_once Γ c K (copy at p q) xs ys t u s (v, x, y, h, w, g, names, made) (v_too, x_too, y_too, h_too, w_too, g_too, names_too, made_too) sits = (
      names ∙ sym names_too,
      made ∙ ap (λ z. tree.copy (place_from z) (place_from y)) (place_tree σ proper Γ c K p v v_too x x_too s.0 h h_too)
          ∙ ap (λ z. tree.copy (place_from x_too) (place_from z)) (place_tree σ proper Γ c K q v v_too y y_too s.1 g g_too) ∙ sym made_too,
    )
    stmt_once Γ c K (branch at e then_at a else_at b) xs ys t u s (x, vs, bs, l, r, hc, ha, hb, names, made) (y, cs, ds, m, n, kc, ka, kb, names_too, made_too) sits =
        let here = subst (Sits σ Γ.bound) names sits in
        let g = all_grow Γ a in
        let to : Γ.bound + length vs ≡ (body.after_all Γ a).bound = omega (arith, g.bound, all_names Γ a vs l ha) in
        let first = all_once Γ c K a vs cs l m s.1 ha ka (first_sits σ Γ.bound vs bs here) in
        let second = all_once (body.after_all Γ a) (past c (bound_by_all a)) (knows_past σ Γ c K (body.after_all Γ a) (bound_by_all a) g) b bs ds r n s.2 hb kb
        (rest_sits σ Γ.bound (body.after_all Γ a).bound vs bs to here) in (
          names ∙ ap (λ z. z ++ bs) first.0 ∙ ap (λ z. cs ++ z) second.0 ∙ sym names_too,
          made ∙ ap (λ z. tree.branch z l r) (expr_tree σ proper Γ c K e (scalar is.Bool) (scalar is.Bool) x y s.0 hc kc)
              ∙ ap (λ z. tree.branch y z r) first.1 ∙ ap (tree.branch y m) second.1 ∙ sym made_too,
        )
    stmt_once Γ c K (loop at i n ss) xs ys t u s (vs, l, h, names, made) (bs, m, k, names_too, made_too) sits =
        let one : Name × Ty = (i.name, scalar (is.Ix n)) in
        let here = subst (Sits σ Γ.bound) names sits in
        let all = all_once (body.with_loop Γ n) (naming c read_only) (loop_knows σ proper Γ c K i.name n vs s.0 s.1 here) ss vs bs l m s.2 h k
        (rest_sits σ Γ.bound (Γ.bound + 1) (one ∷ []) vs refl here) in
        (names ∙ ap (λ z. one ∷ z) all.0 ∙ sym names_too, made ∙ ap (tree.loop Γ.bound n) all.1 ∙ sym made_too)
    stmt_once Γ c K (emit at l e) xs ys t u s (x, h, names, made) (y, k, names_too, made_too) sits =
        let sent = message_of Γ (emitter_number l.target) in
        (names ∙ sym names_too, made ∙ ap (tree.emit (emitter_number l.target)) (expr_tree σ proper Γ c K e sent sent x y s.1 h k) ∙ sym made_too)

    all_once : (Γ : Env) (c : Counts) (K : Knows σ Γ c) (ss : RawStmts Link) (xs ys : Fields) (ts us : Stmts) → SeesAll c ss → BecomesAll Γ ss xs ts → BecomesAll Γ ss ys us → Sits σ Γ.bound xs → (xs ≡ ys) × (ts ≡ us)
    all_once Γ c K no_stmts xs ys ts us s (names, made) (names_too, made_too) sits = (names ∙ sym names_too, made ∙ sym made_too)
    all_once Γ c K (stmt s ss) xs ys ts us sees (vs, bs, t, rest, h, hs, names, made) (cs, ds, u, more, k, ks, names_too, made_too) sits =
        let here = subst (Sits σ Γ.bound) names sits in
        let g = stmt_grows Γ s in
        let to : Γ.bound + length vs ≡ (body.after Γ s).bound = omega (arith, g.bound, stmt_names Γ s vs t h) in
        let a = stmt_typed σ proper Γ c K s vs t sees.0 h (first_sits σ Γ.bound vs bs here) in
        let first = stmt_once Γ c K s vs cs t u sees.0 h k (first_sits σ Γ.bound vs bs here) in
        let second = all_once (body.after Γ s) (numbered.after c s) a.knows ss bs ds rest more sees.1 hs ks (rest_sits σ Γ.bound (body.after Γ s).bound vs bs to here) in (
          names ∙ ap (λ z. z ++ bs) first.0 ∙ ap (λ z. cs ++ z) second.0 ∙ sym names_too,
          made ∙ ap (λ z. tree.stmt z rest) first.1 ∙ ap (tree.stmt u) second.1 ∙ sym made_too,
        )

-- ---- the file

same_body : (b d : Body) → b.param ≡ d.param → b.binders ≡ d.binders → b.stmts ≡ d.stmts → b ≡ d
same_body b d p q r =
    ap (λ (x : Name). record { param = x; binders = b.binders; stmts = b.stmts }) p
    ∙ ap (λ (x : Fields). record { param = d.param; binders = x; stmts = b.stmts }) q
    ∙ ap (λ (x : Stmts). record { param = d.param; binders = d.binders; stmts = x }) r

abbrev handler_with : Name → ℕ → On → List Emitter → List Body → Handler
handler_with name m o es bs = record { name = name; monitor = m; on = o; emitters = es; callbacks = bs }

module _ (raw : Raw Link) (n : IsNumbered raw) (hs : List Handler) where
  module _ (w : Written) (H : numbered.IsHandler (outline raw) w) (lt : w.monitor < length (outline raw).monitors) (h : Handler) where
    bodies_once : (cs : List (Id × RawStmts Link)) (bs ds : List Body) → All (IsFine raw hs n w H lt h.name h.callbacks) cs → AreBodies (entry (outline raw) w) cs bs → AreBodies (entry (outline raw) w) cs ds → bs ≡ ds
    bodies_once [] [] [] f x y = refl
    bodies_once [] [] (d ∷ ds) f x y = absurd y
    bodies_once [] (b ∷ bs) ds f x y = absurd x
    bodies_once (c ∷ cs) [] ds f x y = absurd x
    bodies_once (c ∷ cs) (b ∷ bs) [] f x y = absurd y
    bodies_once (c ∷ cs) (b ∷ bs) (d ∷ ds) f x y =
        let P = IsFine raw hs n w H lt h.name h.callbacks in
        let σ = setting raw hs n w H lt h.name h.callbacks b in
        let whole : Sits σ 0 b.binders = record { before = []; behind = []; long = refl; is = sym (append-nil b.binders) } in
        let fine = All-head P c cs f in
        let once = all_once σ (formed raw hs n) (entry (outline raw) w) (counts raw hs n w H lt h.name h.callbacks) (knows raw hs n w H lt h.name h.callbacks b) c.1 b.binders d.binders b.stmts d.stmts fine.sees x.0.1 y.0.1 whole in
        ap (λ z. z ∷ bs) (same_body b d (x.0.0 ∙ sym y.0.0) once.0 once.1) ∙ ap (λ l. d ∷ l) (bodies_once cs bs ds (All-tail P c cs f) x.1 y.1)

    handler_once : (g : Handler) → file.IsHandler (outline raw) w h → file.IsHandler (outline raw) w g → h ≡ g
    handler_once g x y =
        let same = bodies_once (each callback_of w.parts) h.callbacks g.callbacks (all_fine raw hs n w H lt h.name h.callbacks w.parts H.parts) x.callbacks y.callbacks in
        ap (λ z. handler_with z h.monitor h.on h.emitters h.callbacks) (x.name ∙ sym y.name)
        ∙ ap (λ z. handler_with g.name z h.on h.emitters h.callbacks) (x.monitor ∙ sym y.monitor)
        ∙ ap (λ z. handler_with g.name g.monitor z h.emitters h.callbacks) (x.on ∙ sym y.on)
        ∙ ap (λ z. handler_with g.name g.monitor g.on z h.callbacks) (x.emitters ∙ sym y.emitters)
        ∙ ap (handler_with g.name g.monitor g.on g.emitters) same

  abbrev InMonitor : Written → Type 0
  InMonitor w = w.monitor < length (outline raw).monitors

  handlers_once : (ws : List Written) (gs fs : List Handler) → All (numbered.IsHandler (outline raw)) ws → All InMonitor ws → AreHandlers (outline raw) ws gs → AreHandlers (outline raw) ws fs → gs ≡ fs
  handlers_once [] [] [] H lt x y = refl
  handlers_once [] [] (f ∷ fs) H lt x y = absurd y
  handlers_once [] (g ∷ gs) fs H lt x y = absurd x
  handlers_once (w ∷ ws) [] fs H lt x y = absurd x
  handlers_once (w ∷ ws) (g ∷ gs) [] H lt x y = absurd y
  handlers_once (w ∷ ws) (g ∷ gs) (f ∷ fs) H lt x y =
      ap (λ z. z ∷ gs) (handler_once w (All-head (numbered.IsHandler (outline raw)) w ws H) (All-head InMonitor w ws lt) g f x.0 y.0)
      ∙ ap (λ l. f ∷ l) (handlers_once ws gs fs (All-tail (numbered.IsHandler (outline raw)) w ws H) (All-tail InMonitor w ws lt) x.1 y.1)

pub determined : TreesAreDetermined
determined raw a b n x y =
    x.outlined
    ∙ ap (with_handlers (outline raw)) (handlers_once raw n a.handlers (handlers_of raw) a.handlers b.handlers n.handlers (monitors_exist raw.items) x.handlers y.handlers)
    ∙ sym y.outlined
