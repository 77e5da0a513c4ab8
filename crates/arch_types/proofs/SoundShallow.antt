-- Where nothing offends, no expression or place is high.
use Rattle.std.proofs.Common.{◌≡◌, ℕ, zero, suc, ◌<◌, ◌≤◌, List, [], ◌∷◌, length, get_or, inl, inr, All, Contains, refl, sym, subst, arith, lt_of_not-le}
use Rattle.std.proofs.lemmas.List.Elements.{All-nil, All-cons, All-head, All-tail}
use Rattle.tower_types.specs.declared.scalar.Scalar.TheVariants as is
use Rattle.tower_types.specs.Ty.{Ty, Fields, scalar}
use Rattle.tower_syntax.specs.RawTree.{Id, Link, Raw, RawPlace, RawExpr, RawStmt, bind, local, set, copy, branch, loop, emit, RawStmts, no_stmts, stmt}
use Rattle.tower_syntax.specs.Tree.{Expr, Stmt, Stmts}
use Rattle.tower_syntax.specs.Arch.{Body, Handler}
use Rattle.tower_syntax.specs.WellNumbered.{height, place_height}
use Rattle.arch_types.specs.declared.fault.TypeFault.{TypeFault}
use Rattle.arch_types.specs.declared.fault.TypeFault.TheVariants as fault
use Rattle.arch_types.specs.Offence.{Faults, IsClean, Child}
use Rattle.arch_types.specs.Typing.{Env, Path, place_from, Becomes, BecomesPlace}
use Rattle.arch_types.specs.Body.{emitter_number, message_of, expr_child, place_child, told, IsDeep, Breaks, BreaksAll, Deeps, DeepsAll, Offends, BecomesStmt, BecomesAll, greatest_height}
use Rattle.arch_types.specs.Body as body
use Rattle.arch_types.specs.Outline.{each, outline, Written, handlers_of, callback_of}
use Rattle.arch_types.specs.File.{entry, AreBodies, AreHandlers, Offence}
use Rattle.arch_types.specs.Shallow.{IsLow, AreLow}
use Rattle.arch_types.specs.Laws.{ShallowLaw}
use Rattle.arch_types.proofs.SoundHeights.{expr_high, whole_high}

-- ---- an outermost expression or place

not_deep : (c : Child) (h : ℕ) (breaks : Faults) → IsClean (IsDeep c h breaks) → IsClean c.faults → IsClean breaks → h ≤ greatest_height
not_deep c h breaks shallow clean whole =
    let low : h < suc greatest_height = lt_of_not-le (λ deep. shallow (fault.Deep c.at (told h)) (deep, clean, λ g b e. whole g b, refl)) in
    omega arith

module _ (Γ : Env) where
  low_expr : (e : RawExpr Link) (t : Ty) (x : Expr) (breaks : Faults) → Becomes Γ e t x → IsClean (IsDeep (expr_child Γ e) (body.height e) breaks) → IsClean (expr_child Γ e).faults → IsClean breaks → height x ≤ greatest_height
  low_expr e t x breaks h shallow clean whole = omega (arith, expr_high Γ e t x h, not_deep (expr_child Γ e) (body.height e) breaks shallow clean whole)

  low_place : (p : RawPlace Link) (t : Ty) (q : Path) (breaks : Faults) → BecomesPlace Γ p t q → IsClean (IsDeep (place_child Γ p) (body.place_height p) breaks) → IsClean (place_child Γ p).faults → IsClean breaks → place_height (place_from q) ≤ greatest_height
  low_place p t q breaks h shallow clean whole = omega (arith, whole_high Γ p t q h, not_deep (place_child Γ p) (body.place_height p) breaks shallow clean whole)

-- ---- statements

mutual
  stmt_low : (Γ : Env) (s : RawStmt Link) (xs : Fields) (t : Stmt) → BecomesStmt Γ s xs t → IsClean (Breaks Γ s) → IsClean (Deeps Γ s) → IsLow t
  stmt_low Γ (bind at i e) xs t (k, x, h, names, made) w d =
      subst IsLow (sym made) (low_expr Γ e (scalar k) x (Breaks Γ (bind at i e)) h d (λ f g. w f (inl (inl g))) w)
  stmt_low Γ (local at i u) xs t (names, made) w d = subst IsLow (sym made) tt
  stmt_low Γ (set at p e) xs t (k, q, x, h, writable, g, names, made) w d =
      subst IsLow (sym made) (
        low_place Γ p (scalar k) q (Breaks Γ (set at p e)) h (λ f i. d f (inl i)) (λ f i. w f (inl (inl i))) w,
        low_expr Γ e (scalar k) x (Breaks Γ (set at p e)) g (λ f i. d f (inr i)) (λ f i. w f (inl (inr (inl i)))) w,
      )
  stmt_low Γ (copy at p q) xs t (v, x, y, h, writable, g, names, made) w d =
      subst IsLow (sym made) (
        low_place Γ p v x (Breaks Γ (copy at p q)) h (λ f i. d f (inl i)) (λ f i. w f (inl (inl i))) w,
        low_place Γ q v y (Breaks Γ (copy at p q)) g (λ f i. d f (inr i)) (λ f i. w f (inl (inr (inl i)))) w,
      )
  stmt_low Γ (branch at e then_at a else_at b) xs t (x, ys, zs, l, r, hc, ha, hb, names, made) w d =
      subst IsLow (sym made) (
        low_expr Γ e (scalar is.Bool) x (Breaks Γ (branch at e then_at a else_at b)) hc (λ f i. d f (inl i)) (λ f i. w f (inl i)) w,
        all_low Γ a ys l ha (λ f i. w f (inr (inl i))) (λ f i. d f (inr (inl i))),
        all_low (body.after_all Γ a) b zs r hb (λ f i. w f (inr (inr (inl i)))) (λ f i. d f (inr (inr i))),
      )
  stmt_low Γ (loop at i n ss) xs t (ys, l, h, names, made) w d = subst IsLow (sym made) (all_low (body.with_loop Γ n) ss ys l h w d)
  stmt_low Γ (emit at u e) xs t (x, h, names, made) w d =
      subst IsLow (sym made) (low_expr Γ e (message_of Γ (emitter_number u.target)) x (Breaks Γ (emit at u e)) h d (λ f g. w f (inl (inl g))) w)

  all_low : (Γ : Env) (ss : RawStmts Link) (xs : Fields) (ts : Stmts) → BecomesAll Γ ss xs ts → IsClean (BreaksAll Γ ss) → IsClean (DeepsAll Γ ss) → AreLow ts
  all_low Γ no_stmts xs ts (names, made) w d = subst AreLow (sym made) tt
  all_low Γ (stmt s ss) xs ts (ys, zs, t, rest, h, hs, names, made) w d =
      subst AreLow (sym made)
      (stmt_low Γ s ys t h (λ f i. w f (inl i)) (λ f i. d f (inl i)), all_low (body.after Γ s) ss zs rest hs (λ f i. w f (inr i)) (λ f i. d f (inr i)))

-- ---- the file

-- each element of a list is in it
here : {X : Type 0} (xs : List X) (k : ℕ) (d e : X) → k < length xs → get_or xs k d ≡ get_or xs k e
here [] k d e lt = absurd (omega arith)
here (x ∷ xs) zero d e lt = refl
here (x ∷ xs) (suc k) d e lt = here xs k d e (omega arith)

each_in : {X : Type 0} (xs : List X) → All (Contains xs) xs
each_in xs k d lt = (k, lt, here xs k (get_or xs k d) d lt)

module _ (raw : Raw Link) (clean : IsClean (Offence raw)) where
  module _ (w : Written) (in_file : Contains (handlers_of raw) w) where
    abbrev cs : List (Id × RawStmts Link)
    cs = each callback_of w.parts

    bodies_low : (ds : List (Id × RawStmts Link)) (bs : List Body) → All (Contains cs) ds → AreBodies (entry (outline raw) w) ds bs → All (λ b. AreLow b.stmts) bs
    bodies_low [] [] there h = All-nil (λ b. AreLow b.stmts)
    bodies_low [] (b ∷ bs) there h = absurd h
    bodies_low (d ∷ ds) [] there h = absurd h
    bodies_low (d ∷ ds) (b ∷ bs) there h =
        let offence : (f : TypeFault) → Offends (entry (outline raw) w) d.1 f → ⊥ =
        λ f i. clean f (record { handler = w; in_file = in_file; callback = d; in_handler = All-head (Contains cs) d ds there; offends = i }) in
        All-cons (λ x. AreLow x.stmts) b bs
        (all_low (entry (outline raw) w) d.1 b.binders b.stmts h.0.1 (λ f i. offence f (inl i)) (λ f i. offence f (inr i)))
        (bodies_low ds bs (All-tail (Contains cs) d ds there) h.1)

  handlers_low : (ws : List Written) (hs : List Handler) → All (Contains (handlers_of raw)) ws → AreHandlers (outline raw) ws hs → All (λ h. All (λ b. AreLow b.stmts) h.callbacks) hs
  handlers_low [] [] there h = All-nil (λ x. All (λ b. AreLow b.stmts) x.callbacks)
  handlers_low [] (x ∷ hs) there h = absurd h
  handlers_low (w ∷ ws) [] there h = absurd h
  handlers_low (w ∷ ws) (x ∷ hs) there h =
      All-cons (λ y. All (λ b. AreLow b.stmts) y.callbacks) x hs
      (bodies_low w (All-head (Contains (handlers_of raw)) w ws there) (each callback_of w.parts) x.callbacks (each_in (each callback_of w.parts)) h.0.callbacks)
      (handlers_low ws hs (All-tail (Contains (handlers_of raw)) w ws there) h.1)

pub shallow : ShallowLaw
shallow raw arch c clean = handlers_low raw clean (handlers_of raw) arch.handlers (each_in (handlers_of raw)) c.handlers
