-- The walk over a list of statements gives its part of the checked tree, or its first fault.
use Rattle.std.proofs.Common.{◌≡◌, ◌⊎◌, ℕ, false, ◌<◌, ◌≤◌, inl, inr, [], ◌∷◌, ◌++◌, Option, Some, None, Result, Ok, Err, refl, sym, subst, ◌∙◌, arith, append-nil}
use Rattle.tower_types.specs.declared.scalar.Scalar.TheVariants as is
use Rattle.tower_types.specs.Ty.{Ty, scalar}
use Rattle.tower_syntax.specs.declared.named.Target.{Target}
use Rattle.tower_syntax.specs.RawTree.{Link, RawStmt, bind, local, set, copy, branch, loop, emit, RawStmts, no_stmts, stmt}
use Rattle.tower_syntax.specs.View.{stmts_of}
use Rattle.arch_types.specs.declared.fault.TypeFault.{TypeFault}
use Rattle.arch_types.specs.declared.high.High.{High}
use Rattle.arch_types.specs.Offence.{Faults, offset}
use Rattle.arch_types.specs.Typing.{Env}
use Rattle.arch_types.specs.Body.{with_loop, after, after_all, Breaks, BreaksAll, Deeps, DeepsAll, Offends}
use Rattle.arch_types.specs.Order.{start_in, AscendsAll}
use Rattle.arch_types.specs.Numbered.{Counts, past, naming, bound_by, bound_by_all, after as seen_after, SeesStmt, SeesAll}
use Rattle.tower_syntax.specs.Typed.{read_only}
use Rattle.arch_types.specs.Walk.{Known, and_then, deep, earlier, first_high, Walked, AllWalked, with_binders, binding, joined, walked, walked_all, typed, typed_place}
use Rattle.arch_types.proofs.Right.{env_with, IsOrdered, AreOrdered, Told, Knows, Agrees, IsWithin, RightStmt, RightAll}
use Rattle.arch_types.proofs.First.{right, right_place}
use Rattle.arch_types.proofs.Sequence.{first_left, told_right, told_first, told_within, first_of_same, clean_both}
use Rattle.arch_types.proofs.Within.{offends_inside, all_offends_inside}
use Rattle.arch_types.proofs.Agreed.{still, binds, place_uses, expr_uses, within_past, within_naming, within_after, env_is}
use Rattle.arch_types.proofs.StmtFirst.{joined_bound, joined_count, let_right, local_right, set_right, copy_right, loop_right, emit_right}
use Rattle.arch_types.proofs.BranchFirst.{branch_right}

module _ (γ : Known) (has : Target → Ty → Type 0) (k : Knows γ has) (s : RawStmt Link) (ss : RawStmts Link) where
  abbrev Γ : Env
  Γ = env_with γ has

  abbrev Δ : Env
  Δ = after Γ s

  abbrev here : Faults
  here f = Breaks Γ s f ⊎ Deeps Γ s f

  abbrev there : Faults
  there f = Offends Δ ss f

  module _ (bound : ℕ) (o : AscendsAll (stmt s ss) bound) where
    here_before : (f : TypeFault) → here f → offset f < start_in ss bound
    here_before f x = (offends_inside s Γ (start_in ss bound) o.0 f x).below

    there_after : (f : TypeFault) → there f → start_in ss bound < offset f
    there_after f x = let l = (all_offends_inside ss Δ bound o.1 f x).from in omega arith

    there_from : (f : TypeFault) → there f → start_in ss bound ≤ offset f
    there_from f x = let l = there_after f x in omega arith

  apart : (g : TypeFault) → here g ⊎ there g → Offends Γ (stmt s ss) g
  apart g y = elim y [
    | inl z ↦ elim z [ inl w ↦ inl (inl w) | inr w ↦ inr (inl w) ]
    | inr z ↦ elim z [ inl w ↦ inl (inr w) | inr w ↦ inr (inr w) ]
  ]

  together : (g : TypeFault) → Offends Γ (stmt s ss) g → here g ⊎ there g
  together g y = elim y [
    | inl z ↦ elim z [ inl w ↦ inl (inl w) | inr w ↦ inr (inl w) ]
    | inr z ↦ elim z [ inl w ↦ inl (inr w) | inr w ↦ inr (inr w) ]
  ]

  -- the rest begins at another offset for each end, so the order is split by cases
  told_joined : (h k : Option High) → Told (IsOrdered s) h (λ g. Deeps Γ s g) → Told (AreOrdered ss) k (λ g. DeepsAll Δ ss g) → Told (AreOrdered (stmt s ss)) (first_high h k) (λ g. Deeps Γ s g ⊎ DeepsAll Δ ss g)
  told_joined None k p q = told_right (AreOrdered (stmt s ss)) (λ g. Deeps Γ s g) (λ g. DeepsAll Δ ss g) k p (told_within (AreOrdered ss) (AreOrdered (stmt s ss)) (λ g. DeepsAll Δ ss g) k (λ o. (o.0, o.1.1)) q)
  told_joined (Some d) k p q = λ o. let r = p (start_in ss o.0, o.1.0) in
      first_left (λ g. Deeps Γ s g) (λ g. DeepsAll Δ ss g) (deep d) (start_in ss o.0) r (here_before o.0 o.1 (deep d) (inr r.is_one)) (λ g y. there_from o.0 o.1 g (inr y))

  joined_right : (d : Walked) (r : Result AllWalked TypeFault) → RightStmt γ Γ s (Ok d) → RightAll (with_binders γ d.binders d.writable) Δ ss r → RightAll γ Γ (stmt s ss) (joined d r)
  joined_right d (Err f) h i = λ w. let bound = w.0 in let o = w.1 in
      let p = (i (bound, o.1)).0 in let n = (i (bound, o.1)).1 in let l = there_after bound o f p.is_one in (
        first_of_same (λ g. Deeps Γ s g ⊎ there g) (λ g. Offends Γ (stmt s ss) g) (earlier d.high f)
            (λ g y. elim y [ inl z ↦ inr (inl z) | inr z ↦ apart g (inr z) ])
            (λ g y. elim (together g y) [
              | inl z ↦ elim z [ inl w ↦ absurd (h.clean g w) | inr w ↦ inl w ]
              | inr z ↦ inr z
            ])
            (told_first (IsOrdered s) (λ g. Deeps Γ s g) there d.high f (start_in ss bound) h.told (start_in ss bound, o.0) p (omega arith) (λ g y. here_before bound o g (inr y)) (there_from bound o)),
        λ m. n (λ g y. m g (inr y)),
      )
  joined_right d (Ok r) h i = record {
    names = h.names ++ i.names;
    bound = joined_bound γ.binders d.binders r.binders h.names i.names h.bound i.bound;
    counted = joined_count h.names i.names (bound_by s) (bound_by_all ss) h.counted i.counted;
    tree = (h.names, i.names, d.tree, stmts_of r.trees, h.tree, i.tree, refl, refl);
    agrees = i.agrees;
    clean = clean_both (λ g. Breaks Γ s g) (λ g. BreaksAll Δ ss g) h.clean i.clean;
    told = told_joined d.high r.high h.told i.told;
  }

  pub list_right : (d : Result Walked TypeFault) (next : Walked → Result AllWalked TypeFault) → RightStmt γ Γ s d
      → ((w : Walked) → RightStmt γ Γ s (Ok w) → RightAll (with_binders γ w.binders w.writable) Δ ss (next w))
      → RightAll γ Γ (stmt s ss) (and_then d (λ w. joined w (next w)))
  list_right (Err f) next h later = λ w. let bound = w.0 in let o = w.1 in
      let p = (h (start_in ss bound, o.0)).0 in let n = (h (start_in ss bound, o.0)).1 in (
        first_of_same (λ g. here g ⊎ there g) (λ g. Offends Γ (stmt s ss) g) f apart together (first_left here there f (start_in ss bound) p (here_before bound o f p.is_one) (there_from bound o)),
        λ m. n (λ g y. m g (inl y)),
      )
  list_right (Ok w) next h later = joined_right w (next w) h (later w h)

pub seen_by : (γ : Known) (Γ : Env) (ss : RawStmts Link) (r : Result AllWalked TypeFault) → Agrees Γ γ → RightAll γ (env_with γ Γ.has) ss r → RightAll γ Γ ss r
seen_by γ Γ ss r a h = subst (λ E. RightAll γ E ss r) (env_is Γ γ a) h

mutual
  pub right_stmt : (s : RawStmt Link) (n : Counts) (γ : Known) (has : Target → Ty → Type 0) → Knows γ has → IsWithin n γ → SeesStmt n s → RightStmt γ (env_with γ has) s (walked γ s)
  right_stmt (bind at i e) n γ has k w u = let_right γ has k at i e (typed γ e) (right γ has k.one e (expr_uses γ has k n w e u))
  right_stmt (local at i t) n γ has k w u = local_right γ has k at i t
  right_stmt (set at p e) n γ has k w u =
      set_right γ has k at p e (typed_place γ p) (typed γ e) (right_place γ has k.one p (place_uses γ has k n w p u.0)) (right γ has k.one e (expr_uses γ has k n w e u.1))
  right_stmt (copy at p q) n γ has k w u =
      copy_right γ has k at p q (typed_place γ p) (typed_place γ q) (right_place γ has k.one p (place_uses γ has k n w p u.0)) (right_place γ has k.one q (place_uses γ has k n w q u.1))
  right_stmt (branch at c then_at a else_at b) n γ has k w u =
      branch_right γ has k at c then_at a else_at b (typed γ c) (walked_all γ a) (λ l. walked_all (with_binders γ l.binders l.writable) b)
      (right γ has k.one c (expr_uses γ has k n w c u.0))
      (right_all a n γ has k w u.1)
      (λ l ran. let γ' = with_binders γ l.binders l.writable in
      seen_by γ' (after_all (env_with γ has) a) b (walked_all γ' b) ran.agrees
      (right_all b (past n (bound_by_all a)) γ' (after_all (env_with γ has) a).has ran.agrees.has (within_past n γ w l.binders ran.names l.writable ran.bound (bound_by_all a) ran.counted) u.2))
  right_stmt (loop at i times body) n γ has k w u =
      let γ' = binding γ i.name (scalar (is.Ix times)) false in
      let a = binds γ has k i.name (scalar (is.Ix times)) (λ t. t ≡ scalar (is.Ix times)) false refl (λ t v h j. h ∙ sym j) in
      loop_right γ has k at i times body (walked_all γ' body)
      (seen_by γ' (with_loop (env_with γ has) times) body (walked_all γ' body) a
      (right_all body (naming n read_only) γ' (with_loop (env_with γ has) times).has a.has (within_naming n γ w γ'.binders ((i.name, scalar (is.Ix times)) ∷ []) γ'.writable refl read_only refl) u.2))
  right_stmt (emit at v e) n γ has k w u = emit_right γ has k at v e (typed γ e) (right γ has k.one e (expr_uses γ has k n w e u.1))

  pub right_all : (ss : RawStmts Link) (n : Counts) (γ : Known) (has : Target → Ty → Type 0) → Knows γ has → IsWithin n γ → SeesAll n ss → RightAll γ (env_with γ has) ss (walked_all γ ss)
  right_all no_stmts n γ has k w u = record {
    names = [];
    bound = sym (append-nil γ.binders);
    counted = refl;
    tree = (refl, refl);
    agrees = still γ has k;
    clean = λ f x. x;
    told = λ f x. x;
  }
  right_all (stmt s ss) n γ has k w u =
      list_right γ has k s ss (walked γ s) (λ d. walked_all (with_binders γ d.binders d.writable) ss)
      (right_stmt s n γ has k w u.0)
      (λ d ran. let γ' = with_binders γ d.binders d.writable in
      seen_by γ' (after (env_with γ has) s) ss (walked_all γ' ss) ran.agrees
      (right_all ss (seen_after n s) γ' (after (env_with γ has) s).has ran.agrees.has (within_after n γ w d.binders ran.names d.writable ran.bound s ran.counted) u.1))
