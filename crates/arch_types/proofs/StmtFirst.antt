-- The walk over statements gives their part of the checked tree with the first that is too high, or their first fault.
use Rattle.std.proofs.Common.{◌≡◌, ℕ, suc, ◌+◌, [], ◌∷◌, ◌++◌, length, Option, Some, None, Bool, true, false, IsTrue, Result, Ok, Err, refl, ap, sym, subst, ◌∙◌, arith, length-append, append-nil, append_assoc}
use Rattle.tower_types.specs.declared.scalar.Scalar.TheVariants as is
use Rattle.tower_types.specs.Ty.{Ty, Fields, scalar}
use Rattle.tower_syntax.specs.declared.named.Target.{Target}
use Rattle.tower_syntax.specs.RawTree.{Id, Link, RawType, RawPlace, RawExpr, bind, local, set, copy, loop, emit, RawStmts}
use Rattle.tower_syntax.specs.Offset.{link_offset, place_offset, expr_offset}
use Rattle.tower_syntax.specs.Tree as tree
use Rattle.tower_syntax.specs.View.{stmts_of}
use Rattle.arch_types.specs.declared.fault.TypeFault.{TypeFault}
use Rattle.arch_types.specs.declared.fault.TypeFault.TheVariants as fault
use Rattle.arch_types.specs.Wanted.{a_scalar, exactly, fulfils, same, misfit}
use Rattle.arch_types.specs.Offence.{none_before}
use Rattle.arch_types.specs.Typing.{Env, Has, Becomes, BecomesPlace, place_from, type_of, wants, like_the_first}
use Rattle.arch_types.specs.Body.{with_loop, base, emitter_number, message_of, place_child, expr_child, if_writable, wants_writable, wants_writable_scalar, DeepsAll, height, place_height}
use Rattle.arch_types.specs.Walk.{Known, TypedExpr, TypedPlace, and_then, tested, scalar_in, too_high, high_expr, high_place, deep, earlier, first_high, behind, Walked, AllWalked, with_binders, binding, plain, joined, walked, walked_all, typed, typed_place}
use Rattle.arch_types.specs.Walk as walk
use Rattle.arch_types.proofs.Right.{env_with, Right, RightPlace, IsOrdered, AreOrdered, Knows, RightStmt, RightAll}
use Rattle.arch_types.proofs.Same.{same_true}
use Rattle.arch_types.proofs.Nodes.{unless_none}
use Rattle.arch_types.proofs.Typing.{one_expr}
use Rattle.arch_types.proofs.First.{one_child, one_type, two_first, two_second, two_third, two_fourth, any_scalar}
use Rattle.arch_types.proofs.Sequence.{told_within}
use Rattle.arch_types.proofs.DeepRows.{one_offends, one_type_offends, one_clean, one_told, two_offends, two_offends_second, two_offends_third, two_offends_fourth, two_clean, two_told}
use Rattle.arch_types.proofs.Within.{place_begins, wants_at, like_at, let_spans, set_spans, copy_spans, emit_spans, let_ones, set_ones, copy_ones, emit_ones}
use Rattle.arch_types.proofs.Agreed.{still, binds}

-- what ran, and what ran behind it
pub joined_bound : (xs ys zs a b : Fields) → ys ≡ xs ++ a → zs ≡ ys ++ b → zs ≡ xs ++ (a ++ b)
joined_bound xs ys zs a b e d = d ∙ ap (λ v. v ++ b) e ∙ append_assoc xs a b

pub joined_count : (a b : Fields) (n m : ℕ) → length a ≡ n → length b ≡ m → length (a ++ b) ≡ n + m
joined_count a b n m e d = let l = length-append a b in omega arith

module _ (γ : Known) (has : Target → Ty → Type 0) (k : Knows γ has) where
  abbrev Γ : Env
  Γ = env_with γ has

  -- ---- one expression

  module _ (at : ℕ) (i : Id) (e : RawExpr Link) where
    let_typed : (x : TypedExpr) → Becomes Γ e x.ty x.tree → (m : Option TypeFault) → misfit γ.names (expr_offset link_offset e) a_scalar x.ty ≡ m
        → RightStmt γ Γ (bind at i e) (tested m (Ok (record { high = high_expr e; tree = tree.bind (length γ.binders) x.tree; binders = γ.binders ++ (i.name, x.ty) ∷ []; writable = γ.writable ++ false ∷ [] })))
    let_typed x h (Some f) m =
        λ o. let n = let_ones Γ k.one e in let s = let_spans Γ e o.0 o.1.1 in
        let p = one_type (expr_child Γ e) (wants Γ (expr_offset link_offset e) a_scalar) o.0 s n x.ty f (x.tree, h) m in
        (one_type_offends (expr_child Γ e) (wants Γ (expr_offset link_offset e) a_scalar) n (height e) o.0 s x.ty f (x.tree, h) m (wants_at Γ _ a_scalar none_before x.ty f m), λ c. c f p.is_one)
    let_typed x h None m =
        let n = let_ones Γ k.one e in let u = unless_none (fulfils a_scalar x.ty) _ m in let v = any_scalar x.ty u in record {
          names = (i.name, x.ty) ∷ [];
          bound = refl;
          counted = refl;
          tree = (scalar_in x.ty, x.tree, subst (λ t. Becomes Γ e t x.tree) v h, ap (λ t. (i.name, t) ∷ []) v, refl);
          agrees = binds γ has k i.name x.ty (λ t. Has Γ e t × IsTrue (fulfils a_scalar t)) false ((x.tree, h), u) (λ t v p q. (one_expr Γ k.one e).one t v p.0 q.0);
          clean = one_clean (expr_child Γ e) (wants Γ (expr_offset link_offset e) a_scalar) n (height e) x.ty (x.tree, h) m;
          told = one_told (expr_child Γ e) (wants Γ (expr_offset link_offset e) a_scalar) n (height e) (IsOrdered (bind at i e)) x.ty (x.tree, h) m;
        }

    pub let_right : (r : Result TypedExpr TypeFault) → Right Γ e r → RightStmt γ Γ (bind at i e) (and_then r (λ x. walk.let_row γ i e x))
    let_right (Err f) h =
        λ o. let n = let_ones Γ k.one e in let s = let_spans Γ e o.0 o.1.1 in
        (one_offends (expr_child Γ e) (wants Γ (expr_offset link_offset e) a_scalar) n (height e) o.0 s f (h o.0 o.1.1), λ c. c f (one_child (expr_child Γ e) (wants Γ (expr_offset link_offset e) a_scalar) o.0 s n f (h o.0 o.1.1)).is_one)
    let_right (Ok x) h = let_typed x h (misfit γ.names (expr_offset link_offset e) a_scalar x.ty) refl

  module _ (at : ℕ) (u : Link) (e : RawExpr Link) where
    abbrev M : Ty
    M = message_of Γ (emitter_number u.target)

    emit_typed : (x : TypedExpr) → Becomes Γ e x.ty x.tree → (m : Option TypeFault) → misfit γ.names (expr_offset link_offset e) (exactly M) x.ty ≡ m
        → RightStmt γ Γ (emit at u e) (tested m (Ok (plain γ (high_expr e) (tree.emit (emitter_number u.target) x.tree))))
    emit_typed x h (Some f) m =
        λ o. let n = emit_ones Γ k.one u e in let s = emit_spans Γ u e o.0 o.1.1 in
        let p = one_type (expr_child Γ e) (wants Γ (expr_offset link_offset e) (exactly M)) o.0 s n x.ty f (x.tree, h) m in
        (one_type_offends (expr_child Γ e) (wants Γ (expr_offset link_offset e) (exactly M)) n (height e) o.0 s x.ty f (x.tree, h) m (wants_at Γ _ (exactly M) none_before x.ty f m), λ c. c f p.is_one)
    emit_typed x h None m =
        let n = emit_ones Γ k.one u e in let v = same_true M x.ty (unless_none (same M x.ty) _ m) in record {
          names = [];
          bound = sym (append-nil γ.binders);
          counted = refl;
          tree = (x.tree, subst (λ t. Becomes Γ e t x.tree) (sym v) h, refl, refl);
          agrees = still γ has k;
          clean = one_clean (expr_child Γ e) (wants Γ (expr_offset link_offset e) (exactly M)) n (height e) x.ty (x.tree, h) m;
          told = one_told (expr_child Γ e) (wants Γ (expr_offset link_offset e) (exactly M)) n (height e) (IsOrdered (emit at u e)) x.ty (x.tree, h) m;
        }

    pub emit_right : (r : Result TypedExpr TypeFault) → Right Γ e r → RightStmt γ Γ (emit at u e) (and_then r (λ x. walk.emit_row γ (emitter_number u.target) e x))
    emit_right (Err f) h =
        λ o. let n = emit_ones Γ k.one u e in let s = emit_spans Γ u e o.0 o.1.1 in
        (one_offends (expr_child Γ e) (wants Γ (expr_offset link_offset e) (exactly M)) n (height e) o.0 s f (h o.0 o.1.1), λ c. c f (one_child (expr_child Γ e) (wants Γ (expr_offset link_offset e) (exactly M)) o.0 s n f (h o.0 o.1.1)).is_one)
    emit_right (Ok x) h = emit_typed x h (misfit γ.names (expr_offset link_offset e) (exactly M) x.ty) refl

  pub local_right : (at : ℕ) (i : Id) (u : RawType Link) → RightStmt γ Γ (local at i u) (walked γ (local at i u))
  local_right at i u = record {
    names = (i.name, type_of u) ∷ [];
    bound = refl;
    counted = refl;
    tree = (refl, refl);
    agrees = binds γ has k i.name (type_of u) (λ t. t ≡ type_of u) true refl (λ t v h i. h ∙ sym i);
    clean = λ f x. x;
    told = λ f x. x;
  }

  -- ---- two expressions or places

  module _ (at : ℕ) (p : RawPlace Link) (e : RawExpr Link) where
    abbrev P : ℕ
    P = place_offset link_offset p

    abbrev E : ℕ
    E = expr_offset link_offset e

    set_tests : (x : TypedPlace) (y : TypedExpr) → BecomesPlace Γ p x.ty x.path → Becomes Γ e y.ty y.tree → (b : Bool) (m n : Option TypeFault) → Γ.writable (base p) ≡ b → misfit γ.names P a_scalar x.ty ≡ m
        → misfit γ.names E (exactly x.ty) y.ty ≡ n
        → RightStmt γ Γ (set at p e) (tested (if_writable b P None) (tested m (behind (high_place p) (tested n (Ok (plain γ (first_high (high_place p) (high_expr e)) (tree.set (place_from x.path) y.tree)))))))
    set_tests x y h g false m n w i j =
        λ o. let n = set_ones Γ k.one p e in let s = set_spans Γ p e o.0 o.1.1 o.1.2 in let f = fault.NotPlace P in let z = ap (λ b. if_writable b P (misfit γ.names P a_scalar x.ty)) w in (
          two_offends_third (place_child Γ p) (expr_child Γ e) (wants_writable_scalar Γ p) (like_the_first Γ E) n (place_height p) (height e) o.0 s x.ty y.ty f (x.path, h) (y.tree, g) z refl,
          λ c. c f (two_third (place_child Γ p) (expr_child Γ e) (wants_writable_scalar Γ p) (like_the_first Γ E) o.0 s n x.ty y.ty f (x.path, h) (y.tree, g) z).is_one,
        )
    set_tests x y h g true (Some f) n w i j =
        λ o. let n = set_ones Γ k.one p e in let s = set_spans Γ p e o.0 o.1.1 o.1.2 in let z = ap (λ b. if_writable b P (misfit γ.names P a_scalar x.ty)) w ∙ i in (
          two_offends_third (place_child Γ p) (expr_child Γ e) (wants_writable_scalar Γ p) (like_the_first Γ E) n (place_height p) (height e) o.0 s x.ty y.ty f (x.path, h) (y.tree, g) z (wants_at Γ P a_scalar none_before x.ty f i),
          λ c. c f (two_third (place_child Γ p) (expr_child Γ e) (wants_writable_scalar Γ p) (like_the_first Γ E) o.0 s n x.ty y.ty f (x.path, h) (y.tree, g) z).is_one,
        )
    set_tests x y h g true None (Some f) w i j =
        λ o. let n = set_ones Γ k.one p e in let s = set_spans Γ p e o.0 o.1.1 o.1.2 in let z = ap (λ b. if_writable b P (misfit γ.names P a_scalar x.ty)) w ∙ i in (
          two_offends_fourth (place_child Γ p) (expr_child Γ e) (wants_writable_scalar Γ p) (like_the_first Γ E) n (place_height p) (height e) o.0 s x.ty y.ty f (x.path, h) (y.tree, g) z j (like_at Γ E x.ty y.ty f j),
          λ c. c f (two_fourth (place_child Γ p) (expr_child Γ e) (wants_writable_scalar Γ p) (like_the_first Γ E) o.0 s n x.ty y.ty f (x.path, h) (y.tree, g) z j).is_one,
        )
    set_tests x y h g true None None w i j =
        let n = set_ones Γ k.one p e in let z = ap (λ b. if_writable b P (misfit γ.names P a_scalar x.ty)) w ∙ i in
        let v = any_scalar x.ty (unless_none (fulfils a_scalar x.ty) _ i) in let u = same_true x.ty y.ty (unless_none (same x.ty y.ty) _ j) in record {
          names = [];
          bound = sym (append-nil γ.binders);
          counted = refl;
          tree = (scalar_in x.ty, x.path, y.tree, subst (λ t. BecomesPlace Γ p t x.path) v h, w, subst (λ t. Becomes Γ e t y.tree) (sym u ∙ v) g, refl, refl);
          agrees = still γ has k;
          clean = two_clean (place_child Γ p) (expr_child Γ e) (wants_writable_scalar Γ p) (like_the_first Γ E) n (place_height p) (height e) x.ty y.ty (x.path, h) (y.tree, g) z j;
          told = two_told (place_child Γ p) (expr_child Γ e) (wants_writable_scalar Γ p) (like_the_first Γ E) n (place_height p) (height e) (IsOrdered (set at p e)) (λ o. place_begins p (expr_offset link_offset e) o.1.1) x.ty y.ty (x.path, h) (y.tree, g) z j;
        }

    pub set_right : (r : Result TypedPlace TypeFault) (z : Result TypedExpr TypeFault) → RightPlace Γ p r → Right Γ e z
        → RightStmt γ Γ (set at p e) (and_then r (λ x. and_then (behind (high_place p) z) (λ y. walk.set_row γ p e x y)))
    set_right (Err f) z h g =
        λ o. let n = set_ones Γ k.one p e in let s = set_spans Γ p e o.0 o.1.1 o.1.2 in (
          two_offends (place_child Γ p) (expr_child Γ e) (wants_writable_scalar Γ p) (like_the_first Γ E) n (place_height p) (height e) o.0 s f (h E o.1.1),
          λ c. c f (two_first (place_child Γ p) (expr_child Γ e) (wants_writable_scalar Γ p) (like_the_first Γ E) o.0 s n f (h E o.1.1)).is_one,
        )
    set_right (Ok x) (Err f) h g =
        λ o. let n = set_ones Γ k.one p e in let s = set_spans Γ p e o.0 o.1.1 o.1.2 in (
          two_offends_second (place_child Γ p) (expr_child Γ e) (wants_writable_scalar Γ p) (like_the_first Γ E) n (place_height p) (height e) o.0 s x.ty f (x.path, h) (g o.0 o.1.2),
          λ c. c f (two_second (place_child Γ p) (expr_child Γ e) (wants_writable_scalar Γ p) (like_the_first Γ E) o.0 s n x.ty f (x.path, h) (g o.0 o.1.2)).is_one,
        )
    set_right (Ok x) (Ok y) h g = set_tests x y h g (Γ.writable (base p)) (misfit γ.names P a_scalar x.ty) (misfit γ.names E (exactly x.ty) y.ty) refl refl refl

  module _ (at : ℕ) (p v : RawPlace Link) where
    abbrev A : ℕ
    A = place_offset link_offset p

    abbrev B : ℕ
    B = place_offset link_offset v

    copy_tests : (x y : TypedPlace) → BecomesPlace Γ p x.ty x.path → BecomesPlace Γ v y.ty y.path → (b : Bool) (n : Option TypeFault) → Γ.writable (base p) ≡ b → misfit γ.names B (exactly x.ty) y.ty ≡ n
        → RightStmt γ Γ (copy at p v) (tested (if_writable b A None) (behind (high_place p) (tested n (Ok (plain γ (first_high (high_place p) (high_place v)) (tree.copy (place_from x.path) (place_from y.path)))))))
    copy_tests x y h g false n w j =
        λ o. let n = copy_ones Γ k.one p v in let s = copy_spans Γ p v o.0 o.1.1 o.1.2 in let f = fault.NotPlace A in let z = ap (λ b. if_writable b A None) w in (
          two_offends_third (place_child Γ p) (place_child Γ v) (wants_writable Γ p) (like_the_first Γ B) n (place_height p) (place_height v) o.0 s x.ty y.ty f (x.path, h) (y.path, g) z refl,
          λ c. c f (two_third (place_child Γ p) (place_child Γ v) (wants_writable Γ p) (like_the_first Γ B) o.0 s n x.ty y.ty f (x.path, h) (y.path, g) z).is_one,
        )
    copy_tests x y h g true (Some f) w j =
        λ o. let n = copy_ones Γ k.one p v in let s = copy_spans Γ p v o.0 o.1.1 o.1.2 in let z = ap (λ b. if_writable b A None) w in (
          two_offends_fourth (place_child Γ p) (place_child Γ v) (wants_writable Γ p) (like_the_first Γ B) n (place_height p) (place_height v) o.0 s x.ty y.ty f (x.path, h) (y.path, g) z j (like_at Γ B x.ty y.ty f j),
          λ c. c f (two_fourth (place_child Γ p) (place_child Γ v) (wants_writable Γ p) (like_the_first Γ B) o.0 s n x.ty y.ty f (x.path, h) (y.path, g) z j).is_one,
        )
    copy_tests x y h g true None w j =
        let n = copy_ones Γ k.one p v in let z = ap (λ b. if_writable b A None) w in
        let u = same_true x.ty y.ty (unless_none (same x.ty y.ty) _ j) in record {
          names = [];
          bound = sym (append-nil γ.binders);
          counted = refl;
          tree = (x.ty, x.path, y.path, h, w, subst (λ t. BecomesPlace Γ v t y.path) (sym u) g, refl, refl);
          agrees = still γ has k;
          clean = two_clean (place_child Γ p) (place_child Γ v) (wants_writable Γ p) (like_the_first Γ B) n (place_height p) (place_height v) x.ty y.ty (x.path, h) (y.path, g) z j;
          told = two_told (place_child Γ p) (place_child Γ v) (wants_writable Γ p) (like_the_first Γ B) n (place_height p) (place_height v) (IsOrdered (copy at p v)) (λ o. place_begins p (place_offset link_offset v) o.1.1) x.ty y.ty (x.path, h) (y.path, g) z j;
        }

    pub copy_right : (r z : Result TypedPlace TypeFault) → RightPlace Γ p r → RightPlace Γ v z
        → RightStmt γ Γ (copy at p v) (and_then r (λ x. and_then (behind (high_place p) z) (λ y. walk.copy_row γ p v x y)))
    copy_right (Err f) z h g =
        λ o. let n = copy_ones Γ k.one p v in let s = copy_spans Γ p v o.0 o.1.1 o.1.2 in (
          two_offends (place_child Γ p) (place_child Γ v) (wants_writable Γ p) (like_the_first Γ B) n (place_height p) (place_height v) o.0 s f (h B o.1.1),
          λ c. c f (two_first (place_child Γ p) (place_child Γ v) (wants_writable Γ p) (like_the_first Γ B) o.0 s n f (h B o.1.1)).is_one,
        )
    copy_right (Ok x) (Err f) h g =
        λ o. let n = copy_ones Γ k.one p v in let s = copy_spans Γ p v o.0 o.1.1 o.1.2 in (
          two_offends_second (place_child Γ p) (place_child Γ v) (wants_writable Γ p) (like_the_first Γ B) n (place_height p) (place_height v) o.0 s x.ty f (x.path, h) (g o.0 o.1.2),
          λ c. c f (two_second (place_child Γ p) (place_child Γ v) (wants_writable Γ p) (like_the_first Γ B) o.0 s n x.ty f (x.path, h) (g o.0 o.1.2)).is_one,
        )
    copy_right (Ok x) (Ok y) h g = copy_tests x y h g (Γ.writable (base p)) (misfit γ.names B (exactly x.ty) y.ty) refl refl

  -- ---- a loop

  pub loop_right : (at : ℕ) (i : Id) (n : ℕ) (body : RawStmts Link) (r : Result AllWalked TypeFault) → RightAll (binding γ i.name (scalar (is.Ix n)) false) (with_loop Γ n) body r
      → RightStmt γ Γ (loop at i n body) (and_then r (λ w. Ok (walk.loop_row (length γ.binders) n w)))
  loop_right at i n body (Err f) h = λ o. h (o.0, o.1.1)
  loop_right at i n body (Ok w) h = record {
    names = (i.name, scalar (is.Ix n)) ∷ h.names;
    bound = h.bound ∙ append_assoc γ.binders ((i.name, scalar (is.Ix n)) ∷ []) h.names;
    counted = ap suc h.counted;
    tree = (h.names, stmts_of w.trees, h.tree, refl, refl);
    agrees = h.agrees;
    clean = h.clean;
    told = told_within (AreOrdered body) (IsOrdered (loop at i n body)) (λ f. DeepsAll (with_loop Γ n) body f) w.high (λ o. (o.0, o.1.1)) h.told;
  }
