-- The first fault of an `if`, by those of its test and of its branches.
use Rattle.std.proofs.Common.{◌≡◌, ◌⊎◌, ℕ, ◌<◌, inl, inr, ◌++◌, Option, Some, None, Result, Ok, Err, refl, ap, sym, subst, arith}
use Rattle.tower_types.specs.declared.scalar.Scalar.TheVariants as is
use Rattle.tower_types.specs.Ty.{Ty, scalar}
use Rattle.tower_syntax.specs.declared.named.Target.{Target}
use Rattle.tower_syntax.specs.RawTree.{Link, RawExpr, RawStmt, branch, RawStmts}
use Rattle.tower_syntax.specs.Offset.{link_offset, expr_offset}
use Rattle.tower_syntax.specs.Tree as tree
use Rattle.tower_syntax.specs.View.{stmts_of}
use Rattle.arch_types.specs.declared.fault.TypeFault.{TypeFault}
use Rattle.arch_types.specs.declared.high.High.{High}
use Rattle.arch_types.specs.Wanted.{exactly, same, misfit}
use Rattle.arch_types.specs.Offence.{Faults, none_before, offset, IsClean, IsFirst}
use Rattle.arch_types.specs.Typing.{Env, Becomes, ExprFaults, wants}
use Rattle.arch_types.specs.Body.{after_all, expr_child, Breaks, BreaksAll, IsDeep, Deeps, DeepsAll, Offends, height}
use Rattle.arch_types.specs.Order.{AscendsStmt}
use Rattle.arch_types.specs.Numbered.{bound_by_all}
use Rattle.arch_types.specs.Walk.{Known, TypedExpr, and_then, tested, high_expr, earlier, first_high, behind, Walked, AllWalked, with_binders}
use Rattle.arch_types.specs.Walk as walk
use Rattle.arch_types.proofs.Right.{env_with, Right, IsOrdered, AreOrdered, Told, Knows, RightStmt, RightAll}
use Rattle.arch_types.proofs.Same.{same_true}
use Rattle.arch_types.proofs.Nodes.{unless_none}
use Rattle.arch_types.proofs.Typing.{one_expr, sound}
use Rattle.arch_types.proofs.First.{one_child, one_type}
use Rattle.arch_types.proofs.Sequence.{first_left, told_both, told_first, told_within, told_deep, first_of_same, told_same}
use Rattle.arch_types.proofs.DeepRows.{one_clean}
use Rattle.arch_types.proofs.Within.{expr_begins, list_begins, wants_at, test_spans, test_ones, all_offends_inside}
use Rattle.arch_types.proofs.StmtFirst.{joined_bound, joined_count}

module _ (γ : Known) (has : Target → Ty → Type 0) (k : Knows γ has) (at : ℕ) (c : RawExpr Link) (then_at : ℕ) (a : RawStmts Link) (else_at : ℕ) (b : RawStmts Link) where
  abbrev Γ : Env
  Γ = env_with γ has

  abbrev Δ : Env
  Δ = after_all Γ a

  abbrev whole : RawStmt Link
  whole = branch at c then_at a else_at b

  abbrev C : ℕ
  C = expr_offset link_offset c

  abbrev in_left : Faults
  in_left f = Offends Γ a f

  abbrev in_right : Faults
  in_right f = Offends Δ b f

  abbrev at_test : Faults
  at_test f = IsDeep (expr_child Γ c) (height c) (Breaks Γ whole) f

  abbrev all : Faults
  all f = Breaks Γ whole f ⊎ Deeps Γ whole f

  module _ (bound : ℕ) (o : AscendsStmt whole bound) where
    left_after : (f : TypeFault) → in_left f → then_at < offset f
    left_after f x = let s = (all_offends_inside a Γ else_at o.3 f x).from in let l = o.2 in omega arith

    left_before : (f : TypeFault) → in_left f → offset f < else_at
    left_before f x = (all_offends_inside a Γ else_at o.3 f x).below

    right_after : (f : TypeFault) → in_right f → else_at < offset f
    right_after f x = let s = (all_offends_inside b Δ bound o.5 f x).from in let l = o.4 in omega arith

    between : then_at < else_at
    between = let l = o.2 in let m = list_begins a else_at o.3 in omega arith

    test_before : C < then_at
    test_before = expr_begins c then_at o.1

    test_below : (f : TypeFault) → at_test f → offset f < then_at
    test_below f x = let e : offset f ≡ C = ap offset x.3 in let l = test_before in omega arith

    -- ---- a fault in the test

    test_least : (f : TypeFault) → IsFirst (ExprFaults Γ c) f → (g : TypeFault) → all g → (g ≡ f) ⊎ (offset f < offset g)
    test_least f p g h =
        let l = ((sound Γ c then_at o.1).within f p.is_one).below in let m = between in elim h [
          | inl x ↦ elim x [
            | inl y ↦ p.least g y
            | inr y ↦ elim y [
              | inl z ↦ let i = left_after g (inl z) in inr (omega arith)
              | inr z ↦ elim z [
                | inl w ↦ let i = right_after g (inl w) in inr (omega arith)
                | inr w ↦ (one_child (expr_child Γ c) (wants Γ C (exactly (scalar is.Bool))) then_at (test_spans Γ c then_at o.1) (test_ones Γ k.one c) f p).least g w.2
              ]
            ]
          ]
          | inr x ↦ elim x [
            | inl y ↦ absurd (y.1 f p.is_one)
            | inr y ↦ elim y [
              | inl z ↦ let i = left_after g (inr z) in inr (omega arith)
              | inr z ↦ let i = right_after g (inr z) in inr (omega arith)
            ]
          ]
        ]

    test_offends : (f : TypeFault) → IsFirst (ExprFaults Γ c) f → IsFirst all f × (IsClean (λ g. Breaks Γ whole g) → ⊥)
    test_offends f p = (record { is_one = inl (inl p.is_one); least = test_least f p }, λ n. n f (inl p.is_one))

  -- ---- the test has a type

  module _ (x : TypedExpr) (typed : Becomes Γ c x.ty x.tree) where
    no_fault : IsClean (ExprFaults Γ c)
    no_fault f h = (one_expr Γ k.one c).clean x.ty f (x.tree, typed) h

    -- where a branch breaks, nothing is wrong at the test but its height
    module _ (bound : ℕ) (o : AscendsStmt whole bound) (broken : IsClean (λ g. BreaksAll Γ a g) → IsClean (λ g. BreaksAll Δ b g) → ⊥) where
      not_at_test : (g : TypeFault) → Breaks Γ whole g → offset g ≡ C → ⊥
      not_at_test g h e = let l = test_before bound o in let m = between bound o in elim h [
        | inl y ↦ no_fault g y
        | inr y ↦ elim y [
          | inl z ↦ let i = left_after bound o g (inl z) in omega arith
          | inr z ↦ elim z [
            | inl w ↦ let i = right_after bound o g (inl w) in omega arith
            | inr w ↦ broken w.0 w.1
          ]
        ]
      ]

      told_test : Told (Unit {0}) (high_expr c) at_test
      told_test = told_deep (Unit {0}) (expr_child Γ c) (height c) (Breaks Γ whole) no_fault (λ u. not_at_test)

    left_offends : (f : TypeFault) → RightAll γ Γ a (Err f) → RightStmt γ Γ whole (Err (earlier (high_expr c) f))
    left_offends f h (bound, o) =
        let p = (h (else_at, o.3)).0 in let n = (h (else_at, o.3)).1 in
        let broken = λ (y : IsClean (λ g. BreaksAll Γ a g)) (z : IsClean (λ g. BreaksAll Δ b g)). n y in
        let rest = first_left in_left in_right f else_at p (left_before bound o f p.is_one) (λ g y. let l = right_after bound o g y in omega arith) in
        let l = left_after bound o f p.is_one in let m = between bound o in
        let first = told_first (Unit {0}) at_test (λ g. in_left g ⊎ in_right g) (high_expr c) f then_at (told_test bound o broken) (tt {0}) rest (omega arith) (test_below bound o)
        (λ g y. elim y [ inl z ↦ (let i = left_after bound o g z in omega arith) | inr z ↦ (let i = right_after bound o g z in omega arith) ]) in (
          first_of_same (λ g. at_test g ⊎ (in_left g ⊎ in_right g)) all (earlier (high_expr c) f)
              (λ g y. elim y [
                | inl z ↦ inr (inl z)
                | inr z ↦ elim z [
                  | inl w ↦ elim w [ inl v ↦ inl (inr (inl v)) | inr v ↦ inr (inr (inl v)) ]
                  | inr w ↦ elim w [ inl v ↦ inl (inr (inr (inl v))) | inr v ↦ inr (inr (inr v)) ]
                ]
              ])
              (λ g y. elim y [
                | inl z ↦ elim z [
                  | inl w ↦ absurd (no_fault g w)
                  | inr w ↦ elim w [
                    | inl v ↦ inr (inl (inl v))
                    | inr v ↦ elim v [ inl u ↦ inr (inr (inl u)) | inr u ↦ absurd (n u.0) ]
                  ]
                ]
                | inr z ↦ elim z [
                  | inl w ↦ inl w
                  | inr w ↦ elim w [ inl v ↦ inr (inl (inr v)) | inr v ↦ inr (inr (inr v)) ]
                ]
              ])
              first,
          λ w. n (λ g y. w g (inr (inl y))),
        )

    module _ (l : AllWalked) (left : RightAll γ Γ a (Ok l)) where
      abbrev high : Option High
      high = first_high (high_expr c) l.high

      abbrev so_far : Faults
      so_far f = at_test f ⊎ DeepsAll Γ a f

      so_far_below : (bound : ℕ) (o : AscendsStmt whole bound) (g : TypeFault) → so_far g → offset g < else_at
      so_far_below bound o g y = let m = between bound o in elim y [ inl z ↦ (let i = test_below bound o g z in omega arith) | inr z ↦ left_before bound o g (inr z) ]

      told_so_far : (O : Type 0) → (O → IsOrdered whole) → Told O (high_expr c) at_test → Told O high so_far
      told_so_far O order t =
          told_both O at_test (λ g. DeepsAll Γ a g) (high_expr c) l.high then_at t (told_within (AreOrdered a) O (λ g. DeepsAll Γ a g) l.high (λ u. (else_at, (order u).1.3)) left.told)
          (λ u. test_below (order u).0 (order u).1) (λ u g y. let i = left_after (order u).0 (order u).1 g (inr y) in omega arith)

      right_offends : (f : TypeFault) → RightAll (with_binders γ l.binders l.writable) Δ b (Err f) → RightStmt γ Γ whole (Err (earlier high f))
      right_offends f h (bound, o) =
          let p = (h (bound, o.5)).0 in let n = (h (bound, o.5)).1 in
          let broken = λ (y : IsClean (λ g. BreaksAll Γ a g)) (z : IsClean (λ g. BreaksAll Δ b g)). n z in
          let i = right_after bound o f p.is_one in
          let first = told_first (Unit {0}) so_far in_right high f else_at (told_so_far (Unit {0}) (λ u. (bound, o)) (told_test bound o broken)) (tt {0}) p (omega arith) (so_far_below bound o) (λ g y. let j = right_after bound o g y in omega arith) in (
            first_of_same (λ g. so_far g ⊎ in_right g) all (earlier high f)
                (λ g y. elim y [
                  | inl z ↦ elim z [ inl w ↦ inr (inl w) | inr w ↦ inr (inr (inl w)) ]
                  | inr z ↦ elim z [ inl w ↦ inl (inr (inr (inl w))) | inr w ↦ inr (inr (inr w)) ]
                ])
                (λ g y. elim y [
                  | inl z ↦ elim z [
                    | inl w ↦ absurd (no_fault g w)
                    | inr w ↦ elim w [
                      | inl v ↦ absurd (left.clean g v)
                      | inr v ↦ elim v [ inl u ↦ inr (inl u) | inr u ↦ absurd (n u.1) ]
                    ]
                  ]
                  | inr z ↦ elim z [
                    | inl w ↦ inl (inl w)
                    | inr w ↦ elim w [ inl v ↦ inl (inr v) | inr v ↦ inr (inr v) ]
                  ]
                ])
                first,
            λ w. n (λ g y. w g (inr (inr (inl y)))),
          )

      module _ (r : AllWalked) (next : RightAll (with_binders γ l.binders l.writable) Δ b (Ok r)) where
        mismatch_least : (bound : ℕ) (o : AscendsStmt whole bound) (f : TypeFault) → misfit γ.names C (exactly (scalar is.Bool)) x.ty ≡ Some f → (g : TypeFault) → all g → (g ≡ f) ⊎ (offset f < offset g)
        mismatch_least bound o f e g h =
            let p = one_type (expr_child Γ c) (wants Γ C (exactly (scalar is.Bool))) then_at (test_spans Γ c then_at o.1) (test_ones Γ k.one c) x.ty f (x.tree, typed) e in
            let i = wants_at Γ C (exactly (scalar is.Bool)) none_before x.ty f e in let m = between bound o in let q = test_before bound o in elim h [
              | inl y ↦ elim y [
                | inl z ↦ absurd (no_fault g z)
                | inr z ↦ elim z [
                  | inl w ↦ absurd (left.clean g w)
                  | inr w ↦ elim w [ inl v ↦ absurd (next.clean g v) | inr v ↦ p.least g v.2 ]
                ]
              ]
              | inr y ↦ elim y [
                | inl z ↦ absurd (z.2 f (inr (inr (inr (left.clean, next.clean, p.is_one)))) i)
                | inr z ↦ elim z [
                  | inl w ↦ let j = left_after bound o g (inr w) in inr (omega arith)
                  | inr w ↦ let j = right_after bound o g (inr w) in inr (omega arith)
                ]
              ]
            ]

        branch_tests : (m : Option TypeFault) → misfit γ.names C (exactly (scalar is.Bool)) x.ty ≡ m
            → RightStmt γ Γ whole (tested m (Ok (record { high = first_high high r.high; tree = tree.branch x.tree (stmts_of l.trees) (stmts_of r.trees); binders = r.binders; writable = r.writable })))
        branch_tests (Some f) e = λ w. let bound = w.0 in let o = w.1 in
            let p = one_type (expr_child Γ c) (wants Γ C (exactly (scalar is.Bool))) then_at (test_spans Γ c then_at o.1) (test_ones Γ k.one c) x.ty f (x.tree, typed) e in
            let y : Breaks Γ whole f = inr (inr (inr (left.clean, next.clean, p.is_one))) in
            (record { is_one = inl y; least = mismatch_least bound o f e }, λ w. w f y)
        branch_tests None e =
            let u = same_true (scalar is.Bool) x.ty (unless_none (same (scalar is.Bool) x.ty) _ e) in
            let n = one_clean (expr_child Γ c) (wants Γ C (exactly (scalar is.Bool))) (test_ones Γ k.one c) (height c) x.ty (x.tree, typed) e in
            let clean : IsClean (λ g. Breaks Γ whole g) = λ g y. elim y [
              | inl z ↦ no_fault g z
              | inr z ↦ elim z [
                | inl w ↦ left.clean g w
                | inr w ↦ elim w [ inl v ↦ next.clean g v | inr v ↦ n g v.2 ]
              ]
            ] in record {
              names = left.names ++ next.names;
              bound = joined_bound γ.binders l.binders r.binders left.names next.names left.bound next.bound;
              counted = joined_count left.names next.names (bound_by_all a) (bound_by_all b) left.counted next.counted;
              tree = (x.tree, left.names, next.names, stmts_of l.trees, stmts_of r.trees, subst (λ t. Becomes Γ c t x.tree) (sym u) typed, left.tree, next.tree, refl, refl);
              agrees = next.agrees;
              clean = clean;
              told = told_same (IsOrdered whole) (λ g. so_far g ⊎ DeepsAll Δ b g) (λ g. Deeps Γ whole g) (first_high high r.high)
                  (λ g y. elim y [ inl z ↦ elim z [ inl w ↦ inl w | inr w ↦ inr (inl w) ] | inr z ↦ inr (inr z) ])
                  (λ g y. elim y [ inl z ↦ inl (inl z) | inr z ↦ elim z [ inl w ↦ inl (inr w) | inr w ↦ inr w ] ])
                  (told_both (IsOrdered whole) so_far (λ g. DeepsAll Δ b g) high r.high else_at
                  (told_so_far (IsOrdered whole) (λ u. u) (told_deep (IsOrdered whole) (expr_child Γ c) (height c) (Breaks Γ whole) no_fault (λ u g y i. clean g y)))
                  (told_within (AreOrdered b) (IsOrdered whole) (λ g. DeepsAll Δ b g) r.high (λ u. (u.0, u.1.5)) next.told)
                  (λ u. so_far_below u.0 u.1) (λ u g y. let j = right_after u.0 u.1 g (inr y) in omega arith));
            }

      right_right : (r : Result AllWalked TypeFault) → RightAll (with_binders γ l.binders l.writable) Δ b r → RightStmt γ Γ whole (and_then (behind high r) (λ w. walk.branch_row γ.names c x high l.trees w))
      right_right (Err f) h = right_offends f h
      right_right (Ok r) h = branch_tests r h (misfit γ.names C (exactly (scalar is.Bool)) x.ty) refl

    left_right : (l : Result AllWalked TypeFault) (next : AllWalked → Result AllWalked TypeFault) → RightAll γ Γ a l
        → ((w : AllWalked) → RightAll γ Γ a (Ok w) → RightAll (with_binders γ w.binders w.writable) Δ b (next w))
        → RightStmt γ Γ whole (and_then (behind (high_expr c) l) (λ w. and_then (behind (first_high (high_expr c) w.high) (next w)) (λ r. walk.branch_row γ.names c x (first_high (high_expr c) w.high) w.trees r)))
    left_right (Err f) next h later = left_offends f h
    left_right (Ok l) next h later = right_right l h (next l) (later l h)

  pub branch_right : (x : Result TypedExpr TypeFault) (l : Result AllWalked TypeFault) (next : AllWalked → Result AllWalked TypeFault) → Right Γ c x → RightAll γ Γ a l
      → ((w : AllWalked) → RightAll γ Γ a (Ok w) → RightAll (with_binders γ w.binders w.writable) Δ b (next w))
      → RightStmt γ Γ whole (and_then x (λ x. and_then (behind (high_expr c) l) (λ w. and_then (behind (first_high (high_expr c) w.high) (next w)) (λ r. walk.branch_row γ.names c x (first_high (high_expr c) w.high) w.trees r))))
  branch_right (Err f) l next h g later = λ o. test_offends o.0 o.1 f (h then_at o.1.1)
  branch_right (Ok x) l next h g later = left_right x h l next g later
