-- The walk over an expression or place gives its type, or its first fault.
use Rattle.std.proofs.Common.{◌≡◌, ℕ, inl, [], ◌∷◌, Option, Some, None, Bool, true, false, Result, Ok, Err, refl, ap, sym, subst, ◌∙◌}
use Rattle.std.proofs.lemmas.Bool.{false≢true}
use Rattle.tower_types.specs.declared.scalar.Scalar.{Scalar}
use Rattle.tower_types.specs.declared.scalar.Scalar.TheVariants as is
use Rattle.tower_types.specs.declared.scalar.BinOp.{BinOp}
use Rattle.tower_types.specs.declared.scalar.BinOp.TheVariants as op
use Rattle.tower_types.specs.declared.scalar.UnOp.{UnOp}
use Rattle.tower_types.specs.declared.scalar.UnOp.TheVariants as un_op
use Rattle.tower_types.specs.Ty.{Ty, scalar, array, rec as record_type}
use Rattle.tower_types.specs.Value.{fits_scalar}
use Rattle.tower_types.specs.Arithmetic.{binary_scalar}
use Rattle.tower_syntax.specs.declared.named.Target.{Target}
use Rattle.tower_syntax.specs.RawTree.{Id, Link, RawType, RawPlace, root, get, index, RawExpr, truth, read, lit, un, bin, choose, cast}
use Rattle.tower_syntax.specs.Offset.{link_offset, type_offset, place_offset, expr_offset}
use Rattle.tower_syntax.specs.Tree as tree
use Rattle.arch_types.specs.declared.fault.TypeFault.{TypeFault}
use Rattle.arch_types.specs.declared.fault.TypeFault.TheVariants as fault
use Rattle.arch_types.specs.Wanted.{a_scalar, a_number, an_array, exactly, fulfils, same, misfit, wanted, wanted_one, unless}
use Rattle.arch_types.specs.Offence.{Child, Test, Row, end, child, none_before, Node, IsFirst}
use Rattle.arch_types.specs.Typing.{Env, Path, with_step, Becomes, BecomesPlace, type_of, field_of, has_field, wants, wants_field, wants_index, like_the_first, wants_second, type_child}
use Rattle.arch_types.specs.Body.{place_child, expr_child}
use Rattle.arch_types.specs.Order.{AscendsPlace, Ascends}
use Rattle.arch_types.specs.Walk.{Known, known_type, TypedExpr, TypedPlace, typed, typed_place, scalar_in, and_then, tested, literal, un_row, bin_row, choose_row, cast_row, get_row, index_row, field_found}
use Rattle.arch_types.proofs.Right.{env_with, Uses, UsesPlace, Right, RightPlace}
use Rattle.arch_types.proofs.Same.{same_true}
use Rattle.arch_types.proofs.Nodes.{Ones, Spans, first_child, next_child, in_children, first_miss, next_miss, in_types, unless_none}
use Rattle.arch_types.proofs.Typing.{applies_wanted, applies_wanted_one, wanted_same, get_children, index_children, un_children, bin_children, choose_children, cast_children, get_spans, index_spans, un_spans, bin_spans, choose_spans, cast_spans, type_one, one_place, one_expr, sound, sound_place}

pub scalar_wanted : (o : BinOp) (t : Ty) → fulfils (wanted o) t ≡ true → t ≡ scalar (scalar_in t)
scalar_wanted op.Add (scalar s) h = refl
scalar_wanted op.Add (array n t) h = absurd (false≢true h)
scalar_wanted op.Add (record_type r) h = absurd (false≢true h)
scalar_wanted op.Sub (scalar s) h = refl
scalar_wanted op.Sub (array n t) h = absurd (false≢true h)
scalar_wanted op.Sub (record_type r) h = absurd (false≢true h)
scalar_wanted op.Mul (scalar s) h = refl
scalar_wanted op.Mul (array n t) h = absurd (false≢true h)
scalar_wanted op.Mul (record_type r) h = absurd (false≢true h)
scalar_wanted op.Div (scalar s) h = refl
scalar_wanted op.Div (array n t) h = absurd (false≢true h)
scalar_wanted op.Div (record_type r) h = absurd (false≢true h)
scalar_wanted op.Rem (scalar s) h = refl
scalar_wanted op.Rem (array n t) h = absurd (false≢true h)
scalar_wanted op.Rem (record_type r) h = absurd (false≢true h)
scalar_wanted op.And (scalar s) h = refl
scalar_wanted op.And (array n t) h = absurd (false≢true h)
scalar_wanted op.And (record_type r) h = absurd (false≢true h)
scalar_wanted op.Or (scalar s) h = refl
scalar_wanted op.Or (array n t) h = absurd (false≢true h)
scalar_wanted op.Or (record_type r) h = absurd (false≢true h)
scalar_wanted op.Xor (scalar s) h = refl
scalar_wanted op.Xor (array n t) h = absurd (false≢true h)
scalar_wanted op.Xor (record_type r) h = absurd (false≢true h)
scalar_wanted op.Eq (scalar s) h = refl
scalar_wanted op.Eq (array n t) h = absurd (false≢true h)
scalar_wanted op.Eq (record_type r) h = absurd (false≢true h)
scalar_wanted op.Less (scalar s) h = refl
scalar_wanted op.Less (array n t) h = absurd (false≢true h)
scalar_wanted op.Less (record_type r) h = absurd (false≢true h)
scalar_wanted op.LessEq (scalar s) h = refl
scalar_wanted op.LessEq (array n t) h = absurd (false≢true h)
scalar_wanted op.LessEq (record_type r) h = absurd (false≢true h)
scalar_wanted op.Both (scalar s) h = refl
scalar_wanted op.Both (array n t) h = absurd (false≢true h)
scalar_wanted op.Both (record_type r) h = absurd (false≢true h)
scalar_wanted op.Either (scalar s) h = refl
scalar_wanted op.Either (array n t) h = absurd (false≢true h)
scalar_wanted op.Either (record_type r) h = absurd (false≢true h)

pub scalar_wanted_one : (o : UnOp) (t : Ty) → fulfils (wanted_one o) t ≡ true → t ≡ scalar (scalar_in t)
scalar_wanted_one un_op.Not (scalar s) h = refl
scalar_wanted_one un_op.Not (array n t) h = absurd (false≢true h)
scalar_wanted_one un_op.Not (record_type r) h = absurd (false≢true h)
scalar_wanted_one un_op.Neg (scalar s) h = refl
scalar_wanted_one un_op.Neg (array n t) h = absurd (false≢true h)
scalar_wanted_one un_op.Neg (record_type r) h = absurd (false≢true h)

-- a scalar that is a number
number_scalar : (t : Ty) → fulfils a_number t ≡ true → t ≡ scalar (scalar_in t)
number_scalar (scalar s) h = refl
number_scalar (array n t) h = absurd (false≢true h)
number_scalar (record_type r) h = absurd (false≢true h)

pub any_scalar : (t : Ty) → fulfils a_scalar t ≡ true → t ≡ scalar (scalar_in t)
any_scalar (scalar s) h = refl
any_scalar (array n t) h = absurd (false≢true h)
any_scalar (record_type r) h = absurd (false≢true h)

-- ---- the first fault of a row of one, two or three children

module _ (c : Child) (test : Test) (bound : ℕ) (s : Spans (child c test end) bound) (ones : Ones (child c test end)) where
  pub one_child : (f : TypeFault) → IsFirst c.faults f → IsFirst (Node (child c test end)) f
  one_child f p = in_children (child c test end) f ones (first_child c test end bound f s p)

  pub one_type : (t : Ty) (f : TypeFault) → c.has t → test none_before t ≡ Some f → IsFirst (Node (child c test end)) f
  one_type t f h e = in_types (child c test end) (t ∷ []) f ones (h, tt {0}) (first_miss none_before c test end bound t [] f s e)

module _ (c d : Child) (test last : Test) (bound : ℕ) (s : Spans (child c test (child d last end)) bound) (ones : Ones (child c test (child d last end))) where
  pub two_first : (f : TypeFault) → IsFirst c.faults f → IsFirst (Node (child c test (child d last end))) f
  two_first f p = in_children (child c test (child d last end)) f ones (first_child c test (child d last end) bound f s p)

  pub two_second : (t : Ty) (f : TypeFault) → c.has t → IsFirst d.faults f → IsFirst (Node (child c test (child d last end))) f
  two_second t f h p = in_children (child c test (child d last end)) f ones (next_child c test (child d last end) f (λ g x. ones.0.clean t g h x) (first_child d last end bound f s.2 p))

  pub two_third : (t u : Ty) (f : TypeFault) → c.has t → d.has u → test none_before t ≡ Some f → IsFirst (Node (child c test (child d last end))) f
  two_third t u f h k e = in_types (child c test (child d last end)) (t ∷ u ∷ []) f ones (h, (k, tt {0})) (first_miss none_before c test (child d last end) bound t (u ∷ []) f s e)

  pub two_fourth : (t u : Ty) (f : TypeFault) → c.has t → d.has u → test none_before t ≡ None → last t u ≡ Some f → IsFirst (Node (child c test (child d last end))) f
  two_fourth t u f h k e i = in_types (child c test (child d last end)) (t ∷ u ∷ []) f ones (h, (k, tt {0})) (next_miss none_before c test (child d last end) t (u ∷ []) f e (first_miss t d last end bound u [] f s.2 i))

module _ (b c d : Child) (first test last : Test) (bound : ℕ) (s : Spans (child b first (child c test (child d last end))) bound) (ones : Ones (child b first (child c test (child d last end)))) where
  abbrev three : Row
  three = child b first (child c test (child d last end))

  three_first : (f : TypeFault) → IsFirst b.faults f → IsFirst (Node three) f
  three_first f p = in_children three f ones (first_child b first (child c test (child d last end)) bound f s p)

  three_second : (r : Ty) (f : TypeFault) → b.has r → IsFirst c.faults f → IsFirst (Node three) f
  three_second r f g p = in_children three f ones (next_child b first (child c test (child d last end)) f (λ v x. ones.0.clean r v g x) (first_child c test (child d last end) bound f s.2 p))

  three_third : (r t : Ty) (f : TypeFault) → b.has r → c.has t → IsFirst d.faults f → IsFirst (Node three) f
  three_third r t f g h p = in_children three f ones (next_child b first (child c test (child d last end)) f (λ v x. ones.0.clean r v g x)
      (next_child c test (child d last end) f (λ v x. ones.1.0.clean t v h x) (first_child d last end bound f s.2.2 p)))

  module _ (r t u : Ty) (f : TypeFault) (g : b.has r) (h : c.has t) (k : d.has u) where
    three_fourth : first none_before r ≡ Some f → IsFirst (Node three) f
    three_fourth e = in_types three (r ∷ t ∷ u ∷ []) f ones (g, (h, (k, tt {0}))) (first_miss none_before b first (child c test (child d last end)) bound r (t ∷ u ∷ []) f s e)

    three_fifth : first none_before r ≡ None → test r t ≡ Some f → IsFirst (Node three) f
    three_fifth e i = in_types three (r ∷ t ∷ u ∷ []) f ones (g, (h, (k, tt {0}))) (next_miss none_before b first (child c test (child d last end)) r (t ∷ u ∷ []) f e
        (first_miss r c test (child d last end) bound t (u ∷ []) f s.2 i))

    three_sixth : first none_before r ≡ None → test r t ≡ None → last t u ≡ Some f → IsFirst (Node three) f
    three_sixth e i j = in_types three (r ∷ t ∷ u ∷ []) f ones (g, (h, (k, tt {0}))) (next_miss none_before b first (child c test (child d last end)) r (t ∷ u ∷ []) f e
        (next_miss r c test (child d last end) t (u ∷ []) f i (first_miss t d last end bound u [] f s.2.2 j)))

module _ (γ : Known) (has : Target → Ty → Type 0) where
  abbrev Γ : Env
  Γ = env_with γ has

  module _ (op : UnOp) (at : ℕ) (a : RawExpr Link) (ones : Ones (un_children Γ op a)) (s : (end : ℕ) → Ascends (un at op a) end → Spans (un_children Γ op a) end) where
    un_tests : (x : TypedExpr) → Becomes Γ a x.ty x.tree → (m : Option TypeFault) → misfit γ.names (expr_offset link_offset a) (wanted_one op) x.ty ≡ m
        → Right Γ (un at op a) (tested m (Ok (record { ty = x.ty; tree = tree.un op (scalar_in x.ty) x.tree })))
    un_tests x h (Some f) e = λ bound o. one_type (expr_child Γ a) (wants Γ (expr_offset link_offset a) (wanted_one op)) bound (s bound o) ones x.ty f (x.tree, h) e
    un_tests x h None e =
        let i = unless_none (fulfils (wanted_one op) x.ty) _ e in let k = scalar_wanted_one op x.ty i in
        (scalar_in x.ty, x.tree, subst (λ t. Becomes Γ a t x.tree) k h, sym (applies_wanted_one op (scalar_in x.ty)) ∙ ap (fulfils (wanted_one op)) (sym k) ∙ i, k, refl)

    un_right : (r : Result TypedExpr TypeFault) → Right Γ a r → Right Γ (un at op a) (and_then r (λ x. un_row γ.names op (expr_offset link_offset a) x))
    un_right (Err f) h = λ bound o. one_child (expr_child Γ a) (wants Γ (expr_offset link_offset a) (wanted_one op)) bound (s bound o) ones f (h bound o.1)
    un_right (Ok x) h = un_tests x h (misfit γ.names (expr_offset link_offset a) (wanted_one op) x.ty) refl

  module _ (op : BinOp) (at : ℕ) (a b : RawExpr Link) (ones : Ones (bin_children Γ op a b)) (s : (end : ℕ) → Ascends (bin at op a b) end → Spans (bin_children Γ op a b) end) where
    abbrev A : ℕ
    A = expr_offset link_offset a

    abbrev B : ℕ
    B = expr_offset link_offset b

    bin_tests : (x y : TypedExpr) → Becomes Γ a x.ty x.tree → Becomes Γ b y.ty y.tree → (m n : Option TypeFault) → misfit γ.names A (wanted op) x.ty ≡ m → misfit γ.names B (exactly x.ty) y.ty ≡ n
        → Right Γ (bin at op a b) (tested m (tested n (Ok (record { ty = scalar (binary_scalar op (scalar_in x.ty)); tree = tree.bin op (scalar_in x.ty) x.tree y.tree }))))
    bin_tests x y h k (Some f) n i j = λ bound o. two_third (expr_child Γ a) (expr_child Γ b) (wants Γ A (wanted op)) (wants_second Γ B op) bound (s bound o) ones x.ty y.ty f (x.tree, h) (y.tree, k) i
    bin_tests x y h k None (Some f) i j = λ bound o. two_fourth (expr_child Γ a) (expr_child Γ b) (wants Γ A (wanted op)) (wants_second Γ B op) bound (s bound o) ones x.ty y.ty f (x.tree, h) (y.tree, k) i
        (ap (λ w. misfit γ.names B w y.ty) (wanted_same op x.ty (unless_none (fulfils (wanted op) x.ty) _ i)) ∙ j)
    bin_tests x y h k None None i j =
        let u = unless_none (fulfils (wanted op) x.ty) _ i in let v = scalar_wanted op x.ty u in let w = same_true x.ty y.ty (unless_none (same x.ty y.ty) _ j) in (
          scalar_in x.ty,
          x.tree,
          y.tree,
          subst (λ t. Becomes Γ a t x.tree) v h,
          subst (λ t. Becomes Γ b t y.tree) (sym w ∙ v) k,
          sym (applies_wanted op (scalar_in x.ty)) ∙ ap (fulfils (wanted op)) (sym v) ∙ u,
          refl,
          refl,
        )

    bin_right : (r q : Result TypedExpr TypeFault) → Right Γ a r → Right Γ b q → Right Γ (bin at op a b) (and_then r (λ x. and_then q (λ y. bin_row γ.names op A x B y)))
    bin_right (Err f) q h k = λ bound o. two_first (expr_child Γ a) (expr_child Γ b) (wants Γ A (wanted op)) (wants_second Γ B op) bound (s bound o) ones f (h B o.1)
    bin_right (Ok x) (Err f) h k = λ bound o. two_second (expr_child Γ a) (expr_child Γ b) (wants Γ A (wanted op)) (wants_second Γ B op) bound (s bound o) ones x.ty f (x.tree, h) (k bound o.2)
    bin_right (Ok x) (Ok y) h k = bin_tests x y h k (misfit γ.names A (wanted op) x.ty) (misfit γ.names B (exactly x.ty) y.ty) refl refl

  module _ (at : ℕ) (u : RawType Link) (a : RawExpr Link) (ones : Ones (cast_children Γ u a)) (s : (end : ℕ) → Ascends (cast at u a) end → Spans (cast_children Γ u a) end) where
    abbrev T : ℕ
    T = type_offset link_offset u

    abbrev C : ℕ
    C = expr_offset link_offset a

    cast_tests : (x : TypedExpr) → Becomes Γ a x.ty x.tree → (m n : Option TypeFault) → misfit γ.names T a_number (type_of u) ≡ m → misfit γ.names C a_number x.ty ≡ n
        → Right Γ (cast at u a) (tested m (tested n (Ok (record { ty = type_of u; tree = tree.cast (scalar_in (type_of u)) x.tree }))))
    cast_tests x h (Some f) n i j = λ bound o. two_third (type_child u) (expr_child Γ a) (wants Γ T a_number) (wants Γ C a_number) bound (s bound o) ones (type_of u) x.ty f refl (x.tree, h) i
    cast_tests x h None (Some f) i j = λ bound o. two_fourth (type_child u) (expr_child Γ a) (wants Γ T a_number) (wants Γ C a_number) bound (s bound o) ones (type_of u) x.ty f refl (x.tree, h) i j
    cast_tests x h None None i j =
        let p = unless_none (fulfils a_number (type_of u)) _ i in let v = number_scalar (type_of u) p in
        let q = unless_none (fulfils a_number x.ty) _ j in let w = number_scalar x.ty q in
        (scalar_in (type_of u), scalar_in x.ty, x.tree, v, ap (fulfils a_number) (sym v) ∙ p, subst (λ t. Becomes Γ a t x.tree) w h, ap (fulfils a_number) (sym w) ∙ q, v, refl)

    cast_right : (r : Result TypedExpr TypeFault) → Right Γ a r → Right Γ (cast at u a) (and_then r (λ x. cast_row γ.names T (type_of u) C x))
    cast_right (Err f) h = λ bound o. two_second (type_child u) (expr_child Γ a) (wants Γ T a_number) (wants Γ C a_number) bound (s bound o) ones (type_of u) f refl (h bound o.2)
    cast_right (Ok x) h = cast_tests x h (misfit γ.names T a_number (type_of u)) (misfit γ.names C a_number x.ty) refl refl

  module _ (at : ℕ) (c a b : RawExpr Link) (ones : Ones (choose_children Γ c a b)) (s : (end : ℕ) → Ascends (choose at c a b) end → Spans (choose_children Γ c a b) end) where
    abbrev I : ℕ
    I = expr_offset link_offset c

    abbrev J : ℕ
    J = expr_offset link_offset a

    abbrev K : ℕ
    K = expr_offset link_offset b

    choose_tests : (w x y : TypedExpr) → Becomes Γ c w.ty w.tree → Becomes Γ a x.ty x.tree → Becomes Γ b y.ty y.tree → (l m n : Option TypeFault)
        → misfit γ.names I (exactly (scalar is.Bool)) w.ty ≡ l → misfit γ.names J a_scalar x.ty ≡ m → misfit γ.names K (exactly x.ty) y.ty ≡ n
        → Right Γ (choose at c a b) (tested l (tested m (tested n (Ok (record { ty = x.ty; tree = tree.choose w.tree x.tree y.tree })))))
    choose_tests w x y g h k (Some f) m n e i j = λ bound o. three_fourth (expr_child Γ c) (expr_child Γ a) (expr_child Γ b) (wants Γ I (exactly (scalar is.Bool))) (wants Γ J a_scalar) (like_the_first Γ K) bound (s bound o) ones w.ty x.ty y.ty f (w.tree, g) (x.tree, h) (y.tree, k) e
    choose_tests w x y g h k None (Some f) n e i j = λ bound o. three_fifth (expr_child Γ c) (expr_child Γ a) (expr_child Γ b) (wants Γ I (exactly (scalar is.Bool))) (wants Γ J a_scalar) (like_the_first Γ K) bound (s bound o) ones w.ty x.ty y.ty f (w.tree, g) (x.tree, h) (y.tree, k) e i
    choose_tests w x y g h k None None (Some f) e i j = λ bound o. three_sixth (expr_child Γ c) (expr_child Γ a) (expr_child Γ b) (wants Γ I (exactly (scalar is.Bool))) (wants Γ J a_scalar) (like_the_first Γ K) bound (s bound o) ones w.ty x.ty y.ty f (w.tree, g) (x.tree, h) (y.tree, k) e i j
    choose_tests w x y g h k None None None e i j =
        let p = same_true (scalar is.Bool) w.ty (unless_none (same (scalar is.Bool) w.ty) _ e) in
        let v = any_scalar x.ty (unless_none (fulfils a_scalar x.ty) _ i) in let q = same_true x.ty y.ty (unless_none (same x.ty y.ty) _ j) in (
          scalar_in x.ty,
          w.tree,
          x.tree,
          y.tree,
          subst (λ t. Becomes Γ c t w.tree) (sym p) g,
          subst (λ t. Becomes Γ a t x.tree) v h,
          subst (λ t. Becomes Γ b t y.tree) (sym q ∙ v) k,
          v,
          refl,
        )

    choose_right : (r q z : Result TypedExpr TypeFault) → Right Γ c r → Right Γ a q → Right Γ b z
        → Right Γ (choose at c a b) (and_then r (λ w. and_then q (λ x. and_then z (λ y. choose_row γ.names I w J x K y))))
    choose_right (Err f) q z g h k = λ bound o. three_first (expr_child Γ c) (expr_child Γ a) (expr_child Γ b) (wants Γ I (exactly (scalar is.Bool))) (wants Γ J a_scalar) (like_the_first Γ K) bound (s bound o) ones f (g J o.1)
    choose_right (Ok w) (Err f) z g h k = λ bound o. three_second (expr_child Γ c) (expr_child Γ a) (expr_child Γ b) (wants Γ I (exactly (scalar is.Bool))) (wants Γ J a_scalar) (like_the_first Γ K) bound (s bound o) ones w.ty f (w.tree, g) (h K o.2)
    choose_right (Ok w) (Ok x) (Err f) g h k = λ bound o. three_third (expr_child Γ c) (expr_child Γ a) (expr_child Γ b) (wants Γ I (exactly (scalar is.Bool))) (wants Γ J a_scalar) (like_the_first Γ K) bound (s bound o) ones w.ty x.ty f (w.tree, g) (x.tree, h) (k bound o.3)
    choose_right (Ok w) (Ok x) (Ok y) g h k = choose_tests w x y g h k (misfit γ.names I (exactly (scalar is.Bool)) w.ty) (misfit γ.names J a_scalar x.ty) (misfit γ.names K (exactly x.ty) y.ty) refl refl refl

  module _ (p : RawPlace Link) (at : ℕ) (name : Id) (ones : Ones (get_children Γ p name)) (s : (end : ℕ) → AscendsPlace (get at p name) end → Spans (get_children Γ p name) end) where
    abbrev G : ℕ
    G = place_offset link_offset p

    get_found : (r : ℕ) (q : Path) → BecomesPlace Γ p (record_type r) q → (o : Option (ℕ × Ty)) → field_of γ.records r name.name ≡ o
        → RightPlace Γ (get at p name) (and_then (field_found name.at o) (λ f. Ok (record { ty = f.1; path = with_step q (tree.field f.0) })))
    get_found r q h None e = λ bound o. one_type (place_child Γ p) (wants_field Γ G name.at name.name) bound (s bound o) ones (record_type r) _ (q, h) (ap (λ o. has_field o name.at) e)
    get_found r q h (Some f) e = (r, f.0, q, h, e, refl)

    get_typed : (t : Ty) (q : Path) → BecomesPlace Γ p t q → RightPlace Γ (get at p name) (get_row γ.names γ.records G (record { ty = t; path = q }) name)
    get_typed (record_type r) q h = get_found r q h (field_of γ.records r name.name) refl
    get_typed (scalar k) q h = λ bound o. one_type (place_child Γ p) (wants_field Γ G name.at name.name) bound (s bound o) ones (scalar k) _ (q, h) refl
    get_typed (array n t) q h = λ bound o. one_type (place_child Γ p) (wants_field Γ G name.at name.name) bound (s bound o) ones (array n t) _ (q, h) refl

    get_right : (r : Result TypedPlace TypeFault) → RightPlace Γ p r → RightPlace Γ (get at p name) (and_then r (λ x. get_row γ.names γ.records G x name))
    get_right (Err f) h = λ bound o. one_child (place_child Γ p) (wants_field Γ G name.at name.name) bound (s bound o) ones f (h name.at o.1)
    get_right (Ok x) h = get_typed x.ty x.path h

  module _ (p : RawPlace Link) (at : ℕ) (e : RawExpr Link) (ones : Ones (index_children Γ p e)) (s : (end : ℕ) → AscendsPlace (index at p e) end → Spans (index_children Γ p e) end) where
    abbrev L : ℕ
    L = place_offset link_offset p

    abbrev M : ℕ
    M = expr_offset link_offset e

    index_tests : (n : ℕ) (t : Ty) (q : Path) → BecomesPlace Γ p (array n t) q → (i : TypedExpr) → Becomes Γ e i.ty i.tree → (m : Option TypeFault) → misfit γ.names M (exactly (scalar (is.Ix n))) i.ty ≡ m
        → RightPlace Γ (index at p e) (tested m (Ok (record { ty = t; path = with_step q (tree.at i.tree) })))
    index_tests n t q h i k (Some f) j = λ bound o. two_fourth (place_child Γ p) (expr_child Γ e) (wants Γ L an_array) (wants_index Γ M) bound (s bound o) ones (array n t) i.ty f (q, h) (i.tree, k) refl j
    index_tests n t q h i k None j = let w = same_true (scalar (is.Ix n)) i.ty (unless_none (same (scalar (is.Ix n)) i.ty) _ j) in
        (n, q, i.tree, h, subst (λ v. Becomes Γ e v i.tree) (sym w) k, refl)

    index_typed : (t : Ty) (q : Path) → BecomesPlace Γ p t q → (i : TypedExpr) → Becomes Γ e i.ty i.tree → RightPlace Γ (index at p e) (index_row γ.names L (record { ty = t; path = q }) M i)
    index_typed (array n t) q h i k = index_tests n t q h i k (misfit γ.names M (exactly (scalar (is.Ix n))) i.ty) refl
    index_typed (scalar v) q h i k = λ bound o. two_third (place_child Γ p) (expr_child Γ e) (wants Γ L an_array) (wants_index Γ M) bound (s bound o) ones (scalar v) i.ty _ (q, h) (i.tree, k) refl
    index_typed (record_type r) q h i k = λ bound o. two_third (place_child Γ p) (expr_child Γ e) (wants Γ L an_array) (wants_index Γ M) bound (s bound o) ones (record_type r) i.ty _ (q, h) (i.tree, k) refl

    index_right : (r : Result TypedPlace TypeFault) (z : Result TypedExpr TypeFault) → RightPlace Γ p r → Right Γ e z → RightPlace Γ (index at p e) (and_then r (λ x. and_then z (λ i. index_row γ.names L x M i)))
    index_right (Err f) z h k = λ bound o. two_first (place_child Γ p) (expr_child Γ e) (wants Γ L an_array) (wants_index Γ M) bound (s bound o) ones f (h M o.1)
    index_right (Ok x) (Err f) h k = λ bound o. two_second (place_child Γ p) (expr_child Γ e) (wants Γ L an_array) (wants_index Γ M) bound (s bound o) ones x.ty f (x.path, h) (k bound o.2)
    index_right (Ok x) (Ok i) h k = index_typed x.ty x.path h i k

  read_right : (p : RawPlace Link) (r : Result TypedPlace TypeFault) → RightPlace Γ p r → Right Γ (read p) (and_then r (λ x. Ok (Rattle.arch_types.specs.Walk.read_row x)))
  read_right p (Err f) h = h
  read_right p (Ok x) h = (x.path, h, refl)

  lit_right : (at : ℕ) (k : Scalar) (n : _) (b : Bool) → fits_scalar k n ≡ b → Right Γ (lit at k n) (tested (unless b (fault.Range at)) (Ok (record { ty = scalar k; tree = tree.lit k n })))
  lit_right at k n true e = (e, refl, refl)
  lit_right at k n false e = λ bound o. record { is_one = (e, refl); least = λ g h. inl h.1 }

  module _ (one : (x : Target) (t u : Ty) → has x t → has x u → t ≡ u) where
    mutual
      pub right_place : (p : RawPlace Link) → UsesPlace (λ x. has x (known_type γ x)) p → RightPlace Γ p (typed_place γ p)
      right_place (root u) h = (h, refl)
      right_place (get at p name) h =
          get_right p at name (one_place Γ one p, tt {0}) (λ bound o. get_spans Γ p name bound (sound_place Γ p name.at o.1) o.2) (typed_place γ p) (right_place p h)
      right_place (index at p e) h =
          index_right p at e (one_place Γ one p, (one_expr Γ one e, tt {0})) (λ bound o. index_spans Γ p e bound (sound_place Γ p (expr_offset link_offset e) o.1) (sound Γ e bound o.2))
          (typed_place γ p) (typed γ e) (right_place p h.0) (right e h.1)

      pub right : (e : RawExpr Link) → Uses (λ x. has x (known_type γ x)) e → Right Γ e (typed γ e)
      right (truth at b) h = (refl, refl)
      right (read p) h = read_right p (typed_place γ p) (right_place p h)
      right (lit at k n) h = lit_right at k n (fits_scalar k n) refl
      right (un at op a) h = un_right op at a (one_expr Γ one a, tt {0}) (λ bound o. un_spans Γ op a bound (sound Γ a bound o.1)) (typed γ a) (right a h)
      right (bin at op a b) h =
          bin_right op at a b (one_expr Γ one a, (one_expr Γ one b, tt {0})) (λ bound o. bin_spans Γ op a b bound (sound Γ a (expr_offset link_offset b) o.1) (sound Γ b bound o.2))
          (typed γ a) (typed γ b) (right a h.0) (right b h.1)
      right (choose at c a b) h =
          choose_right at c a b (one_expr Γ one c, (one_expr Γ one a, (one_expr Γ one b, tt {0})))
          (λ bound o. choose_spans Γ c a b bound (sound Γ c (expr_offset link_offset a) o.1) (sound Γ a (expr_offset link_offset b) o.2) (sound Γ b bound o.3))
          (typed γ c) (typed γ a) (typed γ b) (right c h.0) (right a h.1) (right b h.2)
      right (cast at u a) h =
          cast_right at u a (type_one Γ u, (one_expr Γ one a, tt {0})) (λ bound o. cast_spans Γ u a bound o.1 (sound Γ a bound o.2)) (typed γ a) (right a h)
