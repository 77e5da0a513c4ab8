-- An expression or place has one type at most, and none where a fault is in it; its faults stand within it.
use Rattle.std.proofs.Common.{◌≡◌, ℕ, ◌<◌, ◌≤◌, [], ◌∷◌, Option, Some, None, Bool, true, refl, ap, sym, ◌∙◌, arith, not}
use Rattle.std.proofs.lemmas.Option.{none-some, same_Some}
use Rattle.std.proofs.lemmas.Bool.{false≢true}
use Rattle.tower_types.specs.declared.scalar.Scalar.{Scalar}
use Rattle.tower_types.specs.declared.scalar.Scalar.TheVariants as is
use Rattle.tower_types.specs.declared.scalar.BinOp.{BinOp}
use Rattle.tower_types.specs.declared.scalar.BinOp.TheVariants as op
use Rattle.tower_types.specs.declared.scalar.UnOp.{UnOp}
use Rattle.tower_types.specs.declared.scalar.UnOp.TheVariants as un_op
use Rattle.tower_types.specs.Ty.{Ty, Name, scalar, array, rec as record_type}
use Rattle.tower_types.specs.Arithmetic.{applies, applies_one, binary_scalar, is_number}
use Rattle.tower_syntax.specs.declared.named.Target.{Target}
use Rattle.tower_syntax.specs.RawTree.{Id, Link, RawType, RawPlace, root, get, index, RawExpr, truth, read, lit, un, bin, choose, cast}
use Rattle.tower_syntax.specs.Offset.{link_offset, type_offset, place_offset, expr_offset}
use Rattle.arch_types.specs.declared.fault.TypeFault.{TypeFault}
use Rattle.arch_types.specs.Wanted.{Wanted, a_scalar, a_number, an_array, a_record, exactly, fulfils, same_scalar, wanted, wanted_second, wanted_one}
use Rattle.arch_types.specs.Offence.{Child, Row, end, child, Node, offset}
use Rattle.arch_types.specs.Typing.{Env, Has, HasPlace, PlaceFaults, ExprFaults, field_of, wants, wants_field, wants_index, like_the_first, wants_second, has_field, type_child}
use Rattle.arch_types.specs.Body.{place_child, expr_child}
use Rattle.arch_types.specs.Order.{AscendsPlace, Ascends}
use Rattle.arch_types.specs.Walk.{scalar_in}
use Rattle.arch_types.proofs.Same.{same_refl, same_true}
use Rattle.arch_types.proofs.Nodes.{Within, wider, IsOne, Ones, IsSound, Spans, node_within, node_clean, none_of_one, none_of_two, none_of_three, misfit_within, fits_none}

pub truth_only : (s : Scalar) → same_scalar is.Bool s ≡ not (is_number s)
truth_only is.Bool = refl
truth_only is.U8 = refl
truth_only is.U16 = refl
truth_only is.U32 = refl
truth_only is.U64 = refl
truth_only is.I8 = refl
truth_only is.I16 = refl
truth_only is.I32 = refl
truth_only is.I64 = refl
truth_only (is.Ix n) = refl

-- what an operation wants of its first operand is that it applies
pub applies_wanted : (o : BinOp) (s : Scalar) → fulfils (wanted o) (scalar s) ≡ applies o s
applies_wanted op.Add s = refl
applies_wanted op.Sub s = refl
applies_wanted op.Mul s = refl
applies_wanted op.Div s = refl
applies_wanted op.Rem s = refl
applies_wanted op.And s = refl
applies_wanted op.Or s = refl
applies_wanted op.Xor s = refl
applies_wanted op.Eq s = refl
applies_wanted op.Less s = refl
applies_wanted op.LessEq s = refl
applies_wanted op.Both s = truth_only s
applies_wanted op.Either s = truth_only s

pub applies_wanted_one : (o : UnOp) (s : Scalar) → fulfils (wanted_one o) (scalar s) ≡ applies_one o s
applies_wanted_one un_op.Not s = truth_only s
applies_wanted_one un_op.Neg s = refl

-- where the first operand is as it is wanted, the second is to have its type
pub wanted_same : (o : BinOp) (t : Ty) → fulfils (wanted o) t ≡ true → wanted_second o t ≡ exactly t
wanted_same op.Add t h = refl
wanted_same op.Sub t h = refl
wanted_same op.Mul t h = refl
wanted_same op.Div t h = refl
wanted_same op.Rem t h = refl
wanted_same op.And t h = refl
wanted_same op.Or t h = refl
wanted_same op.Xor t h = refl
wanted_same op.Eq t h = refl
wanted_same op.Less t h = refl
wanted_same op.LessEq t h = refl
wanted_same op.Both t h = ap exactly (same_true (scalar is.Bool) t h)
wanted_same op.Either t h = ap exactly (same_true (scalar is.Bool) t h)

pub sooner : (c : Child) (a b : ℕ) → IsSound c a → a ≤ b → IsSound c b
sooner c a b s l = let x = s.begins in record {
  begins = omega arith;
  within = λ f h. wider c.at a c.at b f (omega arith) l (s.within f h);
}

abbrev number_of : Ty → ℕ
number_of (record_type r) = r
number_of t = 0

abbrev element_in : Ty → Ty
element_in (array n t) = t
element_in t = t

module _ (Γ : Env) where
  pub wants_in : (at bound : ℕ) (w : Wanted) → at < bound → (before t : Ty) (f : TypeFault) → wants Γ at w before t ≡ Some f → Within at bound f
  wants_in at bound w l before t f h = misfit_within Γ.names at bound w t f l h

  pub like_in : (at bound : ℕ) → at < bound → (before t : Ty) (f : TypeFault) → like_the_first Γ at before t ≡ Some f → Within at bound f
  like_in at bound l before t f h = misfit_within Γ.names at bound (exactly before) t f l h

  pub second_in : (at bound : ℕ) (o : BinOp) → at < bound → (before t : Ty) (f : TypeFault) → wants_second Γ at o before t ≡ Some f → Within at bound f
  second_in at bound o l before t f h = misfit_within Γ.names at bound (wanted_second o before) t f l h

  has_field_at : (found : Option (ℕ × Ty)) (at : ℕ) (f : TypeFault) → has_field found at ≡ Some f → offset f ≡ at
  has_field_at None at f h = ap offset (sym (same_Some _ _ h))
  has_field_at (Some k) at f h = absurd (none-some _ h)

  pub field_in : (at field_at bound : ℕ) (name : Name) → at < field_at → field_at < bound → (before t : Ty) (f : TypeFault) → wants_field Γ at field_at name before t ≡ Some f → Within at bound f
  field_in at field_at bound name l m before (record_type r) f h = let e = has_field_at _ field_at f h in record { from = omega arith; below = omega arith }
  field_in at field_at bound name l m before (scalar s) f h = misfit_within Γ.names at bound a_record (scalar s) f (omega arith) h
  field_in at field_at bound name l m before (array n t) f h = misfit_within Γ.names at bound a_record (array n t) f (omega arith) h

  pub index_in : (at bound : ℕ) → at < bound → (before t : Ty) (f : TypeFault) → wants_index Γ at before t ≡ Some f → Within at bound f
  index_in at bound l (array n u) t f h = misfit_within Γ.names at bound (exactly (scalar (is.Ix n))) t f l h
  index_in at bound l (scalar s) t f h = absurd (none-some _ h)
  index_in at bound l (record_type r) t f h = absurd (none-some _ h)

  -- the rows, each over its children
  abbrev pub get_children : RawPlace Link → Id → Row
  get_children p name = child (place_child Γ p) (wants_field Γ (place_offset link_offset p) name.at name.name) end

  abbrev pub index_children : RawPlace Link → RawExpr Link → Row
  index_children p e = child (place_child Γ p) (wants Γ (place_offset link_offset p) an_array) (child (expr_child Γ e) (wants_index Γ (expr_offset link_offset e)) end)

  abbrev pub un_children : UnOp → RawExpr Link → Row
  un_children o a = child (expr_child Γ a) (wants Γ (expr_offset link_offset a) (wanted_one o)) end

  abbrev pub bin_children : BinOp → RawExpr Link → RawExpr Link → Row
  bin_children o a b = child (expr_child Γ a) (wants Γ (expr_offset link_offset a) (wanted o)) (child (expr_child Γ b) (wants_second Γ (expr_offset link_offset b) o) end)

  abbrev pub choose_children : RawExpr Link → RawExpr Link → RawExpr Link → Row
  choose_children c a b = child (expr_child Γ c) (wants Γ (expr_offset link_offset c) (exactly (scalar is.Bool))) (child (expr_child Γ a) (wants Γ (expr_offset link_offset a) a_scalar) (child (expr_child Γ b) (like_the_first Γ (expr_offset link_offset b)) end))

  abbrev pub cast_children : RawType Link → RawExpr Link → Row
  cast_children u a = child (type_child u) (wants Γ (type_offset link_offset u) a_number) (child (expr_child Γ a) (wants Γ (expr_offset link_offset a) a_number) end)

  pub type_sound : (u : RawType Link) (bound : ℕ) → type_offset link_offset u < bound → IsSound (type_child u) bound
  type_sound u bound l = record { begins = l; within = λ f x. absurd x }

  pub type_one : (u : RawType Link) → IsOne (type_child u)
  type_one u = record { one = λ t v h k. h ∙ sym k; clean = λ t f h x. x }

  -- ---- what is known of the children of each row

  pub get_spans : (p : RawPlace Link) (name : Id) (bound : ℕ) → IsSound (place_child Γ p) name.at → name.at < bound → Spans (get_children p name) bound
  get_spans p name bound s l = let x = s.begins in (sooner _ name.at bound s (omega arith), field_in _ name.at bound name.name s.begins l, tt {0})

  pub index_spans : (p : RawPlace Link) (e : RawExpr Link) (bound : ℕ) → IsSound (place_child Γ p) (expr_offset link_offset e) → IsSound (expr_child Γ e) bound → Spans (index_children p e) bound
  index_spans p e bound s r = (s, wants_in _ _ an_array s.begins, (r, index_in _ bound r.begins, tt {0}))

  pub un_spans : (o : UnOp) (a : RawExpr Link) (bound : ℕ) → IsSound (expr_child Γ a) bound → Spans (un_children o a) bound
  un_spans o a bound s = (s, wants_in _ bound (wanted_one o) s.begins, tt {0})

  pub bin_spans : (o : BinOp) (a b : RawExpr Link) (bound : ℕ) → IsSound (expr_child Γ a) (expr_offset link_offset b) → IsSound (expr_child Γ b) bound → Spans (bin_children o a b) bound
  bin_spans o a b bound s r = (s, wants_in _ _ (wanted o) s.begins, (r, second_in _ bound o r.begins, tt {0}))

  pub choose_spans : (c a b : RawExpr Link) (bound : ℕ) → IsSound (expr_child Γ c) (expr_offset link_offset a) → IsSound (expr_child Γ a) (expr_offset link_offset b) → IsSound (expr_child Γ b) bound → Spans (choose_children c a b) bound
  choose_spans c a b bound q s r = (q, wants_in _ _ (exactly (scalar is.Bool)) q.begins, (s, wants_in _ _ a_scalar s.begins, (r, like_in _ bound r.begins, tt {0})))

  pub cast_spans : (u : RawType Link) (a : RawExpr Link) (bound : ℕ) → type_offset link_offset u < expr_offset link_offset a → IsSound (expr_child Γ a) bound → Spans (cast_children u a) bound
  cast_spans u a bound l s = (type_sound u _ l, wants_in _ _ a_number l, (s, wants_in _ bound a_number s.begins, tt {0}))

  -- ---- a node with a type has no fault

  get_clean : (p : RawPlace Link) (at : ℕ) (name : Id) → Ones (get_children p name) → (t : Ty) (f : TypeFault) → HasPlace Γ (get at p name) t → Node (get_children p name) f → ⊥
  get_clean p at name s t f (x, (r, k, q, h, e, d)) n =
      node_clean (get_children p name) (record_type r ∷ []) s ((q, h), tt {0})
      (none_of_one (place_child Γ p) (wants_field Γ (place_offset link_offset p) name.at name.name) (record_type r) (ap (λ o. has_field o name.at) e)) f n

  index_clean : (p : RawPlace Link) (at : ℕ) (e : RawExpr Link) → Ones (index_children p e) → (t : Ty) (f : TypeFault) → HasPlace Γ (index at p e) t → Node (index_children p e) f → ⊥
  index_clean p at e s t f (x, (n, q, i, h, j, d)) k =
      node_clean (index_children p e) (array n t ∷ scalar (is.Ix n) ∷ []) s ((q, h), ((i, j), tt {0}))
      (none_of_two (place_child Γ p) (expr_child Γ e) (wants Γ (place_offset link_offset p) an_array) (wants_index Γ (expr_offset link_offset e)) (array n t) (scalar (is.Ix n)) refl
      (fits_none Γ.names (expr_offset link_offset e) (exactly (scalar (is.Ix n))) (scalar (is.Ix n)) (same_refl (scalar (is.Ix n))))) f k

  un_clean : (at : ℕ) (o : UnOp) (a : RawExpr Link) → Ones (un_children o a) → (t : Ty) (f : TypeFault) → Has Γ (un at o a) t → Node (un_children o a) f → ⊥
  un_clean at o a s t f (x, (r, y, h, i, e, d)) n =
      node_clean (un_children o a) (scalar r ∷ []) s ((y, h), tt {0})
      (none_of_one (expr_child Γ a) (wants Γ (expr_offset link_offset a) (wanted_one o)) (scalar r)
      (fits_none Γ.names (expr_offset link_offset a) (wanted_one o) (scalar r) (applies_wanted_one o r ∙ i))) f n

  bin_clean : (at : ℕ) (o : BinOp) (a b : RawExpr Link) → Ones (bin_children o a b) → (t : Ty) (f : TypeFault) → Has Γ (bin at o a b) t → Node (bin_children o a b) f → ⊥
  bin_clean at o a b s t f (x, (r, y, z, h, k, i, e, d)) n =
      node_clean (bin_children o a b) (scalar r ∷ scalar r ∷ []) s ((y, h), ((z, k), tt {0}))
      (none_of_two (expr_child Γ a) (expr_child Γ b) (wants Γ (expr_offset link_offset a) (wanted o)) (wants_second Γ (expr_offset link_offset b) o) (scalar r) (scalar r)
      (fits_none Γ.names (expr_offset link_offset a) (wanted o) (scalar r) (applies_wanted o r ∙ i))
      (fits_none Γ.names (expr_offset link_offset b) (wanted_second o (scalar r)) (scalar r)
      (ap (λ w. fulfils w (scalar r)) (wanted_same o (scalar r) (applies_wanted o r ∙ i)) ∙ same_refl (scalar r)))) f n

  choose_clean : (at : ℕ) (c a b : RawExpr Link) → Ones (choose_children c a b) → (t : Ty) (f : TypeFault) → Has Γ (choose at c a b) t → Node (choose_children c a b) f → ⊥
  choose_clean at c a b s t f (x, (r, w, y, z, g, h, k, e, d)) n =
      node_clean (choose_children c a b) (scalar is.Bool ∷ scalar r ∷ scalar r ∷ []) s ((w, g), ((y, h), ((z, k), tt {0})))
      (none_of_three (expr_child Γ c) (expr_child Γ a) (expr_child Γ b) (wants Γ (expr_offset link_offset c) (exactly (scalar is.Bool))) (wants Γ (expr_offset link_offset a) a_scalar) (like_the_first Γ (expr_offset link_offset b)) (scalar is.Bool) (scalar r) (scalar r) refl refl
      (fits_none Γ.names (expr_offset link_offset b) (exactly (scalar r)) (scalar r) (same_refl (scalar r)))) f n

  cast_clean : (at : ℕ) (u : RawType Link) (a : RawExpr Link) → Ones (cast_children u a) → (t : Ty) (f : TypeFault) → Has Γ (cast at u a) t → Node (cast_children u a) f → ⊥
  cast_clean at u a s t f (x, (r, v, y, e, i, h, j, d, c)) n =
      node_clean (cast_children u a) (scalar r ∷ scalar v ∷ []) s (sym e, ((y, h), tt {0}))
      (none_of_two (type_child u) (expr_child Γ a) (wants Γ (type_offset link_offset u) a_number) (wants Γ (expr_offset link_offset a) a_number) (scalar r) (scalar v)
      (fits_none Γ.names (type_offset link_offset u) a_number (scalar r) i)
      (fits_none Γ.names (expr_offset link_offset a) a_number (scalar v) j)) f n

  lit_within : (at : ℕ) (s : Scalar) (n : _) (bound : ℕ) (f : TypeFault) → at < bound → ExprFaults Γ (lit at s n) f → Within at bound f
  lit_within at s n bound f l (j, k) = let e : offset f ≡ at = ap offset k in record { from = omega arith; below = omega arith }

  module _ (one : (x : Target) (t u : Ty) → Γ.has x t → Γ.has x u → t ≡ u) where
    root_one : (u : Link) (t v : Ty) → HasPlace Γ (root u) t → HasPlace Γ (root u) v → t ≡ v
    root_one u t v (q, (h, e)) (r, (k, d)) = one u.target t v h k

    get_one : (p : RawPlace Link) (at : ℕ) (name : Id) → IsOne (place_child Γ p) → (t v : Ty) → HasPlace Γ (get at p name) t → HasPlace Γ (get at p name) v → t ≡ v
    get_one p at name s t v (x, (r, k, q, h, e, d)) (x', (r', k', q', h', e', d')) =
        let i : r ≡ r' = ap number_of (s.one (record_type r) (record_type r') (q, h) (q', h')) in
        ap (λ f. f.1) (same_Some (k, t) (k', v) (sym e ∙ ap (λ n. field_of Γ.records n name.name) i ∙ e'))

    index_one : (p : RawPlace Link) (at : ℕ) (e : RawExpr Link) → IsOne (place_child Γ p) → (t v : Ty) → HasPlace Γ (index at p e) t → HasPlace Γ (index at p e) v → t ≡ v
    index_one p at e s t v (x, (n, q, i, h, j, d)) (x', (n', q', i', h', j', d')) = ap element_in (s.one (array n t) (array n' v) (q, h) (q', h'))

    read_one : (p : RawPlace Link) → IsOne (place_child Γ p) → (t v : Ty) → Has Γ (read p) t → Has Γ (read p) v → t ≡ v
    read_one p s t v (x, (q, h, e)) (y, (r, k, d)) = s.one t v (q, h) (r, k)

    read_clean : (p : RawPlace Link) → IsOne (place_child Γ p) → (t : Ty) (f : TypeFault) → Has Γ (read p) t → PlaceFaults Γ p f → ⊥
    read_clean p s t f (x, (q, h, e)) k = s.clean t f (q, h) k

    truth_one : (at : ℕ) (b : Bool) (t v : Ty) → Has Γ (truth at b) t → Has Γ (truth at b) v → t ≡ v
    truth_one at b t v (x, (e, d)) (y, (c, z)) = e ∙ sym c

    lit_one : (at : ℕ) (s : Scalar) (n : _) (t v : Ty) → Has Γ (lit at s n) t → Has Γ (lit at s n) v → t ≡ v
    lit_one at s n t v (x, (i, e, d)) (y, (j, c, z)) = e ∙ sym c

    lit_clean : (at : ℕ) (s : Scalar) (n : _) (t : Ty) (f : TypeFault) → Has Γ (lit at s n) t → ExprFaults Γ (lit at s n) f → ⊥
    lit_clean at s n t f (x, (i, e, d)) (j, k) = false≢true (sym j ∙ i)

    un_one : (at : ℕ) (o : UnOp) (a : RawExpr Link) → IsOne (expr_child Γ a) → (t v : Ty) → Has Γ (un at o a) t → Has Γ (un at o a) v → t ≡ v
    un_one at o a s t v (x, (r, y, h, i, e, d)) (x', (r', y', h', i', e', d')) = e ∙ s.one (scalar r) (scalar r') (y, h) (y', h') ∙ sym e'

    bin_one : (at : ℕ) (o : BinOp) (a b : RawExpr Link) → IsOne (expr_child Γ a) → (t v : Ty) → Has Γ (bin at o a b) t → Has Γ (bin at o a b) v → t ≡ v
    bin_one at o a b s t v (x, (r, y, z, h, k, i, e, d)) (x', (r', y', z', h', k', i', e', d')) =
        e ∙ ap (λ q. scalar (binary_scalar o (scalar_in q))) (s.one (scalar r) (scalar r') (y, h) (y', h')) ∙ sym e'

    choose_one : (at : ℕ) (c a b : RawExpr Link) → IsOne (expr_child Γ a) → (t v : Ty) → Has Γ (choose at c a b) t → Has Γ (choose at c a b) v → t ≡ v
    choose_one at c a b s t v (x, (r, w, y, z, g, h, k, e, d)) (x', (r', w', y', z', g', h', k', e', d')) = e ∙ s.one (scalar r) (scalar r') (y, h) (y', h') ∙ sym e'

    cast_one : (at : ℕ) (u : RawType Link) (a : RawExpr Link) (t v : Ty) → Has Γ (cast at u a) t → Has Γ (cast at u a) v → t ≡ v
    cast_one at u a t v (x, (r, w, y, e, i, h, j, d, c)) (x', (r', w', y', e', i', h', j', d', c')) = d ∙ sym e ∙ e' ∙ sym d'

    mutual
      pub one_place : (p : RawPlace Link) → IsOne (place_child Γ p)
      one_place (root u) = record { one = root_one u; clean = λ t f h x. x }
      one_place (get at p name) = let s = one_place p in record { one = get_one p at name s; clean = get_clean p at name (s, tt {0}) }
      one_place (index at p e) = let s = one_place p in record { one = index_one p at e s; clean = index_clean p at e (s, (one_expr e, tt {0})) }

      pub one_expr : (e : RawExpr Link) → IsOne (expr_child Γ e)
      one_expr (truth at b) = record { one = truth_one at b; clean = λ t f h x. x }
      one_expr (read p) = let s = one_place p in record { one = read_one p s; clean = read_clean p s }
      one_expr (lit at k n) = record { one = lit_one at k n; clean = lit_clean at k n }
      one_expr (un at op a) = let s = one_expr a in record { one = un_one at op a s; clean = un_clean at op a (s, tt {0}) }
      one_expr (bin at op a b) = let s = one_expr a in record { one = bin_one at op a b s; clean = bin_clean at op a b (s, (one_expr b, tt {0})) }
      one_expr (choose at c a b) = let s = one_expr a in record { one = choose_one at c a b s; clean = choose_clean at c a b (one_expr c, (s, (one_expr b, tt {0}))) }
      one_expr (cast at u a) = record { one = cast_one at u a; clean = cast_clean at u a (type_one u, (one_expr a, tt {0})) }

  mutual
    pub sound_place : (p : RawPlace Link) (bound : ℕ) → AscendsPlace p bound → IsSound (place_child Γ p) bound
    sound_place (root u) bound o = record { begins = o; within = λ f x. absurd x }
    sound_place (get at p name) bound o =
        let s = sound_place p name.at o.1 in let l = s.begins in let i = o.0 in let j = o.2 in
        let spans = get_spans p name bound s o.2 in record {
          begins = omega arith;
          within = λ f h. wider (place_offset link_offset p) bound at bound f (omega arith) (omega arith) (node_within (get_children p name) bound f spans h);
        }
    sound_place (index at p e) bound o =
        let s = sound_place p (expr_offset link_offset e) o.1 in let r = sound e bound o.2 in let i = o.0 in let l = s.begins in let m = r.begins in
        let spans = index_spans p e bound s r in record {
          begins = omega arith;
          within = λ f h. wider (place_offset link_offset p) bound at bound f (omega arith) (omega arith) (node_within (index_children p e) bound f spans h);
        }

    pub sound : (e : RawExpr Link) (bound : ℕ) → Ascends e bound → IsSound (expr_child Γ e) bound
    sound (truth at b) bound o = record { begins = o; within = λ f x. absurd x }
    sound (read p) bound o = let s = sound_place p bound o in record { begins = s.begins; within = s.within }
    sound (lit at k n) bound o = record { begins = o; within = λ f h. lit_within at k n bound f o h }
    sound (un at op a) bound o =
        let s = sound a bound o.1 in let i = o.0 in let l = s.begins in let spans = un_spans op a bound s in record {
          begins = omega arith;
          within = λ f h. wider (expr_offset link_offset a) bound at bound f (omega arith) (omega arith) (node_within (un_children op a) bound f spans h);
        }
    sound (bin at op a b) bound o =
        let s = sound a (expr_offset link_offset b) o.1 in let r = sound b bound o.2 in let i = o.0 in let l = s.begins in let m = r.begins in
        let spans = bin_spans op a b bound s r in record {
          begins = omega arith;
          within = λ f h. wider (expr_offset link_offset a) bound at bound f (omega arith) (omega arith) (node_within (bin_children op a b) bound f spans h);
        }
    sound (choose at c a b) bound o =
        let q = sound c (expr_offset link_offset a) o.1 in let s = sound a (expr_offset link_offset b) o.2 in let r = sound b bound o.3 in
        let i = o.0 in let k = q.begins in let l = s.begins in let m = r.begins in let spans = choose_spans c a b bound q s r in record {
          begins = omega arith;
          within = λ f h. wider (expr_offset link_offset c) bound at bound f (omega arith) (omega arith) (node_within (choose_children c a b) bound f spans h);
        }
    sound (cast at u a) bound o =
        let s = sound a bound o.2 in let i = o.0 in let j = o.1 in let l = s.begins in let spans = cast_spans u a bound o.1 s in record {
          begins = omega arith;
          within = λ f h. wider (type_offset link_offset u) bound at bound f (omega arith) (omega arith) (node_within (cast_children u a) bound f spans h);
        }
