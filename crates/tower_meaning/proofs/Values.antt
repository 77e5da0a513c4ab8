-- The values of typed expressions and places fit their types.
use Rattle.std.proofs.Common.{◌≡◌, ℕ, ◌<◌, List, length, ℤ, pos, Bool, true, false, cond, IsTrue, sym, ◌∙◌, subst, arith, slice_index_or, slice_set}
use Rattle.std.proofs.lemmas.List.{length-set}
use Rattle.tower_types.specs.declared.scalar.Scalar.{Scalar}
use Rattle.tower_types.specs.declared.scalar.Scalar.TheVariants as scalar
use Rattle.tower_types.specs.declared.scalar.BinOp.{BinOp}
use Rattle.tower_types.specs.declared.scalar.UnOp.{UnOp}
use Rattle.tower_types.specs.Ty.{Shape, one, many, all, shapes_of}
use Rattle.tower_types.specs.Value.{Value, word, fits_scalar, fits, part, num}
use Rattle.tower_types.specs.Arithmetic.{wrap_to, binary_of, unary_of, binary_scalar, applies, applies_one, is_number, is_true}
use Rattle.tower_syntax.specs.declared.body.Root.{Root}
use Rattle.tower_syntax.specs.declared.body.Root.TheVariants as root
use Rattle.tower_syntax.specs.Tree.{Expr, lit, read, un, bin, choose, cast, Place, place, Steps, no_steps, field, at}
use Rattle.tower_syntax.specs.Weights.{Scope, root_shape, shape_at, nth_shape}
use Rattle.tower_syntax.specs.Typed.{Names, IsProperScalar, HasRoot, HasScalar, HasShape, Leads, count}
use Rattle.tower_meaning.specs.Body.{Environment, root_value, with_root, expr_value, place_value, path_of, with_place, with_part_at}
use Rattle.tower_meaning.specs.Fitting.{AreFitting, IsFitting}
use Rattle.tower_meaning.proofs.Fitting.{set_keeps, num_fits, index_below, Path, part_fits, with_part_fits, field_fits, with_field_fits, nth_of_list, count_of_list}

-- the operations stay within the ranges of their scalars
pub record Operations : Type 0 where
  pub binaries : (op : BinOp) (t : Scalar) (a b : ℤ) → IsTrue (applies op t) → fits_scalar t a ≡ true → fits_scalar t b ≡ true → fits_scalar (binary_scalar op t) (binary_of op t a b) ≡ true
  pub unaries : (op : UnOp) (t : Scalar) (a : ℤ) → IsTrue (applies_one op t) → fits_scalar t a ≡ true → fits_scalar t (unary_of op t a) ≡ true
  pub casts : (t : Scalar) (a : ℤ) → IsTrue (is_number t) → IsProperScalar t → fits_scalar t (wrap_to t a) ≡ true

-- ---- names

state_shape : (ss : List Shape) (k : ℕ) (v : Value) → fits (nth_shape (shapes_of ss) k) v ≡ true → fits (shape_at ss k) v ≡ true
state_shape ss k v h = subst (λ s. fits s v ≡ true) (nth_of_list ss k) h

state_below : (ss : List Shape) (k : ℕ) → k < length ss → k < count (shapes_of ss)
state_below ss k lt = omega (arith, count_of_list ss)

pub root_fits : (scope : Scope) (names : Names) (env : Environment) (r : Root) → IsFitting scope env → HasRoot scope names r → fits (root_shape scope r) (root_value env r) ≡ true
root_fits scope names env root.Param f h = f.message
root_fits scope names env (root.Binder b) f h = f.binders.each b h.0
root_fits scope names env (root.State k) f h = state_shape scope.states k (part k env.states) (field_fits (shapes_of scope.states) env.states k f.states (state_below scope.states k h))

pub with_binder_fits : (shapes : List Shape) (values : List Value) (b : ℕ) (v : Value) → AreFitting shapes values → fits (shape_at shapes b) v ≡ true → AreFitting shapes (slice_set values b v)
with_binder_fits shapes values b v f h = record {
  count = length-set values b v ∙ f.count;
  each = λ c lt. set_keeps (λ k w. fits (shape_at shapes k) w ≡ true) values (length shapes) b c v (word (pos 0)) f.count f.each h lt;
}

pub with_root_fits : (scope : Scope) (env : Environment) (r : Root) (v : Value) → IsFitting scope env → fits (root_shape scope r) v ≡ true → IsFitting scope (with_root r v env)
with_root_fits scope env root.Param v f h = record { message = h; binders = f.binders; states = f.states }
with_root_fits scope env (root.Binder b) v f h = record { message = f.message; binders = with_binder_fits scope.binders env.binders b v f.binders h; states = f.states }
with_root_fits scope env (root.State k) v f h = record {
  message = f.message;
  binders = f.binders;
  states = with_field_fits (shapes_of scope.states) env.states k (λ old. v) f.states (subst (λ s. fits s v ≡ true) (sym (nth_of_list scope.states k)) h);
}

-- ---- expressions and places

either_fits : (t : Scalar) (b : Bool) (x y : Value) → fits (one t) x ≡ true → fits (one t) y ≡ true → fits (one t) (cond b x y) ≡ true
either_fits t true x y h g = h
either_fits t false x y h g = g

module _ (ops : Operations) (scope : Scope) (names : Names) (env : Environment) (f : IsFitting scope env) where
  mutual
    pub expr_fits : (e : Expr) (t : Scalar) → HasScalar scope names e t → fits (one t) (expr_value env e) ≡ true
    expr_fits (lit s n) t h = subst (λ u. fits_scalar u n ≡ true) h.0 h.1
    expr_fits (read p) t h = place_fits p (one t) h
    expr_fits (un op s a) t h =
        let n = num (expr_value env a) in
        subst (λ u. fits_scalar u (unary_of op s n) ≡ true) h.1 (ops.unaries op s n h.0 (num_fits s (expr_value env a) (expr_fits a s h.2)))
    expr_fits (bin op s a b) t h =
        let m = num (expr_value env a) in
        let n = num (expr_value env b) in
        subst (λ u. fits_scalar u (binary_of op s m n) ≡ true) h.1 (ops.binaries op s m n h.0 (num_fits s (expr_value env a) (expr_fits a s h.2)) (num_fits s (expr_value env b) (expr_fits b s h.3)))
    expr_fits (choose c a b) t h = either_fits t (is_true (num (expr_value env c))) (expr_value env a) (expr_value env b) (expr_fits a t h.1) (expr_fits b t h.2)
    expr_fits (cast s a) t h =
        let n = num (expr_value env a) in
        subst (λ u. fits_scalar u (wrap_to s n) ≡ true) h.2 (ops.casts s n h.0 h.1)

    pub place_fits : (p : Place) (s : Shape) → HasShape scope names p s → fits s (place_value env p) ≡ true
    place_fits (place r steps) s h = part_fits (path_of env steps) (root_shape scope r) s (root_value env r) (path_leads steps (root_shape scope r) s h.1) (root_fits scope names env r f h.0)

    pub path_leads : (steps : Steps) (s t : Shape) → Leads scope names s steps t → Path s (path_of env steps) t
    path_leads no_steps s t h = h
    path_leads (field k steps) (one x) t h = absurd h
    path_leads (field k steps) (many n s) t h = absurd h
    path_leads (field k steps) (all ss) t h = (h.0, path_leads steps (nth_shape ss k) t h.1)
    path_leads (at e steps) (one x) t h = absurd h
    path_leads (at e steps) (many n s) t h = (index_below n (num (expr_value env e)) (num_fits (scalar.Ix n) (expr_value env e) (expr_fits e (scalar.Ix n) h.0)), path_leads steps s t h.1)
    path_leads (at e steps) (all ss) t h = absurd h

  pub with_place_fits : (p : Place) (s : Shape) (v : Value) → HasShape scope names p s → fits s v ≡ true → IsFitting scope (with_place p v env)
  with_place_fits (place r steps) s v h g =
      with_root_fits scope env r (with_part_at (path_of env steps) v (root_value env r)) f
      (with_part_fits (path_of env steps) (root_shape scope r) s v (root_value env r) (path_leads steps (root_shape scope r) s h.1) g (root_fits scope names env r f h.0))
