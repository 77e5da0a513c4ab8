-- What a place or expression becomes has its type: as a shape, by names in scope.
use Rattle.std.proofs.Common.{◌≡◌, ℕ, zero, suc, ◌<◌, ◌≤◌, List, [], ◌∷◌, ◌++◌, length, map, get_or, slice_index_or, Bool, true, false, IsTrue, bytes_eq, Option, Some, None, refl, ap, sym, subst, ◌∙◌, arith}
use Rattle.std.proofs.lemmas.List.{length-map}
use Rattle.std.proofs.lemmas.List.Elements.{All-head, All-tail}
use Rattle.std.proofs.lemmas.Option.{same_Some, none-some, slice_get-get_or}
use Rattle.tower_types.specs.declared.scalar.Scalar.{Scalar}
use Rattle.tower_types.specs.declared.scalar.Scalar.TheVariants as is
use Rattle.tower_types.specs.declared.scalar.BinOp.{BinOp}
use Rattle.tower_types.specs.declared.scalar.BinOp.TheVariants as op
use Rattle.tower_types.specs.Ty.{Ty, Name, Fields, Records, scalar, array, rec as record_type, Shape, one, many, all, shapes_of, shape_in, table_of, shape_of_fields}
use Rattle.tower_types.specs.Value.{fits_scalar}
use Rattle.tower_types.specs.Arithmetic.{binary_scalar, truth as truth_number}
use Rattle.tower_types.proofs.Shapes.{shape_of-rec}
use Rattle.tower_syntax.specs.declared.named.Target.{Target}
use Rattle.tower_syntax.specs.declared.named.Target.TheVariants as target
use Rattle.tower_syntax.specs.RawTree.{Link, RawType, RawPlace, root, get, index, RawExpr, truth, read, lit, un, bin, choose, cast}
use Rattle.tower_syntax.specs.View.{Step, steps_of}
use Rattle.tower_syntax.specs.Tree.{Expr, Steps}
use Rattle.tower_syntax.specs.Tree as tree
use Rattle.tower_syntax.specs.Weights.{Scope, shape_at, root_shape, nth_shape, field_shapes}
use Rattle.tower_syntax.specs.Typed.{IsProperScalar, count, out_of_scope, writable, Names, IsInScope, HasRoot, HasScalar, HasShape, Leads, Sends}
use Rattle.arch_types.specs.Typing.{Env, Path, with_step, place_from, root_at, type_of, if_found, one_later, field_in, field_of, BecomesPlace, Becomes}
use Rattle.arch_types.specs.Body.{message_of}
use Rattle.arch_types.specs.Scalars.{IsProperExpr, IsProperPlace, AreProperSteps}
use Rattle.arch_types.specs.Walk.{scalar_in}
use Rattle.arch_types.specs.Numbered.{Counts, IsSeen, SeesPlace, Sees}
use Rattle.arch_types.proofs.SoundTypes.{Declared, AreDeclared, AreFormed, range_proper, declared, declared_more, element_declared, ordered, shaped}

-- ---- a callback, and what is known of its names where a statement begins

-- the records of the file, the message, the states of the monitor, what the emitters take, and all names of the callback
pub record Setting : Type 0 where
  pub records : Records
  pub message : Ty
  pub states : Fields
  pub emitters : List Shape
  pub binders : Fields

abbrev pub scope_in : Setting → Scope
scope_in σ = record {
  message = shaped σ.records σ.message;
  binders = field_shapes (table_of σ.records) σ.binders;
  states = field_shapes (table_of σ.records) σ.states;
  emitters = σ.emitters;
}

abbrev no_field : Name × Ty
no_field = ([], scalar is.Bool)

abbrev pub field_type : Fields → ℕ → Ty
field_type fs k = (get_or fs k no_field).1

abbrev pub type_in : Setting → Target → Ty
type_in σ target.Param = σ.message
type_in σ (target.Binder b) = field_type σ.binders b
type_in σ (target.State k) = field_type σ.states k
type_in σ x = scalar is.Bool

pub record Knows (σ : Setting) (Γ : Env) (c : Counts) : Type 0 where
  pub same_records : Γ.records ≡ σ.records
  pub all_records : c.records ≡ length σ.records
  pub all_states : c.states ≡ length σ.states
  pub all_emitters : c.emitters ≡ length σ.emitters
  pub messages : (k : ℕ) → k < c.emitters → shape_at σ.emitters k ≡ shaped σ.records (message_of Γ k)
  pub known : (x : Target) (t : Ty) → IsSeen c x → Γ.has x t → (t ≡ type_in σ x) × Declared (length σ.records) t
  pub inside : (b : ℕ) → IsInScope (c.names b) → b < length σ.binders
  pub writes : (b : ℕ) → IsInScope (c.names b) → Γ.writable (target.Binder b) ≡ true → c.names b ≡ writable
  pub no_message : Γ.writable target.Param ≡ false
  pub fresh : (b : ℕ) → c.bound ≤ b → c.names b ≡ out_of_scope
  pub bound : c.bound ≡ Γ.bound

-- ---- shapes

one_same : (s t : Scalar) → one s ≡ one t → s ≡ t
one_same s t e = ap first e
  where
    first : Shape → Scalar
    first (one u) = u
    first (many n u) = is.Bool
    first (all us) = is.Bool

pub shape_there : (table : List Shape) (fs : Fields) (k : ℕ) → k < length fs → shape_at (field_shapes table fs) k ≡ shape_in table (field_type fs k)
shape_there table [] k lt = absurd (omega arith)
shape_there table (f ∷ fs) zero lt = refl
shape_there table (f ∷ fs) (suc k) lt = shape_there table fs k (omega arith)

-- ---- steps

abbrev pub ending : List Step → Steps → Steps
ending [] rest = rest
ending (s ∷ ss) rest = s (ending ss rest)

pub ending-more : (ss : List Step) (s : Step) (rest : Steps) → ending (ss ++ s ∷ []) rest ≡ ending ss (s rest)
ending-more [] s rest = refl
ending-more (x ∷ ss) s rest = ap x (ending-more ss s rest)

pub ends : (ss : List Step) → steps_of ss ≡ ending ss tree.no_steps
ends [] = refl
ends (s ∷ ss) = ap s (ends ss)

-- ---- fields

pub record HasField (σ : Setting) (n : ℕ) (fs : Fields) (k : ℕ) (t : Ty) : Type 0 where
  pub there : k < count (shapes_of (map (λ f. shaped σ.records f.1) fs))
  pub is : nth_shape (shapes_of (map (λ f. shaped σ.records f.1) fs)) k ≡ shaped σ.records t
  pub declared : Declared n t

module _ (σ : Setting) (n : ℕ) where
  later_field : (f : Name × Ty) (fs : Fields) (found : Option (ℕ × Ty)) (k : ℕ) (t : Ty) → ((j : ℕ) (u : Ty) → found ≡ Some (j, u) → HasField σ n fs j u) → one_later found ≡ Some (k, t) → HasField σ n (f ∷ fs) k t
  later_field f fs None k t h e = absurd (none-some (k, t) e)
  later_field f fs (Some (j, u)) k t h e =
      let g = h j u refl in
      subst (λ p. HasField σ n (f ∷ fs) p.0 p.1) (same_Some (suc j, u) (k, t) e) (record { there = omega (arith, g.there); is = g.is; declared = g.declared })

  first_or_later : (b : Bool) (f : Name × Ty) (fs : Fields) (found : Option (ℕ × Ty)) (k : ℕ) (t : Ty) → Declared n f.1 → ((j : ℕ) (u : Ty) → found ≡ Some (j, u) → HasField σ n fs j u) → if_found b f.1 found ≡ Some (k, t) → HasField σ n (f ∷ fs) k t
  first_or_later true f fs found k t d h e =
      subst (λ p. HasField σ n (f ∷ fs) p.0 p.1) (same_Some (0, f.1) (k, t) e) (record { there = omega arith; is = refl; declared = d })
  first_or_later false f fs found k t d h e = later_field f fs found k t h e

  has_field : (fs : Fields) (name : Name) (k : ℕ) (t : Ty) → AreDeclared n fs → field_in fs name ≡ Some (k, t) → HasField σ n fs k t
  has_field [] name k t d e = absurd (none-some (k, t) e)
  has_field (f ∷ fs) name k t d e =
      first_or_later (bytes_eq f.0 name) f fs (field_in fs name) k t (All-head (λ g. Declared n g.1) f fs d)
      (λ j u at. has_field fs name j u (All-tail (λ g. Declared n g.1) f fs d) at) e

-- ---- scalars

applied_proper : (o : BinOp) (s : Scalar) → IsProperScalar s → IsProperScalar (binary_scalar o s)
applied_proper op.Add s h = h
applied_proper op.Sub s h = h
applied_proper op.Mul s h = h
applied_proper op.Div s h = h
applied_proper op.Rem s h = h
applied_proper op.And s h = h
applied_proper op.Or s h = h
applied_proper op.Xor s h = h
applied_proper op.Eq s h = tt
applied_proper op.Less s h = tt
applied_proper op.LessEq s h = tt
applied_proper op.Both s h = tt
applied_proper op.Either s h = tt

abbrev pub declared_scalar : (n : ℕ) (s : Scalar) → IsProperScalar s → Declared n (scalar s)
declared_scalar n s h = record { written = h; low = omega arith }

truth_fits : (b : Bool) → IsTrue (fits_scalar is.Bool (truth_number b))
truth_fits true = refl
truth_fits false = refl

module _ (scope : Scope) (names : Names) where
  pub sends_scalar : (x : Expr) (s : Scalar) → HasScalar scope names x s → Sends scope names x (one s)
  sends_scalar (tree.lit t n) s h = (s, refl, h)
  sends_scalar (tree.read p) s h = h
  sends_scalar (tree.un o t a) s h = (s, refl, h)
  sends_scalar (tree.bin o t a b) s h = (s, refl, h)
  sends_scalar (tree.choose a b d) s h = (s, refl, h)
  sends_scalar (tree.cast t a) s h = (s, refl, h)

  pub scalar_sent : (x : Expr) (s : Scalar) → Sends scope names x (one s) → HasScalar scope names x s
  scalar_sent (tree.lit t n) s h = subst (HasScalar scope names (tree.lit t n)) (sym (one_same s h.0 h.1)) h.2
  scalar_sent (tree.read p) s h = h
  scalar_sent (tree.un o t a) s h = subst (HasScalar scope names (tree.un o t a)) (sym (one_same s h.0 h.1)) h.2
  scalar_sent (tree.bin o t a b) s h = subst (HasScalar scope names (tree.bin o t a b)) (sym (one_same s h.0 h.1)) h.2
  scalar_sent (tree.choose a b d) s h = subst (HasScalar scope names (tree.choose a b d)) (sym (one_same s h.0 h.1)) h.2
  scalar_sent (tree.cast t a) s h = subst (HasScalar scope names (tree.cast t a)) (sym (one_same s h.0 h.1)) h.2

-- ---- places and expressions

module _ (σ : Setting) (formed : AreFormed σ.records) (Γ : Env) (c : Counts) (K : Knows σ Γ c) where
  abbrev all_records : ℕ
  all_records = length σ.records

  pub record IsTypedPlace (t : Ty) (q : Path) : Type 0 where
    pub rooted : HasRoot (scope_in σ) c.names q.root
    pub leads : (rest : Steps) (s : Shape) → Leads (scope_in σ) c.names (shaped σ.records t) rest s → Leads (scope_in σ) c.names (root_shape (scope_in σ) q.root) (ending q.steps rest) s
    pub declared : Declared (length σ.records) t
    pub proper : (rest : Steps) → AreProperSteps rest → AreProperSteps (ending q.steps rest)

  pub record IsTypedExpr (t : Ty) (x : Expr) : Type 0 where
    pub sends : Sends (scope_in σ) c.names x (shaped σ.records t)
    pub declared : Declared (length σ.records) t
    pub proper : IsProperExpr x

  abbrev Scalars : Expr → Scalar → Type 0
  Scalars x s = HasScalar (scope_in σ) c.names x s

  is_scalar : (s : Scalar) (x : Expr) → IsTypedExpr (scalar s) x → Scalars x s
  is_scalar s x h = scalar_sent (scope_in σ) c.names x s h.sends

  -- an expression of a scalar type, where its type and tree are known by equations
  by_scalar : (t : Ty) (x : Expr) (s : Scalar) (y : Expr) → t ≡ scalar s → x ≡ y → IsProperScalar s → IsProperExpr y → Scalars y s → IsTypedExpr t x
  by_scalar t x s y et ex p made h =
      subst (λ u. IsTypedExpr u x) (sym et) (subst (IsTypedExpr (scalar s)) (sym ex)
      (record { sends = sends_scalar (scope_in σ) c.names y s h; declared = declared_scalar all_records s p; proper = made }))

  -- a name
  named : (x : Target) → IsSeen c x → HasRoot (scope_in σ) c.names (root_at x) × (root_shape (scope_in σ) (root_at x) ≡ shaped σ.records (type_in σ x))
  named target.Param h = (tt, refl)
  named (target.Binder b) h =
      let lt = K.inside b h in
      ((omega (arith, lt, length-map σ.binders (λ f. shape_in (table_of σ.records) f.1)), h), shape_there (table_of σ.records) σ.binders b lt)
  named (target.State k) h =
      let lt : k < length σ.states = omega (arith, K.all_states, h) in
      (omega (arith, lt, length-map σ.states (λ f. shape_in (table_of σ.records) f.1)), shape_there (table_of σ.records) σ.states k lt)
  named (target.Record r) h = absurd h
  named (target.Source s) h = absurd h
  named (target.Channel k) h = absurd h
  named (target.Emitter k) h = absurd h

  at_root : (x : Target) (t : Ty) (q : Path) → IsSeen c x → Γ.has x t → q ≡ record { root = root_at x; steps = [] } → IsTypedPlace t q
  at_root x t q seen has e =
      let n = named x seen in
      let k = K.known x t seen has in
      let same = n.1 ∙ ap (shaped σ.records) (sym k.0) in
      subst (IsTypedPlace t) (sym e) (record {
        rooted = n.0;
        leads = λ rest s h. subst (λ u. Leads (scope_in σ) c.names u rest s) (sym same) h;
        declared = k.1;
        proper = λ rest p. p;
      })

  abbrev fields_at : ℕ → Fields
  fields_at r = slice_index_or σ.records r []

  record_shape : (r : ℕ) → r < length σ.records → shaped σ.records (record_type r) ≡ shape_of_fields (table_of σ.records) (fields_at r)
  record_shape r lt = shape_of-rec σ.records r (fields_at r) (ordered σ.records formed) (slice_get-get_or σ.records r [] lt)

  at_field : (r k : ℕ) (t : Ty) (name : Name) (q p : Path) → IsTypedPlace (record_type r) q → field_of Γ.records r name ≡ Some (k, t) → p ≡ with_step q (tree.field k) → IsTypedPlace t p
  at_field r k t name q p h found e =
      let lt : r < length σ.records = h.declared.written in
      let declared_fields = formed.declared r (fields_at r) (slice_get-get_or σ.records r [] lt) in
      let f = has_field σ r (fields_at r) name k t declared_fields (subst (λ rs. field_of rs r name ≡ Some (k, t)) K.same_records found) in
      let step : (rest : Steps) (s : Shape) → Leads (scope_in σ) c.names (shaped σ.records t) rest s → Leads (scope_in σ) c.names (shaped σ.records (record_type r)) (tree.field k rest) s =
      λ rest s l. subst (λ u. Leads (scope_in σ) c.names u (tree.field k rest) s) (sym (record_shape r lt))
      (f.there, subst (λ u. Leads (scope_in σ) c.names u rest s) (sym f.is) l) in
      subst (IsTypedPlace t) (sym e) (record {
        rooted = h.rooted;
        leads = λ rest s l. subst (λ st. Leads (scope_in σ) c.names (root_shape (scope_in σ) q.root) st s) (sym (ending-more q.steps (tree.field k) rest)) (h.leads (tree.field k rest) s (step rest s l));
        declared = declared_more r all_records t (omega arith) f.declared;
        proper = λ rest p. subst AreProperSteps (sym (ending-more q.steps (tree.field k) rest)) (h.proper (tree.field k rest) p);
      })

  at_element : (n : ℕ) (t : Ty) (i : Expr) (q p : Path) → IsTypedPlace (array n t) q → IsTypedExpr (scalar (is.Ix n)) i → p ≡ with_step q (tree.at i) → IsTypedPlace t p
  at_element n t i q p h j e =
      subst (IsTypedPlace t) (sym e) (record {
        rooted = h.rooted;
        leads = λ rest s l. subst (λ st. Leads (scope_in σ) c.names (root_shape (scope_in σ) q.root) st s) (sym (ending-more q.steps (tree.at i) rest)) (h.leads (tree.at i rest) s (is_scalar (is.Ix n) i j, l));
        declared = element_declared all_records n t h.declared;
        proper = λ rest p. subst AreProperSteps (sym (ending-more q.steps (tree.at i) rest)) (h.proper (tree.at i rest) (j.proper, p));
      })

  pub whole : (t : Ty) (q : Path) → IsTypedPlace t q → HasShape (scope_in σ) c.names (place_from q) (shaped σ.records t)
  whole t q h =
      (h.rooted, subst (λ st. Leads (scope_in σ) c.names (root_shape (scope_in σ) q.root) st (shaped σ.records t)) (sym (ends q.steps)) (h.leads tree.no_steps (shaped σ.records t) refl))

  pub whole_proper : (t : Ty) (q : Path) → IsTypedPlace t q → IsProperPlace (place_from q)
  whole_proper t q h = subst AreProperSteps (sym (ends q.steps)) (h.proper tree.no_steps tt)

  by_place : (t : Ty) (x : Expr) (q : Path) → x ≡ tree.read (place_from q) → IsTypedPlace t q → IsTypedExpr t x
  by_place t x q e h = subst (IsTypedExpr t) (sym e) (record { sends = whole t q h; declared = h.declared; proper = whole_proper t q h })

  cast_proper : (u : RawType Link) (s : Scalar) → Declared all_records (type_of u) → type_of u ≡ scalar s → IsProperScalar s
  cast_proper u s d e = (subst (Declared all_records) e d).written

  mutual
    pub place_typed : (p : RawPlace Link) (t : Ty) (q : Path) → SeesPlace c p → BecomesPlace Γ p t q → IsTypedPlace t q
    place_typed (root u) t q s h = at_root u.target t q s h.0 h.1
    place_typed (get at p name) t q s (r, k, b, hb, found, e) = at_field r k t name.name b q (place_typed p (record_type r) b s hb) found e
    place_typed (index at p e) t q s (n, b, i, hb, hi, eq) = at_element n t i b q (place_typed p (array n t) b s.0 hb) (expr_typed e (scalar (is.Ix n)) i s.1 hi) eq

    pub expr_typed : (e : RawExpr Link) (t : Ty) (x : Expr) → Sees c e → Becomes Γ e t x → IsTypedExpr t x
    expr_typed (truth at b) t x s (et, ex) = by_scalar t x is.Bool (tree.lit is.Bool (truth_number b)) et ex tt tt (refl, truth_fits b)
    expr_typed (read p) t x s (q, h, ex) = by_place t x q ex (place_typed p t q s h)
    expr_typed (lit at k n) t x s (fits, et, ex) = by_scalar t x k (tree.lit k n) et ex (range_proper k s) (range_proper k s) (refl, fits)
    expr_typed (un at o a) t x s (k, y, ha, app, et, ex) =
        let ta = expr_typed a (scalar k) y s ha in
        by_scalar t x k (tree.un o k y) et ex ta.declared.written (ta.declared.written, ta.proper) (app, refl, is_scalar k y ta)
    expr_typed (bin at o a b) t x s (k, y, z, ha, hb, app, et, ex) =
        let ta = expr_typed a (scalar k) y s.0 ha in
        let tb = expr_typed b (scalar k) z s.1 hb in
        by_scalar t x (binary_scalar o k) (tree.bin o k y z) et ex (applied_proper o k ta.declared.written) (ta.declared.written, ta.proper, tb.proper) (app, refl, is_scalar k y ta, is_scalar k z tb)
    expr_typed (choose at d a b) t x s (k, w, y, z, hd, ha, hb, et, ex) =
        let td = expr_typed d (scalar is.Bool) w s.0 hd in
        let ta = expr_typed a (scalar k) y s.1 ha in
        let tb = expr_typed b (scalar k) z s.2 hb in
        by_scalar t x k (tree.choose w y z) et ex ta.declared.written (td.proper, ta.proper, tb.proper) (is_scalar is.Bool w td, is_scalar k y ta, is_scalar k z tb)
    expr_typed (cast at u a) t x s (k, r, y, eu, number, ha, was, et, ex) =
        let d = subst (λ n. Declared n (type_of u)) K.all_records (declared c.records u s.0) in
        let p = cast_proper u k d eu in
        let ta = expr_typed a (scalar r) y s.1 ha in
        by_scalar t x k (tree.cast k y) et ex p (p, ta.proper) (number, p, refl, (r, was, is_scalar r y ta))

  -- ---- one type at most

  pub scalar_same : (s k : Scalar) → scalar s ≡ scalar k → s ≡ k
  scalar_same s k e = ap scalar_in e

  abbrev number_of : Ty → ℕ
  number_of (record_type r) = r
  number_of t = 0

  abbrev element_of : Ty → Ty
  element_of (array n t) = t
  element_of t = t

  pub same_field : (r q k j : ℕ) (t u : Ty) (name : Name) → record_type r ≡ record_type q → field_of Γ.records r name ≡ Some (k, t) → field_of Γ.records q name ≡ Some (j, u) → (k ≡ j) × (t ≡ u)
  same_field r q k j t u name e f g =
      let same : r ≡ q = ap number_of e in
      let pair = same_Some (k, t) (j, u) (sym f ∙ ap (λ n. field_of Γ.records n name) same ∙ g) in
      (ap (λ p. p.0) pair, ap (λ p. p.1) pair)

  mutual
    pub place_once : (p : RawPlace Link) (t u : Ty) (x y : Path) → SeesPlace c p → BecomesPlace Γ p t x → BecomesPlace Γ p u y → t ≡ u
    place_once (root l) t u x y s h k = (K.known l.target t s h.0).0 ∙ sym (K.known l.target u s k.0).0
    place_once (get at p name) t u x y s (r, k, b, hb, found, e) (q, j, d, hd, found_too, f) =
        (same_field r q k j t u name.name (place_once p (record_type r) (record_type q) b d s hb hd) found found_too).1
    place_once (index at p e) t u x y s (n, b, i, hb, hi, eq) (m, d, j, hd, hj, f) = ap element_of (place_once p (array n t) (array m u) b d s.0 hb hd)

    pub expr_once : (e : RawExpr Link) (t u : Ty) (x y : Expr) → Sees c e → Becomes Γ e t x → Becomes Γ e u y → t ≡ u
    expr_once (truth at b) t u x y s h k = h.0 ∙ sym k.0
    expr_once (read p) t u x y s (q, h, ex) (r, k, ey) = place_once p t u q r s h k
    expr_once (lit at k n) t u x y s h j = h.1 ∙ sym j.1
    expr_once (un at o a) t u x y s (k, v, ha, app, et, ex) (j, w, hb, app_too, eu, ey) = et ∙ expr_once a (scalar k) (scalar j) v w s ha hb ∙ sym eu
    expr_once (bin at o a b) t u x y s (k, v, z, ha, hb, app, et, ex) (j, w, z_too, ka, kb, app_too, eu, ey) =
        et ∙ ap (λ i. scalar (binary_scalar o i)) (scalar_same k j (expr_once a (scalar k) (scalar j) v w s.0 ha ka)) ∙ sym eu
    expr_once (choose at d a b) t u x y s (k, w, v, z, hd, ha, hb, et, ex) (j, w_too, v_too, z_too, kd, ka, kb, eu, ey) =
        et ∙ expr_once a (scalar k) (scalar j) v v_too s.1 ha ka ∙ sym eu
    expr_once (cast at l a) t u x y s (k, r, v, el, number, ha, was, et, ex) (j, q, w, el_too, number_too, ka, was_too, eu, ey) = et ∙ sym el ∙ el_too ∙ sym eu
