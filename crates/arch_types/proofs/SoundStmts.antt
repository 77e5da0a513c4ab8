-- What statements become is typed, over the list of all names of their callback.
use Rattle.std.proofs.Common.{◌≡◌, ◌⊎◌, ℕ, suc, ◌+◌, ◌<◌, ◌≤◌, [], ◌∷◌, ◌++◌, length, slice_index_or, Bool, true, false, cond, ◌==◌, inl, inr, refl, ap, sym, subst, ◌∙◌, arith, append_assoc, lt_of_not-le}
use Rattle.std.proofs.lemmas.Bool.{false≢true}
use Rattle.std.proofs.lemmas.Bool.Decides.{eqb_tells}
use Rattle.std.proofs.lemmas.List.{length-map, length-append}
use Rattle.std.proofs.lemmas.List.Elements.{All-nil, All-cons, All-append}
use Rattle.std.proofs.Math.Seq.{get_or-append_seam}
use Rattle.tower_types.specs.declared.scalar.Scalar.{Scalar}
use Rattle.tower_types.specs.declared.scalar.Scalar.TheVariants as is
use Rattle.tower_types.specs.Ty.{Ty, Name, Fields, scalar, one, shape_in, table_of}
use Rattle.tower_syntax.specs.declared.named.Target.{Target}
use Rattle.tower_syntax.specs.declared.named.Target.TheVariants as target
use Rattle.tower_syntax.specs.RawTree.{Link, RawPlace, root, get, index, RawStmt, bind, local, set, copy, branch, loop, emit, RawStmts, no_stmts, stmt}
use Rattle.tower_syntax.specs.Tree.{Expr, Steps, Stmt, Stmts}
use Rattle.tower_syntax.specs.Tree as tree
use Rattle.tower_syntax.specs.View.{steps_of}
use Rattle.tower_syntax.specs.Weights.{shape_at}
use Rattle.tower_syntax.specs.Typed.{Use, out_of_scope, read_only, writable, with_name, IsInScope, IsWritable, IsFresh, HasScalar, Sends, names_after, IsTypedStmt, AreTypedStmts}
use Rattle.arch_types.specs.Wanted.{a_scalar, fulfils}
use Rattle.arch_types.specs.Typing.{Env, Path, place_from, root_at, type_of, BecomesPlace, Has}
use Rattle.arch_types.specs.Body.{base, emitter_number, message_of, BecomesStmt, BecomesAll}
use Rattle.arch_types.specs.Body as body
use Rattle.arch_types.specs.Scalars.{IsProperPlace, IsProperStmt, AreProperStmts}
use Rattle.arch_types.specs.Numbered.{Counts, IsSeen, IsEmitter, past, naming, SeesPlace, SeesStmt, SeesAll, bound_by, bound_by_all}
use Rattle.arch_types.specs.Numbered as numbered
use Rattle.arch_types.proofs.SoundTypes.{Declared, declared, AreDeclared, AreFormed, shaped}
use Rattle.arch_types.proofs.SoundExprs.{Setting, scope_in, field_type, type_in, Knows, shape_there, declared_scalar, scalar_sent, whole, whole_proper, place_typed, expr_typed, expr_once}

-- ---- the names that there were before keep their types

-- a name that was bound before, or is no bound name
abbrev IsOld : ℕ → Target → Type 0
IsOld n (target.Binder b) = b < n
IsOld n x = Unit {0}

pub record Grows (Γ Δ : Env) (n : ℕ) : Type 0 where
  pub same_records : Δ.records ≡ Γ.records
  pub same_emitters : Δ.emitters ≡ Γ.emitters
  pub bound : Δ.bound ≡ Γ.bound + n
  pub older : (x : Target) (t : Ty) → IsOld Γ.bound x → Δ.has x t → Γ.has x t
  pub writes : (x : Target) → IsOld Γ.bound x → Δ.writable x ≡ Γ.writable x

old_more : (n m : ℕ) (x : Target) → n ≤ m → IsOld n x → IsOld m x
old_more n m (target.Binder b) le h = omega arith
old_more n m target.Param le h = tt
old_more n m (target.State k) le h = tt
old_more n m (target.Record r) le h = tt
old_more n m (target.Source s) le h = tt
old_more n m (target.Channel k) le h = tt
old_more n m (target.Emitter k) le h = tt

no_more : (Γ : Env) → Grows Γ Γ 0
no_more Γ = record { same_records = refl; same_emitters = refl; bound = omega arith; older = λ x t o h. h; writes = λ x o. refl }

both_grow : (Γ Δ Θ : Env) (n m k : ℕ) → n + m ≡ k → Grows Γ Δ n → Grows Δ Θ m → Grows Γ Θ k
both_grow Γ Δ Θ n m k e g h =
    let le : Γ.bound ≤ Δ.bound = omega (arith, g.bound) in
    record {
      same_records = h.same_records ∙ g.same_records;
      same_emitters = h.same_emitters ∙ g.same_emitters;
      bound = omega (arith, g.bound, h.bound);
      older = λ x t o has. g.older x t o (h.older x t (old_more Γ.bound Δ.bound x le o) has);
      writes = λ x o. h.writes x (old_more Γ.bound Δ.bound x le o) ∙ g.writes x o;
    }

-- two numbers are the same or not, and so is what a name says
same_or_not : {A : Type 0} (b n : ℕ) (u v : A) → ((b ≡ n) × (cond (b == n) u v ≡ u)) ⊎ ((b ≡ n → ⊥) × (cond (b == n) u v ≡ v))
same_or_not b n u v = elim (eqb_tells b n) [
  | inl h ↦ inl (h.1, ap (λ t. cond t u v) h.0)
  | inr h ↦ inr (h.1, ap (λ t. cond t u v) h.0)
]

module _ (Γ : Env) (new : Ty → Type 0) (w : Bool) where
  abbrev named_env : Env
  named_env = body.with_name Γ new w

  one_older : (x : Target) (t : Ty) → IsOld Γ.bound x → (named_env).has x t → Γ.has x t
  one_older (target.Binder b) t o (inl h) = absurd (let e = h.0 in omega arith)
  one_older (target.Binder b) t o (inr h) = h.1
  one_older target.Param t o h = h
  one_older (target.State k) t o h = h
  one_older (target.Record r) t o h = h
  one_older (target.Source s) t o h = h
  one_older (target.Channel k) t o h = h
  one_older (target.Emitter k) t o h = h

  one_writes : (x : Target) → IsOld Γ.bound x → (named_env).writable x ≡ Γ.writable x
  one_writes (target.Binder b) o = elim (same_or_not b Γ.bound w (Γ.writable (target.Binder b))) [
    | inl h ↦ absurd (let e = h.0 in omega arith)
    | inr h ↦ h.1
  ]
  one_writes target.Param o = refl
  one_writes (target.State k) o = refl
  one_writes (target.Record r) o = refl
  one_writes (target.Source s) o = refl
  one_writes (target.Channel k) o = refl
  one_writes (target.Emitter k) o = refl

  one_more : Grows Γ named_env 1
  one_more = record { same_records = refl; same_emitters = refl; bound = refl; older = one_older; writes = one_writes }

mutual
  pub stmt_grows : (Γ : Env) (s : RawStmt Link) → Grows Γ (body.after Γ s) (bound_by s)
  stmt_grows Γ (bind at i e) = one_more Γ _ false
  stmt_grows Γ (local at i u) = one_more Γ _ true
  stmt_grows Γ (set at p e) = no_more Γ
  stmt_grows Γ (copy at p q) = no_more Γ
  stmt_grows Γ (branch at c then_at a else_at b) =
      both_grow Γ (body.after_all Γ a) (body.after_all (body.after_all Γ a) b) (bound_by_all a) (bound_by_all b) (bound_by_all a + bound_by_all b) refl
      (all_grow Γ a) (all_grow (body.after_all Γ a) b)
  stmt_grows Γ (loop at i n ss) =
      let e : 1 + bound_by_all ss ≡ suc (bound_by_all ss) = omega arith in
      both_grow Γ (body.with_loop Γ n) (body.after_all (body.with_loop Γ n) ss) 1 (bound_by_all ss) (suc (bound_by_all ss)) e
      (one_more Γ _ false) (all_grow (body.with_loop Γ n) ss)
  stmt_grows Γ (emit at u e) = no_more Γ

  pub all_grow : (Γ : Env) (ss : RawStmts Link) → Grows Γ (body.after_all Γ ss) (bound_by_all ss)
  all_grow Γ no_stmts = no_more Γ
  all_grow Γ (stmt s ss) =
      both_grow Γ (body.after Γ s) (body.after_all (body.after Γ s) ss) (bound_by s) (bound_by_all ss) (bound_by s + bound_by_all ss) refl
      (stmt_grows Γ s) (all_grow (body.after Γ s) ss)

-- ---- so many names

mutual
  pub stmt_names : (Γ : Env) (s : RawStmt Link) (xs : Fields) (t : Stmt) → BecomesStmt Γ s xs t → length xs ≡ bound_by s
  stmt_names Γ (bind at i e) xs t (k, x, h, names, made) = ap length names
  stmt_names Γ (local at i u) xs t (names, made) = ap length names
  stmt_names Γ (set at p e) xs t (k, q, x, h, w, g, names, made) = ap length names
  stmt_names Γ (copy at p q) xs t (k, x, y, h, w, g, names, made) = ap length names
  stmt_names Γ (branch at c then_at a else_at b) xs t (x, ys, zs, l, r, hc, ha, hb, names, made) =
      omega (arith, ap length names, length-append ys zs, all_names Γ a ys l ha, all_names (body.after_all Γ a) b zs r hb)
  stmt_names Γ (loop at i n ss) xs t (ys, l, h, names, made) = ap length names ∙ ap suc (all_names (body.with_loop Γ n) ss ys l h)
  stmt_names Γ (emit at u e) xs t (x, h, names, made) = ap length names

  pub all_names : (Γ : Env) (ss : RawStmts Link) (xs : Fields) (ts : Stmts) → BecomesAll Γ ss xs ts → length xs ≡ bound_by_all ss
  all_names Γ no_stmts xs ts (names, made) = ap length names
  all_names Γ (stmt s ss) xs ts (ys, zs, t, rest, h, hs, names, made) =
      omega (arith, ap length names, length-append ys zs, stmt_names Γ s ys t h, all_names (body.after Γ s) ss zs rest hs)

-- ---- where names stand among all of the callback

pub record Sits (σ : Setting) (at : ℕ) (xs : Fields) : Type 0 where
  pub before : Fields
  pub behind : Fields
  pub long : length before ≡ at
  pub is : σ.binders ≡ before ++ (xs ++ behind)

module _ (σ : Setting) where
  pub first_sits : (at : ℕ) (xs ys : Fields) → Sits σ at (xs ++ ys) → Sits σ at xs
  first_sits at xs ys h = record { before = h.before; behind = ys ++ h.behind; long = h.long; is = h.is ∙ ap (λ l. h.before ++ l) (append_assoc xs ys h.behind) }

  pub rest_sits : (at to : ℕ) (xs ys : Fields) → at + length xs ≡ to → Sits σ at (xs ++ ys) → Sits σ to ys
  rest_sits at to xs ys e h = record {
    before = h.before ++ xs;
    behind = h.behind;
    long = omega (arith, length-append h.before xs, h.long);
    is = h.is ∙ ap (λ l. h.before ++ l) (append_assoc xs ys h.behind) ∙ sym (append_assoc h.before xs (ys ++ h.behind));
  }

  sits_here : (at : ℕ) (x : Name × Ty) (xs : Fields) → Sits σ at (x ∷ xs) → field_type σ.binders at ≡ x.1
  sits_here at x xs h =
      ap (λ l. field_type l at) h.is ∙ ap (λ n. field_type (h.before ++ x ∷ (xs ++ h.behind)) n) (sym h.long) ∙ ap (λ f. f.1) (get_or-append_seam h.before x (xs ++ h.behind) _)

  sits_within : (at : ℕ) (x : Name × Ty) (xs : Fields) → Sits σ at (x ∷ xs) → at < length σ.binders
  sits_within at x xs h = omega (arith, ap length h.is, length-append h.before (x ∷ (xs ++ h.behind)), h.long)

-- ---- what is known behind a statement

module _ (σ : Setting) (Γ : Env) (c : Counts) (K : Knows σ Γ c) where
  not_bound : (b : ℕ) → IsInScope (c.names b) → b < Γ.bound
  not_bound b h = lt_of_not-le (λ le. subst IsInScope (K.fresh b (omega (arith, K.bound, le))) h)

  seen_old : (x : Target) → IsSeen c x → IsOld Γ.bound x
  seen_old (target.Binder b) h = not_bound b h
  seen_old target.Param h = tt
  seen_old (target.State k) h = tt
  seen_old (target.Record r) h = absurd h
  seen_old (target.Source s) h = absurd h
  seen_old (target.Channel k) h = absurd h
  seen_old (target.Emitter k) h = absurd h

  seen_past : (n : ℕ) (x : Target) → IsSeen (past c n) x → IsSeen c x
  seen_past n (target.Binder b) h = h
  seen_past n target.Param h = tt
  seen_past n (target.State k) h = h
  seen_past n (target.Record r) h = absurd h
  seen_past n (target.Source s) h = absurd h
  seen_past n (target.Channel k) h = absurd h
  seen_past n (target.Emitter k) h = absurd h

  same_message : (Δ : Env) → Δ.emitters ≡ Γ.emitters → (k : ℕ) → message_of Γ k ≡ message_of Δ k
  same_message Δ e k = ap (λ l. slice_index_or l k (scalar is.Bool)) (sym e)

  -- the same names are in scope
  pub knows_past : (Δ : Env) (n : ℕ) → Grows Γ Δ n → Knows σ Δ (past c n)
  knows_past Δ n g = record {
    same_records = g.same_records ∙ K.same_records;
    all_records = K.all_records;
    all_states = K.all_states;
    all_emitters = K.all_emitters;
    messages = λ k lt. K.messages k lt ∙ ap (shaped σ.records) (same_message Δ g.same_emitters k);
    known = λ x t seen has. let s = seen_past n x seen in K.known x t s (g.older x t (seen_old x s) has);
    inside = K.inside;
    writes = λ b h w. K.writes b h (sym (g.writes (target.Binder b) (not_bound b h)) ∙ w);
    no_message = g.writes target.Param tt ∙ K.no_message;
    fresh = λ b le. K.fresh b (omega arith);
    bound = omega (arith, K.bound, g.bound);
  }

  -- one more name is
  module _ (new : Ty → Type 0) (w : Bool) (u : Use) (t : Ty)
      (once : (v : Ty) → new v → v ≡ t) (may : w ≡ true → u ≡ writable)
      (here : field_type σ.binders Γ.bound ≡ t) (within : Γ.bound < length σ.binders) (formed : Declared (length σ.records) t) where
    abbrev Δ : Env
    Δ = body.with_name Γ new w

    abbrev d : Counts
    d = naming c u

    new_known : (x : Target) (v : Ty) → IsSeen d x → (Δ).has x v → (v ≡ type_in σ x) × Declared (length σ.records) v
    new_known (target.Binder b) v seen (inl h) =
        let same = once v h.1 in
        (same ∙ sym here ∙ ap (field_type σ.binders) (sym h.0), subst (Declared (length σ.records)) (sym same) formed)
    new_known (target.Binder b) v seen (inr h) = elim (same_or_not b c.bound u (c.names b)) [
      | inl e ↦ absurd (h.0 (e.0 ∙ K.bound))
      | inr e ↦ K.known (target.Binder b) v (subst IsInScope e.1 seen) h.1
    ]
    new_known target.Param v seen h = K.known target.Param v seen h
    new_known (target.State k) v seen h = K.known (target.State k) v seen h
    new_known (target.Record r) v seen h = absurd seen
    new_known (target.Source s) v seen h = absurd seen
    new_known (target.Channel k) v seen h = absurd seen
    new_known (target.Emitter k) v seen h = absurd seen

    new_inside : (b : ℕ) → IsInScope ((d).names b) → b < length σ.binders
    new_inside b h = elim (same_or_not b c.bound u (c.names b)) [
      | inl e ↦ let same = e.0 in let at = K.bound in omega arith
      | inr e ↦ K.inside b (subst IsInScope e.1 h)
    ]

    new_writes : (b : ℕ) → IsInScope ((d).names b) → (Δ).writable (target.Binder b) ≡ true → (d).names b ≡ writable
    new_writes b h i = elim (same_or_not b c.bound u (c.names b)) [
      | inl e ↦ elim (same_or_not b Γ.bound w (Γ.writable (target.Binder b))) [
        | inl f ↦ e.1 ∙ may (sym f.1 ∙ i)
        | inr f ↦ absurd (f.0 (e.0 ∙ K.bound))
      ]
      | inr e ↦ elim (same_or_not b Γ.bound w (Γ.writable (target.Binder b))) [
        | inl f ↦ absurd (e.0 (f.0 ∙ sym K.bound))
        | inr f ↦ e.1 ∙ K.writes b (subst IsInScope e.1 h) (sym f.1 ∙ i)
      ]
    ]

    new_fresh : (b : ℕ) → c.bound + 1 ≤ b → (d).names b ≡ out_of_scope
    new_fresh b le = elim (same_or_not b c.bound u (c.names b)) [
      | inl e ↦ absurd (let same = e.0 in omega arith)
      | inr e ↦ e.1 ∙ K.fresh b (omega arith)
    ]

    pub knows_named : Knows σ (body.with_name Γ new w) (naming c u)
    knows_named = record {
      same_records = K.same_records;
      all_records = K.all_records;
      all_states = K.all_states;
      all_emitters = K.all_emitters;
      messages = K.messages;
      known = new_known;
      inside = new_inside;
      writes = new_writes;
      no_message = K.no_message;
      fresh = new_fresh;
      bound = ap (λ n. n + 1) K.bound;
    }

  -- ---- what is written

  may_write : (x : Target) (steps : Steps) → IsSeen c x → Γ.writable x ≡ true → IsWritable c.names (tree.place (root_at x) steps)
  may_write target.Param steps h w = absurd (false≢true (sym K.no_message ∙ w))
  may_write (target.Binder b) steps h w = K.writes b h w
  may_write (target.State k) steps h w = tt
  may_write (target.Record r) steps h w = absurd h
  may_write (target.Source s) steps h w = absurd h
  may_write (target.Channel k) steps h w = absurd h
  may_write (target.Emitter k) steps h w = absurd h

  base_seen : (p : RawPlace Link) → SeesPlace c p → IsSeen c (base p)
  base_seen (root u) h = h
  base_seen (get at p name) h = base_seen p h
  base_seen (index at p e) h = base_seen p h.0

  same_root : (p : RawPlace Link) (t : Ty) (q : Path) → BecomesPlace Γ p t q → q.root ≡ root_at (base p)
  same_root (root u) t q h = ap (λ x. x.root) h.1
  same_root (get at p name) t q (r, k, b, h, found, e) = ap (λ x. x.root) e ∙ same_root p _ b h
  same_root (index at p f) t q (n, b, i, h, hi, e) = ap (λ x. x.root) e ∙ same_root p _ b h

  written : (p : RawPlace Link) (t : Ty) (q : Path) → SeesPlace c p → BecomesPlace Γ p t q → Γ.writable (base p) ≡ true → IsWritable c.names (place_from q)
  written p t q s h w = subst (λ r. IsWritable c.names (tree.place r (steps_of q.steps))) (sym (same_root p t q h)) (may_write (base p) (steps_of q.steps) (base_seen p s) w)

  emitter_there : (x : Target) → IsEmitter c x → emitter_number x < c.emitters
  emitter_there (target.Emitter k) h = h
  emitter_there target.Param h = absurd h
  emitter_there (target.Binder b) h = absurd h
  emitter_there (target.State k) h = absurd h
  emitter_there (target.Record r) h = absurd h
  emitter_there (target.Source s) h = absurd h
  emitter_there (target.Channel k) h = absurd h

-- ---- statements

module _ (σ : Setting) (formed : AreFormed σ.records) where
  pub record BecomesTyped (Γ : Env) (c : Counts) (s : RawStmt Link) (xs : Fields) (t : Stmt) : Type 0 where
    pub typed : IsTypedStmt (scope_in σ) c.names t
    pub declared : AreDeclared (length σ.records) xs
    pub next : names_after t c.names ≡ (numbered.after c s).names
    pub knows : Knows σ (body.after Γ s) (numbered.after c s)
    pub proper : IsProperStmt t

  pub record BecomeTyped (c : Counts) (xs : Fields) (ts : Stmts) : Type 0 where
    pub typed : AreTypedStmts (scope_in σ) c.names ts
    pub declared : AreDeclared (length σ.records) xs
    pub proper : AreProperStmts ts

  abbrev IsOfDeclared : Name × Ty → Type 0
  IsOfDeclared f = Declared (length σ.records) f.1

  none_declared : AreDeclared (length σ.records) []
  none_declared = All-nil IsOfDeclared

  one_declared : (f : Name × Ty) → Declared (length σ.records) f.1 → AreDeclared (length σ.records) (f ∷ [])
  one_declared f h = All-cons IsOfDeclared f [] h none_declared

  module _ (Γ : Env) (c : Counts) (K : Knows σ Γ c) where
    fresh_here : (x : Name × Ty) (xs : Fields) → Sits σ Γ.bound (x ∷ xs) → IsFresh (scope_in σ) c.names Γ.bound
    fresh_here x xs h =
        (omega (arith, sits_within σ Γ.bound x xs h, length-map σ.binders (λ f. shape_in (table_of σ.records) f.1)), K.fresh Γ.bound (omega (arith, K.bound)))

    shape_here : (x : Name × Ty) (xs : Fields) → Sits σ Γ.bound (x ∷ xs) → shape_at (scope_in σ).binders Γ.bound ≡ shaped σ.records x.1
    shape_here x xs h = shape_there (table_of σ.records) σ.binders Γ.bound (sits_within σ Γ.bound x xs h) ∙ ap (shaped σ.records) (sits_here σ Γ.bound x xs h)

    same_bound : (u : Use) → with_name Γ.bound u c.names ≡ with_name c.bound u c.names
    same_bound u = ap (λ n. with_name n u c.names) (sym K.bound)

    bind_typed : (name : Name) (k : Scalar) (x : Expr) (new : Ty → Type 0) → ((v : Ty) → new v → v ≡ scalar k)
        → Declared (length σ.records) (scalar k) → HasScalar (scope_in σ) c.names x k → Sits σ Γ.bound ((name, scalar k) ∷ [])
        → IsTypedStmt (scope_in σ) c.names (tree.bind Γ.bound x) × Knows σ (body.with_name Γ new false) (naming c read_only)
    bind_typed name k x new once d h sits = (
      (fresh_here (name, scalar k) [] sits, (k, shape_here (name, scalar k) [] sits, h)),
      knows_named σ Γ c K new false read_only (scalar k) once (λ e. absurd (false≢true e)) (sits_here σ Γ.bound (name, scalar k) [] sits) (sits_within σ Γ.bound (name, scalar k) [] sits) d,
    )

    set_typed : (p : RawPlace Link) (k : Scalar) (q : Path) (x : Expr) → SeesPlace c p → BecomesPlace Γ p (scalar k) q → Γ.writable (base p) ≡ true → Sends (scope_in σ) c.names x (one k)
        → IsTypedStmt (scope_in σ) c.names (tree.set (place_from q) x)
    set_typed p k q x s h w e =
        (written σ Γ c K p (scalar k) q s h w, (k, whole σ formed Γ c K (scalar k) q (place_typed σ formed Γ c K p (scalar k) q s h), scalar_sent (scope_in σ) c.names x k e))

    pub loop_knows : (name : Name) (n : ℕ) (ys : Fields) → 1 ≤ n → n ≤ 65536 → Sits σ Γ.bound ((name, scalar (is.Ix n)) ∷ ys) → Knows σ (body.with_loop Γ n) (naming c read_only)
    loop_knows name n ys some few sits =
        let one : Name × Ty = (name, scalar (is.Ix n)) in
        knows_named σ Γ c K (λ v. v ≡ scalar (is.Ix n)) false read_only (scalar (is.Ix n)) (λ v m. m) (λ e. absurd (false≢true e)) (sits_here σ Γ.bound one ys sits) (sits_within σ Γ.bound one ys sits)
        (declared_scalar (length σ.records) (is.Ix n) (some, few))

    place_proper : (p : RawPlace Link) (t : Ty) (q : Path) → SeesPlace c p → BecomesPlace Γ p t q → IsProperPlace (place_from q)
    place_proper p t q s h = whole_proper σ formed Γ c K t q (place_typed σ formed Γ c K p t q s h)

  mutual
    pub stmt_typed : (Γ : Env) (c : Counts) (K : Knows σ Γ c) (s : RawStmt Link) (xs : Fields) (t : Stmt) → SeesStmt c s → BecomesStmt Γ s xs t → Sits σ Γ.bound xs → BecomesTyped Γ c s xs t
    stmt_typed Γ c K (bind at i e) xs t s (k, x, h, names, made) sits =
        let te = expr_typed σ formed Γ c K e (scalar k) x s h in
        let b = bind_typed Γ c K i.name k x (λ v. Has Γ e v × (fulfils a_scalar v ≡ true)) (λ v n. expr_once σ formed Γ c K e v (scalar k) n.0.0 x s n.0.1 h)
        te.declared (scalar_sent (scope_in σ) c.names x k te.sends) (subst (Sits σ Γ.bound) names sits) in
        subst (λ y. BecomesTyped Γ c (bind at i e) xs y) (sym made) (record {
          typed = b.0;
          declared = subst (AreDeclared (length σ.records)) (sym names) (one_declared (i.name, scalar k) te.declared);
          next = same_bound Γ c K read_only;
          knows = b.1;
          proper = te.proper;
        })
    stmt_typed Γ c K (local at i u) xs t s (names, made) sits =
        let here = subst (Sits σ Γ.bound) names sits in
        let d = subst (λ n. Declared n (type_of u)) K.all_records (declared c.records u s) in
        subst (λ y. BecomesTyped Γ c (local at i u) xs y) (sym made) (record {
          typed = fresh_here Γ c K (i.name, type_of u) [] here;
          declared = subst (AreDeclared (length σ.records)) (sym names) (one_declared (i.name, type_of u) d);
          next = same_bound Γ c K writable;
          knows = knows_named σ Γ c K (λ v. v ≡ type_of u) true writable (type_of u) (λ v n. n) (λ e. refl) (sits_here σ Γ.bound (i.name, type_of u) [] here) (sits_within σ Γ.bound (i.name, type_of u) [] here) d;
          proper = tt;
        })
    stmt_typed Γ c K (set at p e) xs t s (k, q, x, h, w, g, names, made) sits =
        let te = expr_typed σ formed Γ c K e (scalar k) x s.1 g in
        subst (λ y. BecomesTyped Γ c (set at p e) xs y) (sym made) (record {
          typed = set_typed Γ c K p k q x s.0 h w te.sends;
          proper = (place_proper Γ c K p (scalar k) q s.0 h, te.proper);
          declared = subst (AreDeclared (length σ.records)) (sym names) none_declared;
          next = refl;
          knows = knows_past σ Γ c K Γ 0 (no_more Γ);
        })
    stmt_typed Γ c K (copy at p q) xs t s (v, x, y, h, w, g, names, made) sits =
        subst (λ z. BecomesTyped Γ c (copy at p q) xs z) (sym made) (record {
          typed = (written σ Γ c K p v x s.0 h w, (shaped σ.records v, whole σ formed Γ c K v x (place_typed σ formed Γ c K p v x s.0 h), whole σ formed Γ c K v y (place_typed σ formed Γ c K q v y s.1 g)));
          proper = (place_proper Γ c K p v x s.0 h, place_proper Γ c K q v y s.1 g);
          declared = subst (AreDeclared (length σ.records)) (sym names) none_declared;
          next = refl;
          knows = knows_past σ Γ c K Γ 0 (no_more Γ);
        })
    stmt_typed Γ c K (branch at e then_at a else_at b) xs t s (x, ys, zs, l, r, hc, ha, hb, names, made) sits =
        let te = expr_typed σ formed Γ c K e (scalar is.Bool) x s.0 hc in
        let here = subst (Sits σ Γ.bound) names sits in
        let g = all_grow Γ a in
        let to : Γ.bound + length ys ≡ (body.after_all Γ a).bound = omega (arith, g.bound, all_names Γ a ys l ha) in
        let ta = all_typed Γ c K a ys l s.1 ha (first_sits σ Γ.bound ys zs here) in
        let tb = all_typed (body.after_all Γ a) (past c (bound_by_all a)) (knows_past σ Γ c K (body.after_all Γ a) (bound_by_all a) g) b zs r s.2 hb
        (rest_sits σ Γ.bound (body.after_all Γ a).bound ys zs to here) in
        subst (λ z. BecomesTyped Γ c (branch at e then_at a else_at b) xs z) (sym made) (record {
          typed = (scalar_sent (scope_in σ) c.names x is.Bool te.sends, ta.typed, tb.typed);
          proper = (te.proper, ta.proper, tb.proper);
          declared = subst (AreDeclared (length σ.records)) (sym names) (All-append IsOfDeclared ys zs ta.declared tb.declared);
          next = refl;
          knows = knows_past σ Γ c K (body.after_all (body.after_all Γ a) b) (bound_by_all a + bound_by_all b) (stmt_grows Γ (branch at e then_at a else_at b));
        })
    stmt_typed Γ c K (loop at i n ss) xs t s (ys, l, h, names, made) sits =
        let one : Name × Ty = (i.name, scalar (is.Ix n)) in
        let here = subst (Sits σ Γ.bound) names sits in
        let d = declared_scalar (length σ.records) (is.Ix n) (s.0, s.1) in
        let tb = all_typed (body.with_loop Γ n) (naming c read_only) (loop_knows Γ c K i.name n ys s.0 s.1 here) ss ys l s.2 h (rest_sits σ Γ.bound (Γ.bound + 1) (one ∷ []) ys refl here) in
        subst (λ z. BecomesTyped Γ c (loop at i n ss) xs z) (sym made) (record {
          typed = (fresh_here Γ c K one ys here, shape_here Γ c K one ys here, s.0, s.1, subst (λ m. AreTypedStmts (scope_in σ) m l) (sym (same_bound Γ c K read_only)) tb.typed);
          proper = tb.proper;
          declared = subst (AreDeclared (length σ.records)) (sym names) (All-cons IsOfDeclared one ys d tb.declared);
          next = refl;
          knows = knows_past σ Γ c K (body.after_all (body.with_loop Γ n) ss) (suc (bound_by_all ss)) (stmt_grows Γ (loop at i n ss));
        })
    stmt_typed Γ c K (emit at u e) xs t s (x, h, names, made) sits =
        let k = emitter_number u.target in
        let lt = emitter_there σ Γ c K u.target s.0 in
        let te = expr_typed σ formed Γ c K e (message_of Γ k) x s.1 h in
        subst (λ z. BecomesTyped Γ c (emit at u e) xs z) (sym made) (record {
          typed = (omega (arith, lt, K.all_emitters), subst (Sends (scope_in σ) c.names x) (sym (K.messages k lt)) te.sends);
          proper = te.proper;
          declared = subst (AreDeclared (length σ.records)) (sym names) none_declared;
          next = refl;
          knows = knows_past σ Γ c K Γ 0 (no_more Γ);
        })

    pub all_typed : (Γ : Env) (c : Counts) (K : Knows σ Γ c) (ss : RawStmts Link) (xs : Fields) (ts : Stmts) → SeesAll c ss → BecomesAll Γ ss xs ts → Sits σ Γ.bound xs → BecomeTyped c xs ts
    all_typed Γ c K no_stmts xs ts s (names, made) sits =
        record { typed = subst (AreTypedStmts (scope_in σ) c.names) (sym made) tt; declared = subst (AreDeclared (length σ.records)) (sym names) none_declared; proper = subst AreProperStmts (sym made) tt }
    all_typed Γ c K (stmt s ss) xs ts sees (ys, zs, t, rest, h, hs, names, made) sits =
        let here = subst (Sits σ Γ.bound) names sits in
        let g = stmt_grows Γ s in
        let to : Γ.bound + length ys ≡ (body.after Γ s).bound = omega (arith, g.bound, stmt_names Γ s ys t h) in
        let a = stmt_typed Γ c K s ys t sees.0 h (first_sits σ Γ.bound ys zs here) in
        let b = all_typed (body.after Γ s) (numbered.after c s) a.knows ss zs rest sees.1 hs (rest_sits σ Γ.bound (body.after Γ s).bound ys zs to here) in
        record {
          typed = subst (AreTypedStmts (scope_in σ) c.names) (sym made) (a.typed, subst (λ m. AreTypedStmts (scope_in σ) m rest) (sym a.next) b.typed);
          declared = subst (AreDeclared (length σ.records)) (sym names) (All-append IsOfDeclared ys zs a.declared b.declared);
          proper = subst AreProperStmts (sym made) (a.proper, b.proper);
        }
