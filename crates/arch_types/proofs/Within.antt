-- The faults of a statement stand within it, and a name has one type at most behind it.
use Rattle.std.proofs.Common.{◌≡◌, ◌⊎◌, ℕ, ◌<◌, ◌≤◌, ◌+◌, inl, inr, Option, Some, None, Bool, true, false, ap, sym, ◌∙◌, arith}
use Rattle.std.proofs.lemmas.Option.{none-some, same_Some}
use Rattle.tower_types.specs.declared.scalar.Scalar.TheVariants as is
use Rattle.tower_types.specs.Ty.{Ty, scalar}
use Rattle.tower_syntax.specs.declared.named.Target.{Target}
use Rattle.tower_syntax.specs.declared.named.Target.TheVariants as target
use Rattle.tower_syntax.specs.RawTree.{Link, RawPlace, root, get, index, RawExpr, truth, read, lit, un, bin, choose, cast, RawStmt, bind, local, set, copy, branch, loop, emit, RawStmts, no_stmts, stmt}
use Rattle.tower_syntax.specs.Offset.{link_offset, place_offset, expr_offset, stmt_offset}
use Rattle.arch_types.specs.declared.fault.TypeFault.{TypeFault}
use Rattle.arch_types.specs.Wanted.{a_scalar, exactly}
use Rattle.arch_types.specs.Offence.{Faults, Child, Row, end, child, offset}
use Rattle.arch_types.specs.Typing.{Env, wants, like_the_first}
use Rattle.arch_types.specs.Body.{with_name, with_loop, after, after_all, base, emitter_number, message_of, place_child, expr_child, if_writable, wants_writable, wants_writable_scalar, Breaks, BreaksAll, IsDeep, Deeps, DeepsAll}
use Rattle.arch_types.specs.Order.{AscendsPlace, Ascends, start_in, AscendsStmt, AscendsAll}
use Rattle.arch_types.proofs.Nodes.{Within, wider, Ones, Spans, node_within, misfit_at}
use Rattle.arch_types.proofs.Typing.{one_place, one_expr, sound, sound_place, wants_in, like_in}

-- ---- a name has one type

abbrev pub One : Env → Type 0
One Γ = (x : Target) (t u : Ty) → Γ.has x t → Γ.has x u → t ≡ u

pub one_with : (Γ : Env) (new : Ty → Type 0) (w : Bool) → One Γ → ((t u : Ty) → new t → new u → t ≡ u) → One (with_name Γ new w)
one_with Γ new w one n (target.Binder b) t u h k = elim h [
  | inl x ↦ elim k [ inl y ↦ n t u x.1 y.1 | inr y ↦ absurd (y.0 x.0) ]
  | inr x ↦ elim k [ inl y ↦ absurd (x.0 y.0) | inr y ↦ one (target.Binder b) t u x.1 y.1 ]
]
one_with Γ new w one n target.Param t u h k = one target.Param t u h k
one_with Γ new w one n (target.State b) t u h k = one (target.State b) t u h k
one_with Γ new w one n (target.Record b) t u h k = one (target.Record b) t u h k
one_with Γ new w one n (target.Source b) t u h k = one (target.Source b) t u h k
one_with Γ new w one n (target.Channel b) t u h k = one (target.Channel b) t u h k
one_with Γ new w one n (target.Emitter b) t u h k = one (target.Emitter b) t u h k

mutual
  pub one_after : (s : RawStmt Link) (Γ : Env) → One Γ → One (after Γ s)
  one_after (bind at i e) Γ one = one_with Γ _ false one (λ t u h k. (one_expr Γ one e).one t u h.0 k.0)
  one_after (local at i u) Γ one = one_with Γ _ true one (λ t v h k. h ∙ sym k)
  one_after (set at p e) Γ one = one
  one_after (copy at p q) Γ one = one
  one_after (branch at c then_at a else_at b) Γ one = one_after_all b (after_all Γ a) (one_after_all a Γ one)
  one_after (loop at i n body) Γ one = one_after_all body (with_loop Γ n) (one_with Γ _ false one (λ t v h k. h ∙ sym k))
  one_after (emit at u e) Γ one = one

  pub one_after_all : (ss : RawStmts Link) (Γ : Env) → One Γ → One (after_all Γ ss)
  one_after_all no_stmts Γ one = one
  one_after_all (stmt s ss) Γ one = one_after_all ss (after Γ s) (one_after s Γ one)

-- ---- where parts begin

mutual
  pub place_begins : (p : RawPlace Link) (bound : ℕ) → AscendsPlace p bound → place_offset link_offset p < bound
  place_begins (root u) bound o = o
  place_begins (get at p name) bound o = let i = o.0 in let j = place_begins p name.at o.1 in let k = o.2 in omega arith
  place_begins (index at p e) bound o = let i = o.0 in let j = place_begins p (expr_offset link_offset e) o.1 in let k = expr_begins e bound o.2 in omega arith

  pub expr_begins : (e : RawExpr Link) (bound : ℕ) → Ascends e bound → expr_offset link_offset e < bound
  expr_begins (truth at b) bound o = o
  expr_begins (read p) bound o = place_begins p bound o
  expr_begins (lit at s n) bound o = o
  expr_begins (un at op a) bound o = let i = o.0 in let j = expr_begins a bound o.1 in omega arith
  expr_begins (bin at op a b) bound o = let i = o.0 in let j = expr_begins a (expr_offset link_offset b) o.1 in let k = expr_begins b bound o.2 in omega arith
  expr_begins (choose at c a b) bound o =
      let i = o.0 in let j = expr_begins c (expr_offset link_offset a) o.1 in let k = expr_begins a (expr_offset link_offset b) o.2 in let l = expr_begins b bound o.3 in omega arith
  expr_begins (cast at t a) bound o = let i = o.0 in let j = o.1 in let k = expr_begins a bound o.2 in omega arith

mutual
  pub stmt_begins : (s : RawStmt Link) (bound : ℕ) → AscendsStmt s bound → stmt_offset s < bound
  stmt_begins (bind at i e) bound o = let k = o.0 in let j = expr_begins e bound o.1 in omega arith
  stmt_begins (local at i u) bound o = o
  stmt_begins (set at p e) bound o = let k = o.0 in let j = place_begins p (expr_offset link_offset e) o.1 in let l = expr_begins e bound o.2 in omega arith
  stmt_begins (copy at p q) bound o = let k = o.0 in let j = place_begins p (place_offset link_offset q) o.1 in let l = place_begins q bound o.2 in omega arith
  stmt_begins (branch at c then_at a else_at b) bound o =
      let k = o.0 in let j = expr_begins c then_at o.1 in let l = o.2 in let m = list_begins a else_at o.3 in let n = o.4 in let q = list_begins b bound o.5 in omega arith
  stmt_begins (loop at i n body) bound o = let k = o.0 in let j = list_begins body bound o.1 in omega arith
  stmt_begins (emit at u e) bound o = let k = o.0 in let j = expr_begins e bound o.1 in omega arith

  pub list_begins : (ss : RawStmts Link) (bound : ℕ) → AscendsAll ss bound → start_in ss bound ≤ bound
  list_begins no_stmts bound o = omega arith
  list_begins (stmt s ss) bound o = let j = stmt_begins s (start_in ss bound) o.0 in let k = list_begins ss bound o.1 in omega arith

-- ---- the rows of statements

pub writable_at : (b : Bool) (at : ℕ) (more : Option TypeFault) (f : TypeFault) → ((g : TypeFault) → more ≡ Some g → offset g ≡ at) → if_writable b at more ≡ Some f → offset f ≡ at
writable_at true at more f m h = m f h
writable_at false at more f m h = ap offset (sym (same_Some _ _ h))

pub at_within : (at bound : ℕ) (f : TypeFault) → at < bound → offset f ≡ at → Within at bound f
at_within at bound f l e = record { from = omega arith; below = omega arith }

module _ (Γ : Env) where
  pub wants_at : (at : ℕ) (w : _) (before t : Ty) (f : TypeFault) → wants Γ at w before t ≡ Some f → offset f ≡ at
  wants_at at w before t f h = misfit_at Γ.names at w t f h

  pub like_at : (at : ℕ) (before t : Ty) (f : TypeFault) → like_the_first Γ at before t ≡ Some f → offset f ≡ at
  like_at at before t f h = misfit_at Γ.names at (exactly before) t f h

  pub written_at : (p : RawPlace Link) (before t : Ty) (f : TypeFault) → wants_writable Γ p before t ≡ Some f → offset f ≡ place_offset link_offset p
  written_at p before t f h = writable_at (Γ.writable (base p)) (place_offset link_offset p) None f (λ g x. absurd (none-some _ x)) h

  pub written_scalar_at : (p : RawPlace Link) (before t : Ty) (f : TypeFault) → wants_writable_scalar Γ p before t ≡ Some f → offset f ≡ place_offset link_offset p
  written_scalar_at p before t f h = writable_at (Γ.writable (base p)) (place_offset link_offset p) _ f (λ g x. misfit_at Γ.names (place_offset link_offset p) a_scalar t g x) h

  abbrev pub let_row : RawExpr Link → Row
  let_row e = child (expr_child Γ e) (wants Γ (expr_offset link_offset e) a_scalar) end

  abbrev pub set_row : RawPlace Link → RawExpr Link → Row
  set_row p e = child (place_child Γ p) (wants_writable_scalar Γ p) (child (expr_child Γ e) (like_the_first Γ (expr_offset link_offset e)) end)

  abbrev pub copy_row : RawPlace Link → RawPlace Link → Row
  copy_row p q = child (place_child Γ p) (wants_writable Γ p) (child (place_child Γ q) (like_the_first Γ (place_offset link_offset q)) end)

  abbrev pub test_row : RawExpr Link → Row
  test_row c = child (expr_child Γ c) (wants Γ (expr_offset link_offset c) (exactly (scalar is.Bool))) end

  abbrev pub emit_row : Link → RawExpr Link → Row
  emit_row u e = child (expr_child Γ e) (wants Γ (expr_offset link_offset e) (exactly (message_of Γ (emitter_number u.target)))) end

  pub let_spans : (e : RawExpr Link) (bound : ℕ) → Ascends e bound → Spans (let_row e) bound
  let_spans e bound o = let s = sound Γ e bound o in (s, wants_in Γ _ bound a_scalar s.begins, tt {0})

  pub set_spans : (p : RawPlace Link) (e : RawExpr Link) (bound : ℕ) → AscendsPlace p (expr_offset link_offset e) → Ascends e bound → Spans (set_row p e) bound
  set_spans p e bound o q = let s = sound_place Γ p (expr_offset link_offset e) o in let r = sound Γ e bound q in
      (s, λ before t f h. at_within _ _ f s.begins (written_scalar_at p before t f h), (r, like_in Γ _ bound r.begins, tt {0}))

  pub copy_spans : (p q : RawPlace Link) (bound : ℕ) → AscendsPlace p (place_offset link_offset q) → AscendsPlace q bound → Spans (copy_row p q) bound
  copy_spans p q bound o l = let s = sound_place Γ p (place_offset link_offset q) o in let r = sound_place Γ q bound l in
      (s, λ before t f h. at_within _ _ f s.begins (written_at p before t f h), (r, like_in Γ _ bound r.begins, tt {0}))

  pub test_spans : (c : RawExpr Link) (bound : ℕ) → Ascends c bound → Spans (test_row c) bound
  test_spans c bound o = let s = sound Γ c bound o in (s, wants_in Γ _ bound (exactly (scalar is.Bool)) s.begins, tt {0})

  pub emit_spans : (u : Link) (e : RawExpr Link) (bound : ℕ) → Ascends e bound → Spans (emit_row u e) bound
  emit_spans u e bound o = let s = sound Γ e bound o in (s, wants_in Γ _ bound (exactly (message_of Γ (emitter_number u.target))) s.begins, tt {0})

  module _ (one : One Γ) where
    pub let_ones : (e : RawExpr Link) → Ones (let_row e)
    let_ones e = (one_expr Γ one e, tt {0})

    pub set_ones : (p : RawPlace Link) (e : RawExpr Link) → Ones (set_row p e)
    set_ones p e = (one_place Γ one p, (one_expr Γ one e, tt {0}))

    pub copy_ones : (p q : RawPlace Link) → Ones (copy_row p q)
    copy_ones p q = (one_place Γ one p, (one_place Γ one q, tt {0}))

    pub test_ones : (c : RawExpr Link) → Ones (test_row c)
    test_ones c = (one_expr Γ one c, tt {0})

    pub emit_ones : (u : Link) (e : RawExpr Link) → Ones (emit_row u e)
    emit_ones u e = (one_expr Γ one e, tt {0})

-- ---- the faults of statements stand within them, behind their beginning

deep_within : (c : Child) (h : ℕ) (breaks : Faults) (f : TypeFault) (bound : ℕ) → c.at < bound → IsDeep c h breaks f → Within c.at bound f
deep_within c h breaks f bound l x = at_within c.at bound f l (ap offset x.3)

abbrev pub Inside : ℕ → ℕ → TypeFault → Type 0
Inside at bound f = Within (at + 1) bound f

mutual
  pub breaks_inside : (s : RawStmt Link) (Γ : Env) (bound : ℕ) → AscendsStmt s bound → (f : TypeFault) → Breaks Γ s f → Inside (stmt_offset s) bound f
  breaks_inside (bind at i e) Γ bound o f h = let l = o.0 in wider (expr_offset link_offset e) bound (at + 1) bound f (omega arith) (omega arith) (node_within (let_row Γ e) bound f (let_spans Γ e bound o.1) h)
  breaks_inside (local at i u) Γ bound o f h = absurd h
  breaks_inside (set at p e) Γ bound o f h = let l = o.0 in wider (place_offset link_offset p) bound (at + 1) bound f (omega arith) (omega arith) (node_within (set_row Γ p e) bound f (set_spans Γ p e bound o.1 o.2) h)
  breaks_inside (copy at p q) Γ bound o f h = let l = o.0 in wider (place_offset link_offset p) bound (at + 1) bound f (omega arith) (omega arith) (node_within (copy_row Γ p q) bound f (copy_spans Γ p q bound o.1 o.2) h)
  breaks_inside (branch at c then_at a else_at b) Γ bound o f h =
      let l = o.0 in let i = o.2 in let j = o.4 in let k = expr_begins c then_at o.1 in let m = list_begins a else_at o.3 in let n = list_begins b bound o.5 in elim h [
        | inl x ↦ wider (expr_offset link_offset c) then_at (at + 1) bound f (omega arith) (omega arith) ((sound Γ c then_at o.1).within f x)
        | inr x ↦ elim x [
          | inl y ↦ wider (start_in a else_at + 1) else_at (at + 1) bound f (omega arith) (omega arith) (all_breaks_inside a Γ else_at o.3 f y)
          | inr y ↦ elim y [
            | inl z ↦ wider (start_in b bound + 1) bound (at + 1) bound f (omega arith) (omega arith) (all_breaks_inside b (after_all Γ a) bound o.5 f z)
            | inr z ↦ wider (expr_offset link_offset c) then_at (at + 1) bound f (omega arith) (omega arith) (node_within (test_row Γ c) then_at f (test_spans Γ c then_at o.1) z.2)
          ]
        ]
      ]
  breaks_inside (loop at i n body) Γ bound o f h = let l = o.0 in
      wider (start_in body bound + 1) bound (at + 1) bound f (omega arith) (omega arith) (all_breaks_inside body (with_loop Γ n) bound o.1 f h)
  breaks_inside (emit at u e) Γ bound o f h = let l = o.0 in wider (expr_offset link_offset e) bound (at + 1) bound f (omega arith) (omega arith) (node_within (emit_row Γ u e) bound f (emit_spans Γ u e bound o.1) h)

  pub all_breaks_inside : (ss : RawStmts Link) (Γ : Env) (bound : ℕ) → AscendsAll ss bound → (f : TypeFault) → BreaksAll Γ ss f → Inside (start_in ss bound) bound f
  all_breaks_inside no_stmts Γ bound o f h = absurd h
  all_breaks_inside (stmt s ss) Γ bound o f h = let k = stmt_begins s (start_in ss bound) o.0 in let l = list_begins ss bound o.1 in elim h [
    | inl x ↦ wider (stmt_offset s + 1) (start_in ss bound) (stmt_offset s + 1) bound f (omega arith) l (breaks_inside s Γ (start_in ss bound) o.0 f x)
    | inr x ↦ wider (start_in ss bound + 1) bound (stmt_offset s + 1) bound f (omega arith) (omega arith) (all_breaks_inside ss (after Γ s) bound o.1 f x)
  ]

mutual
  pub deeps_inside : (s : RawStmt Link) (Γ : Env) (bound : ℕ) → AscendsStmt s bound → (f : TypeFault) → Deeps Γ s f → Inside (stmt_offset s) bound f
  deeps_inside (bind at i e) Γ bound o f h = let l = o.0 in let k = expr_begins e bound o.1 in wider (expr_offset link_offset e) bound (at + 1) bound f (omega arith) (omega arith) (at_within _ bound f k (ap offset h.3))
  deeps_inside (local at i u) Γ bound o f h = absurd h
  deeps_inside (set at p e) Γ bound o f h = let l = o.0 in let k = place_begins p (expr_offset link_offset e) o.1 in let m = expr_begins e bound o.2 in elim h [
    | inl x ↦ wider (place_offset link_offset p) bound (at + 1) bound f (omega arith) (omega arith) (at_within _ bound f (omega arith) (ap offset x.3))
    | inr x ↦ wider (expr_offset link_offset e) bound (at + 1) bound f (omega arith) (omega arith) (at_within _ bound f m (ap offset x.3))
  ]
  deeps_inside (copy at p q) Γ bound o f h = let l = o.0 in let k = place_begins p (place_offset link_offset q) o.1 in let m = place_begins q bound o.2 in elim h [
    | inl x ↦ wider (place_offset link_offset p) bound (at + 1) bound f (omega arith) (omega arith) (at_within _ bound f (omega arith) (ap offset x.3))
    | inr x ↦ wider (place_offset link_offset q) bound (at + 1) bound f (omega arith) (omega arith) (at_within _ bound f m (ap offset x.3))
  ]
  deeps_inside (branch at c then_at a else_at b) Γ bound o f h =
      let l = o.0 in let i = o.2 in let j = o.4 in let k = expr_begins c then_at o.1 in let m = list_begins a else_at o.3 in let n = list_begins b bound o.5 in elim h [
        | inl x ↦ wider (expr_offset link_offset c) then_at (at + 1) bound f (omega arith) (omega arith) (at_within _ then_at f k (ap offset x.3))
        | inr x ↦ elim x [
          | inl y ↦ wider (start_in a else_at + 1) else_at (at + 1) bound f (omega arith) (omega arith) (all_deeps_inside a Γ else_at o.3 f y)
          | inr y ↦ wider (start_in b bound + 1) bound (at + 1) bound f (omega arith) (omega arith) (all_deeps_inside b (after_all Γ a) bound o.5 f y)
        ]
      ]
  deeps_inside (loop at i n body) Γ bound o f h = let l = o.0 in
      wider (start_in body bound + 1) bound (at + 1) bound f (omega arith) (omega arith) (all_deeps_inside body (with_loop Γ n) bound o.1 f h)
  deeps_inside (emit at u e) Γ bound o f h = let l = o.0 in let k = expr_begins e bound o.1 in wider (expr_offset link_offset e) bound (at + 1) bound f (omega arith) (omega arith) (at_within _ bound f k (ap offset h.3))

  pub all_deeps_inside : (ss : RawStmts Link) (Γ : Env) (bound : ℕ) → AscendsAll ss bound → (f : TypeFault) → DeepsAll Γ ss f → Inside (start_in ss bound) bound f
  all_deeps_inside no_stmts Γ bound o f h = absurd h
  all_deeps_inside (stmt s ss) Γ bound o f h = let k = stmt_begins s (start_in ss bound) o.0 in let l = list_begins ss bound o.1 in elim h [
    | inl x ↦ wider (stmt_offset s + 1) (start_in ss bound) (stmt_offset s + 1) bound f (omega arith) l (deeps_inside s Γ (start_in ss bound) o.0 f x)
    | inr x ↦ wider (start_in ss bound + 1) bound (stmt_offset s + 1) bound f (omega arith) (omega arith) (all_deeps_inside ss (after Γ s) bound o.1 f x)
  ]

pub offends_inside : (s : RawStmt Link) (Γ : Env) (bound : ℕ) → AscendsStmt s bound → (f : TypeFault) → Breaks Γ s f ⊎ Deeps Γ s f → Inside (stmt_offset s) bound f
offends_inside s Γ bound o f h = elim h [ inl x ↦ breaks_inside s Γ bound o f x | inr x ↦ deeps_inside s Γ bound o f x ]

pub all_offends_inside : (ss : RawStmts Link) (Γ : Env) (bound : ℕ) → AscendsAll ss bound → (f : TypeFault) → BreaksAll Γ ss f ⊎ DeepsAll Γ ss f → Inside (start_in ss bound) bound f
all_offends_inside ss Γ bound o f h = elim h [ inl x ↦ all_breaks_inside ss Γ bound o f x | inr x ↦ all_deeps_inside ss Γ bound o f x ]
