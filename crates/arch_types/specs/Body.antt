-- Statements: the names after them, what they become in the checked tree, and what is wrong with them.
use Rattle.std.specs.Prelude.{◌≡◌, ◌⊎◌, ℕ, ◌+◌, ◌-◌, ◌^◌, ◌<◌, max, min, [], ◌∷◌, ◌++◌, slice_index_or, Bool, true, false, cond, ◌==◌, IsTrue, Option, Some, None}
use Rattle.tower_types.specs.declared.scalar.Scalar.{Scalar}
use Rattle.tower_types.specs.declared.scalar.Scalar.TheVariants as is
use Rattle.tower_types.specs.Ty.{Ty, Fields, scalar}
use Rattle.tower_syntax.specs.declared.named.Target.{Target}
use Rattle.tower_syntax.specs.declared.named.Target.TheVariants as target
use Rattle.tower_syntax.specs.RawTree.{Link, RawPlace, root, get, index, RawExpr, truth, read, lit, un, bin, choose, cast, RawStmt, bind, local, set, copy, branch, loop, emit, RawStmts, no_stmts, stmt}
use Rattle.tower_syntax.specs.Offset.{link_offset, place_offset, expr_offset}
use Rattle.tower_syntax.specs.Tree.{Expr, Place, Stmt, Stmts}
use Rattle.tower_syntax.specs.Tree as tree
use Rattle.arch_types.specs.declared.fault.TypeFault.{TypeFault}
use Rattle.arch_types.specs.declared.fault.TypeFault.TheVariants as fault
use Rattle.arch_types.specs.Wanted.{a_scalar, exactly, fulfils, misfit}
use Rattle.arch_types.specs.Offence.{Faults, IsClean, offset, Child, Test, end, child, Node}
use Rattle.arch_types.specs.Typing.{Env, type_of, no_type, Path, place_from, BecomesPlace, Becomes, Has, HasPlace, wants, like_the_first, PlaceFaults, ExprFaults}

-- ---- the names after a statement

abbrev pub has_with : ℕ → (Ty → Type 0) → (Target → Ty → Type 0) → Target → Ty → Type 0
has_with n new has (target.Binder b) t = ((b ≡ n) × new t) ⊎ ((b ≡ n → ⊥) × has (target.Binder b) t)
has_with n new has x t = has x t

abbrev pub writable_with : ℕ → Bool → (Target → Bool) → Target → Bool
writable_with n new writable (target.Binder b) = cond (b == n) new (writable (target.Binder b))
writable_with n new writable x = writable x

abbrev pub with_name : Env → (Ty → Type 0) → Bool → Env
with_name Γ has writable = record {
  names = Γ.names;
  records = Γ.records;
  emitters = Γ.emitters;
  has = has_with Γ.bound has Γ.has;
  writable = writable_with Γ.bound writable Γ.writable;
  bound = Γ.bound + 1;
}

abbrev pub with_let : Env → RawExpr Link → Env
with_let Γ e = with_name Γ (λ t. Has Γ e t × IsTrue (fulfils a_scalar t)) false

abbrev pub with_local : Env → Ty → Env
with_local Γ u = with_name Γ (λ t. t ≡ u) true

abbrev pub with_loop : Env → ℕ → Env
with_loop Γ n = with_name Γ (λ t. t ≡ scalar (is.Ix n)) false

abbrev mutual
  pub after : Env → RawStmt Link → Env
  after Γ (bind at i e) = with_let Γ e
  after Γ (local at i u) = with_local Γ (type_of u)
  after Γ (set at p e) = Γ
  after Γ (copy at p q) = Γ
  after Γ (branch at c then_at a else_at b) = after_all (after_all Γ a) b
  after Γ (loop at i n body) = after_all (with_loop Γ n) body
  after Γ (emit at u e) = Γ

  pub after_all : Env → RawStmts Link → Env
  after_all Γ no_stmts = Γ
  after_all Γ (stmt s ss) = after_all (after Γ s) ss

-- ---- what a statement becomes, with the names that it binds in text order

abbrev pub base : RawPlace Link → Target
base (root u) = u.target
base (get at p name) = base p
base (index at p e) = base p

abbrev pub emitter_number : Target → ℕ
emitter_number (target.Emitter k) = k
emitter_number _ = 0

abbrev pub message_of : Env → ℕ → Ty
message_of Γ k = slice_index_or Γ.emitters k no_type

abbrev mutual
  pub BecomesStmt : Env → RawStmt Link → Fields → Stmt → Type 0
  BecomesStmt Γ (bind at i e) names s =
      (k : Scalar) × (x : Expr) × Becomes Γ e (scalar k) x × (names ≡ (i.name, scalar k) ∷ []) × (s ≡ tree.bind Γ.bound x)
  BecomesStmt Γ (local at i u) names s = (names ≡ (i.name, type_of u) ∷ []) × (s ≡ tree.local Γ.bound)
  BecomesStmt Γ (set at p e) names s =
      (k : Scalar) × (q : Path) × (x : Expr) × BecomesPlace Γ p (scalar k) q × (Γ.writable (base p) ≡ true) × Becomes Γ e (scalar k) x
      × (names ≡ []) × (s ≡ tree.set (place_from q) x)
  BecomesStmt Γ (copy at p q) names s =
      (t : Ty) × (x : Path) × (y : Path) × BecomesPlace Γ p t x × (Γ.writable (base p) ≡ true) × BecomesPlace Γ q t y
      × (names ≡ []) × (s ≡ tree.copy (place_from x) (place_from y))
  BecomesStmt Γ (branch at c then_at a else_at b) names s =
      (x : Expr) × (xs : Fields) × (ys : Fields) × (l : Stmts) × (r : Stmts) × Becomes Γ c (scalar is.Bool) x × BecomesAll Γ a xs l
      × BecomesAll (after_all Γ a) b ys r × (names ≡ xs ++ ys) × (s ≡ tree.branch x l r)
  BecomesStmt Γ (loop at i n body) names s =
      (xs : Fields) × (l : Stmts) × BecomesAll (with_loop Γ n) body xs l × (names ≡ (i.name, scalar (is.Ix n)) ∷ xs) × (s ≡ tree.loop Γ.bound n l)
  BecomesStmt Γ (emit at u e) names s =
      (x : Expr) × Becomes Γ e (message_of Γ (emitter_number u.target)) x × (names ≡ []) × (s ≡ tree.emit (emitter_number u.target) x)

  pub BecomesAll : Env → RawStmts Link → Fields → Stmts → Type 0
  BecomesAll Γ no_stmts names ss = (names ≡ []) × (ss ≡ tree.no_stmts)
  BecomesAll Γ (stmt t ts) names ss =
      (xs : Fields) × (ys : Fields) × (s : Stmt) × (rest : Stmts) × BecomesStmt Γ t xs s × BecomesAll (after Γ t) ts ys rest
      × (names ≡ xs ++ ys) × (ss ≡ tree.stmt s rest)

-- ---- the faults in a statement that are no `Deep`

abbrev pub place_child : Env → RawPlace Link → Child
place_child Γ p = record { at = place_offset link_offset p; faults = λ f. PlaceFaults Γ p f; has = HasPlace Γ p }

abbrev pub expr_child : Env → RawExpr Link → Child
expr_child Γ e = record { at = expr_offset link_offset e; faults = λ f. ExprFaults Γ e f; has = Has Γ e }

-- a place that is written: a state, or a name that a `local` binds, or a part of one
abbrev pub if_writable : Bool → ℕ → Option TypeFault → Option TypeFault
if_writable true at more = more
if_writable false at more = Some (fault.NotPlace at)

abbrev pub wants_writable : Env → RawPlace Link → Test
wants_writable Γ p before t = if_writable (Γ.writable (base p)) (place_offset link_offset p) None

-- before its scalar is tested
abbrev pub wants_writable_scalar : Env → RawPlace Link → Test
wants_writable_scalar Γ p before t = if_writable (Γ.writable (base p)) (place_offset link_offset p) (misfit Γ.names (place_offset link_offset p) a_scalar t)

abbrev mutual
  pub Breaks : Env → RawStmt Link → Faults
  Breaks Γ (bind at i e) f = Node (child (expr_child Γ e) (wants Γ (expr_offset link_offset e) a_scalar) end) f
  Breaks Γ (local at i u) f = ⊥
  Breaks Γ (set at p e) f =
      Node (child (place_child Γ p) (wants_writable_scalar Γ p) (child (expr_child Γ e) (like_the_first Γ (expr_offset link_offset e)) end)) f
  Breaks Γ (copy at p q) f =
      Node (child (place_child Γ p) (wants_writable Γ p) (child (place_child Γ q) (like_the_first Γ (place_offset link_offset q)) end)) f
  -- the test's type is looked at only where no fault but a `Deep` is in the branches
  Breaks Γ (branch at c then_at a else_at b) f =
      ExprFaults Γ c f ⊎ (BreaksAll Γ a f ⊎ (BreaksAll (after_all Γ a) b f ⊎ (
      IsClean (BreaksAll Γ a) × IsClean (BreaksAll (after_all Γ a) b)
      × Node (child (expr_child Γ c) (wants Γ (expr_offset link_offset c) (exactly (scalar is.Bool))) end) f)))
  Breaks Γ (loop at i n body) f = BreaksAll (with_loop Γ n) body f
  Breaks Γ (emit at u e) f =
      Node (child (expr_child Γ e) (wants Γ (expr_offset link_offset e) (exactly (message_of Γ (emitter_number u.target)))) end) f

  pub BreaksAll : Env → RawStmts Link → Faults
  BreaksAll Γ no_stmts f = ⊥
  BreaksAll Γ (stmt s ss) f = Breaks Γ s f ⊎ BreaksAll (after Γ s) ss f

-- ---- the `Deep` faults

-- 1 for a name or a literal, and otherwise 1 more than the greatest height of its expressions and places
abbrev mutual
  pub height : RawExpr Link → ℕ
  height (truth at b) = 1
  height (read p) = place_height p
  height (lit at s n) = 1
  height (un at op a) = height a + 1
  height (bin at op a b) = max (height a) (height b) + 1
  height (choose at c a b) = max (max (height c) (height a)) (height b) + 1
  height (cast at t a) = height a + 1

  pub place_height : RawPlace Link → ℕ
  place_height (root u) = 1
  place_height (get at p name) = place_height p + 1
  place_height (index at p e) = max (place_height p) (height e) + 1

-- a height as a 32-bit number, which has it in every file whose lists are nested at most 256 deep
abbrev pub told : ℕ → ℕ
told h = min (2 ^ 32 - 1) h

-- how high an outermost expression or place of a statement may be
abbrev pub greatest_height : ℕ
greatest_height = 24

-- one that is too high, where no other fault is in it or at it
abbrev pub IsDeep : Child → ℕ → Faults → Faults
IsDeep c h breaks f = (greatest_height < h) × IsClean c.faults × ((g : TypeFault) → breaks g → offset g ≡ c.at → ⊥) × (f ≡ fault.Deep c.at (told h))

abbrev mutual
  pub Deeps : Env → RawStmt Link → Faults
  Deeps Γ (bind at i e) f = IsDeep (expr_child Γ e) (height e) (Breaks Γ (bind at i e)) f
  Deeps Γ (local at i u) f = ⊥
  Deeps Γ (set at p e) f =
      IsDeep (place_child Γ p) (place_height p) (Breaks Γ (set at p e)) f ⊎ IsDeep (expr_child Γ e) (height e) (Breaks Γ (set at p e)) f
  Deeps Γ (copy at p q) f =
      IsDeep (place_child Γ p) (place_height p) (Breaks Γ (copy at p q)) f ⊎ IsDeep (place_child Γ q) (place_height q) (Breaks Γ (copy at p q)) f
  Deeps Γ (branch at c then_at a else_at b) f =
      IsDeep (expr_child Γ c) (height c) (Breaks Γ (branch at c then_at a else_at b)) f ⊎ (DeepsAll Γ a f ⊎ DeepsAll (after_all Γ a) b f)
  Deeps Γ (loop at i n body) f = DeepsAll (with_loop Γ n) body f
  Deeps Γ (emit at u e) f = IsDeep (expr_child Γ e) (height e) (Breaks Γ (emit at u e)) f

  pub DeepsAll : Env → RawStmts Link → Faults
  DeepsAll Γ no_stmts f = ⊥
  DeepsAll Γ (stmt s ss) f = Deeps Γ s f ⊎ DeepsAll (after Γ s) ss f

abbrev pub Offends : Env → RawStmts Link → Faults
Offends Γ ss f = BreaksAll Γ ss f ⊎ DeepsAll Γ ss f
