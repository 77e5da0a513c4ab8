-- What the walk over expressions, places and statements is to give, where each name that there is has its type.
use Rattle.std.proofs.Common.{◌≡◌, ◌⊎◌, ◌<◌, ◌≤◌, ◌++◌, ℕ, List, length, Bool, Option, Some, None, Result, Ok, Err}
use Rattle.tower_types.specs.Ty.{Ty, Fields}
use Rattle.tower_syntax.specs.declared.named.Target.{Target}
use Rattle.tower_syntax.specs.declared.named.Target.TheVariants as target
use Rattle.tower_syntax.specs.RawTree.{Link, RawPlace, root, get, index, RawExpr, truth, read, lit, un, bin, choose, cast, RawStmt, RawStmts}
use Rattle.tower_syntax.specs.View.{stmts_of}
use Rattle.tower_syntax.specs.Typed.{IsInScope}
use Rattle.arch_types.specs.declared.fault.TypeFault.{TypeFault}
use Rattle.arch_types.specs.declared.high.High.{High}
use Rattle.arch_types.specs.Offence.{Faults, IsClean, IsFirst}
use Rattle.arch_types.specs.Typing.{Env, BecomesPlace, Becomes, PlaceFaults, ExprFaults}
use Rattle.arch_types.specs.Body.{after, after_all, BecomesStmt, BecomesAll, Breaks, BreaksAll, Deeps, DeepsAll, Offends}
use Rattle.arch_types.specs.Order.{AscendsPlace, Ascends, AscendsStmt, AscendsAll}
use Rattle.arch_types.specs.Numbered.{Counts, bound_by, bound_by_all}
use Rattle.arch_types.specs.Walk.{Known, known_type, may_write_among, TypedExpr, TypedPlace, deep, with_binders, Walked, AllWalked}

abbrev pub IsKnown : Known → Target → Type 0
IsKnown γ target.Param = Unit {0}
IsKnown γ (target.Binder b) = b < length γ.binders
IsKnown γ (target.State k) = k < length γ.states
IsKnown γ x = ⊥

abbrev pub env_with : Known → (Target → Ty → Type 0) → Env
env_with γ has = record {
  names = γ.names;
  records = γ.records;
  emitters = γ.emitters;
  has = has;
  writable = may_write_among γ.writable;
  bound = length γ.binders;
}

-- each name in it passes
abbrev mutual
  pub UsesPlace : (Target → Type 0) → RawPlace Link → Type 0
  UsesPlace P (root u) = P u.target
  UsesPlace P (get at p name) = UsesPlace P p
  UsesPlace P (index at p e) = UsesPlace P p × Uses P e

  pub Uses : (Target → Type 0) → RawExpr Link → Type 0
  Uses P (truth at b) = Unit {0}
  Uses P (read p) = UsesPlace P p
  Uses P (lit at s n) = Unit {0}
  Uses P (un at op a) = Uses P a
  Uses P (bin at op a b) = Uses P a × Uses P b
  Uses P (choose at c a b) = Uses P c × Uses P a × Uses P b
  Uses P (cast at t a) = Uses P a

-- the type with the checked tree, or the first fault where the offsets stand in text order
abbrev pub Right : Env → RawExpr Link → Result TypedExpr TypeFault → Type 0
Right Γ e (Ok x) = Becomes Γ e x.ty x.tree
Right Γ e (Err f) = (end : ℕ) → Ascends e end → IsFirst (ExprFaults Γ e) f

abbrev pub RightPlace : Env → RawPlace Link → Result TypedPlace TypeFault → Type 0
RightPlace Γ p (Ok x) = BecomesPlace Γ p x.ty x.path
RightPlace Γ p (Err f) = (end : ℕ) → AscendsPlace p end → IsFirst (PlaceFaults Γ p) f

-- what is told beside the checked tree: there is no fault, or, in a text that stands in order, this is the first of what
-- is too high
abbrev pub Told : Type 0 → Option High → Faults → Type 0
Told O None offends = IsClean offends
Told O (Some d) offends = O → IsFirst offends (deep d)

-- ---- statements

-- each name that there is has the type that it is known with, and no other
pub record Knows (γ : Known) (has : Target → Ty → Type 0) : Type 0 where
  pub even : length γ.writable ≡ length γ.binders
  pub one : (x : Target) (t u : Ty) → has x t → has x u → t ≡ u
  pub knows : (x : Target) → IsKnown γ x → has x (known_type γ x)

-- what is known is what the relations see
pub record Agrees (Γ : Env) (γ : Known) : Type 0 where
  pub names : Γ.names ≡ γ.names
  pub records : Γ.records ≡ γ.records
  pub emitters : Γ.emitters ≡ γ.emitters
  pub writable : (x : Target) → Γ.writable x ≡ may_write_among γ.writable x
  pub bound : Γ.bound ≡ length γ.binders
  pub has : Knows γ Γ.has

-- each name in scope is known
pub record IsWithin (c : Counts) (γ : Known) : Type 0 where
  pub states : c.states ≤ length γ.states
  pub bound : c.bound ≡ length γ.binders
  pub in_scope : (b : ℕ) → IsInScope (c.names b) → b < length γ.binders

abbrev pub IsOrdered : RawStmt Link → Type 0
IsOrdered s = (end : ℕ) × AscendsStmt s end

abbrev pub AreOrdered : RawStmts Link → Type 0
AreOrdered ss = (end : ℕ) × AscendsAll ss end

-- statements became a part of the checked tree, and bound so many names; nothing is wrong in them but heights
pub record Ran (O : Type 0) (γ : Known) (binders : Fields) (writable : List Bool) (high : Option High) (count : ℕ) (later : Env) (becomes : Fields → Type 0) (breaks : Faults) (deeps : Faults) : Type 0 where
  pub names : Fields
  pub bound : binders ≡ γ.binders ++ names
  pub counted : length names ≡ count
  pub tree : becomes names
  pub agrees : Agrees later (with_binders γ binders writable)
  pub clean : IsClean breaks
  pub told : Told O high deeps

abbrev pub RightStmt : Known → Env → RawStmt Link → Result Walked TypeFault → Type 0
RightStmt γ Γ s (Ok d) = Ran (IsOrdered s) γ d.binders d.writable d.high (bound_by s) (after Γ s) (λ names. BecomesStmt Γ s names d.tree) (λ f. Breaks Γ s f) (λ f. Deeps Γ s f)
RightStmt γ Γ s (Err f) = IsOrdered s → (IsFirst (λ g. Breaks Γ s g ⊎ Deeps Γ s g) f × (IsClean (λ g. Breaks Γ s g) → ⊥))

abbrev pub RightAll : Known → Env → RawStmts Link → Result AllWalked TypeFault → Type 0
RightAll γ Γ ss (Ok d) = Ran (AreOrdered ss) γ d.binders d.writable d.high (bound_by_all ss) (after_all Γ ss) (λ names. BecomesAll Γ ss names (stmts_of d.trees)) (λ f. BreaksAll Γ ss f) (λ f. DeepsAll Γ ss f)
RightAll γ Γ ss (Err f) = AreOrdered ss → (IsFirst (Offends Γ ss) f × (IsClean (λ g. BreaksAll Γ ss g) → ⊥))
