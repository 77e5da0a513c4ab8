-- Types and faults as they are computed, in text order; the first that is wrong ends it.
use Rattle.std.specs.Prelude.{◌≡◌, ◌⊎◌, ℕ, nat_lt, List, [], ◌∷◌, ◌++◌, length, slice_index_or, Bool, true, false, if◌then◌else◌, Option, Some, None, Result, Ok, Err, ℤ}
use Rattle.tower_types.specs.declared.scalar.Scalar.{Scalar}
use Rattle.tower_types.specs.declared.scalar.Scalar.TheVariants as is
use Rattle.tower_types.specs.declared.scalar.BinOp.{BinOp}
use Rattle.tower_types.specs.declared.scalar.UnOp.{UnOp}
use Rattle.tower_types.specs.Ty.{Ty, Name, Fields, Records, scalar, array, rec as record_type}
use Rattle.tower_types.specs.Value.{fits_scalar}
use Rattle.tower_types.specs.Arithmetic.{binary_scalar, truth as truth_number}
use Rattle.tower_syntax.specs.declared.named.Target.{Target}
use Rattle.tower_syntax.specs.declared.named.Target.TheVariants as target
use Rattle.tower_syntax.specs.RawTree.{Id, Link, RawPlace, root, get, index, RawExpr, truth, read, lit, un, bin, choose, cast, RawStmt, bind, local, set, copy, branch, loop, emit, RawStmts, no_stmts, stmt}
use Rattle.tower_syntax.specs.Offset.{link_offset, type_offset, place_offset, expr_offset}
use Rattle.tower_syntax.specs.Tree.{Expr, Place, Stmt}
use Rattle.tower_syntax.specs.Tree as tree
use Rattle.tower_syntax.specs.View.{stmts_of}
use Rattle.arch_types.specs.declared.fault.TypeFault.{TypeFault}
use Rattle.arch_types.specs.declared.fault.TypeFault.TheVariants as fault
use Rattle.arch_types.specs.declared.high.High.{High}
use Rattle.arch_types.specs.Wanted.{a_scalar, a_number, an_array, a_record, exactly, wanted, wanted_one, unless, misfit}
use Rattle.arch_types.specs.Typing.{type_of, no_type, field_of, root_at, Path, with_step, place_from}
use Rattle.arch_types.specs.Body.{base, emitter_number, height, place_height, told, greatest_height, if_writable}

-- what a callback sees, where each name has its type
pub record Known : Type 0 where
  pub names : List Name
  pub records : Records
  pub message : Ty
  pub states : Fields
  pub emitters : List Ty
  pub binders : Fields
  pub writable : List Bool

abbrev pub type_at : Fields → ℕ → Ty
type_at fields k = (slice_index_or fields k ([], no_type)).1

abbrev pub known_type : Known → Target → Ty
known_type γ target.Param = γ.message
known_type γ (target.Binder b) = type_at γ.binders b
known_type γ (target.State k) = type_at γ.states k
known_type γ _ = no_type

abbrev pub may_write_among : List Bool → Target → Bool
may_write_among writable (target.Binder b) = slice_index_or writable b false
may_write_among writable (target.State k) = true
may_write_among writable _ = false

-- ---- results

abbrev pub and_then : {A B : Type 0} → Result A TypeFault → (A → Result B TypeFault) → Result B TypeFault
and_then (Ok a) f = f a
and_then (Err e) f = Err e

-- what is wrong, or else the result
abbrev pub tested : {A : Type 0} → Option TypeFault → Result A TypeFault → Result A TypeFault
tested None r = r
tested (Some f) r = Err f

-- a call gives what is computed, or wants memory
abbrev pub Gives : {T A : Type 0} → (T → A) → Result A TypeFault → Result T TypeFault → Type 0
Gives see computed (Ok x) = computed ≡ Ok (see x)
Gives see computed (Err f) = (f ≡ fault.NoMemory) ⊎ (computed ≡ Err f)

abbrev pub Passes : Option TypeFault → Result (Unit {0}) TypeFault → Type 0
Passes wrong (Ok x) = wrong ≡ None
Passes wrong (Err f) = (f ≡ fault.NoMemory) ⊎ (wrong ≡ Some f)

-- ---- the rows of the type table

pub record TypedExpr : Type 0 where
  pub ty : Ty
  pub tree : Expr

pub record TypedPlace : Type 0 where
  pub ty : Ty
  pub path : Path

abbrev pub scalar_in : Ty → Scalar
scalar_in (scalar s) = s
scalar_in t = is.Bool

abbrev pub literal : ℕ → Scalar → ℤ → Result TypedExpr TypeFault
literal at s n = tested (unless (fits_scalar s n) (fault.Range at)) (Ok (record { ty = scalar s; tree = tree.lit s n }))

abbrev pub read_row : TypedPlace → TypedExpr
read_row p = record { ty = p.ty; tree = tree.read (place_from p.path) }

abbrev pub un_row : List Name → UnOp → ℕ → TypedExpr → Result TypedExpr TypeFault
un_row names op at a = tested (misfit names at (wanted_one op) a.ty) (Ok (record { ty = a.ty; tree = tree.un op (scalar_in a.ty) a.tree }))

abbrev pub bin_row : List Name → BinOp → ℕ → TypedExpr → ℕ → TypedExpr → Result TypedExpr TypeFault
bin_row names op first_at a second_at b =
    tested (misfit names first_at (wanted op) a.ty) (tested (misfit names second_at (exactly a.ty) b.ty)
    (Ok (record { ty = scalar (binary_scalar op (scalar_in a.ty)); tree = tree.bin op (scalar_in a.ty) a.tree b.tree })))

abbrev pub choose_row : List Name → ℕ → TypedExpr → ℕ → TypedExpr → ℕ → TypedExpr → Result TypedExpr TypeFault
choose_row names test_at c yes_at a no_at b =
    tested (misfit names test_at (exactly (scalar is.Bool)) c.ty) (tested (misfit names yes_at a_scalar a.ty) (tested (misfit names no_at (exactly a.ty) b.ty)
    (Ok (record { ty = a.ty; tree = tree.choose c.tree a.tree b.tree }))))

abbrev pub cast_row : List Name → ℕ → Ty → ℕ → TypedExpr → Result TypedExpr TypeFault
cast_row names to_at to at a =
    tested (misfit names to_at a_number to) (tested (misfit names at a_number a.ty) (Ok (record { ty = to; tree = tree.cast (scalar_in to) a.tree })))

abbrev pub field_found : ℕ → Option (ℕ × Ty) → Result (ℕ × Ty) TypeFault
field_found at None = Err (fault.Field at)
field_found at (Some f) = Ok f

abbrev pub field_of_type : Records → Ty → Name → Option (ℕ × Ty)
field_of_type records (record_type r) name = field_of records r name
field_of_type records t name = None

abbrev pub get_row : List Name → Records → ℕ → TypedPlace → Id → Result TypedPlace TypeFault
get_row names records at p name =
    tested (misfit names at a_record p.ty) (and_then (field_found name.at (field_of_type records p.ty name.name))
    (λ f. Ok (record { ty = f.1; path = with_step p.path (tree.field f.0) })))

abbrev pub element_of : Ty → Ty
element_of (array n t) = t
element_of t = t

abbrev pub index_fits : List Name → Ty → ℕ → Ty → Option TypeFault
index_fits names (array n t) at u = misfit names at (exactly (scalar (is.Ix n))) u
index_fits names t at u = None

abbrev pub index_row : List Name → ℕ → TypedPlace → ℕ → TypedExpr → Result TypedPlace TypeFault
index_row names at p index_at i =
    tested (misfit names at an_array p.ty) (tested (index_fits names p.ty index_at i.ty)
    (Ok (record { ty = element_of p.ty; path = with_step p.path (tree.at i.tree) })))

abbrev mutual
  pub typed_place : Known → RawPlace Link → Result TypedPlace TypeFault
  typed_place γ (root u) = Ok (record { ty = known_type γ u.target; path = record { root = root_at u.target; steps = [] } })
  typed_place γ (get at p name) = and_then (typed_place γ p) (λ x. get_row γ.names γ.records (place_offset link_offset p) x name)
  typed_place γ (index at p e) =
      and_then (typed_place γ p) (λ x. and_then (typed γ e) (λ i. index_row γ.names (place_offset link_offset p) x (expr_offset link_offset e) i))

  pub typed : Known → RawExpr Link → Result TypedExpr TypeFault
  typed γ (truth at b) = Ok (record { ty = scalar is.Bool; tree = tree.lit is.Bool (truth_number b) })
  typed γ (read p) = and_then (typed_place γ p) (λ x. Ok (read_row x))
  typed γ (lit at s n) = literal at s n
  typed γ (un at op a) = and_then (typed γ a) (λ x. un_row γ.names op (expr_offset link_offset a) x)
  typed γ (bin at op a b) =
      and_then (typed γ a) (λ x. and_then (typed γ b) (λ y. bin_row γ.names op (expr_offset link_offset a) x (expr_offset link_offset b) y))
  typed γ (choose at c a b) =
      and_then (typed γ c) (λ w. and_then (typed γ a) (λ x. and_then (typed γ b)
      (λ y. choose_row γ.names (expr_offset link_offset c) w (expr_offset link_offset a) x (expr_offset link_offset b) y)))
  typed γ (cast at t a) =
      and_then (typed γ a) (λ x. cast_row γ.names (type_offset link_offset t) (type_of t) (expr_offset link_offset a) x)

-- ---- statements

-- what is too high
abbrev pub too_high : ℕ → ℕ → Option High
too_high at depth = if nat_lt greatest_height depth then Some (record { at = at; depth = depth }) else None

abbrev pub high_expr : RawExpr Link → Option High
high_expr e = too_high (expr_offset link_offset e) (told (height e))

abbrev pub high_place : RawPlace Link → Option High
high_place p = too_high (place_offset link_offset p) (told (place_height p))

abbrev pub deep : High → TypeFault
deep d = fault.Deep d.at d.depth

-- the first of what is too high, and a fault behind it
abbrev pub earlier : Option High → TypeFault → TypeFault
earlier high fault.NoMemory = fault.NoMemory
earlier None f = f
earlier (Some d) f = deep d

abbrev pub first_high : Option High → Option High → Option High
first_high (Some d) other = Some d
first_high None other = other

abbrev pub behind : {A : Type 0} → Option High → Result A TypeFault → Result A TypeFault
behind high (Ok x) = Ok x
behind high (Err f) = Err (earlier high f)

-- a statement of the checked tree, what is too high in it first, and all names bound so far
pub record Walked : Type 0 where
  pub high : Option High
  pub tree : Stmt
  pub binders : Fields
  pub writable : List Bool

pub record AllWalked : Type 0 where
  pub high : Option High
  pub trees : List Stmt
  pub binders : Fields
  pub writable : List Bool

abbrev pub with_binders : Known → Fields → List Bool → Known
with_binders γ binders writable = record {
  names = γ.names;
  records = γ.records;
  message = γ.message;
  states = γ.states;
  emitters = γ.emitters;
  binders = binders;
  writable = writable;
}

abbrev pub binding : Known → Name → Ty → Bool → Known
binding γ name t may = with_binders γ (γ.binders ++ (name, t) ∷ []) (γ.writable ++ may ∷ [])

abbrev pub let_row : Known → Id → RawExpr Link → TypedExpr → Result Walked TypeFault
let_row γ i e x =
    tested (misfit γ.names (expr_offset link_offset e) a_scalar x.ty) (Ok (record {
      high = high_expr e;
      tree = tree.bind (length γ.binders) x.tree;
      binders = γ.binders ++ (i.name, x.ty) ∷ [];
      writable = γ.writable ++ false ∷ [];
    }))

-- a statement that binds no name
abbrev pub plain : Known → Option High → Stmt → Walked
plain γ high s = record { high = high; tree = s; binders = γ.binders; writable = γ.writable }

abbrev pub write_misfit : Known → RawPlace Link → Option TypeFault
write_misfit γ p = if_writable (may_write_among γ.writable (base p)) (place_offset link_offset p) None

abbrev pub set_row : Known → RawPlace Link → RawExpr Link → TypedPlace → TypedExpr → Result Walked TypeFault
set_row γ p e x y =
    tested (write_misfit γ p) (tested (misfit γ.names (place_offset link_offset p) a_scalar x.ty)
    (behind (high_place p) (tested (misfit γ.names (expr_offset link_offset e) (exactly x.ty) y.ty)
    (Ok (plain γ (first_high (high_place p) (high_expr e)) (tree.set (place_from x.path) y.tree))))))

abbrev pub copy_row : Known → RawPlace Link → RawPlace Link → TypedPlace → TypedPlace → Result Walked TypeFault
copy_row γ p q x y =
    tested (write_misfit γ p) (behind (high_place p) (tested (misfit γ.names (place_offset link_offset q) (exactly x.ty) y.ty)
    (Ok (plain γ (first_high (high_place p) (high_place q)) (tree.copy (place_from x.path) (place_from y.path))))))

abbrev pub emit_row : Known → ℕ → RawExpr Link → TypedExpr → Result Walked TypeFault
emit_row γ k e x =
    tested (misfit γ.names (expr_offset link_offset e) (exactly (slice_index_or γ.emitters k no_type)) x.ty)
    (Ok (plain γ (high_expr e) (tree.emit k x.tree)))

abbrev pub branch_row : List Name → RawExpr Link → TypedExpr → Option High → List Stmt → AllWalked → Result Walked TypeFault
branch_row names c x high left r =
    tested (misfit names (expr_offset link_offset c) (exactly (scalar is.Bool)) x.ty) (Ok (record {
      high = first_high high r.high;
      tree = tree.branch x.tree (stmts_of left) (stmts_of r.trees);
      binders = r.binders;
      writable = r.writable;
    }))

abbrev pub loop_row : ℕ → ℕ → AllWalked → Walked
loop_row number times r = record { high = r.high; tree = tree.loop number times (stmts_of r.trees); binders = r.binders; writable = r.writable }

abbrev pub joined : Walked → Result AllWalked TypeFault → Result AllWalked TypeFault
joined d (Ok r) = Ok (record { high = first_high d.high r.high; trees = d.tree ∷ r.trees; binders = r.binders; writable = r.writable })
joined d (Err f) = Err (earlier d.high f)

abbrev mutual
  pub walked : Known → RawStmt Link → Result Walked TypeFault
  walked γ (bind at i e) = and_then (typed γ e) (λ x. let_row γ i e x)
  walked γ (local at i u) = Ok (record {
    high = None;
    tree = tree.local (length γ.binders);
    binders = γ.binders ++ (i.name, type_of u) ∷ [];
    writable = γ.writable ++ true ∷ [];
  })
  walked γ (set at p e) = and_then (typed_place γ p) (λ x. and_then (behind (high_place p) (typed γ e)) (λ y. set_row γ p e x y))
  walked γ (copy at p q) = and_then (typed_place γ p) (λ x. and_then (behind (high_place p) (typed_place γ q)) (λ y. copy_row γ p q x y))
  walked γ (branch at c then_at a else_at b) =
      and_then (typed γ c) (λ x. and_then (behind (high_expr c) (walked_all γ a))
      (λ l. and_then (behind (first_high (high_expr c) l.high) (walked_all (with_binders γ l.binders l.writable) b))
      (λ r. branch_row γ.names c x (first_high (high_expr c) l.high) l.trees r)))
  walked γ (loop at i n body) =
      and_then (walked_all (binding γ i.name (scalar (is.Ix n)) false) body) (λ r. Ok (loop_row (length γ.binders) n r))
  walked γ (emit at u e) = and_then (typed γ e) (λ x. emit_row γ (emitter_number u.target) e x)

  pub walked_all : Known → RawStmts Link → Result AllWalked TypeFault
  walked_all γ no_stmts = Ok (record { high = None; trees = []; binders = γ.binders; writable = γ.writable })
  walked_all γ (stmt s ss) = and_then (walked γ s) (λ d. joined d (walked_all (with_binders γ d.binders d.writable) ss))
