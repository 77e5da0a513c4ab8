-- Types, trees and handlers are the same, whatever the offsets.
use Rattle.std.proofs.Common.{◌≡◌, ℕ, ◌+◌, max, List, [], ◌∷◌, ◌++◌, length, slice_index_or, Bool, true, false, Option, Some, None, Result, Ok, Err, refl, sym, ap, ap₂, subst, ℤ}
use Rattle.tower_types.specs.declared.scalar.Scalar.{Scalar}
use Rattle.tower_types.specs.declared.scalar.Scalar.TheVariants as is
use Rattle.tower_types.specs.declared.scalar.BinOp.{BinOp}
use Rattle.tower_types.specs.declared.scalar.UnOp.{UnOp}
use Rattle.tower_types.specs.Ty.{Ty, Name, Fields, scalar, array as array_of, rec as record_type}
use Rattle.tower_types.specs.Value.{fits_scalar}
use Rattle.tower_syntax.specs.RawTree.{Id, Link, RawType, word, rec, array, RawPlace, root, get, index, RawExpr, truth, read, lit, un, bin, choose, cast, RawStmt, bind, local, set, copy, branch, loop, emit, RawStmts, no_stmts, stmt}
use Rattle.tower_syntax.specs.Offset.{link_offset, type_offset, place_offset, expr_offset}
use Rattle.tower_syntax.specs.Tree.{Stmt}
use Rattle.arch_types.specs.declared.fault.TypeFault.{TypeFault}
use Rattle.arch_types.specs.declared.high.High.{High}
use Rattle.arch_types.specs.Wanted.{a_scalar, a_number, an_array, a_record, exactly, wanted, wanted_one, fulfils}
use Rattle.arch_types.specs.Typing.{type_of, no_type}
use Rattle.arch_types.specs.Body.{base, emitter_number, height, place_height, told}
use Rattle.arch_types.specs.Walk.{Known, TypedExpr, TypedPlace, Walked, AllWalked, typed, typed_place, walked, walked_all, tested, literal, read_row, un_row, bin_row, choose_row, cast_row, get_row, index_row, field_found, field_of_type, index_fits, let_row, set_row, copy_row, emit_row, branch_row, joined, high_expr, high_place, first_high, with_binders, binding, plain, may_write_among, write_misfit, behind}
use Rattle.tower_reader.specs.Alike.{bare_id}
use Rattle.printed_files.specs.Bare.{bare_type, bare_place, bare_expr, bare_stmt, bare_stmts}
use Rattle.printed_files.proofs.Sieved.{sieved, Same, same_ok, same_then, same_tested, same_writable, same_behind, is_high, same_high, same_first}

abbrev self : {A : Type 0} → A → A
self x = x

pub type_same : (t : RawType Link) → type_of t ≡ type_of (bare_type t)
type_same (word at s) = refl
type_same (rec u) = refl
type_same (array at n t) = ap (array_of n) (type_same t)

-- ---- rows

found_same : (m n : ℕ) (o : Option (ℕ × Ty)) → Same self (field_found m o) (field_found n o)
found_same m n None = record { is = refl }
found_same m n (Some f) = record { is = refl }

fits_same : (names : List Name) (t : Ty) (m n : ℕ) (u : Ty) (r q : Result TypedPlace TypeFault) → Same self r q → Same self (tested (index_fits names t m u) r) (tested (index_fits names t n u) q)
fits_same names (array_of k t) m n u r q h = same_tested self (fulfils (exactly (scalar (is.Ix k))) u) _ _ r q h
fits_same names (scalar s) m n u r q h = h
fits_same names (record_type k) m n u r q h = h

module _ (γ : Known) where
  un_same : (op : UnOp) (m n : ℕ) (x y : TypedExpr) → x ≡ y → Same self (un_row γ.names op m x) (un_row γ.names op n y)
  un_same op m n x y e = subst (λ z. Same self (un_row γ.names op m x) (un_row γ.names op n z)) e (same_tested self (fulfils (wanted_one op) x.ty) _ _ _ _ (same_ok self _ _ refl))

  bin_same : (op : BinOp) (m n i j : ℕ) (x y u v : TypedExpr) → x ≡ y → u ≡ v → Same self (bin_row γ.names op m x i u) (bin_row γ.names op n y j v)
  bin_same op m n i j x y u v e f =
      subst (λ z. Same self (bin_row γ.names op m x i u) (bin_row γ.names op n z j v)) e
      (subst (λ z. Same self (bin_row γ.names op m x i u) (bin_row γ.names op n x j z)) f
      (same_tested self (fulfils (wanted op) x.ty) _ _ _ _ (same_tested self (fulfils (exactly x.ty) u.ty) _ _ _ _ (same_ok self _ _ refl))))

  choose_same : (k l m n i j : ℕ) (w z x y u v : TypedExpr) → w ≡ z → x ≡ y → u ≡ v → Same self (choose_row γ.names k w m x i u) (choose_row γ.names l z n y j v)
  choose_same k l m n i j w z x y u v d e f =
      subst (λ a. Same self (choose_row γ.names k w m x i u) (choose_row γ.names l a n y j v)) d
      (subst (λ a. Same self (choose_row γ.names k w m x i u) (choose_row γ.names l w n a j v)) e
      (subst (λ a. Same self (choose_row γ.names k w m x i u) (choose_row γ.names l w n x j a)) f
      (same_tested self (fulfils (exactly (scalar is.Bool)) w.ty) _ _ _ _ (same_tested self (fulfils a_scalar x.ty) _ _ _ _ (same_tested self (fulfils (exactly x.ty) u.ty) _ _ _ _ (same_ok self _ _ refl))))))

  cast_same : (k l m n : ℕ) (t u : Ty) (x y : TypedExpr) → t ≡ u → x ≡ y → Same self (cast_row γ.names k t m x) (cast_row γ.names l u n y)
  cast_same k l m n t u x y d e =
      subst (λ a. Same self (cast_row γ.names k t m x) (cast_row γ.names l a n y)) d
      (subst (λ a. Same self (cast_row γ.names k t m x) (cast_row γ.names l t n a)) e
      (same_tested self (fulfils a_number t) _ _ _ _ (same_tested self (fulfils a_number x.ty) _ _ _ _ (same_ok self _ _ refl))))

  get_same : (m n : ℕ) (x y : TypedPlace) (f : Id) → x ≡ y → Same self (get_row γ.names γ.records m x f) (get_row γ.names γ.records n y (bare_id f))
  get_same m n x y f e =
      subst (λ z. Same self (get_row γ.names γ.records m x f) (get_row γ.names γ.records n z (bare_id f))) e
      (same_tested self (fulfils a_record x.ty) _ _ _ _
      (same_then self self _ _ _ _ (found_same f.at 0 (field_of_type γ.records x.ty f.name)) (λ a b h. same_ok self _ _ (ap (λ c. record { ty = c.1; path = Rattle.arch_types.specs.Typing.with_step x.path (Rattle.tower_syntax.specs.Tree.field c.0) }) h))))

  index_same : (m n i j : ℕ) (x y : TypedPlace) (u v : TypedExpr) → x ≡ y → u ≡ v → Same self (index_row γ.names m x i u) (index_row γ.names n y j v)
  index_same m n i j x y u v e f =
      subst (λ z. Same self (index_row γ.names m x i u) (index_row γ.names n z j v)) e
      (subst (λ z. Same self (index_row γ.names m x i u) (index_row γ.names n x j z)) f
      (same_tested self (fulfils an_array x.ty) _ _ _ _ (fits_same γ.names x.ty i j u.ty _ _ (same_ok self _ _ refl))))

  literal_same : (m n : ℕ) (s : Scalar) (z : ℤ) → Same self (literal m s z) (literal n s z)
  literal_same m n s z = same_tested self (fits_scalar s z) _ _ _ _ (same_ok self _ _ refl)

  -- ---- places and expressions

  mutual
    place_same : (p : RawPlace Link) → Same self (typed_place γ p) (typed_place γ (bare_place p))
    place_same (root u) = record { is = refl }
    place_same (get at p f) = same_then self self (typed_place γ p) (typed_place γ (bare_place p)) _ _ (place_same p) (λ x y h. get_same (place_offset link_offset p) (place_offset link_offset (bare_place p)) x y f h)
    place_same (index at p e) =
        same_then self self (typed_place γ p) (typed_place γ (bare_place p)) _ _ (place_same p) (λ x y h.
        same_then self self (typed γ e) (typed γ (bare_expr e)) _ _ (expr_same e) (λ u v k. index_same (place_offset link_offset p) (place_offset link_offset (bare_place p)) (expr_offset link_offset e) (expr_offset link_offset (bare_expr e)) x y u v h k))

    pub expr_same : (e : RawExpr Link) → Same self (typed γ e) (typed γ (bare_expr e))
    expr_same (truth at b) = record { is = refl }
    expr_same (read p) = same_then self self (typed_place γ p) (typed_place γ (bare_place p)) _ _ (place_same p) (λ x y h. same_ok self (read_row x) (read_row y) (ap read_row h))
    expr_same (lit at s n) = literal_same at 0 s n
    expr_same (un at op a) = same_then self self (typed γ a) (typed γ (bare_expr a)) _ _ (expr_same a) (λ x y h. un_same op (expr_offset link_offset a) (expr_offset link_offset (bare_expr a)) x y h)
    expr_same (bin at op a b) =
        same_then self self (typed γ a) (typed γ (bare_expr a)) _ _ (expr_same a) (λ x y h.
        same_then self self (typed γ b) (typed γ (bare_expr b)) _ _ (expr_same b) (λ u v k.
        bin_same op (expr_offset link_offset a) (expr_offset link_offset (bare_expr a)) (expr_offset link_offset b) (expr_offset link_offset (bare_expr b)) x y u v h k))
    expr_same (choose at c a b) =
        same_then self self (typed γ c) (typed γ (bare_expr c)) _ _ (expr_same c) (λ w z g.
        same_then self self (typed γ a) (typed γ (bare_expr a)) _ _ (expr_same a) (λ x y h.
        same_then self self (typed γ b) (typed γ (bare_expr b)) _ _ (expr_same b) (λ u v k.
        choose_same (expr_offset link_offset c) (expr_offset link_offset (bare_expr c)) (expr_offset link_offset a) (expr_offset link_offset (bare_expr a)) (expr_offset link_offset b) (expr_offset link_offset (bare_expr b)) w z x y u v g h k)))
    expr_same (cast at t a) =
        same_then self self (typed γ a) (typed γ (bare_expr a)) _ _ (expr_same a) (λ x y h.
        cast_same (type_offset link_offset t) (type_offset link_offset (bare_type t)) (expr_offset link_offset a) (expr_offset link_offset (bare_expr a)) (type_of t) (type_of (bare_type t)) x y (type_same t) h)

-- ---- heights, and what is written to

mutual
  place_tall : (p : RawPlace Link) → place_height p ≡ place_height (bare_place p)
  place_tall (root u) = refl
  place_tall (get at p f) = ap (λ n. n + 1) (place_tall p)
  place_tall (index at p e) = ap₂ (λ m n. max m n + 1) (place_tall p) (tall e)

  tall : (e : RawExpr Link) → height e ≡ height (bare_expr e)
  tall (truth at b) = refl
  tall (read p) = place_tall p
  tall (lit at s n) = refl
  tall (un at op a) = ap (λ n. n + 1) (tall a)
  tall (bin at op a b) = ap₂ (λ m n. max m n + 1) (tall a) (tall b)
  tall (choose at c a b) = λ i. max (max (tall c i) (tall a i)) (tall b i) + 1
  tall (cast at t a) = ap (λ n. n + 1) (tall a)

base_same : (p : RawPlace Link) → base p ≡ base (bare_place p)
base_same (root u) = refl
base_same (get at p f) = base_same p
base_same (index at p e) = base_same p

expr_high : (e : RawExpr Link) → is_high (high_expr e) ≡ is_high (high_expr (bare_expr e))
expr_high e = same_high (expr_offset link_offset e) (expr_offset link_offset (bare_expr e)) (told (height e)) (told (height (bare_expr e))) (ap told (tall e))

place_high : (p : RawPlace Link) → is_high (high_place p) ≡ is_high (high_place (bare_place p))
place_high p = same_high (place_offset link_offset p) (place_offset link_offset (bare_place p)) (told (place_height p)) (told (place_height (bare_place p))) (ap told (place_tall p))

-- ---- statements

pub record Low : Type 0 where
  pub high : Bool
  pub tree : Stmt
  pub binders : Fields
  pub writable : List Bool

pub record AllLow : Type 0 where
  pub high : Bool
  pub trees : List Stmt
  pub binders : Fields
  pub writable : List Bool

abbrev low : Walked → Low
low w = record { high = is_high w.high; tree = w.tree; binders = w.binders; writable = w.writable }

abbrev pub all_low : AllWalked → AllLow
all_low w = record { high = is_high w.high; trees = w.trees; binders = w.binders; writable = w.writable }

module _ (γ : Known) where
  let_same : (i : Id) (e : RawExpr Link) (x y : TypedExpr) → x ≡ y → Same low (let_row γ i e x) (let_row γ (bare_id i) (bare_expr e) y)
  let_same i e x y h =
      subst (λ z. Same low (let_row γ i e x) (let_row γ (bare_id i) (bare_expr e) z)) h
      (same_tested low (fulfils a_scalar x.ty) _ _ _ _ (same_ok low _ _ (λ j. record {
        high = expr_high e j;
        tree = Rattle.tower_syntax.specs.Tree.bind (length γ.binders) x.tree;
        binders = γ.binders ++ (i.name, x.ty) ∷ [];
        writable = γ.writable ++ false ∷ [];
      })))

  plain_same : (c d : Option High) (s : Stmt) → is_high c ≡ is_high d → Same low (Ok (plain γ c s)) (Ok (plain γ d s))
  plain_same c d s h = same_ok low _ _ (λ j. record { high = h j; tree = s; binders = γ.binders; writable = γ.writable })

  written_same : (p : RawPlace Link) (r q : Result Walked TypeFault) → Same low r q → Same low (tested (write_misfit γ p) r) (tested (write_misfit γ (bare_place p)) q)
  written_same p r q h =
      subst (λ t. Same low (tested (write_misfit γ p) r) (tested (Rattle.arch_types.specs.Body.if_writable (may_write_among γ.writable t) (place_offset link_offset (bare_place p)) None) q)) (base_same p)
      (same_writable low (may_write_among γ.writable (base p)) (place_offset link_offset p) (place_offset link_offset (bare_place p)) r q h)

  set_same : (p : RawPlace Link) (e : RawExpr Link) (x y : TypedPlace) (u v : TypedExpr) → x ≡ y → u ≡ v → Same low (set_row γ p e x u) (set_row γ (bare_place p) (bare_expr e) y v)
  set_same p e x y u v h k =
      subst (λ z. Same low (set_row γ p e x u) (set_row γ (bare_place p) (bare_expr e) z v)) h
      (subst (λ z. Same low (set_row γ p e x u) (set_row γ (bare_place p) (bare_expr e) x z)) k
      (written_same p _ _ (same_tested low (fulfils a_scalar x.ty) _ _ _ _ (same_behind low (high_place p) (high_place (bare_place p)) _ _
      (same_tested low (fulfils (exactly x.ty) u.ty) _ _ _ _ (plain_same _ _ _ (same_first (high_place p) (high_expr e) (high_place (bare_place p)) (high_expr (bare_expr e)) (place_high p) (expr_high e))))))))

  copy_same : (p q : RawPlace Link) (x y u v : TypedPlace) → x ≡ y → u ≡ v → Same low (copy_row γ p q x u) (copy_row γ (bare_place p) (bare_place q) y v)
  copy_same p q x y u v h k =
      subst (λ z. Same low (copy_row γ p q x u) (copy_row γ (bare_place p) (bare_place q) z v)) h
      (subst (λ z. Same low (copy_row γ p q x u) (copy_row γ (bare_place p) (bare_place q) x z)) k
      (written_same p _ _ (same_behind low (high_place p) (high_place (bare_place p)) _ _
      (same_tested low (fulfils (exactly x.ty) u.ty) _ _ _ _ (plain_same _ _ _ (same_first (high_place p) (high_place q) (high_place (bare_place p)) (high_place (bare_place q)) (place_high p) (place_high q)))))))

  emit_same : (k : ℕ) (e : RawExpr Link) (x y : TypedExpr) → x ≡ y → Same low (emit_row γ k e x) (emit_row γ k (bare_expr e) y)
  emit_same k e x y h =
      subst (λ z. Same low (emit_row γ k e x) (emit_row γ k (bare_expr e) z)) h
      (same_tested low (fulfils (exactly (slice_index_or γ.emitters k no_type)) x.ty) _ _ _ _ (plain_same _ _ _ (expr_high e)))

branch_same : (names : List Name) (c : RawExpr Link) (x y : TypedExpr) (g h : Option High) (left also : List Stmt) (r q : AllWalked) → x ≡ y → is_high g ≡ is_high h → left ≡ also → all_low r ≡ all_low q
    → Same low (branch_row names c x g left r) (branch_row names (bare_expr c) y h also q)
branch_same names c x y g h left also r q d e f k =
    subst (λ z. Same low (branch_row names c x g left r) (branch_row names (bare_expr c) z h also q)) d
    (same_tested low (fulfils (exactly (scalar is.Bool)) x.ty) _ _ _ _ (same_ok low _ _ (λ j. record {
      high = same_first g r.high h q.high e (ap (λ l. l.high) k) j;
      tree = Rattle.tower_syntax.specs.Tree.branch x.tree (Rattle.tower_syntax.specs.View.stmts_of (f j)) (Rattle.tower_syntax.specs.View.stmts_of ((k j).trees));
      binders = (k j).binders;
      writable = (k j).writable;
    })))

joined_same : (d e : Walked) (r q : Result AllWalked TypeFault) → low d ≡ low e → Same all_low r q → Same all_low (joined d r) (joined e q)
joined_same d e (Ok r) (Ok q) h k =
    let l : all_low r ≡ all_low q = Rattle.printed_files.proofs.Sieved.some_same k.is in
    same_ok all_low _ _ (λ j. record { high = same_first d.high r.high e.high q.high (ap (λ w. w.high) h) (ap (λ w. w.high) l) j; trees = (h j).tree ∷ (l j).trees; binders = (l j).binders; writable = (l j).writable })
joined_same d e (Ok r) (Err f) h k = absurd (Rattle.printed_files.proofs.Sieved.some_none k.is)
joined_same d e (Err f) (Ok q) h k = absurd (Rattle.printed_files.proofs.Sieved.some_none (sym k.is))
joined_same d e (Err f) (Err g) h k = record { is = refl }

mutual
  walk_same : (γ : Known) (s : RawStmt Link) → Same low (walked γ s) (walked γ (bare_stmt s))
  walk_same γ (bind at i e) = same_then self low (typed γ e) (typed γ (bare_expr e)) _ _ (expr_same γ e) (λ x y h. let_same γ i e x y h)
  walk_same γ (local at i u) = same_ok low _ _ (λ j. record { high = false; tree = Rattle.tower_syntax.specs.Tree.local (length γ.binders); binders = γ.binders ++ (i.name, type_same u j) ∷ []; writable = γ.writable ++ true ∷ [] })
  walk_same γ (set at p e) =
      same_then self low (typed_place γ p) (typed_place γ (bare_place p)) _ _ (place_same γ p) (λ x y h.
      same_then self low (behind (high_place p) (typed γ e)) (behind (high_place (bare_place p)) (typed γ (bare_expr e))) _ _ (same_behind self _ _ _ _ (expr_same γ e)) (λ u v k. set_same γ p e x y u v h k))
  walk_same γ (copy at p q) =
      same_then self low (typed_place γ p) (typed_place γ (bare_place p)) _ _ (place_same γ p) (λ x y h.
      same_then self low (behind (high_place p) (typed_place γ q)) (behind (high_place (bare_place p)) (typed_place γ (bare_place q))) _ _ (same_behind self _ _ _ _ (place_same γ q)) (λ u v k. copy_same γ p q x y u v h k))
  walk_same γ (branch at c then_at a else_at b) =
      same_then self low (typed γ c) (typed γ (bare_expr c)) _ _ (expr_same γ c) (λ x y h.
      same_then all_low low (behind (high_expr c) (walked_all γ a)) (behind (high_expr (bare_expr c)) (walked_all γ (bare_stmts a))) _ _ (same_behind all_low _ _ _ _ (walk_all_same γ a)) (λ l m k.
      let high = same_first (high_expr c) l.high (high_expr (bare_expr c)) m.high (expr_high c) (ap (λ w. w.high) k) in
      same_then all_low low
      (behind (first_high (high_expr c) l.high) (walked_all (with_binders γ l.binders l.writable) b))
      (behind (first_high (high_expr (bare_expr c)) m.high) (walked_all (with_binders γ m.binders m.writable) (bare_stmts b))) _ _
      (same_behind all_low _ _ _ _ (subst (λ w. Same all_low (walked_all (with_binders γ l.binders l.writable) b) (walked_all (with_binders γ w.binders w.writable) (bare_stmts b))) k (walk_all_same (with_binders γ l.binders l.writable) b)))
      (λ r q e. branch_same γ.names c x y _ _ l.trees m.trees r q h high (ap (λ w. w.trees) k) e)))
  walk_same γ (loop at i n body) =
      same_then all_low low (walked_all (binding γ i.name (scalar (is.Ix n)) false) body) (walked_all (binding γ i.name (scalar (is.Ix n)) false) (bare_stmts body)) _ _ (walk_all_same (binding γ i.name (scalar (is.Ix n)) false) body) (λ r q k.
      same_ok low _ _ (λ j. record { high = (k j).high; tree = Rattle.tower_syntax.specs.Tree.loop (length γ.binders) n (Rattle.tower_syntax.specs.View.stmts_of ((k j).trees)); binders = (k j).binders; writable = (k j).writable }))
  walk_same γ (emit at u e) = same_then self low (typed γ e) (typed γ (bare_expr e)) _ _ (expr_same γ e) (λ x y h. emit_same γ (emitter_number u.target) e x y h)

  pub walk_all_same : (γ : Known) (ss : RawStmts Link) → Same all_low (walked_all γ ss) (walked_all γ (bare_stmts ss))
  walk_all_same γ no_stmts = record { is = refl }
  walk_all_same γ (stmt s ss) =
      same_then low all_low (walked γ s) (walked γ (bare_stmt s)) _ _ (walk_same γ s) (λ d e h.
      joined_same d e _ _ h (subst (λ w. Same all_low (walked_all (with_binders γ d.binders d.writable) ss) (walked_all (with_binders γ w.binders w.writable) (bare_stmts ss))) h (walk_all_same (with_binders γ d.binders d.writable) ss)))
