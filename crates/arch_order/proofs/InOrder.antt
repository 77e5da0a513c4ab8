-- The names of a file that lies in a text stand in text order.
use Rattle.std.proofs.Common.{ℕ, suc, ◌+◌, ◌<◌, ◌≤◌, List, [], ◌∷◌, ◌++◌, Bool, arith}
use Rattle.tower_syntax.specs.RawTree.{Id, RawType, word, rec, array, RawPlace, root, get, index, RawExpr, truth, read, lit, un, bin, choose, cast, RawStmt, bind, local, set, copy, branch, loop, emit, RawStmts, no_stmts, stmt, RawField, RawHpart, emitter, callback, RawPart, state, handler, RawItem, fields, init, period, signal, channel, output, monitor, Raw}
use Rattle.tower_reader.specs.Spelled.{Spells}
use Rattle.arch_names.specs.Sets.{each}
use Rattle.arch_names.specs.Written.{in_type, in_place, in_expr, in_stmt, in_stmts, in_hpart, in_part, in_field, in_item, written, IsBelow, AreAscending, Ascends}
use Rattle.arch_order.proofs.InText.{Then, One, Two, Three, AllLie, IdLies, TypeLies, PlaceLies, ExprLies, BlockLies, StmtLies, StmtsLie, FieldLies, HpartLies, PartLies, ItemLies, TowerLies}
use Rattle.arch_order.proofs.Kept.{file_lies}

-- offsets ascend, from `a` on and before `b`
abbrev pub Between : List ℕ → ℕ → ℕ → Type 0
Between [] a b = a ≤ b
Between (n ∷ ns) a b = (a ≤ n) × Between ns (n + 1) b

from : (ns : List ℕ) (a c b : ℕ) → a ≤ c → Between ns c b → Between ns a b
from [] a c b h t = omega (arith, h, t)
from (n ∷ ns) a c b h t = (omega (arith, h, t.0), t.1)

up_to : (ns : List ℕ) (a c b : ℕ) → c ≤ b → Between ns a c → Between ns a b
up_to [] a c b h t = omega (arith, h, t)
up_to (n ∷ ns) a c b h t = (t.0, up_to ns (n + 1) c b h t.1)

pub order : (ns : List ℕ) (a b : ℕ) → Between ns a b → a ≤ b
order [] a b t = t
order (n ∷ ns) a b t = let k = order ns (n + 1) b t.1 in omega (arith, t.0, k)

both : (xs ys : List ℕ) (a c b : ℕ) → Between xs a c → Between ys c b → Between (xs ++ ys) a b
both [] ys a c b s t = from ys a c b s t
both (x ∷ xs) ys a c b s t = (s.0, both xs ys (x + 1) c b s.1 t)

-- the names of a part that lies so stand there
abbrev pub Names : (ℕ → ℕ → Type 0) → List ℕ → Type 0
Names P ns = (a b : ℕ) → P a b → Between ns a b

behind : (ns : List ℕ) (a at b : ℕ) → a ≤ at → Between ns (at + 1) b → Between ns a b
behind ns a at b h t = from ns a (at + 1) b (omega (arith, h)) t

then_in : (P Q : ℕ → ℕ → Type 0) (xs ys : List ℕ) → Names P xs → Names Q ys → Names (Then P Q) (xs ++ ys)
then_in P Q xs ys f g a b t = both xs ys a t.0 b (f a t.0 t.1) (g t.0 b t.2)

one_in : (P : ℕ → ℕ → Type 0) (xs : List ℕ) → Names P xs → Names (One P) xs
one_in P xs f a b t = up_to xs a t.0 b t.2 (f a t.0 t.1)

two_in : (P Q : ℕ → ℕ → Type 0) (xs ys : List ℕ) → Names P xs → Names Q ys → Names (Two P Q) (xs ++ ys)
two_in P Q xs ys f g = then_in P (One Q) xs ys f (one_in Q ys g)

three_in : (P Q R : ℕ → ℕ → Type 0) (xs ys zs : List ℕ) → Names P xs → Names Q ys → Names R zs → Names (Three P Q R) ((xs ++ ys) ++ zs)
three_in P Q R xs ys zs f g h a b t = both (xs ++ ys) zs a t.2.0 b (both xs ys a t.0 t.2.0 (f a t.0 t.1) (g t.0 t.2.0 t.2.1)) (one_in R zs h t.2.0 b t.2.2)

all_in : {X : Type 0} (P : X → ℕ → ℕ → Type 0) (of : X → List ℕ) → ((x : X) → Names (P x) (of x)) → (xs : List X) → Names (AllLie P xs) (each of xs)
all_in P of f [] a b t = t
all_in P of f (x ∷ xs) a b t = both (of x) (each of xs) a t.0 b (f x a t.0 t.2) (all_in P of f xs t.0 b t.3)

id_in : (x : Id) → Names (IdLies x) (x.at ∷ [])
id_in x a b t = (t.0, omega (arith, t.1))

pub type_in : (t : RawType Id) (n : ℕ) → Names (TypeLies n t) (in_type t)
type_in (word at s) n a b h = omega (arith, h.0.0, h.0.1)
type_in (rec u) n a b h = (h.0, omega (arith, h.1))
type_in (array at len t) n a b h =
    let k = type_in t (suc n) h.1.0 h.1.2.0 h.1.2.1 in
    from (in_type t) a h.1.0 b (omega (arith, h.0, h.1.1.0)) (up_to (in_type t) h.1.0 h.1.2.0 b h.1.2.2 k)

mutual
  pub place_in : (p : RawPlace Id) (n : ℕ) → Names (PlaceLies n p) (in_place p)
  place_in (root u) n a b h = (h.0, omega (arith, h.1))
  place_in (get at p f) n a b h =
      let k = place_in p (suc n) (at + 1) h.1.0 h.1.1 in
      behind (in_place p) a at b h.0 (up_to (in_place p) (at + 1) h.1.0 b (omega (arith, h.1.2.1.0, h.1.2.1.1, h.1.2.2)) k)
  place_in (index at p e) n a b h = behind (in_place p ++ in_expr e) a at b h.0 (two_in (PlaceLies (suc n) p) (ExprLies (suc n) e) (in_place p) (in_expr e) (place_in p (suc n)) (expr_in e (suc n)) (at + 1) b h.1)

  pub expr_in : (e : RawExpr Id) (n : ℕ) → Names (ExprLies n e) (in_expr e)
  expr_in (truth at v) n a b h = omega (arith, h.0, h.1)
  expr_in (read p) n a b h = place_in p n a b h
  expr_in (lit at s z) n a b h = omega (arith, h.0.0, h.0.1)
  expr_in (un at op x) n a b h = behind (in_expr x) a at b h.0 (one_in (ExprLies (suc n) x) (in_expr x) (expr_in x (suc n)) (at + 1) b h.1)
  expr_in (bin at op x y) n a b h = behind (in_expr x ++ in_expr y) a at b h.0 (two_in (ExprLies (suc n) x) (ExprLies (suc n) y) (in_expr x) (in_expr y) (expr_in x (suc n)) (expr_in y (suc n)) (at + 1) b h.1)
  expr_in (choose at x y z) n a b h = behind ((in_expr x ++ in_expr y) ++ in_expr z) a at b h.0 (three_in (ExprLies (suc n) x) (ExprLies (suc n) y) (ExprLies (suc n) z) (in_expr x) (in_expr y) (in_expr z) (expr_in x (suc n)) (expr_in y (suc n)) (expr_in z (suc n)) (at + 1) b h.1)
  expr_in (cast at t x) n a b h = behind (in_type t ++ in_expr x) a at b h.0 (two_in (TypeLies (suc n) t) (ExprLies (suc n) x) (in_type t) (in_expr x) (type_in t (suc n)) (expr_in x (suc n)) (at + 1) b h.1)

block_in : (at : ℕ) (P : ℕ → ℕ → Type 0) (xs : List ℕ) → Names P xs → Names (BlockLies at P) xs
block_in at P xs f a b t = behind xs a at b t.0 (f (at + 1) b t.1)

mutual
  pub stmt_in : (s : RawStmt Id) (n : ℕ) → Names (StmtLies n s) (in_stmt s)
  stmt_in (bind at x e) n a b h = behind (x.at ∷ in_expr e) a at b h.0 (two_in (IdLies x) (ExprLies (suc n) e) (x.at ∷ []) (in_expr e) (id_in x) (expr_in e (suc n)) (at + 1) b h.1)
  stmt_in (local at x t) n a b h = behind (x.at ∷ in_type t) a at b h.0 (two_in (IdLies x) (TypeLies (suc n) t) (x.at ∷ []) (in_type t) (id_in x) (type_in t (suc n)) (at + 1) b h.1)
  stmt_in (set at p e) n a b h = behind (in_place p ++ in_expr e) a at b h.0 (two_in (PlaceLies (suc n) p) (ExprLies (suc n) e) (in_place p) (in_expr e) (place_in p (suc n)) (expr_in e (suc n)) (at + 1) b h.1)
  stmt_in (copy at p q) n a b h = behind (in_place p ++ in_place q) a at b h.0 (two_in (PlaceLies (suc n) p) (PlaceLies (suc n) q) (in_place p) (in_place q) (place_in p (suc n)) (place_in q (suc n)) (at + 1) b h.1)
  stmt_in (branch at e then_at ss else_at ts) n a b h =
      let P = StmtsLie (suc (suc n)) ss in
      let Q = StmtsLie (suc (suc n)) ts in
      behind ((in_expr e ++ in_stmts ss) ++ in_stmts ts) a at b h.0
      (three_in (ExprLies (suc n) e) (BlockLies then_at P) (BlockLies else_at Q) (in_expr e) (in_stmts ss) (in_stmts ts) (expr_in e (suc n)) (block_in then_at P (in_stmts ss) (stmts_in ss (suc (suc n)))) (block_in else_at Q (in_stmts ts) (stmts_in ts (suc (suc n)))) (at + 1) b h.1)
  stmt_in (loop at x k body) n a b h =
      let l = stmts_in body (suc n) h.1.2.0 b h.1.2.2 in
      behind (x.at ∷ in_stmts body) a at b h.0 (h.1.1.0, from (in_stmts body) (x.at + 1) h.1.2.0 b (omega (arith, h.1.1.1, h.1.2.1.0)) l)
  stmt_in (emit at u e) n a b h = behind (u.at ∷ in_expr e) a at b h.0 (two_in (IdLies u) (ExprLies (suc n) e) (u.at ∷ []) (in_expr e) (id_in u) (expr_in e (suc n)) (at + 1) b h.1)

  pub stmts_in : (ss : RawStmts Id) (n : ℕ) → Names (StmtsLie n ss) (in_stmts ss)
  stmts_in no_stmts n a b h = h.0
  stmts_in (stmt s ss) n a b h = both (in_stmt s) (in_stmts ss) a h.0 b (stmt_in s n a h.0 h.1) (stmts_in ss n h.0 b h.2)

field_in : (n : ℕ) (f : RawField Id) → Names (FieldLies n f) (in_field f)
field_in n f a b h = behind (in_field f) a f.at b h.0 (two_in (IdLies f.name) (TypeLies (suc n) f.ty) (f.name.at ∷ []) (in_type f.ty) (id_in f.name) (type_in f.ty (suc n)) (f.at + 1) b h.1)

-- a name, and what stands behind it
name_and : (x : Id) (Q : ℕ → ℕ → Type 0) (ys : List ℕ) → Names Q ys → (a at b : ℕ) → a ≤ at → Then (IdLies x) Q (at + 1) b → Between (x.at ∷ ys) a b
name_and x Q ys f a at b h t = behind (x.at ∷ ys) a at b h (then_in (IdLies x) Q (x.at ∷ []) ys (id_in x) f (at + 1) b t)

hpart_in : (n : ℕ) (p : RawHpart Id) → Names (HpartLies n p) (in_hpart p)
hpart_in n (emitter at x u k) a b h = name_and x (One (IdLies u)) (u.at ∷ []) (one_in (IdLies u) (u.at ∷ []) (id_in u)) a at b h.0 h.1
hpart_in n (callback at x ss) a b h = name_and x (StmtsLie (suc n) ss) (in_stmts ss) (stmts_in ss (suc n)) a at b h.0 h.1

part_in : (n : ℕ) (p : RawPart Id) → Names (PartLies n p) (in_part p)
part_in n (state at x t) a b h = name_and x (One (TypeLies (suc n) t)) (in_type t) (one_in (TypeLies (suc n) t) (in_type t) (type_in t (suc n))) a at b h.0 h.1
part_in n (handler at x u hs) a b h =
    let P = AllLie (HpartLies (suc n)) hs in
    name_and x (Then (IdLies u) P) (u.at ∷ each in_hpart hs) (then_in (IdLies u) P (u.at ∷ []) (each in_hpart hs) (id_in u) (all_in (HpartLies (suc n)) in_hpart (hpart_in (suc n)) hs)) a at b h.0 h.1

item_in : (deep : Bool) (n : ℕ) (t : RawItem Id) → Names (ItemLies deep n t) (in_item t)
item_in deep n (fields at x fs) a b h = name_and x (AllLie (FieldLies (suc n)) fs) (each in_field fs) (all_in (FieldLies (suc n)) in_field (field_in (suc n)) fs) a at b h.0 h.1
item_in deep n (init at x p) a b h = behind (x.at ∷ []) a at b h.0 (one_in (IdLies x) (x.at ∷ []) (id_in x) (at + 1) b h.1)
item_in deep n (period at x ms p d) a b h = (omega (arith, h.0, h.1.1.0), omega (arith, h.1.1.1, h.1.2.1.0, h.1.2.2))
item_in deep n (signal at x t p d) a b h = name_and x (One (TypeLies (suc n) t)) (in_type t) (one_in (TypeLies (suc n) t) (in_type t) (type_in t (suc n))) a at b h.0 h.1
item_in deep n (channel at x t) a b h = name_and x (One (TypeLies (suc n) t)) (in_type t) (one_in (TypeLies (suc n) t) (in_type t) (type_in t (suc n))) a at b h.0 h.1
item_in deep n (output at x u) a b h = name_and x (One (IdLies u)) (u.at ∷ []) (one_in (IdLies u) (u.at ∷ []) (id_in u)) a at b h.0 h.1
item_in deep n (monitor at x ps) a b h = name_and x (AllLie (PartLies (suc n)) ps) (each in_part ps) (all_in (PartLies (suc n)) in_part (part_in (suc n)) ps) a at b h.0 h.1

below : (n : ℕ) (ns : List ℕ) (a b : ℕ) → n < a → Between ns a b → IsBelow n ns
below n [] a b h t = tt
below n (m ∷ ms) a b h t = (omega (arith, h, t.0), below n ms (m + 1) b (omega (arith, h, t.0)) t.1)

ascending : (ns : List ℕ) (a b : ℕ) → Between ns a b → AreAscending ns
ascending [] a b t = tt
ascending (n ∷ ns) a b t = (below n ns (n + 1) b (omega arith) t.1, ascending ns (n + 1) b t.1)

pub names_between : (raw : Raw Id) (a b : ℕ) → TowerLies 0 raw a b → Between (written raw) a b
names_between raw a b h = from (written raw) a h.3.0 b (omega (arith, h.0, h.3.1.0, h.3.1.1)) (all_in (ItemLies _ 1) in_item (item_in _ 1) raw.items h.3.0 b h.3.2)

pub names_ascend : (bs : List ℕ) (raw : Raw Id) → Spells bs raw → Ascends raw
names_ascend bs raw s = ascending (written raw) 0 _ (names_between raw 0 _ (file_lies bs raw s))
