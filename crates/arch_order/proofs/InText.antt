-- How the nodes of a file that was read lie in its text: each from a place on and before an end, its parts behind its
-- own offset and one behind the other, in at most 256 lists, and with numbers in their ranges.
use Rattle.std.proofs.Common.{◌≡◌, ℕ, suc, ◌+◌, ◌<◌, ◌≤◌, List, [], ◌∷◌, Bool, ◌==◌, is_some}
use Rattle.tower_syntax.specs.RawTree.{Id, RawType, word, rec, array, RawPlace, root, get, index, RawExpr, truth, read, lit, un, bin, choose, cast, RawStmt, bind, local, set, copy, branch, loop, emit, RawStmts, no_stmts, stmt, RawField, RawHpart, emitter, callback, RawPart, state, handler, RawItem, fields, init, period, signal, channel, output, monitor, Raw}
use Rattle.arch_types.specs.Numbered.{IsIndexRange}

-- one part, and then others, which begin where it ends
abbrev pub Then : (ℕ → ℕ → Type 0) → (ℕ → ℕ → Type 0) → ℕ → ℕ → Type 0
Then P Q a b = (c : ℕ) × P a c × Q c b

abbrev pub One : (ℕ → ℕ → Type 0) → ℕ → ℕ → Type 0
One P a b = (c : ℕ) × P a c × (c ≤ b)

abbrev pub Two : (ℕ → ℕ → Type 0) → (ℕ → ℕ → Type 0) → ℕ → ℕ → Type 0
Two P Q = Then P (One Q)

abbrev pub Three : (ℕ → ℕ → Type 0) → (ℕ → ℕ → Type 0) → (ℕ → ℕ → Type 0) → ℕ → ℕ → Type 0
Three P Q R = Then P (Two Q R)

-- a list of parts, each one behind the other
abbrev pub AllLie : {X : Type 0} → (X → ℕ → ℕ → Type 0) → List X → ℕ → ℕ → Type 0
AllLie P [] a b = a ≤ b
AllLie P (x ∷ xs) a b = (c : ℕ) × (a < c) × P x a c × AllLie P xs c b

abbrev pub IdLies : Id → ℕ → ℕ → Type 0
IdLies i a b = (a ≤ i.at) × (i.at < b)

-- an atom, or the head of a list, at this offset, in n lists
abbrev pub Leaf : ℕ → ℕ → ℕ → ℕ → Type 0
Leaf n at a b = (a ≤ at) × (at < b) × (n ≤ 256)

abbrev pub NumberLies : ℕ → ℕ → ℕ → ℕ → ℕ → Type 0
NumberLies low high n a b = (a < b) × (low ≤ n) × (n ≤ high)

-- n lists are open around the type
abbrev pub TypeLies : ℕ → RawType Id → ℕ → ℕ → Type 0
TypeLies n (word at s) a b = Leaf n at a b × IsIndexRange s
TypeLies n (rec u) a b = Leaf n u.at a b
TypeLies n (array at len t) a b = (a ≤ at) × Two (NumberLies 1 4096 len) (TypeLies (suc n) t) (at + 1) b

abbrev mutual
  pub PlaceLies : ℕ → RawPlace Id → ℕ → ℕ → Type 0
  PlaceLies n (root u) a b = Leaf n u.at a b
  PlaceLies n (get at p f) a b = (a ≤ at) × Two (PlaceLies (suc n) p) (IdLies f) (at + 1) b
  PlaceLies n (index at p e) a b = (a ≤ at) × Two (PlaceLies (suc n) p) (ExprLies (suc n) e) (at + 1) b

  pub ExprLies : ℕ → RawExpr Id → ℕ → ℕ → Type 0
  ExprLies n (truth at t) a b = Leaf n at a b
  ExprLies n (read p) a b = PlaceLies n p a b
  ExprLies n (lit at s z) a b = Leaf n at a b × IsIndexRange s
  ExprLies n (un at op x) a b = (a ≤ at) × One (ExprLies (suc n) x) (at + 1) b
  ExprLies n (bin at op x y) a b = (a ≤ at) × Two (ExprLies (suc n) x) (ExprLies (suc n) y) (at + 1) b
  ExprLies n (choose at x y z) a b = (a ≤ at) × Three (ExprLies (suc n) x) (ExprLies (suc n) y) (ExprLies (suc n) z) (at + 1) b
  ExprLies n (cast at t x) a b = (a ≤ at) × Two (TypeLies (suc n) t) (ExprLies (suc n) x) (at + 1) b

-- a list of statements under a head at this offset
abbrev pub BlockLies : ℕ → (ℕ → ℕ → Type 0) → ℕ → ℕ → Type 0
BlockLies at P a b = (a ≤ at) × P (at + 1) b

abbrev mutual
  pub StmtLies : ℕ → RawStmt Id → ℕ → ℕ → Type 0
  StmtLies n (bind at x e) a b = (a ≤ at) × Two (IdLies x) (ExprLies (suc n) e) (at + 1) b
  StmtLies n (local at x t) a b = (a ≤ at) × Two (IdLies x) (TypeLies (suc n) t) (at + 1) b
  StmtLies n (set at p e) a b = (a ≤ at) × Two (PlaceLies (suc n) p) (ExprLies (suc n) e) (at + 1) b
  StmtLies n (copy at p q) a b = (a ≤ at) × Two (PlaceLies (suc n) p) (PlaceLies (suc n) q) (at + 1) b
  StmtLies n (branch at e then_at ss else_at ts) a b =
      (a ≤ at) × Three (ExprLies (suc n) e) (BlockLies then_at (StmtsLie (suc (suc n)) ss)) (BlockLies else_at (StmtsLie (suc (suc n)) ts)) (at + 1) b
  StmtLies n (loop at x k body) a b = (a ≤ at) × Then (IdLies x) (Then (NumberLies 1 65536 k) (StmtsLie (suc n) body)) (at + 1) b
  StmtLies n (emit at u e) a b = (a ≤ at) × Two (IdLies u) (ExprLies (suc n) e) (at + 1) b

  pub StmtsLie : ℕ → RawStmts Id → ℕ → ℕ → Type 0
  StmtsLie n no_stmts a b = (a ≤ b) × (n ≤ 256)
  StmtsLie n (stmt s ss) a b = (c : ℕ) × StmtLies n s a c × StmtsLie n ss c b

abbrev pub FieldLies : ℕ → RawField Id → ℕ → ℕ → Type 0
FieldLies n f a b = (a ≤ f.at) × Two (IdLies f.name) (TypeLies (suc n) f.ty) (f.at + 1) b

abbrev pub HpartLies : ℕ → RawHpart Id → ℕ → ℕ → Type 0
HpartLies n (emitter at x u k) a b = (a ≤ at) × Two (IdLies x) (IdLies u) (at + 1) b
HpartLies n (callback at x ss) a b = (a ≤ at) × Then (IdLies x) (StmtsLie (suc n) ss) (at + 1) b

abbrev pub PartLies : ℕ → RawPart Id → ℕ → ℕ → Type 0
PartLies n (state at x t) a b = (a ≤ at) × Two (IdLies x) (TypeLies (suc n) t) (at + 1) b
PartLies n (handler at x u hs) a b = (a ≤ at) × Then (IdLies x) (Then (IdLies u) (AllLie (HpartLies (suc n)) hs)) (at + 1) b

-- whether its periods and signals have a depth
abbrev pub ItemLies : Bool → ℕ → RawItem Id → ℕ → ℕ → Type 0
ItemLies deep n (fields at x fs) a b = (a ≤ at) × Then (IdLies x) (AllLie (FieldLies (suc n)) fs) (at + 1) b
ItemLies deep n (init at x p) a b = (a ≤ at) × One (IdLies x) (at + 1) b
ItemLies deep n (period at x ms p d) a b = (a ≤ at) × Two (IdLies x) (NumberLies 1 1000000 ms) (at + 1) b × (is_some d ≡ deep)
ItemLies deep n (signal at x t p d) a b = (a ≤ at) × Two (IdLies x) (TypeLies (suc n) t) (at + 1) b × (is_some d ≡ deep)
ItemLies deep n (channel at x t) a b = (a ≤ at) × Two (IdLies x) (TypeLies (suc n) t) (at + 1) b
ItemLies deep n (output at x u) a b = (a ≤ at) × Two (IdLies x) (IdLies u) (at + 1) b
ItemLies deep n (monitor at x ps) a b = (a ≤ at) × Then (IdLies x) (AllLie (PartLies (suc n)) ps) (at + 1) b

abbrev pub TowerLies : ℕ → Raw Id → ℕ → ℕ → Type 0
TowerLies n r a b =
    (a ≤ r.at) × (1 ≤ r.version) × (r.version ≤ 2)
    × Then (IdLies r.name) (AllLie (ItemLies (r.version == 2) (suc n)) r.items) (r.at + 1) b
