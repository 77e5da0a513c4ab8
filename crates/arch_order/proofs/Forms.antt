-- Each row of the table makes of parts that lie in text order a part that lies in its text.
use Rattle.std.proofs.Common.{◌≡◌, ℕ, zero, suc, ◌+◌, ◌<◌, ◌≤◌, List, [], ◌∷◌, length, filter_map, Bool, true, false, ◌&&◌, Option, Some, None, find, refl, subst, arith}
use Rattle.std.specs.List.{cons_option}
use Rattle.std.proofs.lemmas.List.{get_or_past}
use Rattle.tower_types.specs.declared.scalar.Scalar.{Scalar}
use Rattle.tower_types.specs.declared.scalar.Scalar.TheVariants as scalar
use Rattle.tower_types.specs.declared.scalar.BinOp.{BinOp}
use Rattle.tower_types.specs.declared.scalar.UnOp.{UnOp}
use Rattle.tower_syntax.specs.RawTree.{Id, RawStmt}
use Rattle.tower_syntax.specs.RawView.{raw_stmts_of}
use Rattle.tower_reader.specs.declared.table.Place.{Place}
use Rattle.tower_reader.specs.declared.table.Place.TheVariants as place
use Rattle.tower_reader.specs.declared.table.Row.{Row}
use Rattle.tower_reader.specs.declared.table.Row.TheVariants as row
use Rattle.tower_reader.specs.declared.table.ItemRow.TheVariants as item
use Rattle.tower_reader.specs.declared.table.PartRow.TheVariants as part
use Rattle.tower_reader.specs.declared.table.StmtRow.TheVariants as stmt
use Rattle.tower_reader.specs.declared.table.ExprRow.TheVariants as expr
use Rattle.tower_reader.specs.Table.{rule, rows, place_at}
use Rattle.tower_reader.specs.Part.{Part, as_name, as_number, as_type, as_place, as_expr, block_at, as_block, as_tower, if_stmt, if_field, if_hpart, if_part, if_item, stmts, first, second, third, rest, build}
use Rattle.arch_types.specs.Numbered.{IsIndexRange}
use Rattle.arch_order.proofs.Lists.{AllOf, found}
use Rattle.arch_order.proofs.InText.{Then, One, Two, Three, AllLie, IdLies, NumberLies, TypeLies, PlaceLies, ExprLies, BlockLies, StmtLies, StmtsLie, FieldLies, HpartLies, PartLies, ItemLies, TowerLies}

-- it is there, and lies so
abbrev pub Just : {X : Type 0} → (X → ℕ → ℕ → Type 0) → Option X → ℕ → ℕ → Type 0
Just P None a b = ⊥
Just P (Some x) a b = P x a b

-- a part at a place, in n lists, lies from `a` on and before `b`
abbrev pub Lies : Place → ℕ → Part → ℕ → ℕ → Type 0
Lies place.Nowhere n x a b = Unit {0}
Lies place.Name n x a b = IdLies (as_name x) a b
Lies place.Use n x a b = IdLies (as_name x) a b
Lies place.Priority n x a b = NumberLies 0 255 (as_number x) a b
Lies place.Period n x a b = NumberLies 1 1000000 (as_number x) a b
Lies place.Depth n x a b = NumberLies 1 64 (as_number x) a b
Lies place.Bound n x a b = NumberLies 0 65536 (as_number x) a b
Lies place.Size n x a b = NumberLies 1 65536 (as_number x) a b
Lies place.Times n x a b = NumberLies 1 65536 (as_number x) a b
Lies place.Length n x a b = NumberLies 1 4096 (as_number x) a b
Lies place.Literal n x a b = a < b
Lies place.Tower n x a b = TowerLies n (as_tower x) a b
Lies place.Item n x a b = Just (ItemLies false n) (if_item x) a b
Lies place.Item2 n x a b = Just (ItemLies true n) (if_item x) a b
Lies place.Field n x a b = Just (FieldLies n) (if_field x) a b
Lies place.Part n x a b = Just (PartLies n) (if_part x) a b
Lies place.Hpart n x a b = Just (HpartLies n) (if_hpart x) a b
Lies place.Type n x a b = TypeLies n (as_type x) a b
Lies place.Stmt n x a b = Just (StmtLies n) (if_stmt x) a b
Lies place.Then n x a b = BlockLies (block_at x) (StmtsLie (suc n) (as_block x)) a b
Lies place.Else n x a b = BlockLies (block_at x) (StmtsLie (suc n) (as_block x)) a b
Lies place.Place n x a b = PlaceLies n (as_place x) a b
Lies place.Expr n x a b = ExprLies n (as_expr x) a b

-- the parts of a row from the i-th on
abbrev pub PartsLie : Row → ℕ → ℕ → List Part → ℕ → ℕ → Type 0
PartsLie r i n [] a b = a ≤ b
PartsLie r i n (x ∷ xs) a b = (c : ℕ) × (a < c) × Lies (place_at r i) n x a c × PartsLie r (i + 1) n xs c b

parts_order : (r : Row) (i n : ℕ) (xs : List Part) (a b : ℕ) → PartsLie r i n xs a b → a ≤ b
parts_order r i n [] a b t = t
parts_order r i n (x ∷ xs) a b t = let k = parts_order r (i + 1) n xs t.0 b t.3 in omega (arith, t.1, k)

-- the first parts

head : (r : Row) (i n : ℕ) (xs : List Part) (a b : ℕ) → 1 ≤ length xs → PartsLie r i n xs a b → Then (Lies (place_at r i) n (first xs)) (PartsLie r (i + 1) n (rest xs)) a b
head r i n [] a b k t = absurd (omega (arith, k))
head r i n (x ∷ xs) a b k t = (t.0, t.2, t.3)

one : (r : Row) (n : ℕ) (xs : List Part) (a b : ℕ) → 1 ≤ length xs → PartsLie r 0 n xs a b → One (Lies (place_at r 0) n (first xs)) a b
one r n [] a b k t = absurd (omega (arith, k))
one r n (x ∷ xs) a b k t = (t.0, t.2, parts_order r (0 + 1) n xs t.0 b t.3)

two : (r : Row) (n : ℕ) (xs : List Part) (a b : ℕ) → 2 ≤ length xs → PartsLie r 0 n xs a b → Two (Lies (place_at r 0) n (first xs)) (Lies (place_at r 1) n (second xs)) a b
two r n [] a b k t = absurd (omega (arith, k))
two r n (x ∷ []) a b k t = absurd (omega (arith, k))
two r n (x ∷ y ∷ xs) a b k t = (t.0, t.2, (t.3.0, t.3.2, parts_order r 2 n xs t.3.0 b t.3.3))

three : (r : Row) (n : ℕ) (xs : List Part) (a b : ℕ) → 3 ≤ length xs → PartsLie r 0 n xs a b → Three (Lies (place_at r 0) n (first xs)) (Lies (place_at r 1) n (second xs)) (Lies (place_at r 2) n (third xs)) a b
three r n [] a b k t = absurd (omega (arith, k))
three r n (x ∷ []) a b k t = absurd (omega (arith, k))
three r n (x ∷ y ∷ []) a b k t = absurd (omega (arith, k))
three r n (x ∷ y ∷ z ∷ xs) a b k t = (t.0, t.2, (t.3.0, t.3.2, (t.3.3.0, t.3.3.2, parts_order r 3 n xs t.3.3.0 b t.3.3.3)))

-- all parts from the i-th on, which are of one kind
module _ {X : Type 0} (of : Part → Option X) (P : X → ℕ → ℕ → Type 0) (q : Place) (n : ℕ) (is : (x : Part) (a b : ℕ) → Lies q n x a b → Just P (of x) a b) where
  all_by : (o : Option X) (xs : List X) (a c b : ℕ) → a < c → Just P o a c → AllLie P xs c b → AllLie P (cons_option o xs) a b
  all_by None xs a c b l h t = absurd h
  all_by (Some x) xs a c b l h t = (c, l, h, t)

  all_of : (r : Row) (i : ℕ) (xs : List Part) (a b : ℕ) → ((j : ℕ) → i ≤ j → place_at r j ≡ q) → PartsLie r i n xs a b → AllLie P (filter_map of xs) a b
  all_of r i [] a b h t = t
  all_of r i (x ∷ xs) a b h t = all_by (of x) (filter_map of xs) a t.0 b t.1 (is x a t.0 (subst (λ p. Lies p n x a t.0) (h i (omega arith)) t.2)) (all_of r (i + 1) xs t.0 b (λ j l. h j (omega (arith, l))) t.3)

stmts_lie : (n : ℕ) (ss : List (RawStmt Id)) (a b : ℕ) → n ≤ 256 → AllLie (StmtLies n) ss a b → StmtsLie n (raw_stmts_of ss) a b
stmts_lie n [] a b h t = (t, h)
stmts_lie n (s ∷ ss) a b h t = (t.0, t.2, stmts_lie n ss t.0 b h t.3)

-- statements from the i-th part on
all_stmts : (r : Row) (i n : ℕ) (xs : List Part) (a b : ℕ) → n ≤ 256 → ((j : ℕ) → i ≤ j → place_at r j ≡ place.Stmt) → PartsLie r i n xs a b → StmtsLie n (stmts xs) a b
all_stmts r i n xs a b h e t = stmts_lie n (filter_map if_stmt xs) a b h (all_of if_stmt (StmtLies n) place.Stmt n (λ x a b l. l) r i xs a b e t)

-- ---- the rows

-- what a row makes of its children's parts lies where the list does
abbrev pub Makes : Place → Row → Type 0
Makes p r = (n at : ℕ) (xs : List Part) (a b : ℕ) → a ≤ at → n < 256 → length (rule r).places ≤ length xs → PartsLie r 0 (suc n) xs (at + 1) b → Lies p n (build r at xs) a b

makes_tower : Makes place.Tower row.Tower
makes_tower n at xs a b h m k t =
    let x = head row.Tower 0 (suc n) xs (at + 1) b k t in
    (h, omega arith, omega arith, (x.0, x.1, all_of if_item (ItemLies false (suc n)) place.Item (suc n) (λ x a b l. l) row.Tower 1 (rest xs) x.0 b (λ j l. get_or_past (place.Name ∷ []) j place.Item l) x.2))

makes_tower2 : Makes place.Tower row.Tower2
makes_tower2 n at xs a b h m k t =
    let x = head row.Tower2 0 (suc n) xs (at + 1) b k t in
    (h, omega arith, omega arith, (x.0, x.1, all_of if_item (ItemLies true (suc n)) place.Item2 (suc n) (λ x a b l. l) row.Tower2 1 (rest xs) x.0 b (λ j l. get_or_past (place.Name ∷ []) j place.Item2 l) x.2))

field_at : (j : ℕ) → 1 ≤ j → place_at (row.Item item.Record) j ≡ place.Field
field_at zero l = absurd (omega (arith, l))
field_at (suc zero) l = refl
field_at (suc (suc j)) l = get_or_past (place.Name ∷ place.Field ∷ []) (suc (suc j)) place.Field (omega arith)

-- an item of either version
abbrev MakesItem : Bool → Row → Type 0
MakesItem deep r = (n at : ℕ) (xs : List Part) (a b : ℕ) → a ≤ at → n < 256 → length (rule r).places ≤ length xs → PartsLie r 0 (suc n) xs (at + 1) b → Just (ItemLies deep n) (if_item (build r at xs)) a b

makes_record : (deep : Bool) → MakesItem deep (row.Item item.Record)
makes_record deep n at xs a b h m k t =
    let x = head (row.Item item.Record) 0 (suc n) xs (at + 1) b (omega (arith, k)) t in
    (h, (x.0, x.1, all_of if_field (FieldLies (suc n)) place.Field (suc n) (λ x a b l. l) (row.Item item.Record) 1 (rest xs) x.0 b field_at x.2))

makes_init : (deep : Bool) → MakesItem deep (row.Item item.Init)
makes_init deep n at xs a b h m k t = (h, one (row.Item item.Init) (suc n) xs (at + 1) b (omega (arith, k)) t)

makes_period : MakesItem false (row.Item item.Period)
makes_period n at xs a b h m k t = (h, two (row.Item item.Period) (suc n) xs (at + 1) b (omega (arith, k)) t, refl)

makes_period2 : MakesItem true (row.Item item.Period2)
makes_period2 n at xs a b h m k t = (h, two (row.Item item.Period2) (suc n) xs (at + 1) b (omega (arith, k)) t, refl)

makes_signal : MakesItem false (row.Item item.Signal)
makes_signal n at xs a b h m k t = (h, two (row.Item item.Signal) (suc n) xs (at + 1) b (omega (arith, k)) t, refl)

makes_signal2 : MakesItem true (row.Item item.Signal2)
makes_signal2 n at xs a b h m k t = (h, two (row.Item item.Signal2) (suc n) xs (at + 1) b (omega (arith, k)) t, refl)

makes_channel : (deep : Bool) → MakesItem deep (row.Item item.Channel)
makes_channel deep n at xs a b h m k t = (h, two (row.Item item.Channel) (suc n) xs (at + 1) b k t)

makes_output : (deep : Bool) → MakesItem deep (row.Item item.Output)
makes_output deep n at xs a b h m k t = (h, two (row.Item item.Output) (suc n) xs (at + 1) b k t)

makes_monitor : (deep : Bool) → MakesItem deep (row.Item item.Monitor)
makes_monitor deep n at xs a b h m k t =
    let x = head (row.Item item.Monitor) 0 (suc n) xs (at + 1) b k t in
    (h, (x.0, x.1, all_of if_part (PartLies (suc n)) place.Part (suc n) (λ x a b l. l) (row.Item item.Monitor) 1 (rest xs) x.0 b (λ j l. get_or_past (place.Name ∷ []) j place.Part l) x.2))

makes_field : Makes place.Field (row.Part part.Field)
makes_field n at xs a b h m k t = (h, two (row.Part part.Field) (suc n) xs (at + 1) b k t)

makes_state : Makes place.Part (row.Part part.State)
makes_state n at xs a b h m k t = (h, two (row.Part part.State) (suc n) xs (at + 1) b k t)

makes_handler : Makes place.Part (row.Part part.Handler)
makes_handler n at xs a b h m k t =
    let x = head (row.Part part.Handler) 0 (suc n) xs (at + 1) b (omega (arith, k)) t in
    let y = head (row.Part part.Handler) 1 (suc n) (rest xs) x.0 b (more xs k) x.2 in
    (h, (x.0, x.1, (y.0, y.1, all_of if_hpart (HpartLies (suc n)) place.Hpart (suc n) (λ x a b l. l) (row.Part part.Handler) 2 (rest (rest xs)) y.0 b (λ j l. get_or_past (place.Name ∷ place.Use ∷ []) j place.Hpart l) y.2)))
  where
    more : (xs : List Part) → 2 ≤ length xs → 1 ≤ length (rest xs)
    more [] k = absurd (omega (arith, k))
    more (x ∷ xs) k = omega (arith, k)

makes_emitter : Makes place.Hpart (row.Part part.Emitter)
makes_emitter n at xs a b h m k t = (h, two (row.Part part.Emitter) (suc n) xs (at + 1) b (omega (arith, k)) t)

makes_callback : Makes place.Hpart (row.Part part.Callback)
makes_callback n at xs a b h m k t =
    let x = head (row.Part part.Callback) 0 (suc n) xs (at + 1) b k t in
    (h, (x.0, x.1, all_stmts (row.Part part.Callback) 1 (suc n) (rest xs) x.0 b m (λ j l. get_or_past (place.Name ∷ []) j place.Stmt l) x.2))

makes_ix : Makes place.Type (row.Part part.Ix)
makes_ix n at xs a b h m k t =
    let x = one (row.Part part.Ix) (suc n) xs (at + 1) b k t in
    ((h, omega (arith, x.1.0, x.2), omega (arith, m)), (x.1.1, x.1.2))

makes_array : Makes place.Type (row.Part part.Array)
makes_array n at xs a b h m k t = (h, two (row.Part part.Array) (suc n) xs (at + 1) b k t)

makes_let : Makes place.Stmt (row.Stmt stmt.Let)
makes_let n at xs a b h m k t = (h, two (row.Stmt stmt.Let) (suc n) xs (at + 1) b k t)

makes_local : Makes place.Stmt (row.Stmt stmt.Local)
makes_local n at xs a b h m k t = (h, two (row.Stmt stmt.Local) (suc n) xs (at + 1) b k t)

makes_set : Makes place.Stmt (row.Stmt stmt.Set)
makes_set n at xs a b h m k t = (h, two (row.Stmt stmt.Set) (suc n) xs (at + 1) b k t)

makes_copy : Makes place.Stmt (row.Stmt stmt.Copy)
makes_copy n at xs a b h m k t = (h, two (row.Stmt stmt.Copy) (suc n) xs (at + 1) b k t)

makes_if : Makes place.Stmt (row.Stmt stmt.If)
makes_if n at xs a b h m k t = (h, three (row.Stmt stmt.If) (suc n) xs (at + 1) b k t)

makes_then : Makes place.Then (row.Stmt stmt.Then)
makes_then n at xs a b h m k t = (h, all_stmts (row.Stmt stmt.Then) 0 (suc n) xs (at + 1) b m (λ j l. get_or_past [] j place.Stmt l) t)

makes_else : Makes place.Else (row.Stmt stmt.Else)
makes_else n at xs a b h m k t = (h, all_stmts (row.Stmt stmt.Else) 0 (suc n) xs (at + 1) b m (λ j l. get_or_past [] j place.Stmt l) t)

makes_for : Makes place.Stmt (row.Stmt stmt.For)
makes_for n at xs a b h m k t =
    let x = head (row.Stmt stmt.For) 0 (suc n) xs (at + 1) b (omega (arith, k)) t in
    let y = head (row.Stmt stmt.For) 1 (suc n) (rest xs) x.0 b (more xs k) x.2 in
    (h, (x.0, x.1, (y.0, y.1, all_stmts (row.Stmt stmt.For) 2 (suc n) (rest (rest xs)) y.0 b m (λ j l. get_or_past (place.Name ∷ place.Times ∷ []) j place.Stmt l) y.2)))
  where
    more : (xs : List Part) → 2 ≤ length xs → 1 ≤ length (rest xs)
    more [] k = absurd (omega (arith, k))
    more (x ∷ xs) k = omega (arith, k)

makes_emit : Makes place.Stmt (row.Stmt stmt.Emit)
makes_emit n at xs a b h m k t = (h, two (row.Stmt stmt.Emit) (suc n) xs (at + 1) b k t)

makes_get : Makes place.Place (row.Expr expr.Get)
makes_get n at xs a b h m k t = (h, two (row.Expr expr.Get) (suc n) xs (at + 1) b k t)

makes_at : Makes place.Place (row.Expr expr.At)
makes_at n at xs a b h m k t = (h, two (row.Expr expr.At) (suc n) xs (at + 1) b k t)

makes_lit : (s : Scalar) → IsIndexRange s → Makes place.Expr (row.Expr (expr.Lit s))
makes_lit s i n at xs a b h m k t = ((h, omega (arith, parts_order (row.Expr (expr.Lit s)) 0 (suc n) xs (at + 1) b t), omega (arith, m)), i)

makes_lit_ix : Makes place.Expr (row.Expr expr.LitIx)
makes_lit_ix n at xs a b h m k t =
    let x = one (row.Expr expr.LitIx) (suc n) xs (at + 1) b (omega (arith, k)) t in
    ((h, omega (arith, x.1.0, x.2), omega (arith, m)), (x.1.1, x.1.2))

makes_bin : (o : BinOp) → Makes place.Expr (row.Expr (expr.Bin o))
makes_bin o n at xs a b h m k t = (h, two (row.Expr (expr.Bin o)) (suc n) xs (at + 1) b k t)

makes_un : (o : UnOp) → Makes place.Expr (row.Expr (expr.Un o))
makes_un o n at xs a b h m k t = (h, one (row.Expr (expr.Un o)) (suc n) xs (at + 1) b k t)

makes_cond : Makes place.Expr (row.Expr expr.Cond)
makes_cond n at xs a b h m k t = (h, three (row.Expr expr.Cond) (suc n) xs (at + 1) b k t)

makes_cast : Makes place.Expr (row.Expr expr.Cast)
makes_cast n at xs a b h m k t = (h, two (row.Expr expr.Cast) (suc n) xs (at + 1) b k t)

-- ---- the places

-- a row of an expression; its literals have no index type but that of a row of its own
abbrev is_expr : Row → Bool
is_expr (row.Expr (expr.Lit (scalar.Ix n))) = false
is_expr (row.Expr e) = true
is_expr r = false

no_index : (s : Scalar) → is_expr (row.Expr (expr.Lit s)) ≡ true → IsIndexRange s
no_index (scalar.Ix n) e = cc
no_index s e = tt

makes_expr : (r : Row) → is_expr r ≡ true → Makes place.Expr r
makes_expr (row.Expr expr.Get) e = makes_get
makes_expr (row.Expr expr.At) e = makes_at
makes_expr (row.Expr (expr.Lit s)) e = makes_lit s (no_index s e)
makes_expr (row.Expr expr.LitIx) e = makes_lit_ix
makes_expr (row.Expr (expr.Bin o)) e = makes_bin o
makes_expr (row.Expr (expr.Un o)) e = makes_un o
makes_expr (row.Expr expr.Cond) e = makes_cond
makes_expr (row.Expr expr.Cast) e = makes_cast
makes_expr r e = cc

abbrev all_exprs : List Row → Bool
all_exprs [] = true
all_exprs (r ∷ rs) = is_expr r && all_exprs rs

both_true : (x y : Bool) → x && y ≡ true → (x ≡ true) × (y ≡ true)
both_true true y e = (refl, e)
both_true false y e = cc

make_exprs : (rs : List Row) → all_exprs rs ≡ true → AllOf (Makes place.Expr) rs
make_exprs [] e = tt
make_exprs (r ∷ rs) e = let k = both_true (is_expr r) (all_exprs rs) e in (makes_expr r k.0, make_exprs rs k.1)

all_make : (p : Place) → AllOf (Makes p) (rows p)
all_make place.Tower = (makes_tower, (makes_tower2, tt))
all_make place.Item = (makes_record false, (makes_init false, (makes_period, (makes_signal, (makes_channel false, (makes_output false, (makes_monitor false, tt)))))))
all_make place.Item2 = (makes_record true, (makes_init true, (makes_period2, (makes_signal2, (makes_channel true, (makes_output true, (makes_monitor true, tt)))))))
all_make place.Field = (makes_field, tt)
all_make place.Part = (makes_state, (makes_handler, tt))
all_make place.Hpart = (makes_emitter, (makes_callback, tt))
all_make place.Type = (makes_ix, (makes_array, tt))
all_make place.Stmt = (makes_let, (makes_local, (makes_set, (makes_copy, (makes_if, (makes_for, (makes_emit, tt)))))))
all_make place.Then = (makes_then, tt)
all_make place.Else = (makes_else, tt)
all_make place.Place = (makes_get, (makes_at, tt))
all_make place.Expr = make_exprs (rows place.Expr) refl
all_make p = tt

-- a row of a place makes a part that lies so
pub row_makes : (p : Place) (f : Row → Bool) (r : Row) → find f (rows p) ≡ Some r → Makes p r
row_makes p f r e = found (Makes p) f (rows p) r (all_make p) e
