-- What a text spells lies in it.
use Rattle.std.proofs.Common.{◌≡◌, ℕ, suc, ◌+◌, ◌<◌, ◌≤◌, List, length, Bool, true, false, cond, ◌&&◌, Option, Some, None, refl, ap, subst, arith, leb, leb-true, bytes_eq}
use Rattle.tower_types.specs.declared.scalar.Scalar.{Scalar}
use Rattle.tower_sexp.specs.Trees.{Tree, atom, list, Trees, no_trees, tree}
use Rattle.tower_syntax.specs.RawTree.{Id, word, rec, root, truth, Raw}
use Rattle.tower_syntax.specs.Words.{scalar_word}
use Rattle.tower_reader.specs.declared.table.Place.{Place}
use Rattle.tower_reader.specs.declared.table.Place.TheVariants as place
use Rattle.tower_reader.specs.declared.table.Atoms.TheVariants as atoms
use Rattle.tower_reader.specs.declared.table.Row.{Row}
use Rattle.tower_reader.specs.Words.{scalars, scalar_named}
use Rattle.tower_reader.specs.Table.{atoms_at, rule, head, row_of, place_at, count_fits}
use Rattle.tower_reader.specs.Part.{Part, a_name, a_number, a_type, a_place, an_expr, a_tower}
use Rattle.tower_reader.specs.Spelled.{count, fitting, id_at, Reads, names, names_place, names_record, names_value, says_scalar, says_truth, counts, counts_literal, has_row, ReadsAll, no_more, one_more, Spells}
use Rattle.arch_types.specs.Numbered.{IsIndexRange}
use Rattle.arch_order.proofs.Lists.{found}
use Rattle.arch_order.proofs.InText.{NumberLies, Leaf, TowerLies}
use Rattle.arch_order.proofs.Spans.{Stands, AllStand, tree_to, trees_from, text_stands}
use Rattle.arch_order.proofs.Forms.{Lies, PartsLie, row_makes}

-- ---- atoms

name_lies : (p : Place) (n at : ℕ) (w : List ℕ) (a b : ℕ) → atoms_at p ≡ atoms.Name → a ≤ at → at < b → Lies p n (a_name (id_at at w)) a b
name_lies place.Name n at w a b e h k = (h, k)
name_lies place.Use n at w a b e h k = (h, k)
name_lies _ n at w a b e h k = cc

place_lies : (p : Place) (n at : ℕ) (w : List ℕ) (a b : ℕ) → atoms_at p ≡ atoms.Place → Leaf n at a b → Lies p n (a_place (root (id_at at w))) a b
place_lies place.Place n at w a b e h = h
place_lies _ n at w a b e h = cc

value_lies : (p : Place) (n at : ℕ) (w : List ℕ) (a b : ℕ) → atoms_at p ≡ atoms.Expr → Leaf n at a b → Lies p n (a_place (root (id_at at w))) a b
value_lies place.Expr n at w a b e h = h
value_lies _ n at w a b e h = cc

truth_lies : (p : Place) (n at : ℕ) (v : Bool) (a b : ℕ) → atoms_at p ≡ atoms.Expr → Leaf n at a b → Lies p n (an_expr (truth at v)) a b
truth_lies place.Expr n at v a b e h = h
truth_lies _ n at v a b e h = cc

record_lies : (p : Place) (n at : ℕ) (w : List ℕ) (a b : ℕ) → atoms_at p ≡ atoms.Type → Leaf n at a b → Lies p n (a_type (rec (id_at at w))) a b
record_lies place.Type n at w a b e h = h
record_lies _ n at w a b e h = cc

scalar_lies : (p : Place) (n at : ℕ) (s : Scalar) (a b : ℕ) → atoms_at p ≡ atoms.Type → Leaf n at a b → IsIndexRange s → Lies p n (a_type (word at s)) a b
scalar_lies place.Type n at s a b e h i = (h, i)
scalar_lies _ n at s a b e h i = cc

number_lies : (p : Place) (n low high k a b : ℕ) → atoms_at p ≡ atoms.Number low high → NumberLies low high k a b → Lies p n (a_number k) a b
number_lies place.Priority n low high k a b e h = let i : 0 ≡ low = cc in let j : 255 ≡ high = cc in (h.0, omega (arith, i, h.1), omega (arith, j, h.2))
number_lies place.Period n low high k a b e h = let i : 1 ≡ low = cc in let j : 1000000 ≡ high = cc in (h.0, omega (arith, i, h.1), omega (arith, j, h.2))
number_lies place.Depth n low high k a b e h = let i : 1 ≡ low = cc in let j : 64 ≡ high = cc in (h.0, omega (arith, i, h.1), omega (arith, j, h.2))
number_lies place.Bound n low high k a b e h = let i : 0 ≡ low = cc in let j : 65536 ≡ high = cc in (h.0, omega (arith, i, h.1), omega (arith, j, h.2))
number_lies place.Size n low high k a b e h = let i : 1 ≡ low = cc in let j : 65536 ≡ high = cc in (h.0, omega (arith, i, h.1), omega (arith, j, h.2))
number_lies place.Times n low high k a b e h = let i : 1 ≡ low = cc in let j : 65536 ≡ high = cc in (h.0, omega (arith, i, h.1), omega (arith, j, h.2))
number_lies place.Length n low high k a b e h = let i : 1 ≡ low = cc in let j : 4096 ≡ high = cc in (h.0, omega (arith, i, h.1), omega (arith, j, h.2))
number_lies _ n low high k a b e h = cc

literal_lies : (p : Place) (n : ℕ) (x : Part) (a b : ℕ) → atoms_at p ≡ atoms.Literal → a < b → Lies p n x a b
literal_lies place.Literal n x a b e h = h
literal_lies _ n x a b e h = cc

-- a scalar with a word of its own is no index
no_index : (w : List ℕ) (s : Scalar) → scalar_named w ≡ Some s → IsIndexRange s
no_index w s e = found IsIndexRange (λ x. bytes_eq (scalar_word x) w) scalars s (tt, (tt, (tt, (tt, (tt, (tt, (tt, (tt, (tt, tt))))))))) e

-- ---- lists

headed_by : (q r : Row) (n : ℕ) (b : Bool) → count_fits q n ≡ b → cond b (Some q) None ≡ Some r → (q ≡ r) × (count_fits r n ≡ true)
headed_by q r n true k e = let i : q ≡ r = cc in (i, subst (λ q. count_fits q n ≡ true) i k)
headed_by q r n false k e = cc

headed_in : (o : Option Row) (n : ℕ) (r : Row) → fitting n o ≡ Some r → (o ≡ Some r) × (count_fits r n ≡ true)
headed_in None n r e = cc
headed_in (Some q) n r e = let k = headed_by q r n (count_fits q n) refl e in (ap Some k.0, k.1)

least : (r : Row) (n : ℕ) → count_fits r n ≡ true → length (rule r).places ≤ n
least r n e = leb-true (length (rule r).places) n (both (leb (length (rule r).places) n) _ e)
  where
    both : (x y : Bool) → x && y ≡ true → x ≡ true
    both true y e = refl
    both false y e = cc

parts_count : (r : Row) (i : ℕ) (ts : Trees) (xs : List Part) → ReadsAll r i ts xs → count ts ≡ length xs
parts_count r i ts xs (no_more q j) = refl
parts_count r i ts xs (one_more q j t us p ps s more) = let k = parts_count q (j + 1) us ps more in ap suc k

mutual
  wide : (t : Tree) (n a b : ℕ) → Stands n t a b → a < b
  wide (atom at w) n a b h = omega (arith, h.0, h.1)
  wide (list at ts) n a b h = let k = all_wide ts (suc n) (at + 1) b h.2 in omega (arith, h.0, k)

  all_wide : (ts : Trees) (n a b : ℕ) → AllStand n ts a b → a ≤ b
  all_wide no_trees n a b h = h
  all_wide (tree t ts) n a b h = let k = wide t n a h.0 h.1 in let l = all_wide ts n h.0 b h.2 in omega (arith, k, l)

mutual
  node_lies : (p : Place) (t : Tree) (x : Part) → Reads p t x → (n a b : ℕ) → Stands n t a b → Lies p n x a b
  node_lies p t x (names q at w e h) n a b l = name_lies q n at w a b e l.0 l.1
  node_lies p t x (names_place q at w e h) n a b l = place_lies q n at w a b e l
  node_lies p t x (names_record q at w e h) n a b l = record_lies q n at w a b e l
  node_lies p t x (names_value q at w e h) n a b l = value_lies q n at w a b e l
  node_lies p t x (says_scalar q at w s e h) n a b l = scalar_lies q n at s a b e l (no_index w s h)
  node_lies p t x (says_truth q at w v e h) n a b l = truth_lies q n at v a b e l
  node_lies p t x (counts q at w low high k e h d) n a b l = number_lies q n low high k a b e (omega (arith, l.0, l.1), h.0, h.1)
  node_lies p t x (counts_literal q at w z e h d) n a b l = literal_lies q n _ a b e (omega (arith, l.0, l.1))
  node_lies p t x (has_row q at (list hat us) ts r ps h s) n a b l = cc
  node_lies p t x (has_row q at (atom hat w) ts r ps h s) n a b l =
      let k = headed_in (row_of q w) (count ts) r h in
      let c = parts_count r 0 ts ps s in
      let u : AllStand (suc n) ts (at + 1) b = trees_from (suc n) ts (at + 1) l.2.0 b (omega (arith, l.2.1.0, l.2.1.1)) l.2.2 in
      row_makes q (λ x. bytes_eq (head x) w) r k.0 n at ps a b l.0 l.1 (subst (λ m. length (rule r).places ≤ m) c (least r (count ts) k.1)) (nodes_lie r 0 ts ps s (suc n) (at + 1) b u)

  nodes_lie : (r : Row) (i : ℕ) (ts : Trees) (xs : List Part) → ReadsAll r i ts xs → (n a b : ℕ) → AllStand n ts a b → PartsLie r i n xs a b
  nodes_lie r i ts xs (no_more q j) n a b l = l
  nodes_lie r i ts xs (one_more q j t us p ps s more) n a b l = (l.0, wide t n a l.0 l.1, node_lies (place_at q j) t p s n a l.0 l.1, nodes_lie q (j + 1) us ps more n l.0 b l.2)

-- a file lies in its text
pub file_lies : (bs : List ℕ) (raw : Raw Id) → Spells bs raw → TowerLies 0 raw 0 (length bs)
file_lies bs raw s =
    let t = text_stands bs (tree s.node no_trees) s.faultless s.spelled in
    node_lies place.Tower s.node (a_tower raw) s.reads 0 0 (length bs) (tree_to 0 s.node 0 t.0 (length bs) t.2 t.1)
