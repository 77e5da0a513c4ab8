-- What a node is read as can be printed, and is printed as the node.
use Rattle.std.proofs.Common.{◌≡◌, ℕ, ℤ, zero, suc, ◌+◌, ◌≤◌, List, [], ◌∷◌, length, min, Bool, true, false, cond, ◌&&◌, ◌||◌, Option, Some, None, find, refl, ap, sym, ◌∙◌, subst, arith, leb, leb-true, bytes_eq, decimal}
use Rattle.std.specs.Fmt.{signed_decimal}
use Rattle.std.proofs.lemmas.Slice.Eq.{bytes_eq-Decides}
use Rattle.tower_types.specs.declared.scalar.Scalar.{Scalar}
use Rattle.tower_sexp.specs.Trees.{Tree, Trees, no_trees, tree}
use Rattle.tower_sexp.specs.Trees.{atom as leaf, list as branch}
use Rattle.tower_syntax.specs.RawTree.{word, rec, root, truth}
use Rattle.tower_syntax.specs.Words.{IsName, IsWithin, IsLiteral, scalar_word, truth_word}
use Rattle.tower_syntax.specs.Form.{Form, atom, list, Forms, no_forms, form, forms}
use Rattle.tower_syntax.specs.Form.{row as row_form}
use Rattle.tower_syntax.specs.Printed.{scalar_form}
use Rattle.tower_syntax.specs.Printable.{IsPrintableScalar}
use Rattle.tower_reader.specs.declared.table.Place.{Place}
use Rattle.tower_reader.specs.declared.table.Place.TheVariants as place
use Rattle.tower_reader.specs.declared.table.Atoms.TheVariants as atoms
use Rattle.tower_reader.specs.declared.table.Row.{Row}
use Rattle.tower_reader.specs.Words.{scalars, scalar_named}
use Rattle.tower_reader.specs.Table.{atoms_at, rule, rows, head, row_of, place_at, has_more, count_fits}
use Rattle.tower_reader.specs.Part.{Part, a_name, a_number, a_literal, a_type, a_place, an_expr, build}
use Rattle.tower_reader.specs.Forms.{form_of, forms_of}
use Rattle.tower_reader.specs.Spelled.{count, fitting, id_at, Reads, names, names_place, names_record, names_value, says_scalar, says_truth, counts, counts_literal, has_row, ReadsAll, no_more, one_more}
use Rattle.tower_reader.proofs.Words.{AllOf, Found, found}
use Rattle.tower_reader.proofs.SpelledRows.{IsMade, AreKept, forms_at, Makes, all_make}

-- ---- atoms

name_made : (p : Place) (at : ℕ) (w : List ℕ) → atoms_at p ≡ atoms.Name → IsName w → IsMade p (a_name (id_at at w)) (atom w)
name_made place.Name at w e h = record { kept = h; formed = refl }
name_made place.Use at w e h = record { kept = h; formed = refl }
name_made _ at w e h = cc

place_made : (p : Place) (at : ℕ) (w : List ℕ) → atoms_at p ≡ atoms.Place → IsName w → IsMade p (a_place (root (id_at at w))) (atom w)
place_made place.Place at w e h = record { kept = h; formed = refl }
place_made _ at w e h = cc

value_made : (p : Place) (at : ℕ) (w : List ℕ) → atoms_at p ≡ atoms.Expr → IsName w → IsMade p (a_place (root (id_at at w))) (atom w)
value_made place.Expr at w e h = record { kept = h; formed = refl }
value_made _ at w e h = cc

truth_made : (p : Place) (at : ℕ) (w : List ℕ) (b : Bool) → atoms_at p ≡ atoms.Expr → w ≡ truth_word b → IsMade p (an_expr (truth at b)) (atom w)
truth_made place.Expr at w b e h = record { kept = tt; formed = ap atom (sym h) }
truth_made _ at w b e h = cc

record_made : (p : Place) (at : ℕ) (w : List ℕ) → atoms_at p ≡ atoms.Type → IsName w → IsMade p (a_type (rec (id_at at w))) (atom w)
record_made place.Type at w e h = record { kept = h; formed = refl }
record_made _ at w e h = cc

-- a scalar with a word of its own
record IsPlain (s : Scalar) : Type 0 where
  kept : IsPrintableScalar s
  formed : scalar_form s ≡ atom (scalar_word s)

plain : AllOf IsPlain scalars
plain = (record { kept = tt; formed = refl }, (record { kept = tt; formed = refl }, (record { kept = tt; formed = refl }, (record { kept = tt; formed = refl }, (record { kept = tt; formed = refl }, (record { kept = tt; formed = refl }, (record { kept = tt; formed = refl }, (record { kept = tt; formed = refl }, (record { kept = tt; formed = refl }, tt)))))))))

scalar_made : (p : Place) (at : ℕ) (w : List ℕ) (s : Scalar) → atoms_at p ≡ atoms.Type → scalar_named w ≡ Some s → IsMade p (a_type (word at s)) (atom w)
scalar_made place.Type at w s e h =
    let f : Found IsPlain (λ s. bytes_eq (scalar_word s) w) s = found IsPlain (λ s. bytes_eq (scalar_word s) w) scalars s plain h in
    record { kept = f.0.kept; formed = f.0.formed ∙ ap atom ((bytes_eq-Decides (scalar_word s) w).0 f.1) }
scalar_made _ at w s e h = cc

number_made : (p : Place) (w : List ℕ) (low high n : ℕ) → atoms_at p ≡ atoms.Number low high → IsWithin low high n → w ≡ decimal n → IsMade p (a_number n) (atom w)
number_made place.Priority w low high n e h d =
    let j : 255 ≡ high = cc in
    let k : min n 255 ≡ n = omega (arith, j, h.1) in
    record { kept = (omega arith, omega arith); formed = ap (λ m. atom (decimal m)) k ∙ ap atom (sym d) }
number_made place.Period w low high n e h d = let i : 1 ≡ low = cc in let j : 1000000 ≡ high = cc in record { kept = (omega (arith, i, h.0), omega (arith, j, h.1)); formed = ap atom (sym d) }
number_made place.Depth w low high n e h d = let i : 1 ≡ low = cc in let j : 64 ≡ high = cc in record { kept = (omega (arith, i, h.0), omega (arith, j, h.1)); formed = ap atom (sym d) }
number_made place.Bound w low high n e h d = let i : 0 ≡ low = cc in let j : 65536 ≡ high = cc in record { kept = (omega (arith, i, h.0), omega (arith, j, h.1)); formed = ap atom (sym d) }
number_made place.Size w low high n e h d = let i : 1 ≡ low = cc in let j : 65536 ≡ high = cc in record { kept = (omega (arith, i, h.0), omega (arith, j, h.1)); formed = ap atom (sym d) }
number_made place.Times w low high n e h d = let i : 1 ≡ low = cc in let j : 65536 ≡ high = cc in record { kept = (omega (arith, i, h.0), omega (arith, j, h.1)); formed = ap atom (sym d) }
number_made place.Length w low high n e h d = let i : 1 ≡ low = cc in let j : 4096 ≡ high = cc in record { kept = (omega (arith, i, h.0), omega (arith, j, h.1)); formed = ap atom (sym d) }
number_made _ w low high n e h d = cc

literal_made : (p : Place) (w : List ℕ) (z : ℤ) → atoms_at p ≡ atoms.Literal → IsLiteral z → w ≡ signed_decimal z → IsMade p (a_literal z) (atom w)
literal_made place.Literal w z e h d = record { kept = h; formed = ap atom (sym d) }
literal_made _ w z e h d = cc

-- ---- lists

-- a row of a place that is found by its head, and may have so many children
record IsRow (p : Place) (w : List ℕ) (n : ℕ) (r : Row) : Type 0 where
  makes : Makes p r
  is : head r ≡ w
  enough : length (rule r).places ≤ n
  no_more : has_more (rule r).more ≡ false → n ≤ length (rule r).places

both : (x y : Bool) → x && y ≡ true → (x ≡ true) × (y ≡ true)
both true y e = (refl, e)
both false y e = cc

either : (x y : Bool) → x || y ≡ true → y ≡ false → x ≡ true
either true y e f = refl
either false y e f = cc

fits : (r : Row) (n : ℕ) → count_fits r n ≡ true → (length (rule r).places ≤ n) × (has_more (rule r).more ≡ false → n ≤ length (rule r).places)
fits r n e =
    let m = length (rule r).places in
    let k = both (leb m n) (leb n m || has_more (rule r).more) e in
    (leb-true m n k.0, λ f. leb-true n m (either (leb n m) (has_more (rule r).more) k.1 f))

headed_by : (q r : Row) (n : ℕ) (b : Bool) → count_fits q n ≡ b → cond b (Some q) None ≡ Some r → (q ≡ r) × (count_fits r n ≡ true)
headed_by q r n true k e = let i : q ≡ r = cc in (i, subst (λ q. count_fits q n ≡ true) i k)
headed_by q r n false k e = cc

headed_in : (o : Option Row) (n : ℕ) (r : Row) → fitting n o ≡ Some r → (o ≡ Some r) × (count_fits r n ≡ true)
headed_in None n r e = cc
headed_in (Some q) n r e = let k = headed_by q r n (count_fits q n) refl e in (ap Some k.0, k.1)

headed : (p : Place) (w : List ℕ) (n : ℕ) (r : Row) → fitting n (row_of p w) ≡ Some r → IsRow p w n r
headed p w n r e =
    let k = headed_in (row_of p w) n r e in
    let f : Found (Makes p) (λ r. bytes_eq (head r) w) r = found (Makes p) (λ r. bytes_eq (head r) w) (rows p) r (all_make p) k.0 in
    let c = fits r n k.1 in
    record { makes = f.0; is = (bytes_eq-Decides (head r) w).0 f.1; enough = c.0; no_more = c.1 }

parts_count : (r : Row) (i : ℕ) (ts : Trees) (xs : List Part) → ReadsAll r i ts xs → count ts ≡ length xs
parts_count r i ts xs (no_more q j) = refl
parts_count r i ts xs (one_more q j t us p ps s more) = let k = parts_count q (j + 1) us ps more in ap suc k

-- the children of a row from the i-th on
record AreMade (r : Row) (i : ℕ) (xs : List Part) (fs : Forms) : Type 0 where
  kept : AreKept r i xs
  formed : forms (forms_at r i xs) ≡ fs

row_made : (p : Place) (w : List ℕ) (r : Row) (at : ℕ) (ts : Trees) (xs : List Part) → IsRow p w (count ts) r → count ts ≡ length xs → AreMade r 0 xs (forms_of ts) → IsMade p (build r at xs) (list (form (atom w) (forms_of ts)))
row_made p w r at ts xs h c a =
    let m = h.makes at xs (omega (arith, h.enough, c)) (λ f. let k = h.no_more f in omega (arith, k, c)) a.kept in
    record { kept = m.kept; formed = m.formed ∙ (λ i. list (form (atom (h.is i)) (a.formed i))) }

mutual
  pub node_made : (p : Place) (t : Tree) (x : Part) → Reads p t x → IsMade p x (form_of t)
  node_made p t x (names q at w e h) = name_made q at w e h
  node_made p t x (names_place q at w e h) = place_made q at w e h
  node_made p t x (names_record q at w e h) = record_made q at w e h
  node_made p t x (names_value q at w e h) = value_made q at w e h
  node_made p t x (says_scalar q at w s e h) = scalar_made q at w s e h
  node_made p t x (says_truth q at w b e h) = truth_made q at w b e h
  node_made p t x (counts q at w low high n e h d) = number_made q w low high n e h d
  node_made p t x (counts_literal q at w z e h d) = literal_made q w z e h d
  node_made p t x (has_row q at (branch hat us) ts r ps h s) = cc
  node_made p t x (has_row q at (leaf hat w) ts r ps h s) = row_made q w r at ts ps (headed q w (count ts) r h) (parts_count r 0 ts ps s) (nodes_made r 0 ts ps s)

  nodes_made : (r : Row) (i : ℕ) (ts : Trees) (xs : List Part) → ReadsAll r i ts xs → AreMade r i xs (forms_of ts)
  nodes_made r i ts xs (no_more q j) = record { kept = tt; formed = refl }
  nodes_made r i ts xs (one_more q j t us p ps s more) =
      let m = node_made (place_at q j) t p s in
      let n = nodes_made q (j + 1) us ps more in
      record { kept = (m.kept, n.kept); formed = λ i. form (m.formed i) (n.formed i) }
