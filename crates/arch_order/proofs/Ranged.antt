-- The numbers of a text that is read are in their ranges, and each record has a field: so they are in its tree, and in the linked tree.
use Rattle.std.proofs.Common.{◌≡◌, ℕ, suc, ◌+◌, ◌<◌, ◌≤◌, ◌&&◌, List, [], ◌∷◌, map, length, filter_map, Bool, true, false, cond, Option, Some, None, find, refl, sym, ap, subst, arith, leb, leb-true, bytes_eq}
use Rattle.std.specs.List.{cons_option}
use Rattle.std.proofs.lemmas.List.{get_or_past, length-map}
use Rattle.tower_sexp.specs.Trees.{Tree, atom, list, Trees}
use Rattle.tower_syntax.specs.declared.named.Target.{Target}
use Rattle.tower_syntax.specs.RawTree.{Id, Link, RawField, RawHpart, emitter, callback, RawPart, state, handler, RawItem, fields, init, period, signal, channel, output, monitor, Raw}
use Rattle.tower_syntax.specs.Words.{IsWithin, IsPeriod, IsDepth, IsBound}
use Rattle.tower_reader.specs.declared.table.Place.{Place}
use Rattle.tower_reader.specs.declared.table.Place.TheVariants as place
use Rattle.tower_reader.specs.declared.table.Atoms.{Atoms}
use Rattle.tower_reader.specs.declared.table.Atoms.TheVariants as atoms
use Rattle.tower_reader.specs.declared.table.Row.{Row}
use Rattle.tower_reader.specs.declared.table.Row.TheVariants as row
use Rattle.tower_reader.specs.declared.table.ItemRow.TheVariants as item
use Rattle.tower_reader.specs.declared.table.PartRow.TheVariants as part
use Rattle.tower_reader.specs.Table.{atoms_at, rule, rows, head, row_of, place_at, count_fits}
use Rattle.tower_reader.specs.Part.{Part, a_number, a_tower, as_number, as_tower, if_field, if_hpart, if_part, if_item, first, second, third, fourth, rest, build}
use Rattle.tower_reader.specs.Spelled.{count, fitting, Reads, names, names_place, names_record, names_value, says_scalar, says_truth, counts, counts_literal, has_row, ReadsAll, no_more, one_more, Spells}
use Rattle.arch_names.specs.declared.names.Thing.{Thing}
use Rattle.arch_names.specs.Names.{Find, find as find_name}
use Rattle.arch_names.specs.Sets.{declared_in, states_of}
use Rattle.arch_names.specs.Site.{Site}
use Rattle.arch_names.specs.Sites.{Around, around}
use Rattle.arch_names.specs.Linked.{linked_field, linked_hpart, linked_part, linked_item}
use Rattle.arch_names.specs.Resolved.{IsLinked}
use Rattle.arch_types.proofs.Ranged.{HpartRanged, PartRanged, ItemRanged}
use Rattle.arch_order.proofs.Lists.{AllOf, found}

-- ---- what is read

abbrev Just : {X : Type 0} → (X → Type 0) → Option X → Type 0
Just P None = ⊥
Just P (Some x) = P x

abbrev Ranged : Place → Part → Type 0
Ranged place.Period x = IsPeriod (as_number x)
Ranged place.Depth x = IsDepth (as_number x)
Ranged place.Bound x = IsBound (as_number x)
Ranged place.Tower x = AllOf ItemRanged (as_tower x).items
Ranged place.Item x = Just ItemRanged (if_item x)
Ranged place.Item2 x = Just ItemRanged (if_item x)
Ranged place.Field x = Just (λ f. Unit {0}) (if_field x)
Ranged place.Part x = Just PartRanged (if_part x)
Ranged place.Hpart x = Just HpartRanged (if_hpart x)
Ranged _ x = Unit {0}

abbrev PartsRanged : Row → ℕ → List Part → Type 0
PartsRanged r i [] = Unit {0}
PartsRanged r i (x ∷ xs) = Ranged (place_at r i) x × PartsRanged r (i + 1) xs

-- ---- atoms

number_ranged : (p : Place) (low high n : ℕ) → atoms_at p ≡ atoms.Number low high → IsWithin low high n → Ranged p (a_number n)
number_ranged place.Period low high n e h = let i : 1 ≡ low = cc in let j : 1000000 ≡ high = cc in (omega (arith, i, h.0), omega (arith, j, h.1))
number_ranged place.Depth low high n e h = let i : 1 ≡ low = cc in let j : 64 ≡ high = cc in (omega (arith, i, h.0), omega (arith, j, h.1))
number_ranged place.Bound low high n e h = let i : 0 ≡ low = cc in let j : 65536 ≡ high = cc in (omega (arith, i, h.0), omega (arith, j, h.1))
number_ranged place.Tower low high n e h = cc
number_ranged place.Item low high n e h = cc
number_ranged place.Item2 low high n e h = cc
number_ranged place.Field low high n e h = cc
number_ranged place.Part low high n e h = cc
number_ranged place.Hpart low high n e h = cc
number_ranged _ low high n e h = tt

-- the atoms of a place that asks nothing of them
abbrev is_plain : Atoms → Bool
is_plain atoms.None = false
is_plain (atoms.Number low high) = false
is_plain _ = true

plain_ranged : (p : Place) (x : Part) → is_plain (atoms_at p) ≡ true → Ranged p x
plain_ranged place.Period x h = cc
plain_ranged place.Depth x h = cc
plain_ranged place.Bound x h = cc
plain_ranged place.Tower x h = cc
plain_ranged place.Item x h = cc
plain_ranged place.Item2 x h = cc
plain_ranged place.Field x h = cc
plain_ranged place.Part x h = cc
plain_ranged place.Hpart x h = cc
plain_ranged _ x h = tt

atom_ranged : (p : Place) (x : Part) (a : Atoms) → atoms_at p ≡ a → is_plain a ≡ true → Ranged p x
atom_ranged p x a e h = plain_ranged p x (subst (λ b. is_plain b ≡ true) (sym e) h)

-- ---- rows

module _ {X : Type 0} (of : Part → Option X) (P : X → Type 0) (q : Place) (is : (x : Part) → Ranged q x → Just P (of x)) where
  all_by : (o : Option X) (xs : List X) → Just P o → AllOf P xs → AllOf P (cons_option o xs)
  all_by None xs h t = absurd h
  all_by (Some x) xs h t = (h, t)

  all_of : (r : Row) (i : ℕ) (xs : List Part) → ((j : ℕ) → i ≤ j → place_at r j ≡ q) → PartsRanged r i xs → AllOf P (filter_map of xs)
  all_of r i [] h t = tt
  all_of r i (x ∷ xs) h t = all_by (of x) (filter_map of xs) (is x (subst (λ p. Ranged p x) (h i (omega arith)) t.0)) (all_of r (i + 1) xs (λ j l. h j (omega (arith, l))) t.1)

abbrev Makes : Place → Row → Type 0
Makes p r = (at : ℕ) (xs : List Part) → length (rule r).places ≤ length xs → PartsRanged r 0 xs → Ranged p (build r at xs)

tail_ranged : (r : Row) (xs : List Part) (i : ℕ) → PartsRanged r i xs → PartsRanged r (i + 1) (rest xs)
tail_ranged r [] i t = tt
tail_ranged r (x ∷ xs) i t = t.1

nth_ranged : (r : Row) (xs : List Part) (i : ℕ) → 1 ≤ length xs → PartsRanged r i xs → Ranged (place_at r i) (first xs)
nth_ranged r [] i l t = absurd (omega (arith, l))
nth_ranged r (x ∷ xs) i l t = t.0

shorter : (xs : List Part) (n : ℕ) → suc n ≤ length xs → n ≤ length (rest xs)
shorter [] n l = absurd (omega (arith, l))
shorter (x ∷ xs) n l = omega (arith, l)

second_ranged : (r : Row) (xs : List Part) → 2 ≤ length xs → PartsRanged r 0 xs → Ranged (place_at r 1) (second xs)
second_ranged r xs l t = nth_ranged r (rest xs) 1 (shorter xs 1 l) (tail_ranged r xs 0 t)

third_ranged : (r : Row) (xs : List Part) → 3 ≤ length xs → PartsRanged r 0 xs → Ranged (place_at r 2) (third xs)
third_ranged r xs l t = nth_ranged r (rest (rest xs)) 2 (shorter (rest xs) 1 (shorter xs 2 l)) (tail_ranged r (rest xs) 1 (tail_ranged r xs 0 t))

fourth_ranged : (r : Row) (xs : List Part) → 4 ≤ length xs → PartsRanged r 0 xs → Ranged (place_at r 3) (fourth xs)
fourth_ranged r xs l t = nth_ranged r (rest (rest (rest xs))) 3 (shorter (rest (rest xs)) 1 (shorter (rest xs) 2 (shorter xs 3 l))) (tail_ranged r (rest (rest xs)) 2 (tail_ranged r (rest xs) 1 (tail_ranged r xs 0 t)))

makes_tower : Makes place.Tower row.Tower
makes_tower at xs k t = all_of if_item ItemRanged place.Item (λ x h. h) row.Tower 1 (rest xs) (λ j l. get_or_past (place.Name ∷ []) j place.Item l) (tail_ranged row.Tower xs 0 t)

makes_tower2 : Makes place.Tower row.Tower2
makes_tower2 at xs k t = all_of if_item ItemRanged place.Item2 (λ x h. h) row.Tower2 1 (rest xs) (λ j l. get_or_past (place.Name ∷ []) j place.Item2 l) (tail_ranged row.Tower2 xs 0 t)

some_field : (xs : List Part) → 1 ≤ length xs → Ranged place.Field (first xs) → 0 < length (filter_map if_field xs)
some_field [] l t = absurd (omega (arith, l))
some_field (x ∷ xs) l t = by (if_field x) t
  where
    by : (o : Option (RawField Id)) → Just (λ f. Unit {0}) o → 0 < length (cons_option o (filter_map if_field xs))
    by None h = absurd h
    by (Some f) h = omega arith

abbrev MakesItem : Row → Type 0
MakesItem r = (at : ℕ) (xs : List Part) → length (rule r).places ≤ length xs → PartsRanged r 0 xs → Just ItemRanged (if_item (build r at xs))

makes_record : MakesItem (row.Item item.Record)
makes_record at xs k t = some_field (rest xs) (shorter xs 1 k) (second_ranged (row.Item item.Record) xs k t)

makes_monitor : MakesItem (row.Item item.Monitor)
makes_monitor at xs k t = all_of if_part PartRanged place.Part (λ x h. h) (row.Item item.Monitor) 1 (rest xs) (λ j l. get_or_past (place.Name ∷ []) j place.Part l) (tail_ranged (row.Item item.Monitor) xs 0 t)

makes_period : MakesItem (row.Item item.Period)
makes_period at xs k t = (second_ranged (row.Item item.Period) xs (omega (arith, k)) t, tt)

makes_period2 : MakesItem (row.Item item.Period2)
makes_period2 at xs k t = (second_ranged (row.Item item.Period2) xs (omega (arith, k)) t, fourth_ranged (row.Item item.Period2) xs k t)

makes_signal2 : MakesItem (row.Item item.Signal2)
makes_signal2 at xs k t = fourth_ranged (row.Item item.Signal2) xs k t

makes_handler : Makes place.Part (row.Part part.Handler)
makes_handler at xs k t = all_of if_hpart HpartRanged place.Hpart (λ x h. h) (row.Part part.Handler) 2 (rest (rest xs)) (λ j l. get_or_past (place.Name ∷ place.Use ∷ []) j place.Hpart l) (tail_ranged (row.Part part.Handler) (rest xs) 1 (tail_ranged (row.Part part.Handler) xs 0 t))

makes_emitter : Makes place.Hpart (row.Part part.Emitter)
makes_emitter at xs k t = third_ranged (row.Part part.Emitter) xs k t

-- a row of a place makes a part that is in its range
row_makes : (p : Place) (f : Row → Bool) (r : Row) → find f (rows p) ≡ Some r → Makes p r
row_makes place.Period f r e = cc
row_makes place.Depth f r e = cc
row_makes place.Bound f r e = cc
row_makes place.Tower f r e = found (Makes place.Tower) f (rows place.Tower) r (makes_tower, (makes_tower2, tt)) e
row_makes place.Item f r e = found (Makes place.Item) f (rows place.Item) r (makes_record, (λ at xs k t. tt, (makes_period, (λ at xs k t. tt, (λ at xs k t. tt, (λ at xs k t. tt, (makes_monitor, tt))))))) e
row_makes place.Item2 f r e = found (Makes place.Item2) f (rows place.Item2) r (makes_record, (λ at xs k t. tt, (makes_period2, (makes_signal2, (λ at xs k t. tt, (λ at xs k t. tt, (makes_monitor, tt))))))) e
row_makes place.Field f r e = found (Makes place.Field) f (rows place.Field) r (λ at xs k t. tt, tt) e
row_makes place.Part f r e = found (Makes place.Part) f (rows place.Part) r (λ at xs k t. tt, (makes_handler, tt)) e
row_makes place.Hpart f r e = found (Makes place.Hpart) f (rows place.Hpart) r (makes_emitter, (λ at xs k t. tt, tt)) e
row_makes _ f r e = λ at xs k t. tt

-- ---- nodes

headed_by : (q r : Row) (n : ℕ) (b : Bool) → count_fits q n ≡ b → cond b (Some q) None ≡ Some r → (q ≡ r) × (count_fits r n ≡ true)
headed_by q r n true k e = let i : q ≡ r = cc in (i, subst (λ q. count_fits q n ≡ true) i k)
headed_by q r n false k e = cc

headed_in : (o : Option Row) (n : ℕ) (r : Row) → fitting n o ≡ Some r → (o ≡ Some r) × (count_fits r n ≡ true)
headed_in None n r e = cc
headed_in (Some q) n r e = let k = headed_by q r n (count_fits q n) refl e in (ap Some k.0, k.1)

least : (r : Row) (n : ℕ) → count_fits r n ≡ true → length (rule r).places ≤ n
least r n e = leb-true (length (rule r).places) n (both (leb (length (rule r).places) n) _ e)
  where
    both : (x y : Bool) → x && y ≡ true → x ≡ true
    both true y e = refl
    both false y e = cc

parts_count : (r : Row) (i : ℕ) (ts : Trees) (xs : List Part) → ReadsAll r i ts xs → count ts ≡ length xs
parts_count r i ts xs (no_more q j) = refl
parts_count r i ts xs (one_more q j t us p ps s more) = let k = parts_count q (j + 1) us ps more in ap suc k

mutual
  node_ranged : (p : Place) (t : Tree) (x : Part) → Reads p t x → Ranged p x
  node_ranged p t x (names q at w e h) = atom_ranged q _ atoms.Name e refl
  node_ranged p t x (names_place q at w e h) = atom_ranged q _ atoms.Place e refl
  node_ranged p t x (names_record q at w e h) = atom_ranged q _ atoms.Type e refl
  node_ranged p t x (names_value q at w e h) = atom_ranged q _ atoms.Expr e refl
  node_ranged p t x (says_scalar q at w s e h) = atom_ranged q _ atoms.Type e refl
  node_ranged p t x (says_truth q at w v e h) = atom_ranged q _ atoms.Expr e refl
  node_ranged p t x (counts q at w low high k e h d) = number_ranged q low high k e h
  node_ranged p t x (counts_literal q at w z e h d) = atom_ranged q _ atoms.Literal e refl
  node_ranged p t x (has_row q at (list hat us) ts r ps h s) = cc
  node_ranged p t x (has_row q at (atom hat w) ts r ps h s) =
      let k = headed_in (row_of q w) (count ts) r h in
      let c = parts_count r 0 ts ps s in
      row_makes q (λ x. bytes_eq (head x) w) r k.0 at ps (subst (λ m. length (rule r).places ≤ m) c (least r (count ts) k.1)) (nodes_ranged r 0 ts ps s)

  nodes_ranged : (r : Row) (i : ℕ) (ts : Trees) (xs : List Part) → ReadsAll r i ts xs → PartsRanged r i xs
  nodes_ranged r i ts xs (no_more q j) = tt
  nodes_ranged r i ts xs (one_more q j t us p ps s more) = (node_ranged (place_at q j) t p s, nodes_ranged q (j + 1) us ps more)

pub read_ranged : (bs : List ℕ) (raw : Raw Id) → Spells bs raw → AllOf ItemRanged raw.items
read_ranged bs raw s = node_ranged place.Tower s.node (a_tower raw) s.reads

-- ---- linked

module _ (m : Site → Target) (file : Find Thing) where
  hparts_linked : (a : Around) (hs : List (RawHpart Id)) → AllOf HpartRanged hs → AllOf HpartRanged (map (linked_hpart m a) hs)
  hparts_linked a [] h = tt
  hparts_linked a (emitter at x u n ∷ hs) h = (h.0, hparts_linked a hs h.1)
  hparts_linked a (callback at x ss ∷ hs) h = (tt, hparts_linked a hs h.1)

  parts_linked : (states : Find Target) (ps : List (RawPart Id)) → AllOf PartRanged ps → AllOf PartRanged (map (linked_part m file states) ps)
  parts_linked states [] h = tt
  parts_linked states (state at x t ∷ ps) h = (tt, parts_linked states ps h.1)
  parts_linked states (handler at x u hs ∷ ps) h = (hparts_linked (around file states hs) hs h.0, parts_linked states ps h.1)

  items_linked : (items : List (RawItem Id)) → AllOf ItemRanged items → AllOf ItemRanged (map (linked_item m file) items)
  items_linked [] h = tt
  items_linked (fields at x fs ∷ items) h = (subst (λ n. 0 < n) (sym (length-map fs (linked_field m file x.at))) h.0, items_linked items h.1)
  items_linked (init at x p ∷ items) h = (tt, items_linked items h.1)
  items_linked (period at x ms p d ∷ items) h = (h.0, items_linked items h.1)
  items_linked (signal at x t p d ∷ items) h = (h.0, items_linked items h.1)
  items_linked (channel at x t ∷ items) h = (tt, items_linked items h.1)
  items_linked (output at x u ∷ items) h = (tt, items_linked items h.1)
  items_linked (monitor at x ps ∷ items) h = (parts_linked (find_name (states_of ps)) ps h.0, items_linked items h.1)

pub linked_ranged : (raw : Raw Id) (t : Raw Link) → IsLinked raw t → AllOf ItemRanged raw.items → AllOf ItemRanged t.items
linked_ranged raw t l h = subst (λ t. AllOf ItemRanged t.items) (sym l.2) (items_linked l.0 (find_name (declared_in raw.items)) raw.items h)
