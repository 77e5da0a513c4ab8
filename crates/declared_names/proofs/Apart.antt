-- Sources whose names find them, and that stand in text order, are told apart by their names.
use Rattle.std.proofs.Common.{◌≡◌, ◌≢◌, ◌<◌, ℕ, List, [], ◌∷◌, ◌++◌, map, Some, refl, sym, ap, ◌∙◌, arith}
use Rattle.tower_syntax.specs.declared.named.Target.{Target}
use Rattle.tower_syntax.specs.RawTree.{Id, RawItem, fields, init, period, signal, channel, output, monitor}
use Rattle.arch_names.specs.declared.names.Thing.{Thing}
use Rattle.arch_names.specs.Names.{Find}
use Rattle.arch_names.specs.Sets as names
use Rattle.arch_names.specs.Site.{Site}
use Rattle.arch_names.specs.Linked.{linked_item}
use Rattle.arch_names.specs.Written.{in_type, in_item, IsBelow, AreAscending}
use Rattle.arch_types.specs.Outline.{each, source_of}
use Rattle.arch_types.proofs.Lists.{AllOf, zipped}
use Rattle.declared_names.proofs.Lists.{Pairwise, all_mapped}
use Rattle.declared_names.proofs.Own.{source_id, IsOwn}

-- ---- they stand in text order

below_right : (n : ℕ) (ms ns : List ℕ) → IsBelow n (ms ++ ns) → IsBelow n ns
below_right n [] ns h = h
below_right n (m ∷ ms) ns h = below_right n ms ns h.1

rising_right : (ms ns : List ℕ) → AreAscending (ms ++ ns) → AreAscending ns
rising_right [] ns h = h
rising_right (m ∷ ms) ns h = rising_right ms ns h.1

abbrev places : List (RawItem Id) → List ℕ
places items = names.each in_item items

below : (n : ℕ) (items : List (RawItem Id)) → IsBelow n (places items) → AllOf (λ y. n < y.at) (each source_id items)
below n [] h = tt
below n (init at x p ∷ items) h = (h.0, below n items h.1)
below n (period at x ms p d ∷ items) h = (h.0, below n items h.1)
below n (signal at x t p d ∷ items) h = (h.0, below n items (below_right n (in_item (signal at x t p d)) (places items) h))
below n (fields at x fs ∷ items) h = below n items (below_right n (in_item (fields at x fs)) (places items) h)
below n (channel at x t ∷ items) h = below n items (below_right n (in_item (channel at x t)) (places items) h)
below n (output at x u ∷ items) h = below n items (below_right n (in_item (output at x u)) (places items) h)
below n (monitor at x ps ∷ items) h = below n items (below_right n (in_item (monitor at x ps)) (places items) h)

abbrev Stands : Id → Id → Type 0
Stands x y = x.at < y.at

pub rising : (items : List (RawItem Id)) → AreAscending (places items) → Pairwise Stands (each source_id items)
rising [] h = tt
rising (init at x p ∷ items) h = (below x.at items h.0, rising items h.1)
rising (period at x ms p d ∷ items) h = (below x.at items h.0, rising items h.1)
rising (signal at x t p d ∷ items) h = (below x.at items (below_right x.at (in_type t) (places items) h.0), rising items (rising_right (in_type t) (places items) h.1))
rising (fields at x fs ∷ items) h = rising items (rising_right (in_item (fields at x fs)) (places items) h)
rising (channel at x t ∷ items) h = rising items (rising_right (in_item (channel at x t)) (places items) h)
rising (output at x u ∷ items) h = rising items (rising_right (in_item (output at x u)) (places items) h)
rising (monitor at x ps ∷ items) h = rising items (rising_right (in_item (monitor at x ps)) (places items) h)

-- ---- no two have one name

apart_by : (file : Find Thing) (x y : Id) → IsOwn file x → IsOwn file y → Stands x y → x.name ≢ y.name
apart_by file x y own other less same =
    let found : Some own.declared ≡ Some other.declared = sym own.found ∙ ap file same ∙ other.found in
    let one : own.declared ≡ other.declared = cc in
    let at : x.at ≡ y.at = sym own.here ∙ ap (λ d. d.at) one ∙ other.here in
    omega (arith, less, at)

abbrev pub Apart : Id → Id → Type 0
Apart x y = x.name ≢ y.name

pub apart : (file : Find Thing) (xs : List Id) → Pairwise Stands xs → AllOf (IsOwn file) xs → Pairwise Apart xs
apart file [] h own = tt
apart file (x ∷ xs) h own = (zipped (Stands x) (IsOwn file) (Apart x) (λ y less other. apart_by file x y own.0 other less) xs h.0 own.1, apart file xs h.1 own.1)

-- ---- the sources have these names

map_both : {X Y : Type 0} (f : X → Y) (xs ys : List X) → map f (xs ++ ys) ≡ map f xs ++ map f ys
map_both f [] ys = refl
map_both f (x ∷ xs) ys = ap (λ zs. f x ∷ zs) (map_both f xs ys)

module _ (m : Site → Target) (file : Find Thing) where
  source_is : (it : RawItem Id) → map (λ s. s.name) (source_of (linked_item m file it)) ≡ map (λ i. i.name) (source_id it)
  source_is (init at x p) = refl
  source_is (period at x ms p d) = refl
  source_is (signal at x t p d) = refl
  source_is _ = refl

  pub sources_are : (items : List (RawItem Id)) → map (λ s. s.name) (each source_of (map (linked_item m file) items)) ≡ map (λ i. i.name) (each source_id items)
  sources_are [] = refl
  sources_are (it ∷ items) =
      let ss = source_of (linked_item m file it) in
      map_both (λ s. s.name) ss (each source_of (map (linked_item m file) items))
      ∙ ap (λ ns. ns ++ map (λ s. s.name) (each source_of (map (linked_item m file) items))) (source_is it)
      ∙ ap (λ ns. map (λ i. i.name) (source_id it) ++ ns) (sources_are items)
      ∙ sym (map_both (λ i. i.name) (source_id it) (each source_id items))

pub names_apart : (xs : List Id) → Pairwise Apart xs → Pairwise (λ a b. a ≢ b) (map (λ i. i.name) xs)
names_apart [] h = tt
names_apart (x ∷ xs) h = (all_mapped (λ i. i.name) (λ n. x.name ≢ n) xs h.0, names_apart xs h.1)
