-- The outputs and handlers, as far as they are listed.
use Rattle.std.proofs.Common.{◌≡◌, ℕ, suc, ◌+◌, ◌<◌, ◌≤◌, List, [], ◌∷◌, ◌++◌, map, length, drop, get_or, refl, sym, ap, ◌∙◌, append_assoc, append-nil, add-one, arith, drop-cons}
use Rattle.std.proofs.lemmas.List.{drop_all}
use Rattle.tower_syntax.specs.declared.arch.Listener.{Listener}
use Rattle.tower_syntax.specs.RawTree.{Link, RawPart, RawItem}
use Rattle.arch_types.specs.Outline.{part_listeners, handlers_in, listeners}

module _ {R X : Type 0} (raw : R → X) where
  pub next_of : (xs : List R) (i : ℕ) (y : R) → y ≡ get_or xs i y → i < length xs → map raw (drop i xs) ≡ raw y ∷ map raw (drop (i + 1) xs)
  next_of xs i y e l = ap (map raw) (drop-cons xs i y l) ∙ ap (λ z. raw z ∷ map raw (drop (suc i) xs)) (sym e) ∙ ap (λ k. raw y ∷ map raw (drop k xs)) (sym (add-one i))

  pub none_of : (xs : List R) (i : ℕ) → length xs ≤ i → map raw (drop i xs) ≡ []
  none_of xs i l = ap (map raw) (drop_all i xs l)

module _ {R : Type 0} (raw : R → RawPart Link) (start : List Listener) (first : ℕ) where
  -- what the parts give is what was there with what the rest gives
  pub record PartsListed (xs : List R) (rest : List R) (made : List Listener) (n : ℕ) : Type 0 where
    pub listed : start ++ part_listeners first (map raw xs) ≡ made ++ part_listeners n (map raw rest)
    pub counted : first + handlers_in (map raw xs) ≡ n + handlers_in (map raw rest)

  pub parts_begin : (xs : List R) → PartsListed xs xs start first
  parts_begin xs = record { listed = refl; counted = refl }

  pub parts_more : (xs : List R) (i : ℕ) (y : R) (made made' : List Listener) (n n' : ℕ) → y ≡ get_or xs i y → i < length xs → PartsListed xs (drop i xs) made n
      → ((rest : List (RawPart Link)) → made ++ part_listeners n (raw y ∷ rest) ≡ made' ++ part_listeners n' rest)
      → ((rest : List (RawPart Link)) → n + handlers_in (raw y ∷ rest) ≡ n' + handlers_in rest)
      → PartsListed xs (drop (i + 1) xs) made' n'
  parts_more xs i y made made' n n' e l h f g = record {
    listed = h.listed ∙ ap (λ r. made ++ part_listeners n r) (next_of raw xs i y e l) ∙ f (map raw (drop (i + 1) xs));
    counted = h.counted ∙ ap (λ r. n + handlers_in r) (next_of raw xs i y e l) ∙ g (map raw (drop (i + 1) xs));
  }

  pub parts_listed : (xs : List R) (i : ℕ) (made : List Listener) (n : ℕ) → length xs ≤ i → PartsListed xs (drop i xs) made n → made ≡ start ++ part_listeners first (map raw xs)
  parts_listed xs i made n l h = sym (h.listed ∙ ap (λ r. made ++ part_listeners n r) (none_of raw xs i l) ∙ append-nil made)

  pub parts_counted : (xs : List R) (i : ℕ) (made : List Listener) (n : ℕ) → length xs ≤ i → PartsListed xs (drop i xs) made n → n ≡ first + handlers_in (map raw xs)
  parts_counted xs i made n l h = let e = h.counted in let d = ap (λ r. n + handlers_in r) (none_of raw xs i l) in omega arith

module _ {R : Type 0} (raw : R → RawItem Link) where
  pub record ItemsListed (xs : List R) (rest : List R) (made : List Listener) (o : ℕ) (h : ℕ) : Type 0 where
    pub listed : listeners 0 0 (map raw xs) ≡ made ++ listeners o h (map raw rest)

  pub items_begin : (xs : List R) (made : List Listener) → made ≡ [] → ItemsListed xs xs made 0 0
  items_begin xs made e = record { listed = ap (λ m. m ++ listeners 0 0 (map raw xs)) (sym e) }

  pub items_more : (xs : List R) (i : ℕ) (y : R) (made made' : List Listener) (o o' h h' : ℕ) → y ≡ get_or xs i y → i < length xs → ItemsListed xs (drop i xs) made o h
      → ((rest : List (RawItem Link)) → made ++ listeners o h (raw y ∷ rest) ≡ made' ++ listeners o' h' rest)
      → ItemsListed xs (drop (i + 1) xs) made' o' h'
  items_more xs i y made made' o o' h h' e l k f = record {
    listed = k.listed ∙ ap (λ r. made ++ listeners o h r) (next_of raw xs i y e l) ∙ f (map raw (drop (i + 1) xs));
  }

  pub items_listed : (xs : List R) (i : ℕ) (made : List Listener) (o h : ℕ) → length xs ≤ i → ItemsListed xs (drop i xs) made o h → made ≡ listeners 0 0 (map raw xs)
  items_listed xs i made o h l k = sym (k.listed ∙ ap (λ r. made ++ listeners o h r) (none_of raw xs i l) ∙ append-nil made)

-- one part more
pub handler_listed : (made : List Listener) (x : Listener) (ys : List Listener) → made ++ x ∷ ys ≡ (made ++ x ∷ []) ++ ys
handler_listed made x ys = sym (append_assoc made (x ∷ []) ys)
