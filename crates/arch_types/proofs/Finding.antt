-- What is found by name in a map from texts to places, and with one name more.
use Rattle.std.proofs.Common.{◌≡◌, ℕ, Bool, true, false, cond, List, [], ◌∷◌, ◌++◌, map, Option, Some, None, Ordering, Less, Equal, Greater, bytes_eq, refl, sym, ap, ◌∙◌, true≢false, is_some}
use Rattle.std.specs.Option.{option_or}
use Rattle.std.specs.Map.{lookup}
use Rattle.std.specs.BTreeMap.{insert_entry}
use Rattle.std.specs.Ordering.{is_eq, match_ordering, nat_cmp}
use Rattle.std.specs.Cmp.Lexicographic.{bytes_decides, slice_cmp}
use Rattle.std.proofs.lemmas.Bool.{false≢true}
use Rattle.std.proofs.lemmas.Map.Text.{is_eq-slice_cmp}
use Rattle.std.proofs.lemmas.Option.{none-some}
use Rattle.std.proofs.lemmas.Slice.Eq.{bytes_eq-Decides}
use Rattle.tower_types.specs.Ty.{Name}
use Rattle.arch_types.proofs.Same.{not_true}
use Rattle.arch_types.specs.Places.{Places, same, find}

lookup-append : {K X : Type 0} (test : K → Bool) (es fs : List (K × X)) → lookup test (es ++ fs) ≡ option_or (lookup test es) (lookup test fs)
lookup-append test [] fs = refl
lookup-append test (e ∷ es) fs = by (test e.0) (lookup-append test es fs)
  where
    by : (b : Bool) → lookup test (es ++ fs) ≡ option_or (lookup test es) (lookup test fs) → cond b (Some e.1) (lookup test (es ++ fs)) ≡ option_or (cond b (Some e.1) (lookup test es)) (lookup test fs)
    by true h = refl
    by false h = h

pub find-append : (es fs : Places) (n : Name) → find (es ++ fs) n ≡ option_or (find es n) (find fs n)
find-append es fs n = lookup-append (same n) es fs

-- the order of texts tells the same texts
pub bytes_same : (a b : Name) → bytes_eq a b ≡ same a b
bytes_same a b = by (same a b) refl
  where
    by : (r : Bool) → same a b ≡ r → bytes_eq a b ≡ r
    by true h = (bytes_eq-Decides a b).1 ((bytes_decides a b).0 h)
    by false h = not_true (bytes_eq a b) (λ k. false≢true (sym h ∙ (bytes_decides a b).1 ((bytes_eq-Decides a b).0 k)))

level_same : (a b : Name) → is_eq (slice_cmp nat_cmp a b) ≡ same a b
level_same a b = is_eq-slice_cmp a b ∙ bytes_same a b

module _ {K : Type 0} (of : K → Name) where
  abbrev pub seen : List (K × ℕ) → Places
  seen es = map (λ e. (of e.0, e.1)) es

  lookup_seen : (es : List (K × ℕ)) (n : Name) → lookup (λ k. is_eq (slice_cmp nat_cmp n (of k))) es ≡ find (seen es) n
  lookup_seen [] n = refl
  lookup_seen (e ∷ es) n = λ i. cond (level_same n (of e.0) i) (Some e.1) (lookup_seen es n i)

-- a second place changes nothing
find_present : (es : Places) (x : Name) (d : ℕ) → is_some (find es x) ≡ true → find es ≡ find (es ++ (x, d) ∷ [])
find_present es x d there = let h : (n : Name) → find es n ≡ find (es ++ (x, d) ∷ []) n = λ n. by n (find es n) refl ∙ sym (find-append es ((x, d) ∷ []) n) in λ i n. h n i
  where
    other : (n : Name) (b : Bool) → same n x ≡ b → find es n ≡ None → option_or {T = ℕ} None (cond b (Some d) None) ≡ None
    other n false e none = refl
    other n true e none = absurd (true≢false (sym there ∙ ap (λ k. is_some (find es k)) (sym ((bytes_decides n x).0 e)) ∙ ap is_some none))

    by : (n : Name) (r : Option ℕ) → find es n ≡ r → find es n ≡ option_or (find es n) (find ((x, d) ∷ []) n)
    by n (Some y) e = e ∙ sym (ap (λ r. option_or r (find ((x, d) ∷ []) n)) e)
    by n None e = e ∙ sym (ap (λ r. option_or r (find ((x, d) ∷ []) n)) e ∙ other n (same n x) refl e)

module _ {K : Type 0} (of : K → Name) (es : List (K × ℕ)) (places : Places) (sees : seen of es ≡ places) (b n : Name) (is : b ≡ n) where
  pub found : lookup (λ k. is_eq (slice_cmp nat_cmp b (of k))) es ≡ find places n
  found = lookup_seen of es b ∙ (λ i. find (sees i) (is i))

  -- the map that has the name already
  pub stays : (d : ℕ) (c : Bool) → c ≡ true → c ≡ is_some (lookup (λ k. is_eq (slice_cmp nat_cmp b (of k))) es) → find places ≡ find (places ++ (n, d) ∷ [])
  stays d c there e = find_present places n d (sym (ap is_some found) ∙ sym e ∙ there)

none_of : {X : Type 0} (r : Option X) → is_some r ≡ false → r ≡ None
none_of None e = refl
none_of (Some x) e = absurd (true≢false e)

-- first or last is the same where nothing else is found
first_last : (r : Option ℕ) (b : Bool) (d : ℕ) → (b ≡ true → r ≡ None) → cond b (Some d) r ≡ option_or r (cond b (Some d) None)
first_last None b d h = refl
first_last (Some x) true d h = absurd (none-some _ (sym (h refl)))
first_last (Some x) false d h = refl

behind : (r s t : Option ℕ) (b : Bool) (d : ℕ) → s ≡ option_or r t → cond b (Some d) s ≡ option_or (cond b (Some d) r) t
behind r s t true d h = refl
behind r s t false d h = h

module _ {K : Type 0} (of : K → Name) (k : K) (d : ℕ) where
  -- a key that is new goes to its place in the order
  insert_absent : (es : List (K × ℕ)) (n : Name) → find (seen of es) (of k) ≡ None → find (seen of (insert_entry (λ p q. slice_cmp nat_cmp (of p) (of q)) es k d)) n ≡ option_or (find (seen of es) n) (cond (same n (of k)) (Some d) None)
  insert_absent [] n none = refl
  insert_absent (e ∷ es) n none = by (insert_absent es n) (slice_cmp nat_cmp (of k) (of e.0)) refl
    where
      rest : (b : Bool) → same (of k) (of e.0) ≡ b → cond b (Some e.1) (find (seen of es) (of k)) ≡ None
      rest b is = ap (λ c. cond c (Some e.1) (find (seen of es) (of k))) (sym is) ∙ none

      by : (find (seen of es) (of k) ≡ None → find (seen of (insert_entry (λ p q. slice_cmp nat_cmp (of p) (of q)) es k d)) n ≡ option_or (find (seen of es) n) (cond (same n (of k)) (Some d) None)) → (o : Ordering) → slice_cmp nat_cmp (of k) (of e.0) ≡ o → find (seen of (match_ordering o ((k, d) ∷ e ∷ es) ((e.0, d) ∷ es) (e ∷ insert_entry (λ p q. slice_cmp nat_cmp (of p) (of q)) es k d))) n ≡ option_or (find (seen of (e ∷ es)) n) (cond (same n (of k)) (Some d) None)
      by h Less c = first_last _ _ d (λ t. ap (find (seen of (e ∷ es))) ((bytes_decides n (of k)).0 t) ∙ none)
      by h Equal c = absurd (none-some _ (sym (rest true (sym (level_same (of k) (of e.0)) ∙ ap is_eq c))))
      by h Greater c = behind _ _ _ (same n (of e.0)) e.1 (h (rest false (sym (level_same (of k) (of e.0)) ∙ ap is_eq c)))

  -- the map that has it not, with the key in place of the text
  pub put : (es : List (K × ℕ)) (places : Places) → seen of es ≡ places → (b n : Name) → b ≡ n → (c : Bool) → c ≡ false → c ≡ is_some (lookup (λ q. is_eq (slice_cmp nat_cmp b (of q))) es) → of k ≡ b → (new : List (K × ℕ)) → new ≡ insert_entry (λ p q. slice_cmp nat_cmp (of p) (of q)) es k d → find (seen of new) ≡ find (places ++ (n, d) ∷ [])
  put es places sees b n is c none e key new made =
      let absent : find (seen of es) (of k) ≡ None = ap (find (seen of es)) key ∙ none_of _ (ap is_some (sym (lookup_seen of es b)) ∙ sym e ∙ none) in
      let each : (m : Name) → find (seen of new) m ≡ find (places ++ (n, d) ∷ []) m =
      λ m. ap (λ l. find (seen of l) m) made ∙ insert_absent es m absent ∙ (λ i. option_or (find (sees i) m) (cond (same m ((key ∙ is) i)) (Some d) None)) ∙ sym (find-append places ((n, d) ∷ []) m) in
      λ i m. each m i
