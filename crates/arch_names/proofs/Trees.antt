-- What a declaration and the last name's end leave of a set of names and of the tree that finds them.
use Rattle.std.proofs.Common.{◌≡◌, Bool, true, false, cond, List, [], ◌∷◌, ◌++◌, Option, Some, None, refl, sym, ap, ◌∙◌, true≢false, is_some, subst}
use Rattle.std.specs.Option.{option_or}
use Rattle.std.specs.Map.{lookup, KeepsOthers}
use Rattle.std.specs.Ordering.{is_eq, nat_cmp}
use Rattle.std.specs.Cmp.{eq_by_cmp_equiv}
use Rattle.std.specs.Cmp.Lexicographic.{slice_cmp, bytes_decides, nat_list_cmp_total}
use Rattle.std.proofs.lemmas.Map.Text.{is_eq-slice_cmp}
use Rattle.tower_types.specs.Ty.{Name}
use Rattle.arch_names.specs.declared.names.Declared.{Declared}
use Rattle.arch_names.specs.Names.{Names, same, find}
use Rattle.arch_names.specs.Trees.{AreOnce, Finds}
use Rattle.arch_names.proofs.Found.{find-append, find_present}

none_or : {X : Type 0} (r : Option X) → option_or r None ≡ r
none_or None = refl
none_or (Some x) = refl

none_left : {X : Type 0} (r s : Option X) → option_or r s ≡ None → r ≡ None
none_left None s e = refl
none_left (Some x) s e = e

none_of : {X : Type 0} (r : Option X) → is_some r ≡ false → r ≡ None
none_of None e = refl
none_of (Some x) e = absurd (true≢false e)

apart : {X A : Type 0} {x : X} → Some x ≡ None → A
apart e = absurd (true≢false (ap is_some e))

same_turned : (n m : Name) → same n m ≡ false → same m n ≡ false
same_turned n m e = by (same m n) refl
  where
    by : (b : Bool) → same m n ≡ b → b ≡ false
    by false h = refl
    by true h = absurd (true≢false (sym ((bytes_decides n m).1 (sym ((bytes_decides m n).0 h))) ∙ e))

module _ {T : Type 0} (d : Declared T) where
  -- other names find what they found
  beside : (es : Names T) (b n : Name) → same n b ≡ false → find (es ++ (b, d) ∷ []) n ≡ find es n
  beside es b n e = find-append es ((b, d) ∷ []) n ∙ ap (λ c. option_or (find es n) (cond c (Some d) None)) e ∙ none_or (find es n)

  -- a name that was absent finds its declaration
  here : (es : Names T) (b n : Name) → b ≡ n → find es b ≡ None → find (es ++ (b, d) ∷ []) n ≡ Some d
  here es b n e none = (λ i. find (es ++ (b, d) ∷ []) (sym e i)) ∙ find-append es ((b, d) ∷ []) b ∙ ap (λ r. option_or r (find ((b, d) ∷ []) b)) none
      ∙ ap (λ c. cond c (Some d) None) ((bytes_decides b b).1 refl)

  -- an absent name is none of the list's
  head_apart : (e : Name × Declared T) (es : Names T) (b : Name) → find (e ∷ es) b ≡ None → (same b e.0 ≡ false) × (find es b ≡ None)
  head_apart e es b none = by (same b e.0) refl
    where
      by : (c : Bool) → same b e.0 ≡ c → (same b e.0 ≡ false) × (find es b ≡ None)
      by false h = (h, sym (ap (λ c. cond c (Some e.1) (find es b)) h) ∙ none)
      by true h = apart (sym (ap (λ c. cond c (Some e.1) (find es b)) h) ∙ none)

  once_push : (es : Names T) (b : Name) → AreOnce es → find es b ≡ None → AreOnce (es ++ (b, d) ∷ [])
  once_push [] b once none = (refl, tt)
  once_push (e ∷ es) b once none =
      let h : (same b e.0 ≡ false) × (find es b ≡ None) = head_apart e es b none in
      (beside es b e.0 (same_turned b e.0 h.0) ∙ once.0, once_push es b once.1 h.1)

  once_front : (es : Names T) (b : Name) → AreOnce (es ++ (b, d) ∷ []) → AreOnce es
  once_front [] b once = tt
  once_front (e ∷ es) b once = (none_left _ _ (sym (find-append es ((b, d) ∷ []) e.0) ∙ once.0), once_front es b once.1)

  -- the last name is declared for the first time
  last_absent : (es : Names T) (b : Name) → AreOnce (es ++ (b, d) ∷ []) → find es b ≡ None
  last_absent [] b once = refl
  last_absent (e ∷ es) b once = by (last_absent es b once.1) (same b e.0) refl
    where
      by : find es b ≡ None → (c : Bool) → same b e.0 ≡ c → find (e ∷ es) b ≡ None
      by none false h = ap (λ c. cond c (Some e.1) (find es b)) h ∙ none
      by none true h = apart (sym (here es b e.0 ((bytes_decides b e.0).0 h) none) ∙ once.0)

module _ {K : Type 0} (of : K → Name) where
  -- whether a key is this name, by its order
  abbrev at : Name → K → Bool
  at n k = is_eq (slice_cmp nat_cmp n (of k))

  at_other : (b n : Name) → same b n ≡ false → (k : K) → at b k ≡ true → at n k ≡ false
  at_other b n e k h = by (at n k) refl
    where
      is : (m : Name) → at m k ≡ true → m ≡ of k
      is m y = (bytes_decides m (of k)).0 (sym (is_eq-slice_cmp m (of k)) ∙ y)

      by : (c : Bool) → at n k ≡ c → at n k ≡ false
      by false f = f
      by true y = absurd (true≢false (sym ((bytes_decides b n).1 (is b h ∙ sym (is n y))) ∙ e))

  others_stay : {X : Type 0} (b n : Name) → same b n ≡ false → (old new : List (K × X)) → KeepsOthers (λ x y. is_eq (slice_cmp nat_cmp (of x) (of y))) (at b) old new → lookup (at n) new ≡ lookup (at n) old
  unfolding KeepsOthers
  others_stay b n e old new keeps = keeps (at n) (λ x y. (eq_by_cmp_equiv nat_list_cmp_total).congr n (of x) (of y)) (at_other b n e)

module _ {K T : Type 0} (of : K → Name) where
  -- a tree that has a name that it had not
  pub declares : (old new : List (K × Declared T)) (es : Names T) (b : Name) (d : Declared T) → Finds of old es → find es b ≡ None → lookup (at of b) new ≡ Some d
      → KeepsOthers (λ x y. is_eq (slice_cmp nat_cmp (of x) (of y))) (at of b) old new → (more : Names T) → more ≡ es ++ (b, d) ∷ [] → Finds of new more
  declares old new es b d finds none is keeps more whole = subst (λ ns. Finds of new ns) (sym whole) (record { first = λ n. by n (same b n) refl; once = once_push d es b finds.once none })
    where
      by : (n : Name) (c : Bool) → same b n ≡ c → lookup (at of n) new ≡ find (es ++ (b, d) ∷ []) n
      by n true h = let e : b ≡ n = (bytes_decides b n).0 h in (λ i. lookup (at of (sym e i)) new) ∙ is ∙ sym (here d es b n e none)
      by n false h = others_stay of b n h old new keeps ∙ finds.first n ∙ sym (beside d es b n (same_turned b n h))

  -- a tree that has the last name no more
  pub forgets : (old new : List (K × Declared T)) (all es : Names T) (b : Name) (d : Declared T) → all ≡ es ++ (b, d) ∷ [] → Finds of old all → lookup (at of b) new ≡ None
      → KeepsOthers (λ x y. is_eq (slice_cmp nat_cmp (of x) (of y))) (at of b) old new → Finds of new es
  forgets old new all es b d whole finds is keeps = record { first = λ n. by n (same b n) refl; once = once_front d es b once }
    where
      once : AreOnce (es ++ (b, d) ∷ [])
      once = subst AreOnce whole finds.once

      by : (n : Name) (c : Bool) → same b n ≡ c → lookup (at of n) new ≡ find es n
      by n true h = let e : b ≡ n = (bytes_decides b n).0 h in (λ i. lookup (at of (sym e i)) new) ∙ is ∙ sym (last_absent d es b once) ∙ ap (find es) e
      by n false h = others_stay of b n h old new keeps ∙ finds.first n ∙ (λ i. find (whole i) n) ∙ beside d es b n (same_turned b n h)

  pub none_yet : (entries : List (K × Declared T)) (names : Names T) → entries ≡ [] → names ≡ [] → Finds of entries names
  none_yet entries names e f = subst (λ es. Finds of es names) (sym e) (subst (λ ns. Finds of [] ns) (sym f) (record { first = λ n. refl; once = tt }))

  module _ (entries : List (K × Declared T)) (order names : Names T) (sees : order ≡ names) (finds : Finds of entries order) (b n : Name) (is : b ≡ n) where
    pub found : lookup (at of b) entries ≡ find names n
    found = finds.first b ∙ (λ i. find (sees i) (is i))

    -- the tree that has the name already
    pub stays : (d : Declared T) (c : Bool) → c ≡ true → c ≡ is_some (lookup (at of b) entries) → find names ≡ find (names ++ (n, d) ∷ [])
    stays d c there e = find_present names n d (sym (ap is_some found) ∙ sym e ∙ there)

    pub never : {A : Type 0} (c : Bool) → c ≡ true → c ≡ is_some (lookup (at of b) entries) → find names n ≡ None → A
    never {A} c there e none = absurd (true≢false (sym there ∙ e ∙ ap is_some (found ∙ none)))

    pub absent : (c : Bool) → c ≡ false → c ≡ is_some (lookup (at of b) entries) → find names n ≡ None
    absent c none e = none_of _ (sym (ap is_some found) ∙ sym e ∙ none)
