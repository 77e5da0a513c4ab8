-- Words that are written, and the values that they then are.
use Rattle.std.proofs.Common.{◌≡◌, ℕ, zero, suc, ◌+◌, ◌-◌, ◌<◌, ◌≤◌, ℤ, pos, List, [], ◌∷◌, ◌++◌, length, refl, ap, sym, ◌∙◌, subst, arith, length-append, slice_set, get_or-set_same, get_or-set_other, length-set, ◌⊎◌, inl, inr}
use Rattle.std.proofs.lemmas.List.{get_or-append-add, ext_get_or}
use Rattle.std.proofs.lemmas.Bool.{cases_lt}
use Rattle.std.proofs.Math.ListN.{get_or-append}
use Rattle.tower_types.specs.Value.{Value, flat}
use Rattle.task_code.specs.Does.{word_at}
use Rattle.stmt_code.proofs.Flats.{Cut}
use Rattle.stmt_code.proofs.ExprsRun.{Holds, word_in}

-- ws' is ws with the words xs from p on
pub record Wrote (ws : List ℤ) (p : ℕ) (xs ws' : List ℤ) : Type 0 where
  pub size : length ws' ≡ length ws
  pub inside : (i : ℕ) → i < length xs → word_at ws' (p + i) ≡ word_at xs i
  pub front : (j : ℕ) → j < p → word_at ws' j ≡ word_at ws j
  pub back : (j : ℕ) → p + length xs ≤ j → word_at ws' j ≡ word_at ws j

pub wrote_one : (ws : List ℤ) (p : ℕ) (x : ℤ) → p < length ws → Wrote ws p (x ∷ []) (slice_set ws p x)
wrote_one ws p x lt =
    record {
      size = length-set ws p x;
      inside = λ i l. let e : p ≡ p + i = omega arith in let z : 0 ≡ i = omega arith in
          subst (λ j. word_at (slice_set ws p x) j ≡ word_at (x ∷ []) i) e (get_or-set_same ws p x (pos 0) lt ∙ ap (word_at (x ∷ [])) z);
      front = λ j l. get_or-set_other ws p j x (pos 0) (λ e. absurd (omega (arith, e)));
      back = λ j l. get_or-set_other ws p j x (pos 0) (λ e. absurd (omega (arith, e)));
    }

-- one word behind those already written
pub wrote_more : (ws : List ℤ) (p : ℕ) (xs : List ℤ) (x : ℤ) (ws1 ws2 : List ℤ) → Wrote ws p xs ws1 → Wrote ws1 (p + length xs) (x ∷ []) ws2 → Wrote ws p (xs ++ x ∷ []) ws2
wrote_more ws p xs x ws1 ws2 a b =
    record {
      size = b.size ∙ a.size;
      inside = λ i l. inside i (cases_lt i (length xs)) (omega (arith, length-append xs (x ∷ [])));
      front = λ j l. b.front j (omega arith) ∙ a.front j l;
      back = λ j l. b.back j (omega (arith, length-append xs (x ∷ []))) ∙ a.back j (omega (arith, length-append xs (x ∷ [])));
    }
  where
    inside : (i : ℕ) → (i < length xs) ⊎ (length xs ≤ i) → i < length xs + 1 → word_at ws2 (p + i) ≡ word_at (xs ++ x ∷ []) i
    inside i (inl l) h = b.front (p + i) (omega arith) ∙ a.inside i l ∙ sym (get_or-append xs (x ∷ []) (pos 0) i l)
    inside i (inr g) h =
        let e : i ≡ length xs + 0 = omega arith in
        let z : p + length xs + 0 ≡ p + i = omega arith in
        subst (λ j. word_at ws2 j ≡ word_at (xs ++ x ∷ []) i) z (b.inside 0 (omega arith) ∙ sym (ap (word_at (xs ++ x ∷ [])) e ∙ get_or-append-add xs (x ∷ []) 0 (pos 0)))

pub wrote_none : (ws : List ℤ) (p : ℕ) → Wrote ws p [] ws
wrote_none ws p = record { size = refl; inside = λ i l. absurd (omega arith); front = λ j l. refl; back = λ j l. refl }

mid_wrote : (front x y back : List ℤ) → length y ≡ length x → Wrote (front ++ (x ++ back)) (length front) y (front ++ (y ++ back))
mid_wrote front x y back e =
    record {
      size = omega (arith, e, length-append front (x ++ back), length-append x back, length-append front (y ++ back), length-append y back);
      inside = λ i l. word_in front y back i l;
      front = λ j l. get_or-append front (y ++ back) (pos 0) j l ∙ sym (get_or-append front (x ++ back) (pos 0) j l);
      back = λ j l.
          let i : ℕ = j - (length front + length y) in
          let at_y : length front + (length y + i) ≡ j = omega arith in
          let at_x : length front + (length x + i) ≡ j = omega (arith, e) in
          let yy = get_or-append-add front (y ++ back) (length y + i) (pos 0) ∙ get_or-append-add y back i (pos 0) in
          let xx = get_or-append-add front (x ++ back) (length x + i) (pos 0) ∙ get_or-append-add x back i (pos 0) in
          ap (word_at (front ++ (y ++ back))) (sym at_y) ∙ yy ∙ sym xx ∙ ap (word_at (front ++ (x ++ back))) at_x;
    }

-- the flat list of a value with a part replaced is the flat list with those words written
pub cut_wrote : (whole x : List ℤ) (f : Value → List ℤ) (far : ℕ) (u : Value) → Cut whole far x f → length (flat u) ≡ length x → Wrote whole far (flat u) (f u)
cut_wrote whole x f far u c e =
    subst (λ l. Wrote l far (flat u) (f u)) (sym c.is) (subst (λ l. Wrote (c.front ++ (x ++ c.back)) far (flat u) l) (sym (c.put_is u))
    (subst (λ n. Wrote (c.front ++ (x ++ c.back)) n (flat u) (c.front ++ (flat u ++ c.back))) c.is_far (mid_wrote c.front x (flat u) c.back e)))

-- what is written is determined
pub wrote_same : (ws : List ℤ) (p : ℕ) (xs a b : List ℤ) → Wrote ws p xs a → Wrote ws p xs b → a ≡ b
wrote_same ws p xs a b u v = ext_get_or (pos 0) a b (u.size ∙ sym v.size) (λ i l. word i (cases_lt i p) (cases_lt i (p + length xs)))
  where
    word : (i : ℕ) → (i < p) ⊎ (p ≤ i) → (i < p + length xs) ⊎ (p + length xs ≤ i) → word_at a i ≡ word_at b i
    word i (inl l) m = u.front i l ∙ sym (v.front i l)
    word i (inr g) (inl l) =
        let e : p + (i - p) ≡ i = omega arith in
        subst (λ j. word_at a j ≡ word_at b j) e (u.inside (i - p) (omega arith) ∙ sym (v.inside (i - p) (omega arith)))
    word i (inr g) (inr h) = u.back i h ∙ sym (v.back i h)

-- a part written where the whole stands is the whole written, with that part
pub wrote_in : (ws : List ℤ) (a far : ℕ) (whole xs whole' ws' : List ℤ) → Holds ws a whole → far + length xs ≤ length whole → Wrote whole far xs whole' → Wrote ws (a + far) xs ws' → Wrote ws a whole' ws'
wrote_in ws a far whole xs whole' ws' held within u v =
    record {
      size = v.size;
      inside = λ i l. word i (omega (arith, u.size)) (cases_lt i far) (cases_lt i (far + length xs));
      front = λ j l. v.front j (omega arith);
      back = λ j l. v.back j (omega (arith, u.size));
    }
  where
    word : (i : ℕ) → i < length whole → (i < far) ⊎ (far ≤ i) → (i < far + length xs) ⊎ (far + length xs ≤ i) → word_at ws' (a + i) ≡ word_at whole' i
    word i h (inl l) m = v.front (a + i) (omega arith) ∙ held i h ∙ sym (u.front i l)
    word i h (inr g) (inl l) =
        let e : far + (i - far) ≡ i = omega arith in
        let e' : a + far + (i - far) ≡ a + i = omega arith in
        ap (word_at ws') (sym e') ∙ v.inside (i - far) (omega arith) ∙ sym (u.inside (i - far) (omega arith)) ∙ ap (word_at whole') e
    word i h (inr g) (inr m) = v.back (a + i) (omega arith) ∙ held i h ∙ sym (u.back i m)

-- words that stand apart are as before
pub holds_apart : (ws : List ℤ) (p : ℕ) (xs ws' : List ℤ) (a : ℕ) (ys : List ℤ) → Wrote ws p xs ws' → (a + length ys ≤ p) ⊎ (p + length xs ≤ a) → Holds ws a ys → Holds ws' a ys
holds_apart ws p xs ws' a ys u (inl l) h i lt = u.front (a + i) (omega arith) ∙ h i lt
holds_apart ws p xs ws' a ys u (inr l) h i lt = u.back (a + i) (omega arith) ∙ h i lt

-- a word that stands there already
pub wrote_self : (ws : List ℤ) (p : ℕ) (x : ℤ) → word_at ws p ≡ x → Wrote ws p (x ∷ []) ws
wrote_self ws p x e =
    record {
      size = refl;
      inside = λ i l. let a : p + i ≡ p = omega arith in let z : 0 ≡ i = omega arith in ap (word_at ws) a ∙ e ∙ ap (word_at (x ∷ [])) z;
      front = λ j l. refl;
      back = λ j l. refl;
    }

-- a word, and then those behind it
pub wrote_next : (ws : List ℤ) (p : ℕ) (x : ℤ) (xs ws1 ws2 : List ℤ) → Wrote ws p (x ∷ []) ws1 → Wrote ws1 (suc p) xs ws2 → Wrote ws p (x ∷ xs) ws2
wrote_next ws p x xs ws1 ws2 a b =
    record {
      size = b.size ∙ a.size;
      inside = λ i l. inside i l;
      front = λ j l. b.front j (omega arith) ∙ a.front j l;
      back = λ j l. b.back j (omega arith) ∙ a.back j (omega arith);
    }
  where
    inside : (i : ℕ) → i < length (x ∷ xs) → word_at ws2 (p + i) ≡ word_at (x ∷ xs) i
    inside zero l = b.front (p + 0) (omega arith) ∙ a.inside 0 (omega arith)
    inside (suc i) l = let e : suc p + i ≡ p + suc i = omega arith in subst (λ j. word_at ws2 j ≡ word_at xs i) e (b.inside i (omega arith))
