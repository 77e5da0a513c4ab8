-- The verdict of a whole text.
use Rattle.std.proofs.Common.{◌≡◌, ◌≢◌, ◌⊎◌, ◌∙◌, inl, inr, ℕ, ◌+◌, ◌<◌, ◌≤◌, List, [], ◌∷◌, ◌++◌, length, Bool, true, false, cond, Option, Some, None, Ok, Err, refl, sym, ap, subst, arith, append-nil, length-append}
use Rattle.std.specs.Prelude.{nat_lt, ◌||◌}
use Rattle.std.proofs.lemmas.Bool.{ltb-true, ltb-false}
use Rattle.std.proofs.Math.Nat.{eq-or-lt_of_le}
use Rattle.task_code.specs.Rules.{most_words, most_instructions}
use Rattle.task_listing.specs.declared.fault.ListKind.{ListKind}
use Rattle.task_listing.specs.declared.fault.ListKind.TheVariants as fault
use Rattle.task_listing.specs.declared.kind.Kind.{Kind}
use Rattle.task_listing.specs.Lines.{Bytes, byte_limit, lines, whole_lines, behind_lines, if_any, words}
use Rattle.task_listing.specs.Context.{start, context}
use Rattle.task_listing.specs.Faults.{OffendsFrom, Offends, a_long_text, a_line, a_short_text, too_many_words, too_many_instructions, rank, Precedes, IsFirst, IsFaultless, IsTold}
use Rattle.task_listing.specs.declared.fault.ListFault.{ListFault}
use Rattle.task_listing.specs.declared.fault.ListFault.TheVariants as list_fault
use Rattle.task_listing.specs.Laws.{FaultIsFirst, NoneIsFaultless}
use Rattle.task_listing.specs.Reading.{Judges}
use Rattle.task_listing.specs.Judging.{State, begun, judge, walk, walk_on, limited, ended, closed, finished, verdict, Verdict}
use Rattle.task_listing.proofs.Firsts.{FirstFrom, PlaceIs, judge_ranks, first_here, stopped_first, stopped_end, walked_context, walked_place, walked_only, from_split, from_right, from_ranks}

line_first : (bs : Bytes) (m : ℕ) (k : ListKind) → length bs ≤ byte_limit → FirstFrom start 1 (lines bs) m k → ((context (whole_lines bs)).awaits ≢ [] → rank k ≡ 1) → IsFirst bs m k
line_first bs m k short f low = record { offends = a_line f.offends; precedes = others }
  where
    others : (i : ℕ) (j : ListKind) → Offends bs i j → ((i ≡ m) × (j ≡ k)) ⊎ Precedes m k i j
    others i j (a_long_text h) = absurd (omega (arith, short, h))
    others i j (a_line o) = f.precedes i j o
    others i j (a_short_text h) = let r : rank k ≡ 1 = low h in inr (inl (omega (arith, r)))
    others i j (too_many_words h) = let r = f.soon in inr (inl (omega (arith, r)))
    others i j (too_many_instructions h) = let r = f.soon in inr (inl (omega (arith, r)))

short_first : (bs : Bytes) (n : ℕ) → length bs ≤ byte_limit → (context (whole_lines bs)).awaits ≢ [] → length (lines bs) + 1 ≡ n → ((i : ℕ) (j : ListKind) → OffendsFrom start 1 (lines bs) i j → j ≡ fault.Place) → IsFirst bs n fault.Short
short_first bs n short ne e only = record { offends = subst (λ n. Offends bs n fault.Short) e (a_short_text ne); precedes = others }
  where
    others : (i : ℕ) (j : ListKind) → Offends bs i j → ((i ≡ n) × (j ≡ fault.Short)) ⊎ Precedes n fault.Short i j
    others i j (a_long_text h) = absurd (omega (arith, short, h))
    others i j (a_line o) = let r : rank j ≡ 4 = ap rank (only i j o) in inr (inl (omega (arith, r)))
    others i j (a_short_text h) = inl (e, refl)
    others i j (too_many_words h) = inr (inl (omega arith))
    others i j (too_many_instructions h) = inr (inl (omega arith))

place_first : (bs : Bytes) (m : ℕ) → length bs ≤ byte_limit → (context (whole_lines bs)).awaits ≡ [] → PlaceIs start 1 (lines bs) (Some m) → IsFirst bs m fault.Place
place_first bs m short none p = record { offends = a_line p.0; precedes = others }
  where
    ordered : (i : ℕ) (j : ListKind) → j ≡ fault.Place → (m ≡ i) ⊎ (m < i) → ((i ≡ m) × (j ≡ fault.Place)) ⊎ Precedes m fault.Place i j
    ordered i j e (inl q) = inl (sym q, e)
    ordered i j e (inr q) = inr (inr (sym (ap rank e), q))

    others : (i : ℕ) (j : ListKind) → Offends bs i j → ((i ≡ m) × (j ≡ fault.Place)) ⊎ Precedes m fault.Place i j
    others i j (a_long_text h) = absurd (omega (arith, short, h))
    others i j (a_line o) = ordered i j (p.1 i j o).0 (eq-or-lt_of_le (p.1 i j o).1)
    others i j (a_short_text h) = absurd (h none)
    others i j (too_many_words h) = inr (inl (omega arith))
    others i j (too_many_instructions h) = inr (inl (omega arith))

limit_first : (bs : Bytes) → length bs ≤ byte_limit → (context (whole_lines bs)).awaits ≡ [] → PlaceIs start 1 (lines bs) None → Offends bs 0 fault.Limit → IsFirst bs 0 fault.Limit
limit_first bs short none p h = record { offends = h; precedes = others }
  where
    others : (i : ℕ) (j : ListKind) → Offends bs i j → ((i ≡ 0) × (j ≡ fault.Limit)) ⊎ Precedes 0 fault.Limit i j
    others i j (a_long_text h) = absurd (omega (arith, short, h))
    others i j (a_line o) = absurd (p i j o)
    others i j (a_short_text h) = absurd (h none)
    others i j (too_many_words h) = inl (refl, refl)
    others i j (too_many_instructions h) = inl (refl, refl)

no_fault : (bs : Bytes) → length bs ≤ byte_limit → (context (whole_lines bs)).awaits ≡ [] → PlaceIs start 1 (lines bs) None → (context (lines bs)).words ≤ most_words → (context (lines bs)).instructions ≤ most_instructions → IsFaultless bs
no_fault bs short none p w q i j (a_long_text h) = absurd (omega (arith, short, h))
no_fault bs short none p w q i j (a_line o) = p i j o
no_fault bs short none p w q i j (a_short_text h) = h none
no_fault bs short none p w q i j (too_many_words h) = omega (arith, w, h)
no_fault bs short none p w q i j (too_many_instructions h) = omega (arith, q, h)

pub long_first : (bs : Bytes) → byte_limit < length bs → IsFirst bs 0 fault.Long
long_first bs long = record { offends = a_long_text long; precedes = others }
  where
    others : (i : ℕ) (j : ListKind) → Offends bs i j → ((i ≡ 0) × (j ≡ fault.Long)) ⊎ Precedes 0 fault.Long i j
    others i j (a_long_text h) = inl (refl, refl)
    others i j (a_line o) = let r = from_ranks start 1 (lines bs) i j o in inr (inl (omega (arith, r)))
    others i j (a_short_text h) = inr (inl (omega arith))
    others i j (too_many_words h) = inr (inl (omega arith))
    others i j (too_many_instructions h) = inr (inl (omega arith))

abbrev limit_at : ℕ → Verdict State
limit_at n = Err (n, fault.Limit)

abbrev long_at : ℕ → Verdict State
long_at n = Err (n, fault.Long)

abbrev taken : State → Verdict State
taken s = Ok s

some_left : (k : Kind) (ks : List Kind) → (k ∷ ks) ≡ [] → ⊥
some_left k ks e = cc

abbrev short_at : ℕ → Verdict State
short_at n = Err (n, fault.Short)

-- ---- the walk stopped

walk_first : (bs : Bytes) (m : ℕ) (k : ListKind) → length bs ≤ byte_limit → walk begun 1 (whole_lines bs) ≡ Err (m, k) → IsFirst bs m k
walk_first bs m k short h = line_first bs m k short (stopped_first begun 1 (whole_lines bs) (if_any (behind_lines bs)) m k h) low
  where
    low_of : (rank k ≡ 1) ⊎ ((context (whole_lines bs)).awaits ≡ []) → (context (whole_lines bs)).awaits ≢ [] → rank k ≡ 1
    low_of (inl r) ne = r
    low_of (inr e) ne = absurd (ne e)

    low : (context (whole_lines bs)).awaits ≢ [] → rank k ≡ 1
    low = low_of (stopped_end begun 1 (whole_lines bs) m k h)

-- ---- the whole lines were taken

module _ (bs : Bytes) (s : State) (short : length bs ≤ byte_limit) (h : walk begun 1 (whole_lines bs) ≡ Ok s) where
  here : context (whole_lines bs) ≡ s.context
  here = sym (walked_context begun 1 (whole_lines bs) s h)

  last_first : (l : Bytes) (k : ListKind) → judge s.context.awaits (words l) ≡ Some k → FirstFrom start 1 (whole_lines bs ++ l ∷ []) (1 + length (whole_lines bs)) k
  last_first l k e = record { offends = from_right start 1 (whole_lines bs) (l ∷ []) _ k f.offends; precedes = others; soon = f.soon }
    where
      f : FirstFrom (context (whole_lines bs)) (1 + length (whole_lines bs)) (l ∷ []) (1 + length (whole_lines bs)) k
      f = first_here (context (whole_lines bs)) (1 + length (whole_lines bs)) l [] k (ap (λ c. judge c.awaits (words l)) here ∙ e)

      of_part : (i : ℕ) (j : ListKind) → OffendsFrom start 1 (whole_lines bs) i j ⊎ OffendsFrom (context (whole_lines bs)) (1 + length (whole_lines bs)) (l ∷ []) i j → ((i ≡ 1 + length (whole_lines bs)) × (j ≡ k)) ⊎ Precedes (1 + length (whole_lines bs)) k i j
      of_part i j (inl o) = let r : rank j ≡ 4 = ap rank (walked_only begun 1 (whole_lines bs) s i j h o) in let q = f.soon in inr (inl (omega (arith, r, q)))
      of_part i j (inr o) = f.precedes i j o

      others : (i : ℕ) (j : ListKind) → OffendsFrom start 1 (whole_lines bs ++ l ∷ []) i j → ((i ≡ 1 + length (whole_lines bs)) × (j ≡ k)) ⊎ Precedes (1 + length (whole_lines bs)) k i j
      others i j o = of_part i j (from_split start 1 (whole_lines bs) (l ∷ []) i j o)

  last_only : (l : Bytes) → judge s.context.awaits (words l) ≡ None → (i : ℕ) (j : ListKind) → OffendsFrom start 1 (whole_lines bs ++ l ∷ []) i j → j ≡ fault.Place
  last_only l e i j o = of_part (from_split start 1 (whole_lines bs) (l ∷ []) i j o)
    where
      of_part : OffendsFrom start 1 (whole_lines bs) i j ⊎ OffendsFrom (context (whole_lines bs)) (1 + length (whole_lines bs)) (l ∷ []) i j → j ≡ fault.Place
      of_part (inl o) = walked_only begun 1 (whole_lines bs) s i j h o
      of_part (inr (inl (p, inl q))) = let g : None ≡ Some j = sym (ap (λ c. judge c.awaits (words l)) here ∙ e) ∙ q in cc
      of_part (inr (inl (p, inr q))) = q.1
      of_part (inr (inr o)) = absurd o

  judge_some : (ks : List Kind) (ws : List Bytes) → judge ks ws ≡ None → ks ≢ []
  judge_some [] ws e = cc
  judge_some (k ∷ ks) ws e = λ p. cc

  line_low : (l : Bytes) (k : ListKind) → judge s.context.awaits (words l) ≡ Some k → (context (whole_lines bs)).awaits ≢ [] → rank k ≡ 1
  line_low l k e ne = low (judge_ranks s.context.awaits (words l) k e)
    where
      low : (rank k ≡ 1) ⊎ ((k ≡ fault.After) × (s.context.awaits ≡ [])) → rank k ≡ 1
      low (inl r) = r
      low (inr r) = absurd (ne (ap (λ c. c.awaits) here ∙ r.1))

  last_by : (b : ℕ) (l : Bytes) → behind_lines bs ≡ b ∷ l → (o : Option ListKind) → judge s.context.awaits (words (b ∷ l)) ≡ o → (n : ℕ) (k : ListKind)
      → walk_on o (length (whole_lines bs) + 1) (short_at (length (whole_lines bs) + 2)) ≡ Err (n, k) → IsFirst bs n k
  last_by b l e (Some j) q n k w =
      let ls : lines bs ≡ whole_lines bs ++ (b ∷ l) ∷ [] = ap (λ x. whole_lines bs ++ if_any x) e in
      let m : 1 + length (whole_lines bs) ≡ length (whole_lines bs) + 1 = omega arith in
      let p : (length (whole_lines bs) + 1, j) ≡ (n, k) = cc in
      subst (λ (x : ℕ × ListKind). IsFirst bs x.0 x.1) p
      (subst (λ m. IsFirst bs m j) m (line_first bs (1 + length (whole_lines bs)) j short (subst (λ ls. FirstFrom start 1 ls (1 + length (whole_lines bs)) j) (sym ls) (last_first (b ∷ l) j q)) (line_low (b ∷ l) j q)))
  last_by b l e None q n k w =
      let ls : lines bs ≡ whole_lines bs ++ (b ∷ l) ∷ [] = ap (λ x. whole_lines bs ++ if_any x) e in
      let m : length (lines bs) ≡ length (whole_lines bs ++ (b ∷ l) ∷ []) = ap length ls in
      let a : length (whole_lines bs ++ (b ∷ l) ∷ []) ≡ length (whole_lines bs) + 1 = length-append (whole_lines bs) ((b ∷ l) ∷ []) in
      let p : (length (whole_lines bs) + 2, fault.Short) ≡ (n, k) = cc in
      subst (λ (x : ℕ × ListKind). IsFirst bs x.0 x.1) p
      (short_first bs (length (whole_lines bs) + 2) short (λ z. judge_some s.context.awaits (words (b ∷ l)) q (sym (ap (λ c. c.awaits) here) ∙ z)) (omega (arith, m, a))
      (subst (λ ls. (i : ℕ) (j : ListKind) → OffendsFrom start 1 ls i j → j ≡ fault.Place) (sym ls) (last_only (b ∷ l) q)))

  -- the text ends with LF
  all_lines : behind_lines bs ≡ [] → lines bs ≡ whole_lines bs
  all_lines e = ap (λ x. whole_lines bs ++ if_any x) e ∙ append-nil (whole_lines bs)

  places : behind_lines bs ≡ [] → PlaceIs start 1 (lines bs) s.place
  places e = subst (λ ls. PlaceIs start 1 ls s.place) (sym (all_lines e)) (walked_place begun 1 (whole_lines bs) s h refl)

  lines_here : behind_lines bs ≡ [] → context (lines bs) ≡ s.context
  lines_here e = ap context (all_lines e) ∙ here

  ends_only : behind_lines bs ≡ [] → (i : ℕ) (j : ListKind) → OffendsFrom start 1 (lines bs) i j → j ≡ fault.Place
  ends_only e i j o = walked_only begun 1 (whole_lines bs) s i j h (subst (λ ls. OffendsFrom start 1 ls i j) (all_lines e) o)

  by_limit : behind_lines bs ≡ [] → s.context.awaits ≡ [] → s.place ≡ None → (a b : Bool) → nat_lt most_words s.context.words ≡ a → nat_lt most_instructions s.context.instructions ≡ b → (n : ℕ) (k : ListKind)
      → cond (a || b) (limit_at 0) (taken s) ≡ Err (n, k) → IsFirst bs n k
  by_limit e z g true b p q n k w =
      let x : (0, fault.Limit) ≡ (n, k) = cc in
      let more : most_words < s.context.words = ltb-true most_words s.context.words p in
      subst (λ (y : ℕ × ListKind). IsFirst bs y.0 y.1) x
      (limit_first bs short (ap (λ c. c.awaits) here ∙ z) (subst (λ o. PlaceIs start 1 (lines bs) o) g (places e))
      (too_many_words (subst (λ c. most_words < c.words) (sym (lines_here e)) more)))
  by_limit e z g false true p q n k w =
      let x : (0, fault.Limit) ≡ (n, k) = cc in
      let more : most_instructions < s.context.instructions = ltb-true most_instructions s.context.instructions q in
      subst (λ (y : ℕ × ListKind). IsFirst bs y.0 y.1) x
      (limit_first bs short (ap (λ c. c.awaits) here ∙ z) (subst (λ o. PlaceIs start 1 (lines bs) o) g (places e))
      (too_many_instructions (subst (λ c. most_instructions < c.instructions) (sym (lines_here e)) more)))
  by_limit e z g false false p q n k w = cc

  by_place : behind_lines bs ≡ [] → s.context.awaits ≡ [] → (o : Option ℕ) → s.place ≡ o → (n : ℕ) (k : ListKind) → limited o s ≡ Err (n, k) → IsFirst bs n k
  by_place e z (Some m) g n k w =
      let x : (m, fault.Place) ≡ (n, k) = cc in
      subst (λ (y : ℕ × ListKind). IsFirst bs y.0 y.1) x
      (place_first bs m short (ap (λ c. c.awaits) here ∙ z) (subst (λ o. PlaceIs start 1 (lines bs) o) g (places e)))
  by_place e z None g n k w = by_limit e z g _ _ refl refl n k w

  by_awaits : behind_lines bs ≡ [] → (ks : List Kind) → s.context.awaits ≡ ks → (n : ℕ) (k : ListKind) → ended ks (length (whole_lines bs)) s ≡ Err (n, k) → IsFirst bs n k
  by_awaits e [] z n k w = by_place e z s.place refl n k w
  by_awaits e (i ∷ ks) z n k w =
      let x : (length (whole_lines bs) + 1, fault.Short) ≡ (n, k) = cc in
      subst (λ (y : ℕ × ListKind). IsFirst bs y.0 y.1) x
      (short_first bs (length (whole_lines bs) + 1) short (λ p. some_left i ks (sym (ap (λ c. c.awaits) here ∙ z) ∙ p)) (ap (λ ls. length ls + 1) (all_lines e)) (ends_only e))

  pub closed_first : (l : Bytes) → behind_lines bs ≡ l → (n : ℕ) (k : ListKind) → closed l (length (whole_lines bs)) s ≡ Err (n, k) → IsFirst bs n k
  closed_first [] e n k w = by_awaits e s.context.awaits refl n k w
  closed_first (b ∷ l) e n k w = last_by b l e (judge s.context.awaits (words (b ∷ l))) refl n k w

  limit_none : behind_lines bs ≡ [] → s.context.awaits ≡ [] → s.place ≡ None → (a b : Bool) → nat_lt most_words s.context.words ≡ a → nat_lt most_instructions s.context.instructions ≡ b → (t : State)
      → cond (a || b) (limit_at 0) (taken s) ≡ Ok t → IsFaultless bs
  limit_none e z g true b p q t w = cc
  limit_none e z g false true p q t w = cc
  limit_none e z g false false p q t w =
      no_fault bs short (ap (λ c. c.awaits) here ∙ z) (subst (λ o. PlaceIs start 1 (lines bs) o) g (places e))
      (subst (λ c. c.words ≤ most_words) (sym (lines_here e)) (ltb-false most_words s.context.words p))
      (subst (λ c. c.instructions ≤ most_instructions) (sym (lines_here e)) (ltb-false most_instructions s.context.instructions q))

  place_none : behind_lines bs ≡ [] → s.context.awaits ≡ [] → (o : Option ℕ) → s.place ≡ o → (t : State) → limited o s ≡ Ok t → IsFaultless bs
  place_none e z (Some m) g t w = cc
  place_none e z None g t w = limit_none e z g _ _ refl refl t w

  awaits_none : behind_lines bs ≡ [] → (ks : List Kind) → s.context.awaits ≡ ks → (t : State) → ended ks (length (whole_lines bs)) s ≡ Ok t → IsFaultless bs
  awaits_none e [] z t w = place_none e z s.place refl t w
  awaits_none e (i ∷ ks) z t w = cc

  last_none : (o : Option ListKind) (t : State) → walk_on o (length (whole_lines bs) + 1) (short_at (length (whole_lines bs) + 2)) ≡ Ok t → IsFaultless bs
  last_none (Some j) t w = cc
  last_none None t w = cc

  pub closed_none : (l : Bytes) → behind_lines bs ≡ l → (t : State) → closed l (length (whole_lines bs)) s ≡ Ok t → IsFaultless bs
  closed_none [] e t w = awaits_none e s.context.awaits refl t w
  closed_none (b ∷ l) e t w = last_none (judge s.context.awaits (words (b ∷ l))) t w

by_walk : (bs : Bytes) → length bs ≤ byte_limit → (r : Verdict State) → walk begun 1 (whole_lines bs) ≡ r → (n : ℕ) (k : ListKind) → finished (behind_lines bs) (length (whole_lines bs)) r ≡ Err (n, k) → IsFirst bs n k
by_walk bs short (Ok s) e n k h = closed_first bs s short e (behind_lines bs) refl n k h
by_walk bs short (Err (m, j)) e n k h = let x : (m, j) ≡ (n, k) = cc in subst (λ (y : ℕ × ListKind). IsFirst bs y.0 y.1) x (walk_first bs m j short e)

by_length : (bs : Bytes) (b : Bool) → nat_lt byte_limit (length bs) ≡ b → (n : ℕ) (k : ListKind) → cond b (long_at 0) (finished (behind_lines bs) (length (whole_lines bs)) (walk begun 1 (whole_lines bs))) ≡ Err (n, k) → IsFirst bs n k
by_length bs true e n k h = let x : (0, fault.Long) ≡ (n, k) = cc in subst (λ (y : ℕ × ListKind). IsFirst bs y.0 y.1) x (long_first bs (ltb-true byte_limit (length bs) e))
by_length bs false e n k h = by_walk bs (ltb-false byte_limit (length bs) e) (walk begun 1 (whole_lines bs)) refl n k h

-- the verdict is the first of what offends
pub fault_is_first : FaultIsFirst
fault_is_first bs n k h = by_length bs (nat_lt byte_limit (length bs)) refl n k h

none_by_walk : (bs : Bytes) → length bs ≤ byte_limit → (r : Verdict State) → walk begun 1 (whole_lines bs) ≡ r → (t : State) → finished (behind_lines bs) (length (whole_lines bs)) r ≡ Ok t → IsFaultless bs
none_by_walk bs short (Ok s) e t h = closed_none bs s short e (behind_lines bs) refl t h
none_by_walk bs short (Err f) e t h = cc

none_by_length : (bs : Bytes) (b : Bool) → nat_lt byte_limit (length bs) ≡ b → (t : State) → cond b (long_at 0) (finished (behind_lines bs) (length (whole_lines bs)) (walk begun 1 (whole_lines bs))) ≡ Ok t → IsFaultless bs
none_by_length bs true e t h = cc
none_by_length bs false e t h = none_by_walk bs (ltb-false byte_limit (length bs) e) (walk begun 1 (whole_lines bs)) refl t h

-- a text whose verdict is no fault has none
pub none_is_faultless : NoneIsFaultless
none_is_faultless bs t h = none_by_length bs (nat_lt byte_limit (length bs)) refl t h

-- what a reader tells is the fault of the text
pub is_told : (bs : Bytes) (f : ListFault) → Judges (verdict bs) f → IsTold bs f
is_told bs (list_fault.At n k) h = fault_is_first bs n k h
is_told bs list_fault.NoMemory h = h
