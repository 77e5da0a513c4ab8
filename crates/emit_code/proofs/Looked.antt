-- What is found of a handler by its number.
use Rattle.std.proofs.Common.{◌≡◌, ◌≢◌, ◌∙◌, ℕ, zero, suc, ◌+◌, ◌<◌, ◌==◌, Bool, true, false, List, [], ◌∷◌, Option, Some, None, refl, sym, ap, subst, arith, slice_get}
use Rattle.std.proofs.lemmas.Bool.{eq-eqb, ne_eqb, false≢true}
use Rattle.task_code.specs.declared.frame.Frame.{Frame}
use Rattle.task_code.specs.declared.frame.Frames.{Frames}
use Rattle.emit_code.specs.Delivery.{Entry, no_entry, entry_of}
use Rattle.emit_code.specs.Framed.{entries_from, entries_in}

pub pick_first : {A : Type 0} (b : Bool) (x y : A) → b ≡ true → (elim b [ true ↦ x | false ↦ y ]) ≡ x
pick_first true x y e = refl
pick_first false x y e = absurd (false≢true e)

pub pick_second : {A : Type 0} (b : Bool) (x y : A) → b ≡ false → (elim b [ true ↦ x | false ↦ y ]) ≡ y
pick_second true x y e = absurd (false≢true (sym e))
pick_second false x y e = refl

pub entry_here : (e : Entry) (es : List Entry) (k : ℕ) → e.number ≡ k → entry_of (e ∷ es) k ≡ e
entry_here e es k h = pick_first (e.number == k) e (entry_of es k) (eq-eqb e.number k h)

pub entry_there : (e : Entry) (es : List Entry) (k : ℕ) → e.number ≢ k → entry_of (e ∷ es) k ≡ entry_of es k
entry_there e es k h = pick_second (e.number == k) e (entry_of es k) (ne_eqb e.number k h)

-- what the two lists say of handler k
abbrev pub found : ℕ → Option (Option Frame) → Option ℕ → Entry
found k None p = no_entry
found k (Some None) p = no_entry
found k (Some (Some f)) None = no_entry
found k (Some (Some f)) (Some p) = record { number = k; frame = f; place = p }

none_found : (k : ℕ) (o : Option (Option Frame)) → found k o None ≡ no_entry
none_found k None = refl
none_found k (Some None) = refl
none_found k (Some (Some f)) = refl

none_below : (n : ℕ) (fs : List (Option Frame)) (ps : List ℕ) (k : ℕ) → k < n → entry_of (entries_from n fs ps) k ≡ no_entry
none_below n [] ps k h = refl
none_below n (f ∷ fs) [] k h = refl
none_below n (None ∷ fs) (p ∷ ps) k h = none_below (suc n) fs ps k (omega (arith, h))
none_below n (Some f ∷ fs) (p ∷ ps) k h =
    let e : Entry = record { number = n; frame = f; place = p } in
    entry_there e (entries_from (suc n) fs ps) k (apart n k h) ∙ none_below (suc n) fs ps k (omega (arith, h))
  where
    apart : (n k : ℕ) → k < n → n ≢ k
    apart n k h e = omega (arith, h, e)

looked : (n : ℕ) (fs : List (Option Frame)) (ps : List ℕ) (k : ℕ) → entry_of (entries_from n fs ps) (n + k) ≡ found (n + k) (slice_get fs k) (slice_get ps k)
looked n [] ps k = refl
looked n (f ∷ fs) [] k = sym (none_found (n + k) (slice_get (f ∷ fs) k))
looked n (None ∷ fs) (p ∷ ps) zero = none_below (suc n) fs ps (n + 0) (omega arith)
looked n (None ∷ fs) (p ∷ ps) (suc k) =
    let next : suc n + k ≡ n + suc k = omega arith in
    subst (λ j. entry_of (entries_from (suc n) fs ps) j ≡ found j (slice_get fs k) (slice_get ps k)) next (looked (suc n) fs ps k)
looked n (Some f ∷ fs) (p ∷ ps) zero =
    let here : n ≡ n + 0 = omega arith in
    let e : Entry = record { number = n; frame = f; place = p } in
    entry_here e (entries_from (suc n) fs ps) (n + 0) here ∙ (λ i. record { number = here i; frame = f; place = p })
looked n (Some f ∷ fs) (p ∷ ps) (suc k) =
    let next : suc n + k ≡ n + suc k = omega arith in
    let e : Entry = record { number = n; frame = f; place = p } in
    entry_there e (entries_from (suc n) fs ps) (n + suc k) (apart n k)
    ∙ subst (λ j. entry_of (entries_from (suc n) fs ps) j ≡ found j (slice_get fs k) (slice_get ps k)) next (looked (suc n) fs ps k)
  where
    apart : (n k : ℕ) → n ≢ n + suc k
    apart n k e = omega (arith, e)

pub entry_looked : (t : Frames) (h : ℕ) → entry_of (entries_in t) h ≡ found h (slice_get t.frames h) (slice_get t.entries h)
entry_looked t h =
    let whole : 0 + h ≡ h = omega arith in
    subst (λ k. entry_of (entries_in t) k ≡ found k (slice_get t.frames h) (slice_get t.entries h)) whole (looked 0 t.frames t.entries h)

pub no_frames : (t : Frames) (h : ℕ) → slice_get t.frames h ≡ None → entry_of (entries_in t) h ≡ no_entry
no_frames t h e = entry_looked t h ∙ ap (λ o. found h o (slice_get t.entries h)) e

pub no_frame : (t : Frames) (h : ℕ) → slice_get t.frames h ≡ Some None → entry_of (entries_in t) h ≡ no_entry
no_frame t h e = entry_looked t h ∙ ap (λ o. found h o (slice_get t.entries h)) e

pub no_place : (t : Frames) (h : ℕ) → slice_get t.entries h ≡ None → entry_of (entries_in t) h ≡ no_entry
no_place t h e = entry_looked t h ∙ ap (found h (slice_get t.frames h)) e ∙ none_found h (slice_get t.frames h)

pub both : (t : Frames) (h : ℕ) (f : Frame) (p : ℕ) → slice_get t.frames h ≡ Some (Some f) → slice_get t.entries h ≡ Some p → entry_of (entries_in t) h ≡ record { number = h; frame = f; place = p }
both t h f p framed placed = entry_looked t h ∙ (λ i. found h (framed i) (placed i))
