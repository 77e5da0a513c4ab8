-- Words that are moved one by one.
use Rattle.std.proofs.Common.{◌≡◌, ◌≢◌, ℕ, suc, ◌+◌, ◌-◌, ◌*◌, ◌<◌, ◌≤◌, ℤ, pos, List, [], ◌∷◌, length, refl, ap, sym, ◌∙◌, subst, arith, Bool, true, false, Option, Some, None, ◌⊎◌, inl, inr}
use Rattle.std.proofs.lemmas.Bool.{cases_lt}
use Rattle.task_code.specs.Own.{Own, Held}
use Rattle.task_code.specs.Does.{word_at}
use Rattle.task_code.specs.Piece.{end, Stands}
use Rattle.stmt_code.specs.Layout.{Base, private, monitor, plus}
use Rattle.stmt_code.specs.Body.{Moved, index_from, word_read, words_copied}
use Rattle.stmt_code.proofs.OneStep.{Context, Leads, at, stay, wider, on, ld}
use Rattle.stmt_code.proofs.ExprsRun.{top, Reads, plus_reads, restack, word_leads}
use Rattle.stmt_code.proofs.Stored.{Wrote, wrote_none, wrote_next}
use Rattle.stmt_code.proofs.PlacesRun.{WroteAt, Holder, HasRoom, slot_top, first_leads, last_leads}

-- the moving part of an offset is in the private word t
abbrev pub Index : Own → Bool → ℕ → ℕ → Type 0
Index o g t d = g ≡ true → word_at o.words t ≡ pos d

pub index_from_leads : (r : Context) (o : Own) (g : Bool) (t d a : ℕ) (st : List ℤ) → Index o g t d → Stands r.task.code a (index_from g t) → length st + 1 ≤ 64 → Leads r 1 (at o a st) (at o (end a (index_from g t)) (top g d st))
index_from_leads r o true t d a st i p len = restack r o 1 _ (suc a) (word_at o.words t ∷ st) (pos d ∷ st) (ap (λ v. v ∷ st) (i refl)) (ld r o a st t p (omega arith))
index_from_leads r o false t d a st i p len = wider r 0 1 _ _ (stay r _) (omega arith)

abbrev pub source : Bool → Base → ℕ → ℕ → Moved
source g b n t = record { moving = g; base = b; span = n; index = t }

-- the word j of a place
pub fetched_leads : (r : Context) (o : Own) (g : Bool) (b : Base) (n t d j a : ℕ) (st : List ℤ) (v : ℤ) → Index o g t d → (g ≡ false → d ≡ 0) → d + j < n → Reads o b (d + j) v → Stands r.task.code a (word_read (source g b n t) j) → length st + 2 ≤ 64
    → Leads r 3 (at o a st) (at o (end a (word_read (source g b n t) j)) (v ∷ st))
fetched_leads r o g b n t d j a st v i z lt rd p len =
    let e : d + j ≡ j + d = omega arith in
    on r 1 2 _ _ _ (index_from_leads r o g t d a st i p.0 (omega arith))
    (word_leads r o g (plus b j) d (n - j) _ st v z (omega arith) (plus_reads o b j d v (subst (λ k. Reads o b k v) e rd)) p.1 (omega arith))

plus_wrote : (o : Own) (hw : List ℤ) (b : Base) (j d : ℕ) (xs : List ℤ) (u : Own) → WroteAt o hw (plus b j) d xs u → WroteAt o hw b (d + j) xs u
plus_wrote o hw (private a) j d xs u w = let e : a + j + d ≡ a + (d + j) = omega arith in (w.0, w.1, subst (λ k. Wrote o.words k xs w.0) e w.2)
plus_wrote o hw (monitor m a) j d xs u w = let e : a + j + d ≡ a + (d + j) = omega arith in (w.0, w.1, subst (λ k. Wrote hw k xs w.0) e w.2)

plus_holder : (b : Base) (j : ℕ) (hw : List ℤ) (o : Own) → Holder b hw o → Holder (plus b j) hw o
plus_holder (private a) j hw o h = h
plus_holder (monitor m a) j hw o h = h

plus_room : (b : Base) (j d : ℕ) (hw : List ℤ) (o : Own) → HasRoom b (d + j) hw o → HasRoom (plus b j) d hw o
plus_room (private a) j d hw o h = omega arith
plus_room (monitor m a) j d hw o h = omega arith

-- a word written at (b, d) is not the one at (c, e)
abbrev pub Differ : Base → ℕ → Base → ℕ → Type 0
Differ (private x) d (private y) e = y + e ≢ x + d
Differ (monitor m x) d (monitor n y) e = y + e ≢ x + d
Differ _ d _ e = Unit {0}

abbrev held_of : ℕ → List ℤ → Held
held_of m ws = record { monitor = m; words = ws }

abbrev words_at : List ℤ → Option Held → List ℤ
words_at d None = d
words_at d (Some h) = h.words

abbrev number_of : Option Held → ℕ
number_of None = 0
number_of (Some h) = h.monitor

other_word : (ws : List ℤ) (p : ℕ) (v : ℤ) (ws' : List ℤ) (q : ℕ) → Wrote ws p (v ∷ []) ws' → q ≢ p → word_at ws' q ≡ word_at ws q
other_word ws p v ws' q w ne = pick (cases_lt q p)
  where
    pick : (q < p) ⊎ (p ≤ q) → word_at ws' q ≡ word_at ws q
    pick (inl l) = w.front q l
    pick (inr g) = w.back q (omega (arith, ne))

-- what is read elsewhere stays
still_reads : (o : Own) (hw : List ℤ) (b : Base) (d : ℕ) (v : ℤ) (u : Own) (c : Base) (e : ℕ) (x : ℤ) → WroteAt o hw b d (v ∷ []) u → Holder b hw o → Differ b d c e → Reads o c e x → Reads u c e x
still_reads o hw (private a) d v u (private y) e x w h df rd = subst (λ z. word_at z.words (y + e) ≡ x) (sym w.1) (other_word o.words (a + d) v w.0 (y + e) w.2 df ∙ rd)
still_reads o hw (private a) d v u (monitor m y) e x w h df rd = (rd.0, ap (λ z. z.held) w.1 ∙ rd.1, rd.2)
still_reads o hw (monitor m a) d v u (private y) e x w h df rd = ap (λ z. word_at z.words (y + e)) w.1 ∙ rd
still_reads o hw (monitor m a) d v u (monitor n y) e x w h df rd =
    let both : Some (held_of n rd.0) ≡ Some (held_of m hw) = sym rd.1 ∙ h in
    let mn : n ≡ m = ap number_of both in
    let ws : rd.0 ≡ hw = ap (words_at hw) both in
    (w.0, ap (λ z. z.held) w.1 ∙ ap (λ k. Some (held_of k w.0)) (sym mn), other_word hw (a + d) v w.0 (y + e) w.2 df ∙ ap (λ l. word_at l (y + e)) (sym ws) ∙ rd.2)

still_index : (o : Own) (hw : List ℤ) (b : Base) (d : ℕ) (v : ℤ) (u : Own) (g : Bool) (t k : ℕ) → WroteAt o hw b d (v ∷ []) u → Differ b d (private t) 0 → Index o g t k → Index u g t k
still_index o hw (private a) d v u g t k w df i y =
    let e : t + 0 ≡ t = omega arith in
    ap (λ z. word_at z.words t) w.1 ∙ other_word o.words (a + d) v w.0 t w.2 (λ q. df (e ∙ q)) ∙ i y
still_index o hw (monitor m a) d v u g t k w df i y = ap (λ z. word_at z.words t) w.1 ∙ i y

-- the words that are held after a word was written
abbrev next_held : (o : Own) (hw : List ℤ) (b : Base) (d : ℕ) (xs : List ℤ) (u : Own) → WroteAt o hw b d xs u → List ℤ
next_held o hw (private a) d xs u w = hw
next_held o hw (monitor m a) d xs u w = w.0

next_holder : (o : Own) (hw : List ℤ) (b : Base) (d : ℕ) (xs : List ℤ) (u : Own) (w : WroteAt o hw b d xs u) → Holder b hw o → Holder b (next_held o hw b d xs u w) u
next_holder o hw (private a) d xs u w h = tt
next_holder o hw (monitor m a) d xs u w h = ap (λ z. z.held) w.1

next_room : (o : Own) (hw : List ℤ) (b : Base) (d e : ℕ) (xs : List ℤ) (u : Own) (w : WroteAt o hw b d xs u) → HasRoom b e hw o → HasRoom b e (next_held o hw b d xs u w) u
next_room o hw (private a) d e xs u w h = let s : length u.words ≡ length o.words = ap (λ z. length z.words) w.1 ∙ w.2.size in omega (arith, s, h)
next_room o hw (monitor m a) d e xs u w h = omega (arith, w.2.size, h)

wrote_on : (o : Own) (hw : List ℤ) (b : Base) (d : ℕ) (v : ℤ) (u : Own) (w : WroteAt o hw b d (v ∷ []) u) (xs : List ℤ) (z : Own) → WroteAt u (next_held o hw b d (v ∷ []) u w) b (suc d) xs z → WroteAt o hw b d (v ∷ xs) z
wrote_on o hw (private a) d v u w xs z n =
    let e : a + suc d ≡ suc (a + d) = omega arith in
    let second = subst (λ k. Wrote u.words k xs n.0) e n.2 in
    (n.0, n.1 ∙ ap (λ (y : Own). record y { words = n.0 }) w.1, wrote_next o.words (a + d) v xs w.0 n.0 w.2 (subst (λ y. Wrote y (suc (a + d)) xs n.0) (ap (λ y. y.words) w.1) second))
wrote_on o hw (monitor m a) d v u w xs z n =
    let e : a + suc d ≡ suc (a + d) = omega arith in
    (n.0, n.1 ∙ ap (λ (y : Own). record y { held = Some (held_of m n.0) }) w.1, wrote_next hw (a + d) v xs w.0 n.0 w.2 (subst (λ k. Wrote w.0 k xs n.0) e n.2))

pub wrote_nothing : (o : Own) (hw : List ℤ) (b : Base) (d : ℕ) → Holder b hw o → WroteAt o hw b d [] o
wrote_nothing o hw (private a) d h = (o.words, refl, wrote_none o.words (a + d))
wrote_nothing o hw (monitor m a) d h = (hw, ap (λ (y : Option Held). record o { held = y }) h, wrote_none hw (a + d))

slot_len : (g : Bool) (b : Base) (d : ℕ) (st : List ℤ) → length (slot_top g b d st) ≤ length st + 1
slot_len true b d st = omega arith
slot_len false (private a) d st = omega arith
slot_len false (monitor m a) d st = omega arith

pub record Moves (r : Context) (o : Own) (hw : List ℤ) (b : Base) (d w a z : ℕ) (st : List ℤ) (xs : List ℤ) : Type 0 where
  pub own : Own
  pub leads : Leads r w (at o a st) (at own z st)
  pub wrote : WroteAt o hw b d xs own

module _ (r : Context) (g : Bool) (b : Base) (n t d : ℕ) (h : Bool) (c : Base) (m u e : ℕ) (zd : g ≡ false → d ≡ 0) (ze : h ≡ false → e ≡ 0) where
  pub moved_leads : (xs : List ℤ) (o : Own) (hw : List ℤ) (j a : ℕ) (st : List ℤ) → Index o g t d → Index o h u e → Holder b hw o
      → ((i : ℕ) → i < length xs → Reads o c (e + j + i) (word_at xs i))
      → ((i : ℕ) → i < length xs → HasRoom b (d + j + i) hw o)
      → ((i k : ℕ) → i < k → k < length xs → Differ b (d + j + i) c (e + j + k))
      → ((i : ℕ) → i < length xs → Differ b (d + j + i) (private t) 0 × Differ b (d + j + i) (private u) 0)
      → d + j + length xs ≤ n → e + j + length xs ≤ m
      → Stands r.task.code a (words_copied (source g b n t) (source h c m u) j (length xs)) → length st + 3 ≤ 64
      → Moves r o hw b (d + j) (6 * length xs) a (end a (words_copied (source g b n t) (source h c m u) j (length xs))) st xs
  moved_leads [] o hw j a st ix iy hd rd rm df dt ln lm p len = record { own = o; leads = wider r 0 (6 * 0) _ _ (stay r _) (omega arith); wrote = wrote_nothing o hw b (d + j) hd }
  moved_leads (x ∷ xs) o hw j a st ix iy hd rd rm df dt ln lm p len =
      let ej : e + j + 0 ≡ e + j = omega arith in
      let dj : d + j + 0 ≡ d + j = omega arith in
      let l0 : 0 < length (x ∷ xs) = omega arith in
      let index = index_from_leads r o g t d a st ix p.0.0 (omega arith) in
      let first = first_leads r o g (plus b j) d _ st p.0.1.0 (omega arith) in
      let value = fetched_leads r o h c m u e j _ (slot_top g (plus b j) d st) x iy ze (omega arith) (subst (λ k. Reads o c k x) ej (rd 0 l0)) p.0.1.1.0 (omega (arith, slot_len g (plus b j) d st)) in
      let last = last_leads r o g (plus b j) d (n - j) _ st x hw zd (omega arith) (plus_holder b j hw o hd) (plus_room b j d hw o (subst (λ k. HasRoom b k hw o) dj (rm 0 l0))) p.0.1.1.1 in
      let w = plus_wrote o hw b j d (x ∷ []) last.own last.wrote in
      let hw2 = next_held o hw b (d + j) (x ∷ []) last.own w in
      let rest = moved_leads xs last.own hw2 (suc j) _ st
      (still_index o hw b (d + j) x last.own g t d w (subst (λ k. Differ b k (private t) 0) dj (dt 0 l0).0) ix)
      (still_index o hw b (d + j) x last.own h u e w (subst (λ k. Differ b k (private u) 0) dj (dt 0 l0).1) iy)
      (next_holder o hw b (d + j) (x ∷ []) last.own w hd)
      (λ i lt. let s : e + j + suc i ≡ e + suc j + i = omega arith in
      still_reads o hw b (d + j) x last.own c (e + suc j + i) (word_at xs i) w hd
      (subst (λ k. Differ b k c (e + suc j + i)) dj (subst (λ k. Differ b (d + j + 0) c k) s (df 0 (suc i) (omega arith) (omega arith))))
      (subst (λ k. Reads o c k (word_at xs i)) s (rd (suc i) (omega arith))))
      (λ i lt. let s : d + j + suc i ≡ d + suc j + i = omega arith in
      next_room o hw b (d + j) (d + suc j + i) (x ∷ []) last.own w (subst (λ k. HasRoom b k hw o) s (rm (suc i) (omega arith))))
      (λ i k lt lk. let s : d + j + suc i ≡ d + suc j + i = omega arith in let s' : e + j + suc k ≡ e + suc j + k = omega arith in
      subst (λ z. Differ b z c (e + suc j + k)) s (subst (λ z. Differ b (d + j + suc i) c z) s' (df (suc i) (suc k) (omega arith) (omega arith))))
      (λ i lt. let s : d + j + suc i ≡ d + suc j + i = omega arith in
      subst (λ z. Differ b z (private t) 0 × Differ b z (private u) 0) s (dt (suc i) (omega arith)))
      (omega arith) (omega arith) p.1 len in
      let dd : d + suc j ≡ suc (d + j) = omega arith in
      record {
        own = rest.own;
        leads = wider r (1 + (1 + (3 + 1)) + 6 * length xs) _ _ _
            (on r (1 + (1 + (3 + 1))) (6 * length xs) _ _ _ (on r 1 (1 + (3 + 1)) _ _ _ index (on r 1 (3 + 1) _ _ _ first (on r 3 1 _ _ _ value last.leads))) rest.leads) (omega arith);
        wrote = wrote_on o hw b (d + j) x last.own w xs rest.own (subst (λ k. WroteAt last.own hw2 b k xs rest.own) dd rest.wrote);
      }
