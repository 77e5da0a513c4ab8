-- Texts that go through a page to a sink, one after another.
use Rattle.std.proofs.Common.{◌≡◌, ℕ, zero, suc, ◌+◌, ◌-◌, ◌<◌, ◌≤◌, List, [], ◌∷◌, ◌++◌, Option, Some, refl, sym, ap, ◌∙◌, subst, arith, append_assoc, append-nil}
use Rattle.std.specs.Prelude.{take, length}
use Rattle.std.proofs.lemmas.Option.{same_Some}
use Rattle.std.specs.List.{flat_map}
use Rattle.std.proofs.lemmas.Grind.{flat_map-append}
use Rattle.tower_io.specs.declared.answers.Put.{Put}
use Rattle.tower_io.specs.declared.answers.Put.TheVariants as put
use Rattle.tower_io.specs.Faults.{Rose}
use Rattle.tower_io.specs.Sinks.{Adds, AddsPrefix}
use Rattle.tower_io.proofs.Adding.{Adds_none, Adds_trans, AddsPrefix_longer, AddsPrefix_after}
use Rattle.tower_syntax.specs.Graph.{numbers_before}
use Rattle.tower_report.specs.Bytes.{Bytes}
use Rattle.tower_report.specs.Puts.{Puts}
use Rattle.tower_run.specs.Paging.{HasPut, HasFailed, AfterPut, PutsOver}

-- ---- since the first sink

-- nothing was put
pub put_none : {S : Type 0} (w : S → Option (List ℕ)) (f : S → ℕ) (first : S) → HasPut w f first first [] []
put_none w f first = record { sent = []; whole = refl; adds = Adds_none (w first); calm = refl }

-- the same text
after_same : {S : Type 0} (w : S → Option (List ℕ)) (f : S → ℕ) (first q : S) (held s t : Bytes) (r : Put) → s ≡ t → AfterPut w f first q held s r → AfterPut w f first q held t r
after_same w f first q held s t r e h = let P : Bytes → Type 0 = λ u. AfterPut w f first q held u r in subst P e h

module _ {S : Type 0} {w : S → Option (List ℕ)} {f : S → ℕ} where
  -- more stands on the page
  pub put_held : {first out : S} {held text : Bytes} (more : Bytes) → HasPut w f first out held text → HasPut w f first out (held ++ more) (text ++ more)
  put_held {first} {out} {held} {text} more h = record {
    sent = h.sent;
    whole = sym (append_assoc h.sent held more) ∙ ap (λ t. t ++ more) h.whole;
    adds = h.adds;
    calm = h.calm;
  }

  -- what the page held was put
  pub put_flushed : {first out q : S} {held text : Bytes} → HasPut w f first out held text → Puts w f out q held put.Done → HasPut w f first q [] text
  put_flushed {first} {out} {q} {held} {text} h p = record {
    sent = h.sent ++ held;
    whole = append-nil (h.sent ++ held) ∙ h.whole;
    adds = Adds_trans (w first) (w out) (w q) h.sent held h.adds p.all;
    calm = p.calm ∙ h.calm;
  }

  failed_after : {first out q : S} (sent more : Bytes) → Adds (w first) (w out) sent → f out ≡ f first → Puts w f out q more put.Failed → HasFailed w f first q (sent ++ more)
  failed_after {first} {out} {q} sent more adds calm p = record {
    part = AddsPrefix_after (w first) (w out) (w q) sent more adds p.part;
    rose = let P : ℕ → Type 0 = λ n. Rose n (f q) in subst P calm p.rose;
    never_falls = omega (arith, calm, p.never_falls);
  }

  pub failed_same : {first q : S} {s t : Bytes} → s ≡ t → HasFailed w f first q s → HasFailed w f first q t
  failed_same {first} {q} {s} {t} e h = let P : Bytes → Type 0 = λ u. HasFailed w f first q u in subst P e h

  pub failed_longer : {first q : S} {text : Bytes} (more : Bytes) → HasFailed w f first q text → HasFailed w f first q (text ++ more)
  failed_longer {first} {q} {text} more h = record { part = AddsPrefix_longer (w first) (w q) text more h.part; rose = h.rose; never_falls = h.never_falls }

  pub flush_failed : {first out q : S} {held text : Bytes} → HasPut w f first out held text → Puts w f out q held put.Failed → HasFailed w f first q text
  flush_failed {first} {out} {q} {held} {text} h p = failed_same h.whole (failed_after h.sent held h.adds h.calm p)

  -- where the page is empty, all was sent
  pub all_sent : {first out : S} {text : Bytes} → HasPut w f first out [] text → Adds (w first) (w out) text
  all_sent {first} {out} {text} h = let P : Bytes → Type 0 = λ t. Adds (w first) (w out) t in subst P (sym (append-nil h.sent) ∙ h.whole) h.adds

  -- more was put behind it
  pub put_past : {first out q : S} {text : Bytes} (more : Bytes) → HasPut w f first out [] text → Puts w f out q more put.Done → HasPut w f first q [] (text ++ more)
  put_past {first} {out} {q} {text} more h p = record {
    sent = text ++ more;
    whole = append-nil (text ++ more);
    adds = Adds_trans (w first) (w out) (w q) text more (all_sent h) p.all;
    calm = p.calm ∙ h.calm;
  }

  pub past_failed : {first out q : S} {text : Bytes} (more : Bytes) → HasPut w f first out [] text → Puts w f out q more put.Failed → HasFailed w f first q (text ++ more)
  past_failed {first} {out} {q} {text} more h p = failed_after text more (all_sent h) h.calm p

  pub put_same : {first out : S} {held s t : Bytes} → s ≡ t → HasPut w f first out held s → HasPut w f first out held t
  put_same {first} {out} {held} {s} {t} e h = let P : Bytes → Type 0 = λ u. HasPut w f first out held u in subst P e h

  -- ---- from any sink on

  pub over_none : {a : S} {x : Bytes} → PutsOver w f a x a x [] put.Done
  over_none {a} {x} = record { behind = λ first told h. put_same (sym (append-nil told)) h }

  pub over_then : {a b c : S} {x y z s t : Bytes} (r : Put) → PutsOver w f a x b y s put.Done → PutsOver w f b y c z t r → PutsOver w f a x c z (s ++ t) r
  over_then {a} {b} {c} {x} {y} {z} {s} {t} r one next = record {
    behind = λ first told h. after_same w f first c z ((told ++ s) ++ t) (told ++ (s ++ t)) r (append_assoc told s t) (next.behind first (told ++ s) (one.behind first told h));
  }

  pub over_stop : {a b : S} {x y s : Bytes} (t : Bytes) → PutsOver w f a x b y s put.Failed → PutsOver w f a x b y (s ++ t) put.Failed
  over_stop {a} {b} {x} {y} {s} t one = record {
    behind = λ first told h. failed_same (append_assoc told s t) (failed_longer t (one.behind first told h));
  }

  pub over_same : {a b : S} {x y s t : Bytes} {r : Put} → s ≡ t → PutsOver w f a x b y s r → PutsOver w f a x b y t r
  over_same {a} {b} {x} {y} {s} {t} {r} e h = let P : Bytes → Type 0 = λ u. PutsOver w f a x b y u r in subst P e h

  -- the same answer
  pub over_answer : {a b : S} {x y s : Bytes} {q r : Put} → q ≡ r → PutsOver w f a x b y s q → PutsOver w f a x b y s r
  over_answer {a} {b} {x} {y} {s} {q} {r} e h = let P : Put → Type 0 = λ u. PutsOver w f a x b y s u in subst P e h

-- ---- the texts of the numbers 0, 1, up to n - 1

numbers_onto : (n : ℕ) (ks : List ℕ) → numbers_before n ks ≡ numbers_before n [] ++ ks
numbers_onto zero ks = refl
numbers_onto (suc n) ks =
    numbers_onto n (n ∷ ks) ∙ sym (append_assoc (numbers_before n []) (n ∷ []) ks) ∙ ap (λ l. l ++ ks) (sym (numbers_onto n (n ∷ [])))

numbers_more : (n : ℕ) → numbers_before (n + 1) [] ≡ numbers_before n [] ++ n ∷ []
numbers_more n = let more : n + 1 ≡ suc n = omega arith in ap (λ k. numbers_before k []) more ∙ numbers_onto n (n ∷ [])

-- fewer numbers come first
numbers_upto : (k n : ℕ) → (rest : List ℕ) × (numbers_before (k + n) [] ≡ numbers_before n [] ++ rest)
numbers_upto zero n = let same : 0 + n ≡ n = omega arith in ([], ap (λ m. numbers_before m []) same ∙ sym (append-nil (numbers_before n [])))
numbers_upto (suc k) n =
    let before = numbers_upto k n in
    let more : suc k + n ≡ (k + n) + 1 = omega arith in
    (before.0 ++ (k + n) ∷ [], ap (λ m. numbers_before m []) more ∙ numbers_more (k + n) ∙ ap (λ l. l ++ (k + n) ∷ []) before.1 ∙ append_assoc (numbers_before n []) before.0 ((k + n) ∷ []))

abbrev pub texts_before : (ℕ → Bytes) → ℕ → Bytes
texts_before text n = flat_map text (numbers_before n [])

texts_more : (text : ℕ → Bytes) (n : ℕ) → texts_before text n ++ text n ≡ texts_before text (n + 1)
texts_more text n =
    sym (ap (flat_map text) (numbers_more n) ∙ flat_map-append text (numbers_before n []) (n ∷ []) ∙ ap (λ t. texts_before text n ++ t) (append-nil (text n)))

texts_upto : (text : ℕ → Bytes) (i n : ℕ) → i ≤ n → (rest : Bytes) × (texts_before text i ++ rest ≡ texts_before text n)
texts_upto text i n h =
    let part = numbers_upto (n - i) i in
    let same : n - i + i ≡ n = omega arith in
    (flat_map text part.0, sym (flat_map-append text (numbers_before i []) part.0) ∙ ap (flat_map text) (sym part.1) ∙ ap (λ m. texts_before text m) same)

module _ {S : Type 0} {w : S → Option (List ℕ)} {f : S → ℕ} (text : ℕ → Bytes) (i : ℕ) where
  -- the texts of the numbers before i, and then that of i
  pub over_number : {a b c : S} {x y z : Bytes} → PutsOver w f a x b y (texts_before text i) put.Done → PutsOver w f b y c z (text i) put.Done → PutsOver w f a x c z (texts_before text (i + 1)) put.Done
  over_number {a} {b} {c} {x} {y} {z} before here = over_same (texts_more text i) (over_then put.Done before here)

  -- where the text of i failed, none comes after it
  pub over_number_part : {a b c : S} {x y z : Bytes} (n : ℕ) → i < n → PutsOver w f a x b y (texts_before text i) put.Done → PutsOver w f b y c z (text i) put.Failed → PutsOver w f a x c z (texts_before text n) put.Failed
  over_number_part {a} {b} {c} {x} {y} {z} n h before here =
      let part = texts_upto text (i + 1) n (omega arith) in
      over_same part.1 (over_stop part.0 (over_same (texts_more text i) (over_then put.Failed before here)))

-- ---- a page and the sink behind it

-- what was put on the page and did not fit is taken back
pub taken_back : (old new piece : Bytes) → AddsPrefix (Some old) (Some new) piece → take (length old) new ≡ old
taken_back old new piece p =
    let is : new ≡ old ++ p.part = same_Some new (old ++ p.part) (p.adds.added old refl) in
    ap (take (length old)) is ∙ front old p.part
  where
    front : (xs ys : Bytes) → take (length xs) (xs ++ ys) ≡ xs
    front [] ys = refl
    front (x ∷ xs) ys = ap (λ l. x ∷ l) (front xs ys)

-- what the page held was put, and then the text
pub over_past : {S : Type 0} (w : S → Option (List ℕ)) (f : S → ℕ) (a b c : S) (held text : Bytes) (r : Put) → Puts w f a b held put.Done → Puts w f b c text r → PutsOver w f a held c [] text r
over_past w f a b c held text put.Done p q = record { behind = λ first told h. put_past text (put_flushed h p) q }
over_past w f a b c held text put.Failed p q = record { behind = λ first told h. past_failed text (put_flushed h p) q }

-- what the page held could not be put
pub over_flush_failed : {S : Type 0} (w : S → Option (List ℕ)) (f : S → ℕ) (a b : S) (held kept text : Bytes) → Puts w f a b held put.Failed → PutsOver w f a held b kept text put.Failed
over_flush_failed w f a b held kept text p = record { behind = λ first told h. failed_longer text (flush_failed h p) }
