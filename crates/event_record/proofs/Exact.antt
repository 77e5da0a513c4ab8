-- A walk through a text's lines finds what the text spells, or its first fault.
use Rattle.std.proofs.Common.{◌≡◌, ◌⊎◌, inl, inr, ◌<◌, ◌≤◌, ℕ, ◌+◌, List, [], ◌∷◌, ◌++◌, length, refl, ap, sym, ◌∙◌, subst, arith, append-nil, append_assoc, length-append, Option, Some, None, Ok, Err}
use Rattle.std.specs.Prelude.{Result}
use Rattle.std.proofs.lemmas.Bool.{cases_order}
use Rattle.event_record.specs.Lines.{Bytes, lines}
use Rattle.event_record.specs.Format.{Format, byte_limit, AllMake, no_lines, a_line, IsLine, Offends, a_long_text, a_wrong_line, too_many, Precedes, IsFirst, Spells}
use Rattle.event_record.specs.Judged.{Judged, makes, is_wrong, with_line, unless_many, after_line, walk}

-- a judge of lines, and of which numbers are too many, agrees with a format
pub record Agrees {A K : Type 0} (f : Format A K) (judge : Bytes → Judged A K) (over : ℕ → Option K) : Type 0 where
  pub made : (l : Bytes) (new : List A) → judge l ≡ makes new → f.Makes l new
  pub judged : (l : Bytes) (new : List A) → f.Makes l new → judge l ≡ makes new
  pub wrong : (l : Bytes) (k : K) → judge l ≡ is_wrong k → f.IsWrong l k
  pub judged_wrong : (l : Bytes) (k : K) → f.IsWrong l k → judge l ≡ is_wrong k
  pub many : (n : ℕ) (k : K) → over n ≡ Some k → f.AreTooMany n k
  pub is_over : (n : ℕ) (k : K) → f.AreTooMany n k → over n ≡ Some k

-- ---- what lines make, computed

abbrev pub put_first : {A K : Type 0} → Judged A K → Option (List A) → Option (List A)
put_first (makes new) (Some more) = Some (new ++ more)
put_first (makes new) None = None
put_first (is_wrong k) more = None

abbrev pub all_made : {A K : Type 0} → (Bytes → Judged A K) → List Bytes → Option (List A)
all_made judge [] = Some []
all_made judge (l ∷ ls) = put_first (judge l) (all_made judge ls)

pub is_made : {A K : Type 0} {f : Format A K} {judge : Bytes → Judged A K} {over : ℕ → Option K} → Agrees f judge over → (ls : List Bytes) (all : List A) → AllMake f ls all → all_made judge ls ≡ Some all
is_made a [] all no_lines = refl
is_made {K = K} {judge = judge} a (l ∷ ls) all (a_line {made = made} {more = more} m r) =
    ap (λ j. put_first j (all_made judge ls)) (a.judged l made m) ∙ ap (put_first {K = K} (makes made)) (is_made a ls more r)

pub put_none : {A K : Type 0} (j : Judged A K) → put_first j None ≡ None
put_none (makes new) = refl
put_none (is_wrong k) = refl

none_made : {A K : Type 0} (judge : Bytes → Judged A K) (before : List Bytes) (l : Bytes) (k : K) → judge l ≡ is_wrong k → all_made judge (before ++ l ∷ []) ≡ None
none_made judge [] l k e = ap (λ j. put_first j (Some [])) e
none_made judge (x ∷ before) l k e = ap (put_first (judge x)) (none_made judge before l k e) ∙ put_none (judge x)

line_made : {A K : Type 0} (f : Format A K) (l : Bytes) (new : List A) → f.Makes l new → AllMake f (l ∷ []) new
line_made f l new m = subst (λ xs. AllMake f (l ∷ []) xs) (append-nil new) (a_line m no_lines)

appended : {A K : Type 0} (f : Format A K) (ls : List Bytes) (all : List A) (l : Bytes) (new : List A) → AllMake f ls all → f.Makes l new → AllMake f (ls ++ l ∷ []) (all ++ new)
appended f [] all l new no_lines m = line_made f l new m
appended f (x ∷ ls) all l new (a_line {made = made} {more = more} h r) m =
    subst (λ xs. AllMake f (x ∷ (ls ++ l ∷ [])) xs) (sym (append_assoc made more new)) (a_line h (appended f ls more l new r m))

-- ---- one line of a text

split_same : (before other : List Bytes) (l m : Bytes) (rest more : List Bytes) → before ++ l ∷ rest ≡ other ++ m ∷ more → length before ≡ length other → (before ≡ other) × (l ≡ m)
split_same [] [] l m rest more e h = let p : l ≡ m = cc in (refl, p)
split_same [] (y ∷ ys) l m rest more e h = absurd (omega (arith, h))
split_same (x ∷ xs) [] l m rest more e h = absurd (omega (arith, h))
split_same (x ∷ xs) (y ∷ ys) l m rest more e h =
    let p : x ≡ y = cc in
    let q : xs ++ l ∷ rest ≡ ys ++ m ∷ more = cc in
    let s : length xs ≡ length ys = omega (arith, h) in
    let r = split_same xs ys l m rest more q s in
    let t : x ∷ xs ≡ y ∷ ys = ap (λ z. z ∷ xs) p ∙ ap (λ zs. y ∷ zs) r.0 in
    (t, r.1)

-- how an offence stands at a line
abbrev AtLine : {A K : Type 0} → Format A K → List Bytes → Bytes → K → Type 0
AtLine {A = A} f before l k = f.IsWrong l k ⊎ ((made : List A) × AllMake f (before ++ l ∷ []) made × f.AreTooMany (length made) k)

at_line : {A K : Type 0} (f : Format A K) (text : Bytes) (n : ℕ) (k : K) (before rest : List Bytes) (l : Bytes) → Offends f text n k → lines text ≡ before ++ l ∷ rest → n ≡ length before + 1 → AtLine f before l k
at_line f text n k before rest l (a_long_text h) e c = absurd (omega (arith, c))
at_line f text n k before rest l (a_wrong_line {before = other} {l = m} is w) e c =
    let s : length other ≡ length before = omega (arith, is.number, c) in
    let r = split_same other before m l is.behind rest (sym is.split ∙ e) s in
    inl (subst (λ m. f.IsWrong m k) r.1 w)
at_line f text n k before rest l (too_many {before = other} {l = m} {made = made} is h w) e c =
    let s : length other ≡ length before = omega (arith, is.number, c) in
    let r = split_same other before m l is.behind rest (sym is.split ∙ e) s in
    let t : other ++ m ∷ [] ≡ before ++ l ∷ [] = ap (λ xs. xs ++ m ∷ []) r.0 ∙ ap (λ m. before ++ m ∷ []) r.1 in
    inr (made, subst (λ xs. AllMake f xs made) t h, w)

-- no line before line n offends
abbrev Clean : {A K : Type 0} → Format A K → Bytes → ℕ → Type 0
Clean {K = K} f text n = (m : ℕ) (k : K) → Offends f text m k → n ≤ m

pub clean_one : {A K : Type 0} (f : Format A K) (text : Bytes) → length text ≤ byte_limit → Clean f text 1
clean_one f text h m k (a_long_text g) = absurd (omega (arith, h, g))
clean_one f text h m k (a_wrong_line is w) = omega (arith, is.number)
clean_one f text h m k (too_many is g w) = omega (arith, is.number)

long_before : {A K : Type 0} (f : Format A K) (text : Bytes) (m : ℕ) (j : K) → Offends f text m j → ((m ≡ 0) × (j ≡ f.long)) ⊎ Precedes f.rank 0 f.long m j
long_before f text m j (a_long_text g) = inl (refl, refl)
long_before f text m j (a_wrong_line is w) = let p : 0 < m = omega (arith, is.number) in inr (inl p)
long_before f text m j (too_many is g w) = let p : 0 < m = omega (arith, is.number) in inr (inl p)

-- a text that is too long
pub long_first : {A K : Type 0} (f : Format A K) (text : Bytes) → byte_limit < length text → IsFirst f text 0 f.long
long_first f text h = record {
  offends = a_long_text h;
  precedes = λ m j o. long_before f text m j o;
}

-- what comes at one line, or behind it
from_line : {A K : Type 0} (f : Format A K) (text : Bytes) (n : ℕ) (P : ℕ → K → Type 0) → Clean f text n → ((k : K) → Offends f text n k → P n k) → ((m : ℕ) (k : K) → n < m → P m k) → (m : ℕ) (k : K) → Offends f text m k → P m k
from_line f text n P c here there m k o =
    let h : n ≤ m = c m k o in
    elim (cases_order m n) [
      | inl e ↦ subst (λ m. P m k) (sym e) (here k (subst (λ m. Offends f text m k) e o))
      | inr d ↦ elim d [ inl g ↦ absurd (omega (arith, h, g)) | inr g ↦ there m k g ]
    ]

-- ---- going on

-- lines so far, which make these things
pub record Stands {A K : Type 0} (f : Format A K) (text : Bytes) (n : ℕ) (done : List A) (before ls : List Bytes) : Type 0 where
  split : lines text ≡ before ++ ls
  number : n ≡ length before + 1
  made : AllMake f before done
  clean : Clean f text n

not_here : {A K : Type 0} {f : Format A K} {judge : Bytes → Judged A K} {over : ℕ → Option K} (a : Agrees f judge over) (before : List Bytes) (l : Bytes) (done new : List A) (k : K) → AllMake f before done → judge l ≡ makes new → over (length (done ++ new)) ≡ None → AtLine f before l k → ⊥
not_here a before l done new k h e o (inl w) = let p = a.judged_wrong l k w in cc
not_here {f = f} {over = over} a before l done new k h e o (inr (made, g, w)) =
    let p = is_made a (before ++ l ∷ []) made g in
    let q = is_made a (before ++ l ∷ []) (done ++ new) (appended f before done l new h (a.made l new e)) in
    let s : made ≡ done ++ new = cc in
    let t : over (length made) ≡ Some k = a.is_over (length made) k w in
    let u : over (length made) ≡ over (length (done ++ new)) = ap (λ xs. over (length xs)) s in
    cc

next_stands : {A K : Type 0} {f : Format A K} {judge : Bytes → Judged A K} {over : ℕ → Option K} (a : Agrees f judge over) (text : Bytes) (n : ℕ) (done new : List A) (before ls : List Bytes) (l : Bytes)
    → Stands f text n done before (l ∷ ls) → judge l ≡ makes new → over (length (done ++ new)) ≡ None → Stands f text (n + 1) (done ++ new) (before ++ l ∷ []) ls
next_stands {f = f} a text n done new before ls l s e o = record {
  split = s.split ∙ sym (append_assoc before (l ∷ []) ls);
  number = omega (arith, s.number, length-append before (l ∷ []));
  made = appended f before done l new s.made (a.made l new e);
  clean = from_line f text n (λ m k. n + 1 ≤ m) s.clean
      (λ k w. absurd (not_here a before l done new k s.made e o (at_line f text n k before ls l w s.split s.number)))
      (λ m k h. omega (arith, h));
}

-- ---- what the text spells

abbrev Found : {A K : Type 0} → Format A K → (ℕ → Option K) → Bytes → List A → Type 0
Found f over text all = AllMake f (lines text) all × (over (length all) ≡ None)

ok_by_over : {A K : Type 0} {f : Format A K} {judge : Bytes → Judged A K} {over : ℕ → Option K} (a : Agrees f judge over) (text l : Bytes) (n : ℕ) (done new all : List A) (before ls : List Bytes) (o : Option K) → over (length (done ++ new)) ≡ o → judge l ≡ makes new → Stands f text n done before (l ∷ ls)
    → (Stands f text (n + 1) (done ++ new) (before ++ l ∷ []) ls → over (length (done ++ new)) ≡ None → walk judge over (n + 1) (done ++ new) ls ≡ Ok all → Found f over text all)
    → after_line n (unless_many o (done ++ new)) (λ all. walk judge over (n + 1) all ls) ≡ Ok all → Found f over text all
ok_by_over a text l n done new all before ls (Some k) h e s ih w = cc
ok_by_over a text l n done new all before ls None h e s ih w = ih (next_stands a text n done new before ls l s e h) h w

ok_by : {A K : Type 0} {f : Format A K} {judge : Bytes → Judged A K} {over : ℕ → Option K} (a : Agrees f judge over) (text l : Bytes) (n : ℕ) (done all : List A) (before ls : List Bytes) (j : Judged A K) → judge l ≡ j → Stands f text n done before (l ∷ ls)
    → ((new : List A) → Stands f text (n + 1) (done ++ new) (before ++ l ∷ []) ls → over (length (done ++ new)) ≡ None → walk judge over (n + 1) (done ++ new) ls ≡ Ok all → Found f over text all)
    → after_line n (with_line over done j) (λ all. walk judge over (n + 1) all ls) ≡ Ok all → Found f over text all
ok_by a text l n done all before ls (is_wrong k) e s ih w = cc
ok_by {over = over} a text l n done all before ls (makes new) e s ih w = ok_by_over a text l n done new all before ls (over (length (done ++ new))) refl e s (ih new) w

walk_ok : {A K : Type 0} {f : Format A K} {judge : Bytes → Judged A K} {over : ℕ → Option K} (a : Agrees f judge over) (text : Bytes) (ls : List Bytes) (n : ℕ) (done all : List A) (before : List Bytes) → Stands f text n done before ls → over (length done) ≡ None → walk judge over n done ls ≡ Ok all → Found f over text all
walk_ok {f = f} {over = over} a text [] n done all before s o w =
    let e : done ≡ all = cc in
    let p : before ≡ lines text = sym (s.split ∙ append-nil before) in
    (subst (λ xs. AllMake f (lines text) xs) e (subst (λ ls. AllMake f ls done) p s.made), subst (λ xs. over (length xs) ≡ None) e o)
walk_ok {judge = judge} a text (l ∷ ls) n done all before s o w =
    ok_by a text l n done all before ls (judge l) refl s (λ new t p v. walk_ok a text ls (n + 1) (done ++ new) all (before ++ l ∷ []) t p v) w

-- ---- the first fault

wrong_same : {A K : Type 0} {f : Format A K} {judge : Bytes → Judged A K} {over : ℕ → Option K} (a : Agrees f judge over) (before : List Bytes) (l : Bytes) (k j : K) → judge l ≡ is_wrong k → AtLine f before l j → j ≡ k
wrong_same a before l k j e (inl w) = let p = a.judged_wrong l j w in cc
wrong_same {judge = judge} a before l k j e (inr (made, g, w)) =
    let p = is_made a (before ++ l ∷ []) made g in
    let q = none_made judge before l k e in
    cc

wrong_first : {A K : Type 0} {f : Format A K} {judge : Bytes → Judged A K} {over : ℕ → Option K} (a : Agrees f judge over) (text l : Bytes) (n : ℕ) (k : K) (done : List A) (before ls : List Bytes) → judge l ≡ is_wrong k → Stands f text n done before (l ∷ ls) → IsFirst f text n k
wrong_first {f = f} {judge = judge} a text l n k done before ls e s = record {
  offends = a_wrong_line (record { behind = ls; split = s.split; number = s.number }) (a.wrong l k e);
  precedes = from_line f text n (λ m j. ((m ≡ n) × (j ≡ k)) ⊎ Precedes f.rank n k m j) s.clean
      (λ j o. inl (refl, wrong_same a before l k j e (at_line f text n j before ls l o s.split s.number)))
      (λ m j h. inr (inl h));
}

many_same : {A K : Type 0} {f : Format A K} {judge : Bytes → Judged A K} {over : ℕ → Option K} (a : Agrees f judge over) (before : List Bytes) (l : Bytes) (all new : List A) (k j : K) → judge l ≡ makes new → AllMake f (before ++ l ∷ []) all → over (length all) ≡ Some k → AtLine f before l j → j ≡ k
many_same a before l all new k j e m h (inl w) = let p = a.judged_wrong l j w in cc
many_same {over = over} a before l all new k j e m h (inr (made, g, w)) =
    let p = is_made a (before ++ l ∷ []) made g in
    let q = is_made a (before ++ l ∷ []) all m in
    let s : made ≡ all = cc in
    let t : over (length made) ≡ Some j = a.is_over (length made) j w in
    let u : over (length made) ≡ over (length all) = ap (λ xs. over (length xs)) s in
    cc

many_first : {A K : Type 0} {f : Format A K} {judge : Bytes → Judged A K} {over : ℕ → Option K} (a : Agrees f judge over) (text l : Bytes) (n : ℕ) (k : K) (done new : List A) (before ls : List Bytes) → judge l ≡ makes new → over (length (done ++ new)) ≡ Some k → Stands f text n done before (l ∷ ls) → IsFirst f text n k
many_first {f = f} {judge = judge} a text l n k done new before ls e h s =
    let m = appended f before done l new s.made (a.made l new e) in
    record {
      offends = too_many (record { behind = ls; split = s.split; number = s.number }) m (a.many (length (done ++ new)) k h);
      precedes = from_line f text n (λ m j. ((m ≡ n) × (j ≡ k)) ⊎ Precedes f.rank n k m j) s.clean
          (λ j o. inl (refl, many_same a before l (done ++ new) new k j e m h (at_line f text n j before ls l o s.split s.number)))
          (λ m j h. inr (inl h));
    }

err_by_over : {A K : Type 0} {f : Format A K} {judge : Bytes → Judged A K} {over : ℕ → Option K} (a : Agrees f judge over) (text l : Bytes) (n m : ℕ) (k : K) (done new : List A) (before ls : List Bytes) (o : Option K) → over (length (done ++ new)) ≡ o → judge l ≡ makes new → Stands f text n done before (l ∷ ls)
    → (Stands f text (n + 1) (done ++ new) (before ++ l ∷ []) ls → walk judge over (n + 1) (done ++ new) ls ≡ Err (m, k) → IsFirst f text m k)
    → after_line n (unless_many o (done ++ new)) (λ all. walk judge over (n + 1) all ls) ≡ Err (m, k) → IsFirst f text m k
err_by_over {K = K} {f = f} a text l n m k done new before ls (Some j) h e s ih w =
    let p : ◌≡◌ {A = ℕ × K} (n, j) (m, k) = cc in
    subst (λ q. IsFirst f text q.0 q.1) p (many_first a text l n j done new before ls e h s)
err_by_over a text l n m k done new before ls None h e s ih w = ih (next_stands a text n done new before ls l s e h) w

err_by : {A K : Type 0} {f : Format A K} {judge : Bytes → Judged A K} {over : ℕ → Option K} (a : Agrees f judge over) (text l : Bytes) (n m : ℕ) (k : K) (done : List A) (before ls : List Bytes) (j : Judged A K) → judge l ≡ j → Stands f text n done before (l ∷ ls)
    → ((new : List A) → Stands f text (n + 1) (done ++ new) (before ++ l ∷ []) ls → walk judge over (n + 1) (done ++ new) ls ≡ Err (m, k) → IsFirst f text m k)
    → after_line n (with_line over done j) (λ all. walk judge over (n + 1) all ls) ≡ Err (m, k) → IsFirst f text m k
err_by {K = K} {f = f} a text l n m k done before ls (is_wrong j) e s ih w =
    let p : ◌≡◌ {A = ℕ × K} (n, j) (m, k) = cc in
    subst (λ q. IsFirst f text q.0 q.1) p (wrong_first a text l n j done before ls e s)
err_by {over = over} a text l n m k done before ls (makes new) e s ih w = err_by_over a text l n m k done new before ls (over (length (done ++ new))) refl e s (ih new) w

walk_err : {A K : Type 0} {f : Format A K} {judge : Bytes → Judged A K} {over : ℕ → Option K} (a : Agrees f judge over) (text : Bytes) (ls : List Bytes) (n m : ℕ) (k : K) (done : List A) (before : List Bytes) → Stands f text n done before ls → walk judge over n done ls ≡ Err (m, k) → IsFirst f text m k
walk_err a text [] n m k done before s w = cc
walk_err {judge = judge} a text (l ∷ ls) n m k done before s w =
    err_by a text l n m k done before ls (judge l) refl s (λ new t v. walk_err a text ls (n + 1) m k (done ++ new) (before ++ l ∷ []) t v) w

-- ---- the whole text

begins : {A K : Type 0} (f : Format A K) (text : Bytes) → length text ≤ byte_limit → Stands f text 1 [] [] (lines text)
begins f text h = record { split = refl; number = refl; made = no_lines; clean = clean_one f text h }

none_many : {A K : Type 0} {f : Format A K} {judge : Bytes → Judged A K} {over : ℕ → Option K} (a : Agrees f judge over) (n : ℕ) → over n ≡ None → (k : K) → f.AreTooMany n k → ⊥
none_many a n h k w = let p = a.is_over n k w in cc

pub spells : {A K : Type 0} {f : Format A K} {judge : Bytes → Judged A K} {over : ℕ → Option K} (a : Agrees f judge over) (text : Bytes) (all : List A) → length text ≤ byte_limit → over 0 ≡ None → walk judge over 1 [] (lines text) ≡ Ok all → Spells f text all
spells {f = f} a text all h z w =
    let r = walk_ok a text (lines text) 1 [] all [] (begins f text h) z w in
    record { short = h; makes = r.0; few = none_many a (length all) r.1 }

pub first_fault : {A K : Type 0} {f : Format A K} {judge : Bytes → Judged A K} {over : ℕ → Option K} (a : Agrees f judge over) (text : Bytes) (n : ℕ) (k : K) → length text ≤ byte_limit → walk judge over 1 [] (lines text) ≡ Err (n, k) → IsFirst f text n k
first_fault {f = f} a text n k h w = walk_err a text (lines text) 1 n k [] [] (begins f text h) w
