-- Ascending lists of numbers, and the first of one with an answer: no lesser number has one.
use Rattle.std.proofs.Common.{◌≡◌, ℕ, zero, suc, ◌<◌, ◌≤◌, List, [], ◌∷◌, filter, cond, Option, Some, None, unwrap_or, Bool, true, inl, inr, arith, refl, sym, ◌∙◌, ap, subst}
use Rattle.std.specs.List.{find}
use Rattle.std.proofs.lemmas.Bool.{false≢true, cases_Bool}
use Rattle.tower_syntax.specs.Graph.{numbers_before}
use Rattle.channel_graph.specs.Circuit.{or_else, first_of_all}
use Rattle.channel_graph.proofs.Members.{In, filter_has}

abbrev pub IsRising : List ℕ → Type 0
IsRising [] = Unit {0}
IsRising (x ∷ xs) = ((y : ℕ) → In y xs → x < y) × IsRising xs

rising_before : (n : ℕ) (ks : List ℕ) → ((k : ℕ) → In k ks → n ≤ k) → IsRising ks → IsRising (numbers_before n ks)
rising_before zero ks above rising = rising
rising_before (suc n) ks above rising =
    rising_before n (n ∷ ks) (λ k m. elim m [ inl same ↦ omega arith | inr later ↦ let more = above k later in omega (arith, more) ]) ((λ k m. let more = above k m in omega (arith, more)), rising)

pub rising_numbers : (n : ℕ) → IsRising (numbers_before n [])
rising_numbers n = rising_before n [] (λ k m. absurd m) tt

pub rising_filter : (p : ℕ → Bool) (xs : List ℕ) → IsRising xs → IsRising (filter p xs)
rising_filter p [] rising = rising
rising_filter p (x ∷ xs) rising = elim (cases_Bool (p x)) [
  | inl t ↦
      let both : IsRising (x ∷ filter p xs) = ((λ y m. rising.0 y (filter_has p xs y m).0), rising_filter p xs rising.1) in
      subst (λ b. IsRising (cond b (x ∷ filter p xs) (filter p xs))) (sym t) both
  | inr t ↦ subst (λ b. IsRising (cond b (x ∷ filter p xs) (filter p xs))) (sym t) (rising_filter p xs rising.1)
]

pub some_same : {A : Type 0} (x y : A) → Some x ≡ Some y → x ≡ y
some_same x y e = ap (λ o. unwrap_or o x) e

pub none_some : {A : Type 0} (x : A) → None ≡ Some x → ⊥
none_some x e = cc

-- ---- the first answer

pub record FirstIn {A : Type 0} (f : ℕ → Option A) (xs : List ℕ) (x : A) : Type 0 where
  pub number : ℕ
  pub has : In number xs
  pub is : f number ≡ Some x
  pub least : (j : ℕ) → In j xs → (f j ≡ None → ⊥) → number ≤ j

first_step : {A : Type 0} (f : ℕ → Option A) (k : ℕ) (ks : List ℕ) (x : A) → IsRising (k ∷ ks) → (first_of_all f ks ≡ Some x → FirstIn f ks x) → (o : Option A) → f k ≡ o → or_else o (first_of_all f ks) ≡ Some x → FirstIn f (k ∷ ks) x
first_step f k ks x rising later None none e =
    let r = later e in
    record {
      number = r.number;
      has = inr r.has;
      is = r.is;
      least = λ j m some. elim m [
        | inl same ↦ absurd (some (ap f same ∙ none))
        | inr behind ↦ r.least j behind some
      ];
    }
first_step f k ks x rising later (Some y) is e = record {
  number = k;
  has = inl refl;
  is = is ∙ e;
  least = λ j m some. elim m [
    | inl same ↦ omega (arith, same)
    | inr behind ↦ let above = rising.0 j behind in omega (arith, above)
  ];
}

pub first_least : {A : Type 0} (f : ℕ → Option A) (xs : List ℕ) (x : A) → IsRising xs → first_of_all f xs ≡ Some x → FirstIn f xs x
first_least f [] x rising e = absurd (none_some x e)
first_least f (k ∷ ks) x rising e = first_step f k ks x rising (first_least f ks x rising.1) (f k) refl e

-- without a first answer none has one
or_else_none : {A : Type 0} (a b : Option A) → or_else a b ≡ None → (a ≡ None) × (b ≡ None)
or_else_none None b e = (refl, e)
or_else_none (Some x) b e = absurd (none_some x (sym e))

pub none_first : {A : Type 0} (f : ℕ → Option A) (xs : List ℕ) → first_of_all f xs ≡ None → (k : ℕ) → In k xs → f k ≡ None
none_first f [] e k m = absurd m
none_first f (x ∷ xs) e k m =
    let both = or_else_none (f x) (first_of_all f xs) e in
    elim m [ inl same ↦ ap f same ∙ both.0 | inr later ↦ none_first f xs both.1 k later ]

-- ---- the first that passes

pub record FoundIn (p : ℕ → Bool) (xs : List ℕ) (k : ℕ) : Type 0 where
  pub has : In k xs
  pub passes : p k ≡ true
  pub least : (j : ℕ) → In j xs → p j ≡ true → k ≤ j

pub find_least : (p : ℕ → Bool) (xs : List ℕ) (k : ℕ) → IsRising xs → find p xs ≡ Some k → FoundIn p xs k
find_least p [] k rising e = absurd (none_some k e)
find_least p (x ∷ xs) k rising e = elim (cases_Bool (p x)) [
  | inl t ↦
      let same : x ≡ k = some_same x k (subst (λ b. cond b (Some x) (find p xs) ≡ Some k) t e) in
      subst (FoundIn p (x ∷ xs)) same (record {
        has = inl refl;
        passes = t;
        least = λ j m i. elim m [ inl here ↦ omega (arith, here) | inr later ↦ let above = rising.0 j later in omega (arith, above) ];
      })
  | inr t ↦
      let r = find_least p xs k rising.1 (subst (λ b. cond b (Some x) (find p xs) ≡ Some k) t e) in
      record {
        has = inr r.has;
        passes = r.passes;
        least = λ j m i. elim m [
          | inl here ↦ absurd (false≢true (sym t ∙ ap p (sym here) ∙ i))
          | inr later ↦ r.least j later i
        ];
      }
]

-- and where one passes there is a first
pub record Finds (p : ℕ → Bool) (xs : List ℕ) : Type 0 where
  pub number : ℕ
  pub is : find p xs ≡ Some number

pub has_find : (p : ℕ → Bool) (xs : List ℕ) (x : ℕ) → In x xs → p x ≡ true → Finds p xs
has_find p [] x m t = absurd m
has_find p (y ∷ ys) x m t = elim (cases_Bool (p y)) [
  | inl here ↦ record { number = y; is = ap (λ b. cond b (Some y) (find p ys)) here }
  | inr other ↦
      let later : In x ys = elim m [
        | inl same ↦ absurd (false≢true (sym other ∙ ap p (sym same) ∙ t))
        | inr behind ↦ behind
      ] in
      let r = has_find p ys x later t in
      record { number = r.number; is = ap (λ b. cond b (Some y) (find p ys)) other ∙ r.is }
]
