-- Words behind words, and lists that grow by one number.
use Rattle.std.proofs.Common.{◌≡◌, ℕ, zero, suc, ◌+◌, ◌*◌, ◌-◌, ◌<◌, ◌≤◌, ◌%◌, List, [], ◌∷◌, ◌++◌, map, Bool, true, false, if◌then◌else◌, Result, Ok, Err, OnOk, refl, sym, ap, ap₂, ◌∙◌, append_assoc, append-nil, arith}
use Rattle.std.proofs.lemmas.List.{map-append}
use Rattle.rand_pcg.specs.Lcg.{Lcg, next_state, state_after}
use Rattle.rand_pcg.specs.Pcg.{multiplier_64, output_xsh_rr}
use Rattle.channel_graph.proofs.Listed.{numbers_before-suc}
use Rattle.std.proofs.lemmas.Bool.{ne_eqb}
use Rattle.tower_syntax.specs.declared.event.Choice.{Choice}
use Rattle.tower_syntax.specs.declared.event.Choice.TheVariants.{See, Ev}
use Rattle.tower_gen.specs.Words.{after, words_of, generator_of}
use Rattle.tower_gen.specs.Draws.{drawn_by, is_entry, choice_by, past, choice_at, behind, choices_from, choices_by}
use Rattle.tower_gen.specs.Made.{drawn_of, choices_of}
use Rattle.tower_gen.specs.File.{upto, period_with, period_item, monitor_with, monitor_item}

-- ---- words

states_behind : (w m i j k s : ℕ) → state_after w m i j (state_after w m i k s) ≡ state_after w m i (k + j) s
unfolding state_after
states_behind w m i j zero s = ap (λ n. state_after w m i n s) (let e : j ≡ zero + j = omega arith in e)
states_behind w m i j (suc k) s =
    let e : suc (k + j) ≡ suc k + j = omega arith in
    states_behind w m i j k (next_state w m i s) ∙ ap (λ n. state_after w m i n s) e

pub behind_words : (j k : ℕ) (g : Lcg) → after j (after k g) ≡ after (k + j) g
behind_words j k g = ap (λ s. record g { state = s }) (states_behind 64 multiplier_64 g.increment j k g.state)

pub words_behind : (j k : ℕ) (g : Lcg) → words_of (after k g) j ≡ words_of g (k + j)
words_behind j k g = ap (λ (h : Lcg). output_xsh_rr h.state) (behind_words j k g)

pub no_words : (g : Lcg) → g ≡ after 0 g
unfolding state_after
no_words g = refl

-- what a number draws, by its words
pub drawn_is : (n : ℕ) → drawn_by (words_of (generator_of n)) ≡ drawn_of n
unfolding drawn_of
drawn_is n = refl

pub choices_are : (n : ℕ) → choices_by (words_of (generator_of n)) ≡ choices_of n
unfolding choices_of
choices_are n = refl

-- what holds, where all went well
pub on_ok : {A E : Type 0} {P : Type 0} (r : Result A E) → P → OnOk r P
on_ok (Ok x) h = h
on_ok (Err e) h = tt

-- ---- lists

pub one_more : {Y : Type 0} (f : ℕ → Y) (n : ℕ) → map f (upto (n + 1)) ≡ map f (upto n) ++ f n ∷ []
one_more f n =
    let e : n + 1 ≡ suc n = omega arith in
    ap (λ k. map f (upto k)) e ∙ ap (map f) (numbers_before-suc n) ∙ map-append f (upto n) (n ∷ [])

-- what was added grows by one
pub grows : {X Y : Type 0} (v : X → Y) (f : ℕ → Y) (n : ℕ) (old now new : List X) (x : X) → new ≡ now ++ x ∷ [] → v x ≡ f n
    → map v now ≡ map v old ++ map f (upto n) → map v new ≡ map v old ++ map f (upto (n + 1))
grows v f n old now new x e h so_far =
    ap (map v) e ∙ map-append v now (x ∷ []) ∙ ap₂ (λ ys y. ys ++ y ∷ []) so_far h
    ∙ append_assoc (map v old) (map f (upto n)) (f n ∷ []) ∙ ap (λ ys. map v old ++ ys) (sym (one_more f n))

pub alike : {Y : Type 0} (f g : ℕ → Y) → ((k : ℕ) → f k ≡ g k) → (ks : List ℕ) → map f ks ≡ map g ks
alike f g h [] = refl
alike f g h (k ∷ ks) = ap₂ (λ y ys. y ∷ ys) (h k) (alike f g h ks)

-- ---- items

module _ (first now : Lcg) (k : ℕ) (is : now ≡ after k first) where
  pub word_at : (j : ℕ) → words_of now j ≡ words_of first (k + j)
  word_at j = ap (λ g. words_of g j) is ∙ words_behind j k first

  first_word : words_of now 0 ≡ words_of first k
  first_word = word_at 0 ∙ ap (words_of first) (let e : k + 0 ≡ k = omega arith in e)

  -- after more words
  pub moved_on : (new : Lcg) (j n : ℕ) → new ≡ after j now → k + j ≡ n → new ≡ after n first
  moved_on new j n e f = e ∙ ap (after j) is ∙ behind_words j k first ∙ ap (λ m. after m first) f

  pub drawn_period : (i : ℕ) → 2 * i ≡ k → period_with (10 + words_of now 0 % 20) (words_of now 1 % 256) i ≡ period_item (drawn_by (words_of first)) i
  drawn_period i e =
      let there : k ≡ 2 * i = sym e in
      ap₂ (λ a b. period_with (10 + a % 20) (b % 256) i) (first_word ∙ ap (words_of first) there) (word_at 1 ∙ ap (λ m. words_of first (m + 1)) there)

  pub drawn_monitor : monitor_with (words_of now 0 % 1000) k ≡ monitor_with (words_of first k % 1000) k
  drawn_monitor = ap (λ w. monitor_with (w % 1000) k) first_word

  pub drawn_monitors : k ≡ 64 → map (λ i. monitor_with (words_of now i % 1000) i) (upto 64) ≡ map (monitor_item (drawn_by (words_of first))) (upto 64)
  drawn_monitors e = alike _ _ (λ i. ap (λ w. monitor_with (w % 1000) i) (word_at i ∙ ap (λ m. words_of first (m + i)) e)) (upto 64)

pub joined : {X : Type 0} (ps cs os ms ns one two three four : List X) → one ≡ ps → two ≡ one ++ cs → three ≡ two ++ os → four ≡ three ++ ms → ms ≡ ns → four ≡ ps ++ cs ++ os ++ ns
joined ps cs os ms ns one two three four a b c d e =
    d ∙ ap₂ (λ xs ys. xs ++ ys) (c ∙ ap (λ xs. xs ++ os) (b ∙ ap (λ xs. xs ++ cs) a)) e

-- ---- choices

past_more : (b : Bool) (j k : ℕ) → (if b then j + k + 1 else j + k + 2) ≡ j + (if b then k + 1 else k + 2)
past_more true j k = omega arith
past_more false j k = omega arith

-- the same words, behind so many others
module _ (v w : ℕ → ℕ) (j : ℕ) (same : (k : ℕ) → v k ≡ w (j + k)) where
  choice_same : (k : ℕ) → choice_at v k ≡ choice_at w (j + k)
  choice_same k =
      let next : v (k + 1) ≡ w (j + k + 1) = same (k + 1) ∙ ap w (let e : j + (k + 1) ≡ j + k + 1 = omega arith in e) in
      ap₂ choice_by (same k) next

  behind_same : (k : ℕ) → behind w (j + k) ≡ j + behind v k
  behind_same k = past_more (is_entry (w (j + k))) j k ∙ ap (λ u. j + past u k) (sym (same k))

  pub choices_same : (n k : ℕ) → choices_from v n k ≡ choices_from w n (j + k)
  choices_same zero k = refl
  choices_same (suc n) k = ap₂ (λ c cs. c ∷ cs) (choice_same k) (choices_same n (behind v k) ∙ ap (choices_from w n) (sym (behind_same k)))

-- a choice that draws a task
module _ (word : ℕ) (not_zero : word % 4 ≡ 0 → ⊥) where
  no_entry : is_entry word ≡ false
  no_entry = ne_eqb (word % 4) 0 not_zero

  pub seen : (next task : ℕ) → task ≡ next % 16 → See task 1 ≡ choice_by word next
  seen next task e = ap (λ x. See x 1) e ∙ sym (ap (λ b. if b then Ev 1 else See (next % 16) 1) no_entry)

  pub past_two : (k : ℕ) → past word k ≡ k + 2
  past_two k = ap (λ b. if b then k + 1 else k + 2) no_entry

-- what was chosen so far, and what is to come, are all of the n choices
pub record Chosen (first now : Lcg) (n count : ℕ) (cs : List Choice) : Type 0 where
  pub place : ℕ
  pub is : now ≡ after place first
  pub whole : cs ++ choices_from (words_of first) (n - count) place ≡ choices_from (words_of first) n 0

pub none_chosen : (g : Lcg) (n : ℕ) → Chosen g g n 0 []
none_chosen g n = record {
  place = 0;
  is = no_words g;
  whole = ap (λ m. choices_from (words_of g) m 0) (let e : n - 0 ≡ n = omega arith in e);
}

module _ (first now new : Lcg) (n count : ℕ) (cs ds : List Choice) (c : Choice) (so_far : Chosen first now n count cs) where
  pub chosen_more : count < n → c ≡ choice_at (words_of now) 0 → new ≡ after (behind (words_of now) 0) now → ds ≡ cs ++ c ∷ [] → Chosen first new n (count + 1) ds
  chosen_more less is_c is_new is_ds =
      let k = so_far.place in
      let w = words_of first in
      let v = words_of now in
      let same : (i : ℕ) → v i ≡ w (k + i) = λ i. ap (λ g. words_of g i) so_far.is ∙ words_behind i k first in
      let there : k + 0 ≡ k = omega arith in
      let choice_is : c ≡ choice_at w k = is_c ∙ choice_same v w k same 0 ∙ ap (choice_at w) there in
      let past_is : k + behind v 0 ≡ behind w k = sym (behind_same v w k same 0) ∙ ap (behind w) there in
      let left : n - count ≡ suc (n - (count + 1)) = omega (arith, less) in
      let rest = choices_from w (n - (count + 1)) (behind w k) in
      record {
        place = behind w k;
        is = is_new ∙ ap (after (behind v 0)) so_far.is ∙ behind_words (behind v 0) k first ∙ ap (λ m. after m first) past_is;
        whole =
            ap (λ xs. xs ++ rest) is_ds
            ∙ append_assoc cs (c ∷ []) rest
            ∙ ap (λ d. cs ++ d ∷ rest) choice_is
            ∙ ap (λ m. cs ++ choices_from w m k) (sym left)
            ∙ so_far.whole;
      }

pub all_chosen : (first now : Lcg) (n count : ℕ) (cs : List Choice) → Chosen first now n count cs → n ≤ count → cs ≡ choices_from (words_of first) n 0
all_chosen first now n count cs so_far over =
    let none : n - count ≡ 0 = omega (arith, over) in
    sym (append-nil cs) ∙ ap (λ m. cs ++ choices_from (words_of first) m so_far.place) (sym none) ∙ so_far.whole
