-- What the parts of the instruction table are, where it is known what they split on.
use Rattle.std.proofs.Common.{◌≡◌, ℕ, zero, suc, ◌+◌, ◌<◌, ◌≤◌, ℤ, pos, negsuc, Bool, true, false, ◌&&◌, List, [], ◌∷◌, length, drop, Option, Some, None, slice_get, nat_lt, nat_le, ◌==◌, slice_set, slice_index_or, is_some, ◌≤ℤ◌, ◌<ℤ◌, ◌^◌, refl, ap, ◌∙◌, arith, nat_abs, inl, inr, ◌⊎◌}
use Rattle.task_code.specs.declared.program.Buffer.{Buffer}
use Rattle.task_code.specs.Own.{Filled, Held, Own}
use Rattle.task_code.specs.declared.program.Task.{Task}
use Rattle.task_code.specs.declared.program.Instr.{Instr}
use Rattle.task_code.specs.Program.{Program}
use Rattle.task_machine.specs.declared.action.Action.{Action}
use Rattle.task_machine.specs.declared.action.Action.TheVariants as action
use Rattle.task_machine.proofs.Lists.{get_at, get_beyond}
use Rattle.task_code.specs.Does.{Does, Stuck, Unlocks, does, executes, executes_at, need, popped, returned, indexed, without_lock, with_lock, with_buffer, at_zero, word_at, with_words}
use Rattle.task_machine.specs.Action.{holds_lock, held_word_at, with_held_word, without_held, unlocks, no_buffer, CanGoOn}
use Rattle.std.specs.Option.{option_map}
use Rattle.std.proofs.lemmas.Int.{ints}
use Rattle.std.proofs.lemmas.Bool.Decides.{nat_tests}

pub need_true : (b : Bool) (d : Does) → b ≡ true → need b d ≡ d
unfolding need
need_true true d e = refl
need_true false d e = cc

pub need_false : (b : Bool) (d : Does) → b ≡ false → need b d ≡ Stuck
unfolding need
need_false true d e = cc
need_false false d e = refl

pub popped_none : (ws : List ℤ) (go : ℤ → List ℤ → Does) → slice_get ws 0 ≡ None → popped ws go ≡ Stuck
unfolding popped
popped_none [] go e = refl
popped_none (w ∷ ws) go e = cc

pub popped_some : (ws : List ℤ) (w : ℤ) (go : ℤ → List ℤ → Does) → slice_get ws 0 ≡ Some w → popped ws go ≡ go w (drop 1 ws)
unfolding popped
popped_some [] w go e = cc
popped_some (v ∷ ws) w go e = let h : v ≡ w = cc in ap (λ u. go u ws) h

pub popped_two_none : (ws : List ℤ) (go : ℤ → ℤ → List ℤ → Does) → slice_get ws 1 ≡ None → popped ws (λ v below. popped below (go v)) ≡ Stuck
unfolding popped
popped_two_none [] go e = refl
popped_two_none (w ∷ []) go e = refl
popped_two_none (w ∷ v ∷ ws) go e = cc

pub popped_two : (ws : List ℤ) (v w : ℤ) (go : ℤ → ℤ → List ℤ → Does) → slice_get ws 0 ≡ Some v → slice_get ws 1 ≡ Some w → popped ws (λ v below. popped below (go v)) ≡ go v w (drop 2 ws)
unfolding popped
popped_two [] v w go e f = cc
popped_two (x ∷ []) v w go e f = cc
popped_two (x ∷ y ∷ ws) v w go e f = let h : x ≡ v = cc in let k : y ≡ w = cc in ap (λ u. go u y ws) h ∙ ap (λ u. go v u ws) k

pub returned_none : (ns : List ℕ) (go : ℕ → List ℕ → Does) → slice_get ns 0 ≡ None → returned ns go ≡ Stuck
unfolding returned
returned_none [] go e = refl
returned_none (n ∷ ns) go e = cc

pub returned_some : (ns : List ℕ) (n : ℕ) (go : ℕ → List ℕ → Does) → slice_get ns 0 ≡ Some n → returned ns go ≡ go n (drop 1 ns)
unfolding returned
returned_some [] n go e = cc
returned_some (m ∷ ns) n go e = let h : m ≡ n = cc in ap (λ u. go u ns) h

pub at_zero_same : (a : ℤ) (d e : Does) → a ≡ pos 0 → at_zero a d e ≡ d
unfolding at_zero
at_zero_same (pos zero) d e h = refl
at_zero_same (pos (suc n)) d e h = let f : suc n ≡ 0 = cc in absurd (omega arith)
at_zero_same (negsuc n) d e h = cc

pub at_zero_other : (a : ℤ) (d e : Does) → (a ≡ pos 0 → ⊥) → at_zero a d e ≡ e
unfolding at_zero
at_zero_other (pos zero) d e h = absurd (h refl)
at_zero_other (pos (suc n)) d e h = refl
at_zero_other (negsuc n) d e h = refl

pub indexed_within : (i : ℤ) (k n : ℕ) (go : ℕ → Does) → i ≡ pos k → k < n → indexed i n go ≡ go k
unfolding indexed
indexed_within (pos j) k n go e h =
    let f : j ≡ k = cc in
    let t : nat_lt j n ≡ true = grind (arith, nat_tests) in
    need_true (nat_lt j n) (go j) t ∙ ap go f
indexed_within (negsuc j) k n go e h = cc

pub indexed_below_zero : (i : ℤ) (n : ℕ) (go : ℕ → Does) → i <ℤ pos 0 → indexed i n go ≡ Stuck
unfolding indexed
indexed_below_zero (pos j) n go h = absurd (omega (arith, ints))
indexed_below_zero (negsuc j) n go h = refl

pub indexed_past : (i : ℤ) (n : ℕ) (go : ℕ → Does) → pos n ≤ℤ i → indexed i n go ≡ Stuck
unfolding indexed
indexed_past (pos j) n go h =
    let l : n ≤ j = omega (arith, ints) in
    let t : nat_lt j n ≡ false = grind (arith, nat_tests) in
    need_false (nat_lt j n) (go j) t
indexed_past (negsuc j) n go h = absurd (omega (arith, ints))

pub not_holding : (held : Option Held) (m : ℕ) (go : Held → Does) → holds_lock held m ≡ false → with_lock held m go ≡ Stuck
unfolding with_lock
not_holding None m go e = refl
not_holding (Some h) m go e = need_false (h.monitor == m) (go h) e

-- where the lock is held its words are those of the part
pub load_holding : (held : Option Held) (m : ℕ) (i : ℤ) (a n : ℕ) (go : ℤ → Does) → holds_lock held m ≡ true
    → with_lock held m (λ h. indexed i n (λ k. go (word_at h.words (a + k)))) ≡ indexed i n (λ k. go (held_word_at held (a + k)))
unfolding with_lock
load_holding None m i a n go e = cc
load_holding (Some h) m i a n go e = need_true (h.monitor == m) (indexed i n (λ k. go (word_at h.words (a + k)))) e

pub store_holding : (held : Option Held) (m : ℕ) (i v : ℤ) (a n : ℕ) (go : Option Held → Does) → holds_lock held m ≡ true
    → with_lock held m (λ h. indexed i n (λ k. go (Some (with_words h (slice_set h.words (a + k) v))))) ≡ indexed i n (λ k. go (option_map (with_held_word (a + k) v) held))
unfolding with_lock
store_holding None m i v a n go e = cc
store_holding (Some h) m i v a n go e = need_true (h.monitor == m) (indexed i n (λ k. go (Some (with_words h (slice_set h.words (a + k) v))))) e

pub unlock_holding : (own : Own) (held : Option Held) (m : ℕ) → holds_lock held m ≡ true
    → with_lock held m (λ h. Unlocks h (without_held own)) ≡ unlocks held own
unfolding with_lock
unlock_holding own None m e = cc
unlock_holding own (Some h) m e = need_true (h.monitor == m) (Unlocks h (without_held own)) e

pub no_buffer_shape : (s : Option Buffer) (f : Option Filled) (go : Buffer → Filled → Does) → s ≡ None → with_buffer s f go ≡ Stuck
unfolding with_buffer
no_buffer_shape None f go e = refl
no_buffer_shape (Some s) f go e = cc

pub no_buffer_filled : (s : Option Buffer) (f : Option Filled) (go : Buffer → Filled → Does) → option_map (λ f. f.count) f ≡ None → with_buffer s f go ≡ Stuck
unfolding with_buffer
no_buffer_filled None f go e = refl
no_buffer_filled (Some s) None go e = refl
no_buffer_filled (Some s) (Some f) go e = cc

pub buffer_is : (s : Option Buffer) (b : Buffer) (fs : List Filled) (i n : ℕ) (go : Buffer → Filled → Does) → s ≡ Some b → option_map (λ f. f.count) (slice_get fs i) ≡ Some n
    → with_buffer s (slice_get fs i) go ≡ go b (slice_index_or fs i no_buffer)
unfolding with_buffer
buffer_is None b fs i n go e f = cc
buffer_is (Some s) b [] i n go e f = cc
buffer_is (Some s) b (x ∷ fs) zero n go e f = let h : s ≡ b = cc in ap (λ u. go u x) h
buffer_is (Some s) b (x ∷ fs) (suc i) n go e f = buffer_is (Some s) b fs i n go e f

pub count_is : (fs : List Filled) (i n : ℕ) → option_map (λ f. f.count) (slice_get fs i) ≡ Some n → (slice_index_or fs i no_buffer).count ≡ n
count_is [] i n e = cc
count_is (x ∷ fs) zero n e = cc
count_is (x ∷ fs) (suc i) n e = count_is fs i n e

pub index_is : (i : ℤ) (n : ℕ) → pos 0 ≤ℤ i → i <ℤ pos n → (go : ℕ → Does) → indexed i n go ≡ go (nat_abs i)
unfolding indexed
index_is (pos j) n low high go =
    let l : j < n = omega (arith, ints) in
    let t : nat_lt j n ≡ true = grind (arith, nat_tests) in
    need_true (nat_lt j n) (go j) t
index_is (negsuc j) n low high go = absurd (omega (arith, ints))

pub index_is_not : (i : ℤ) (n : ℕ) → (i <ℤ pos 0) ⊎ (pos n ≤ℤ i) → (go : ℕ → Does) → indexed i n go ≡ Stuck
index_is_not i n h go = elim h [ inl l ↦ indexed_below_zero i n go l | inr l ↦ indexed_past i n go l ]

pub is_below : (m n : ℕ) → false ≡ nat_le m n → nat_lt n m ≡ true
is_below m n e = grind (arith, nat_tests)

pub is_not_below : (m n : ℕ) → true ≡ nat_le m n → nat_lt n m ≡ false
is_not_below m n e = grind (arith, nat_tests)

pub both_true : (a b : Bool) → a ≡ true → b ≡ true → (a && b) ≡ true
both_true true b e f = f
both_true false b e f = cc

pub first_false : (a b : Bool) → a ≡ false → (a && b) ≡ false
first_false true b e = cc
first_false false b e = refl

pub second_false : (a b : Bool) → b ≡ false → (a && b) ≡ false
second_false true b e = e
second_false false b e = refl

pub first_of_both : (a b : Bool) → (a && b) ≡ true → a ≡ true
first_of_both true b e = refl
first_of_both false b e = cc

pub second_of_both : (a b : Bool) → (a && b) ≡ true → b ≡ true
second_of_both true b e = e
second_of_both false b e = cc

pub is_under : (m n : ℕ) → m < n → nat_lt m n ≡ true
is_under m n h = grind (arith, nat_tests)

pub is_not_under : (m n : ℕ) → n ≤ m → nat_lt m n ≡ false
is_not_under m n h = grind (arith, nat_tests)

pub some_held : (held : Option Held) (d : Does) → true ≡ is_some held → without_lock held d ≡ Stuck
unfolding without_lock
some_held None d e = cc
some_held (Some h) d e = refl

pub none_held : (held : Option Held) (d : Does) → false ≡ is_some held → without_lock held d ≡ d
unfolding without_lock
none_held None d e = refl
none_held (Some h) d e = cc

pub does_at : (p : Program) (t : Task) (own : Own) (i : Instr) → own.place < length t.code → does p t own ≡ executes p t own (slice_index_or t.code own.place i)
unfolding does
does_at p t own i h = ap (executes_at p t own) (get_at t.code own.place i h)

pub does_past : (p : Program) (t : Task) (own : Own) → length t.code ≤ own.place → does p t own ≡ Stuck
unfolding does
does_past p t own h = ap (executes_at p t own) (get_beyond t.code own.place h)

pub can_go_on : (own : Own) (a : Action) → own.place + 1 < 2 ^ 64 → CanGoOn own a
can_go_on own action.Stuck h = tt
can_go_on own (action.Private c) h = h
can_go_on own (action.Take a) h = h
can_go_on own (action.Lock m) h = h
can_go_on own action.Unlock h = h
can_go_on own (action.Out o a n) h = h
