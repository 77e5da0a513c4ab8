-- The judge of a choice's line says what the format says.
use Rattle.std.proofs.Common.{◌≡◌, ◌<◌, ◌≤◌, ◌^◌, ℕ, List, [], ◌∷◌, Bool, true, false, cond, refl, ap, sym, ◌∙◌, subst, arith, Option, Some, None, codes, decimal}
use Rattle.std.specs.Prelude.{bytes_eq, nat_lt}
use Rattle.std.proofs.lemmas.Bool.{ltb-true, lt-ltb}
use Rattle.std.proofs.lemmas.Slice.Eq.{bytes_eq-Decides}
use Rattle.tower_syntax.specs.declared.event.Choice.{Choice}
use Rattle.tower_syntax.specs.declared.event.Choice.TheVariants as choice
use Rattle.tower_reader.specs.Words.{number_in}
use Rattle.tower_reader.proofs.Numbers.{number_is, number_of}
use Rattle.event_record.specs.declared.choices.Verb.{Verb}
use Rattle.event_record.specs.declared.choices.Verb.TheVariants as verb
use Rattle.event_record.specs.declared.choices.ChoiceKind.{ChoiceKind}
use Rattle.event_record.specs.declared.choices.ChoiceKind.TheVariants as wrong
use Rattle.event_record.specs.Lines.{Bytes, words, say_nothing}
use Rattle.event_record.specs.Numbers.{IsWithin}
use Rattle.event_record.specs.Choices.{position_limit, repeat_limit, choice_limit, SpellsChoice, go, go_often, see, see_often, ev, ev_often, idle, MakesChoices, nothing, one_choice, IsWrongChoice, no_choice, AreTooManyChoices, choices_format}
use Rattle.event_record.specs.Judged.{Judged, makes, is_wrong}
use Rattle.event_record.specs.ChoiceLine.{verb_of, place_of, times_of, both, place_and_times, placed, repeated, alone, choice_by, choice_of, judged_choice, judge_words, judge_choice, over_choices}
use Rattle.event_record.proofs.Exact.{Agrees}

-- ---- numbers

pub within_of : (low high n : ℕ) (text : Bytes) → number_in low high text ≡ Some n → IsWithin low high text n
within_of low high n text h = let k = number_is low high n text h in record { spelled = k.1; least = k.0.0; greatest = k.0.1 }

pub number_within : (low high n : ℕ) (text : Bytes) → high < 2 ^ 64 → IsWithin low high text n → number_in low high text ≡ Some n
number_within low high n text s w = number_of low high n text (omega (arith, s, w.greatest)) (w.least, w.greatest) w.spelled

place_is : (k : ℕ) (text : Bytes) → IsWithin 0 position_limit text k → place_of text ≡ Some k
place_is k text w = number_within 0 position_limit k text (omega arith) w

times_is : (n : ℕ) (text : Bytes) → IsWithin 1 repeat_limit text n → times_of text ≡ Some n
times_is n text w = number_within 1 repeat_limit n text (omega arith) w

abbrev again : Option ℕ → Option Choice
again None = None
again (Some n) = Some (choice.Ev n)

-- ---- what is spelled is judged so

spelled_is : (ws : List Bytes) (c : Choice) → SpellsChoice ws c → judge_words ws ≡ makes (c ∷ [])
spelled_is ws c (go {place = place} {k = k} w) = ap (λ o. judged_choice (placed choice.Go (both o (Some 1)))) (place_is k place w)
spelled_is ws c (go_often {place = place} {times = times} {k = k} {n = n} w v) =
    ap (λ o. judged_choice (placed choice.Go (both o (times_of times)))) (place_is k place w) ∙ ap (λ o. judged_choice (placed choice.Go (both (Some k) o))) (times_is n times v)
spelled_is ws c (see {place = place} {k = k} w) = ap (λ o. judged_choice (placed choice.See (both o (Some 1)))) (place_is k place w)
spelled_is ws c (see_often {place = place} {times = times} {k = k} {n = n} w v) =
    ap (λ o. judged_choice (placed choice.See (both o (times_of times)))) (place_is k place w) ∙ ap (λ o. judged_choice (placed choice.See (both (Some k) o))) (times_is n times v)
spelled_is ws c ev = refl
spelled_is ws c (ev_often {times = times} {n = n} v) = ap (λ o. judged_choice (again o)) (times_is n times v)
spelled_is ws c idle = refl

-- ---- what is judged so is spelled

abbrev IsVerb : Bytes → Verb → Type 0
IsVerb w verb.Go = w ≡ codes "go"
IsVerb w verb.See = w ≡ codes "see"
IsVerb w verb.Ev = w ≡ codes "ev"
IsVerb w verb.Idle = w ≡ codes "idle"

verb_test : (w word : Bytes) (v u : Verb) (o : Option Verb) (b : Bool) → bytes_eq w word ≡ b → (w ≡ word → IsVerb w u) → (o ≡ Some v → IsVerb w v) → cond b (Some u) o ≡ Some v → IsVerb w v
verb_test w word v u o true e f g h =
    let p : u ≡ v = cc in subst (IsVerb w) p (f ((bytes_eq-Decides w word).0 e))
verb_test w word v u o false e f g h = g h

verb_is : (w : Bytes) (v : Verb) → verb_of w ≡ Some v → IsVerb w v
verb_is w v h =
    verb_test w (codes "go") v verb.Go _ (bytes_eq w (codes "go")) refl (λ e. e)
    (verb_test w (codes "see") v verb.See _ (bytes_eq w (codes "see")) refl (λ e. e)
    (verb_test w (codes "ev") v verb.Ev _ (bytes_eq w (codes "ev")) refl (λ e. e)
    (verb_test w (codes "idle") v verb.Idle None (bytes_eq w (codes "idle")) refl (λ e. e) (λ e. cc)))) h

both_is : (o p : Option ℕ) (k n : ℕ) → both o p ≡ Some (k, n) → (o ≡ Some k) × (p ≡ Some n)
both_is None p k n h = cc
both_is (Some a) None k n h = cc
both_is (Some a) (Some b) k n h = let p : ◌≡◌ {A = ℕ × ℕ} (a, b) (k, n) = cc in (ap (λ q. Some q.0) p, ap (λ q. Some q.1) p)

-- a place and a repeat count
record Places (ws : List Bytes) (make : ℕ → ℕ → Choice) (c : Choice) : Type 0 where
  place : ℕ
  times : ℕ
  read : place_and_times ws ≡ Some (place, times)
  is : c ≡ make place times

placed_is : (make : ℕ → ℕ → Choice) (ws : List Bytes) (o : Option (ℕ × ℕ)) (c : Choice) → place_and_times ws ≡ o → placed make o ≡ Some c → Places ws make c
placed_is make ws None c e h = cc
placed_is make ws (Some (k, n)) c e h = let p : c ≡ make k n = cc in record { place = k; times = n; read = e; is = p }

go_spelled : (ws : List Bytes) (k n : ℕ) → place_and_times ws ≡ Some (k, n) → SpellsChoice (codes "go" ∷ ws) (choice.Go k n)
go_spelled [] k n h = cc
go_spelled (p ∷ []) k n h =
    let b = both_is (place_of p) (Some 1) k n h in
    let e : 1 ≡ n = cc in
    subst (λ n. SpellsChoice (codes "go" ∷ p ∷ []) (choice.Go k n)) e (go (within_of 0 position_limit k p b.0))
go_spelled (p ∷ t ∷ []) k n h = let b = both_is (place_of p) (times_of t) k n h in go_often (within_of 0 position_limit k p b.0) (within_of 1 repeat_limit n t b.1)
go_spelled (p ∷ t ∷ x ∷ ws) k n h = cc

see_spelled : (ws : List Bytes) (k n : ℕ) → place_and_times ws ≡ Some (k, n) → SpellsChoice (codes "see" ∷ ws) (choice.See k n)
see_spelled [] k n h = cc
see_spelled (p ∷ []) k n h =
    let b = both_is (place_of p) (Some 1) k n h in
    let e : 1 ≡ n = cc in
    subst (λ n. SpellsChoice (codes "see" ∷ p ∷ []) (choice.See k n)) e (see (within_of 0 position_limit k p b.0))
see_spelled (p ∷ t ∷ []) k n h = let b = both_is (place_of p) (times_of t) k n h in see_often (within_of 0 position_limit k p b.0) (within_of 1 repeat_limit n t b.1)
see_spelled (p ∷ t ∷ x ∷ ws) k n h = cc

ev_by : (t : Bytes) (o : Option ℕ) (c : Choice) → times_of t ≡ o → again o ≡ Some c → SpellsChoice (codes "ev" ∷ t ∷ []) c
ev_by t None c e h = cc
ev_by t (Some n) c e h = let p : choice.Ev n ≡ c = cc in subst (SpellsChoice (codes "ev" ∷ t ∷ [])) p (ev_often (within_of 1 repeat_limit n t e))

ev_spelled : (ws : List Bytes) (c : Choice) → repeated ws ≡ Some c → SpellsChoice (codes "ev" ∷ ws) c
ev_spelled [] c h = let p : choice.Ev 1 ≡ c = cc in subst (SpellsChoice (codes "ev" ∷ [])) p ev
ev_spelled (t ∷ []) c h = ev_by t (times_of t) c refl h
ev_spelled (t ∷ x ∷ ws) c h = cc

idle_spelled : (ws : List Bytes) (c : Choice) → alone ws ≡ Some c → SpellsChoice (codes "idle" ∷ ws) c
idle_spelled [] c h = let p : choice.Idle ≡ c = cc in subst (SpellsChoice (codes "idle" ∷ [])) p idle
idle_spelled (t ∷ ws) c h = cc

by_verb : (w : Bytes) (ws : List Bytes) (c : Choice) (o : Option Verb) → verb_of w ≡ o → choice_by o ws ≡ Some c → SpellsChoice (w ∷ ws) c
by_verb w ws c None e h = cc
by_verb w ws c (Some verb.Go) e h =
    let p = placed_is choice.Go ws (place_and_times ws) c refl h in
    subst (λ w. SpellsChoice (w ∷ ws) c) (sym (verb_is w verb.Go e)) (subst (SpellsChoice (codes "go" ∷ ws)) (sym p.is) (go_spelled ws p.place p.times p.read))
by_verb w ws c (Some verb.See) e h =
    let p = placed_is choice.See ws (place_and_times ws) c refl h in
    subst (λ w. SpellsChoice (w ∷ ws) c) (sym (verb_is w verb.See e)) (subst (SpellsChoice (codes "see" ∷ ws)) (sym p.is) (see_spelled ws p.place p.times p.read))
by_verb w ws c (Some verb.Ev) e h = subst (λ w. SpellsChoice (w ∷ ws) c) (sym (verb_is w verb.Ev e)) (ev_spelled ws c h)
by_verb w ws c (Some verb.Idle) e h = subst (λ w. SpellsChoice (w ∷ ws) c) (sym (verb_is w verb.Idle e)) (idle_spelled ws c h)

of_choice : (ws : List Bytes) (c : Choice) → choice_of ws ≡ Some c → SpellsChoice ws c
of_choice [] c h = cc
of_choice (w ∷ ws) c h = by_verb w ws c (verb_of w) refl h

-- ---- lines

made_by : (l : Bytes) (new : List Choice) (b : Bool) (o : Option Choice) → say_nothing (words l) ≡ b → choice_of (words l) ≡ o → cond b (makes []) (judged_choice o) ≡ makes new → MakesChoices l new
made_by l new true o e f h = let p : [] ≡ new = cc in subst (MakesChoices l) p (nothing e)
made_by l new false None e f h = cc
made_by l new false (Some c) e f h = let p : c ∷ [] ≡ new = cc in subst (MakesChoices l) p (one_choice (of_choice (words l) c f))

judged_by : (l : Bytes) (new : List Choice) → MakesChoices l new → judge_choice l ≡ makes new
judged_by l new (nothing h) = ap (λ b. cond b (makes []) (judged_choice (choice_of (words l)))) h
judged_by l new (one_choice {c = c} s) = spelled_is (words l) c s

not_both : (ws : List Bytes) (c : Choice) → judge_words ws ≡ is_wrong wrong.Line → judge_words ws ≡ makes (c ∷ []) → ⊥
not_both ws c p q = cc

wrong_by : (l : Bytes) (k : ChoiceKind) (b : Bool) (o : Option Choice) → say_nothing (words l) ≡ b → choice_of (words l) ≡ o → cond b (makes []) (judged_choice o) ≡ is_wrong k → IsWrongChoice l k
wrong_by l k true o e f h = cc
wrong_by l k false None e f h =
    let p : wrong.Line ≡ k = cc in
    let judged : judge_words (words l) ≡ is_wrong wrong.Line = ap (λ b. cond b (makes []) (judged_choice (choice_of (words l)))) e ∙ ap judged_choice f in
    subst (IsWrongChoice l) p (no_choice e (λ c s. not_both (words l) c judged (spelled_is (words l) c s)))
wrong_by l k false (Some c) e f h = cc

none_by : (ws : List Bytes) (o : Option Choice) → choice_of ws ≡ o → ((c : Choice) → SpellsChoice ws c → ⊥) → o ≡ None
none_by ws None e n = refl
none_by ws (Some c) e n = absurd (n c (of_choice ws c e))

judged_wrong_by : (l : Bytes) (k : ChoiceKind) → IsWrongChoice l k → judge_choice l ≡ is_wrong k
judged_wrong_by l k (no_choice e n) =
    ap (λ b. cond b (makes []) (judged_choice (choice_of (words l)))) e ∙ ap judged_choice (none_by (words l) (choice_of (words l)) refl n)

many_by : (n : ℕ) (k : ChoiceKind) (b : Bool) → nat_lt choice_limit n ≡ b → cond b (Some wrong.Many) None ≡ Some k → AreTooManyChoices n k
many_by n k true e h = let p : k ≡ wrong.Many = cc in (ltb-true choice_limit n e, p)
many_by n k false e h = cc

over_by : (n : ℕ) (k : ChoiceKind) → AreTooManyChoices n k → over_choices n ≡ Some k
over_by n k h = ap (λ b. cond b (Some wrong.Many) None) (lt-ltb choice_limit n h.0) ∙ ap Some (sym h.1)

pub choices_agree : Agrees choices_format judge_choice over_choices
choices_agree = record {
  made = λ l new h. made_by l new (say_nothing (words l)) (choice_of (words l)) refl refl h;
  judged = judged_by;
  wrong = λ l k h. wrong_by l k (say_nothing (words l)) (choice_of (words l)) refl refl h;
  judged_wrong = judged_wrong_by;
  many = λ n k h. many_by n k (nat_lt choice_limit n) refl h;
  is_over = over_by;
}
