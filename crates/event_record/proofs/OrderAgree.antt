-- The judge of a mark's line says what the format says.
use Rattle.std.proofs.Common.{◌≡◌, ◌<◌, ◌≤◌, ◌^◌, ℕ, List, [], ◌∷◌, Bool, true, false, cond, refl, ap, sym, ◌∙◌, subst, arith, Option, Some, None, codes}
use Rattle.std.specs.Prelude.{bytes_eq, is_some}
use Rattle.std.specs.Str.Parse.{AllDigits}
use Rattle.std.proofs.lemmas.Fmt.{decimal_is_IsNumeral}
use Rattle.std.proofs.lemmas.Slice.Eq.{bytes_eq-Decides}
use Rattle.tower_syntax.specs.declared.event.Mark.{Mark}
use Rattle.tower_syntax.specs.declared.event.Mark.TheVariants as mark
use Rattle.tower_syntax.specs.Arch.{Arch}
use Rattle.tower_reader.specs.Words.{number_in}
use Rattle.event_record.specs.declared.order.Act.{Act}
use Rattle.event_record.specs.declared.order.Act.TheVariants.{Starts, Runs, Puts}
use Rattle.event_record.specs.declared.order.OrderKind.{OrderKind}
use Rattle.event_record.specs.declared.order.OrderKind.TheVariants as wrong
use Rattle.event_record.specs.Lines.{Bytes, words}
use Rattle.event_record.specs.Numbers.{IsWithin}
use Rattle.event_record.specs.Order.{is_passed_over, Form, arrives, marked, SpellsMark, a_arrives, s_starts, r_runs, o_puts, HasForm, bare, numbered, instruction_limit, source_named, mark_of, MakesMarks, nothing, an_arrival, one_mark, IsWrongMark, no_form, no_source, AreTooManyMarks, order_format}
use Rattle.event_record.specs.Judged.{Judged, makes, is_wrong}
use Rattle.event_record.specs.OrderLine.{act_of, arrives_alone, marked_by, bare_form, is_count, form_of, judged_source, judged_form, judge_words, judge_mark, over_marks}
use Rattle.event_record.proofs.Exact.{Agrees}
use Rattle.event_record.proofs.ChoicesAgree.{within_of, number_within}

-- ---- what is spelled is found

mark_is : (ws : List Bytes) (f : Form) → SpellsMark ws f → bare_form ws ≡ Some f
mark_is ws f a_arrives = refl
mark_is ws f s_starts = refl
mark_is ws f r_runs = refl
mark_is ws f o_puts = refl

-- a word that has another byte than digits is no count
count_by : (w : Bytes) (o : Option ℕ) → number_in 0 instruction_limit w ≡ o → (AllDigits 10 w → ⊥) → is_some o ≡ false
count_by w None e d = refl
count_by w (Some n) e d =
    let k = within_of 0 instruction_limit n w e in
    let small : n < 2 ^ 64 = omega (arith, k.greatest) in
    absurd (d (subst (AllDigits 10) (sym k.spelled) (decimal_is_IsNumeral n small).0.1))

no_count : (w : Bytes) → (AllDigits 10 w → ⊥) → is_count w ≡ false
no_count w d = count_by w (number_in 0 instruction_limit w) refl d

uncounted : (w : Bytes) (ws : List Bytes) (f : Form) → (AllDigits 10 w → ⊥) → bare_form (w ∷ ws) ≡ Some f → form_of (w ∷ ws) ≡ Some f
uncounted w ws f d h = ap (λ b. cond b (bare_form ws) (bare_form (w ∷ ws))) (no_count w d) ∙ h

-- the first word of a mark is no count
bare_is : (ws : List Bytes) (f : Form) → SpellsMark ws f → form_of ws ≡ Some f
bare_is ws f a_arrives = uncounted (codes "a") [] f (λ d. omega (arith, d.0)) refl
bare_is ws f (s_starts {name = name}) = uncounted (codes "s") (name ∷ []) f (λ d. omega (arith, d.0)) refl
bare_is ws f (r_runs {name = name}) = uncounted (codes "r") (name ∷ []) f (λ d. omega (arith, d.0)) refl
bare_is ws f (o_puts {name = name}) = uncounted (codes "o") (name ∷ []) f (λ d. omega (arith, d.0)) refl

form_is : (ws : List Bytes) (f : Form) → HasForm ws f → form_of ws ≡ Some f
form_is ws f (bare s) = bare_is ws f s
form_is all f (numbered {count = count} {n = n} {ws = ws} w s) =
    let e : number_in 0 instruction_limit count ≡ Some n = number_within 0 instruction_limit n count (omega arith) w in
    ap (λ o. cond (is_some o) (bare_form ws) (bare_form (count ∷ ws))) e ∙ mark_is ws f s

-- ---- what is found is spelled

abbrev act_word : Act → Bytes
act_word Starts = codes "s"
act_word Runs = codes "r"
act_word Puts = codes "o"

act_test : (w word : Bytes) (v u : Act) (o : Option Act) (b : Bool) → bytes_eq w word ≡ b → word ≡ act_word u → (o ≡ Some v → w ≡ act_word v) → cond b (Some u) o ≡ Some v → w ≡ act_word v
act_test w word v u o true e f g h =
    let p : u ≡ v = cc in (bytes_eq-Decides w word).0 e ∙ f ∙ ap act_word p
act_test w word v u o false e f g h = g h

act_is : (w : Bytes) (v : Act) → act_of w ≡ Some v → w ≡ act_word v
act_is w v h =
    act_test w (codes "s") v Starts _ (bytes_eq w (codes "s")) refl refl
    (act_test w (codes "r") v Runs _ (bytes_eq w (codes "r")) refl refl
    (act_test w (codes "o") v Puts None (bytes_eq w (codes "o")) refl refl (λ e. cc))) h

act_spelled : (a : Act) (name : Bytes) → SpellsMark (act_word a ∷ name ∷ []) (marked a name)
act_spelled Starts name = s_starts
act_spelled Runs name = r_runs
act_spelled Puts name = o_puts

marked_spelled : (w : Bytes) (ws : List Bytes) (o : Option Act) (f : Form) → act_of w ≡ o → marked_by o ws ≡ Some f → SpellsMark (w ∷ ws) f
marked_spelled w ws None f e h = cc
marked_spelled w [] (Some a) f e h = cc
marked_spelled w (name ∷ []) (Some a) f e h =
    let p : marked a name ≡ f = cc in
    subst (SpellsMark (w ∷ name ∷ [])) p (subst (λ w. SpellsMark (w ∷ name ∷ []) (marked a name)) (sym (act_is w a e)) (act_spelled a name))
marked_spelled w (name ∷ x ∷ ws) (Some a) f e h = cc

alone_spelled : (ws : List Bytes) (f : Form) → arrives_alone ws ≡ Some f → SpellsMark (codes "a" ∷ ws) f
alone_spelled [] f h = let p : arrives ≡ f = cc in subst (SpellsMark (codes "a" ∷ [])) p a_arrives
alone_spelled (x ∷ ws) f h = cc

bare_by : (w : Bytes) (ws : List Bytes) (f : Form) (b : Bool) → bytes_eq w (codes "a") ≡ b → cond b (arrives_alone ws) (marked_by (act_of w) ws) ≡ Some f → SpellsMark (w ∷ ws) f
bare_by w ws f true e h = subst (λ w. SpellsMark (w ∷ ws) f) (sym ((bytes_eq-Decides w (codes "a")).0 e)) (alone_spelled ws f h)
bare_by w ws f false e h = marked_spelled w ws (act_of w) f refl h

mark_spelled : (ws : List Bytes) (f : Form) → bare_form ws ≡ Some f → SpellsMark ws f
mark_spelled [] f h = cc
mark_spelled (w ∷ ws) f h = bare_by w ws f (bytes_eq w (codes "a")) refl h

form_by : (w : Bytes) (ws : List Bytes) (f : Form) (o : Option ℕ) → number_in 0 instruction_limit w ≡ o → cond (is_some o) (bare_form ws) (bare_form (w ∷ ws)) ≡ Some f → HasForm (w ∷ ws) f
form_by w ws f None e h = bare (mark_spelled (w ∷ ws) f h)
form_by w ws f (Some n) e h = numbered (within_of 0 instruction_limit n w e) (mark_spelled ws f h)

form_spelled : (ws : List Bytes) (f : Form) → form_of ws ≡ Some f → HasForm ws f
form_spelled [] f h = cc
form_spelled (w ∷ ws) f h = form_by w ws f (number_in 0 instruction_limit w) refl h

-- ---- lines

judged_is : (arch : Arch) (ws : List Bytes) (f : Form) → is_passed_over ws ≡ false → HasForm ws f → judge_words arch ws ≡ judged_form arch (Some f)
judged_is arch ws f e h = ap (λ b. cond b (makes []) (judged_form arch (form_of ws))) e ∙ ap (judged_form arch) (form_is ws f h)

by_source : (arch : Arch) (l : Bytes) (new : List Mark) (a : Act) (name : Bytes) (o : Option ℕ) → is_passed_over (words l) ≡ false → HasForm (words l) (marked a name) → source_named arch name ≡ o → judged_source a o ≡ makes new → MakesMarks arch l new
by_source arch l new a name None e f g h = cc
by_source arch l new a name (Some x) e f g h = let p : mark_of a x ∷ [] ≡ new = cc in subst (MakesMarks arch l) p (one_mark e f g)

by_form : (arch : Arch) (l : Bytes) (new : List Mark) (o : Option Form) → is_passed_over (words l) ≡ false → form_of (words l) ≡ o → judged_form arch o ≡ makes new → MakesMarks arch l new
by_form arch l new None e f h = cc
by_form arch l new (Some arrives) e f h = let p : mark.Arrive ∷ [] ≡ new = cc in subst (MakesMarks arch l) p (an_arrival e (form_spelled (words l) arrives f))
by_form arch l new (Some (marked a name)) e f h = by_source arch l new a name (source_named arch name) e (form_spelled (words l) (marked a name) f) refl h

made_by : (arch : Arch) (l : Bytes) (new : List Mark) (b : Bool) → is_passed_over (words l) ≡ b → cond b (makes []) (judged_form arch (form_of (words l))) ≡ makes new → MakesMarks arch l new
made_by arch l new true e h = let p : [] ≡ new = cc in subst (MakesMarks arch l) p (nothing e)
made_by arch l new false e h = by_form arch l new (form_of (words l)) e refl h

judged_by : (arch : Arch) (l : Bytes) (new : List Mark) → MakesMarks arch l new → judge_mark arch l ≡ makes new
judged_by arch l new (nothing h) = ap (λ b. cond b (makes []) (judged_form arch (form_of (words l)))) h
judged_by arch l new (an_arrival e f) = judged_is arch (words l) arrives e f
judged_by arch l new (one_mark {act = a} {name = name} {x = x} e f g) = judged_is arch (words l) (marked a name) e f ∙ ap (judged_source a) g

some_form : (arch : Arch) (l : Bytes) (f : Form) → form_of (words l) ≡ None → HasForm (words l) f → ⊥
some_form arch l f e h = let p = form_is (words l) f h in cc

wrong_source : (arch : Arch) (l : Bytes) (k : OrderKind) (a : Act) (name : Bytes) (o : Option ℕ) → is_passed_over (words l) ≡ false → HasForm (words l) (marked a name) → source_named arch name ≡ o → judged_source a o ≡ is_wrong k → IsWrongMark arch l k
wrong_source arch l k a name None e f g h = let p : wrong.Name ≡ k = cc in subst (IsWrongMark arch l) p (no_source e f g)
wrong_source arch l k a name (Some x) e f g h = cc

wrong_form : (arch : Arch) (l : Bytes) (k : OrderKind) (o : Option Form) → is_passed_over (words l) ≡ false → form_of (words l) ≡ o → judged_form arch o ≡ is_wrong k → IsWrongMark arch l k
wrong_form arch l k None e f h = let p : wrong.Line ≡ k = cc in subst (IsWrongMark arch l) p (no_form e (λ g s. some_form arch l g f s))
wrong_form arch l k (Some arrives) e f h = cc
wrong_form arch l k (Some (marked a name)) e f h = wrong_source arch l k a name (source_named arch name) e (form_spelled (words l) (marked a name) f) refl h

wrong_by : (arch : Arch) (l : Bytes) (k : OrderKind) (b : Bool) → is_passed_over (words l) ≡ b → cond b (makes []) (judged_form arch (form_of (words l))) ≡ is_wrong k → IsWrongMark arch l k
wrong_by arch l k true e h = cc
wrong_by arch l k false e h = wrong_form arch l k (form_of (words l)) e refl h

none_by : (ws : List Bytes) (o : Option Form) → form_of ws ≡ o → ((f : Form) → HasForm ws f → ⊥) → o ≡ None
none_by ws None e n = refl
none_by ws (Some f) e n = absurd (n f (form_spelled ws f e))

judged_wrong_by : (arch : Arch) (l : Bytes) (k : OrderKind) → IsWrongMark arch l k → judge_mark arch l ≡ is_wrong k
judged_wrong_by arch l k (no_form e n) =
    ap (λ b. cond b (makes []) (judged_form arch (form_of (words l)))) e ∙ ap (judged_form arch) (none_by (words l) (form_of (words l)) refl n)
judged_wrong_by arch l k (no_source {act = a} {name = name} e f g) = judged_is arch (words l) (marked a name) e f ∙ ap (judged_source a) g

pub order_agrees : (arch : Arch) → Agrees (order_format arch) (judge_mark arch) over_marks
order_agrees arch = record {
  made = λ l new h. made_by arch l new (is_passed_over (words l)) refl h;
  judged = judged_by arch;
  wrong = λ l k h. wrong_by arch l k (is_passed_over (words l)) refl h;
  judged_wrong = judged_wrong_by arch;
  many = λ n k h. cc;
  is_over = λ n k h. absurd h;
}
