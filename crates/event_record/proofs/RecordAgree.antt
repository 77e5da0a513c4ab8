-- The judge of an entry's line says what the format says.
use Rattle.std.proofs.Common.{◌≡◌, ◌<◌, ◌≤◌, ◌^◌, ℕ, List, [], ◌∷◌, Bool, true, false, cond, refl, ap, sym, ◌∙◌, subst, arith, Option, Some, None, codes}
use Rattle.std.specs.Prelude.{bytes_eq, nat_lt, replicate, slice_get}
use Rattle.std.proofs.lemmas.Bool.{ltb-true, lt-ltb}
use Rattle.std.proofs.lemmas.Slice.Eq.{bytes_eq-Decides}
use Rattle.tower_types.specs.Ty.{shape_of}
use Rattle.tower_types.specs.Value.{Value}
use Rattle.tower_syntax.specs.Arch.{Arch, Source, Entry, tick, signal}
use Rattle.tower_reader.specs.Words.{number_in}
use Rattle.event_record.specs.declared.record.RecordKind.{RecordKind}
use Rattle.event_record.specs.declared.record.RecordKind.TheVariants as wrong
use Rattle.event_record.specs.Lines.{Bytes, words, behind_word, begins_with, say_nothing}
use Rattle.event_record.specs.Numbers.{IsWithin}
use Rattle.event_record.specs.Tokens.{tokens}
use Rattle.event_record.specs.Written.{Written, IsValue, value_at}
use Rattle.event_record.specs.Scanned.{makes_value, take_value, whole_value}
use Rattle.event_record.specs.Record as record_of
use Rattle.event_record.specs.Record.{Form, HasForm, one_tick, some_ticks, a_signal, entry_limit, signal_named, MakesEntries, so_many_ticks, one_signal, IsWrongEntry, no_signal, misfit, AreTooManyEntries, record_format}
use Rattle.event_record.specs.RecordLine as line
use Rattle.event_record.specs.RecordLine.{Said, ticks_by, tick_form, sig_form, said_by, said_of, judged_value, value_for, judged_signal, judged_said, judge_entry, over_entries}
use Rattle.event_record.specs.Judged.{Judged, makes, is_wrong}
use Rattle.event_record.proofs.Positions.{position_below, slice_there}
use Rattle.event_record.proofs.Exact.{Agrees}
use Rattle.event_record.proofs.ChoicesAgree.{within_of, number_within}
use Rattle.event_record.proofs.ValueAgrees.{value_is, makes_one, is_a_value}

abbrev text_of : Bytes → Bytes
text_of l = behind_word (behind_word l)

-- ---- what has a form is said

ticks_said : (l : Bytes) (n : ℕ) → HasForm l (record_of.ticks n) → said_of l ≡ line.ticks n
ticks_said l n (one_tick e) = ap (λ ws. said_by ws (text_of l)) e
ticks_said l n (some_ticks {text = text} e w) = ap (λ ws. said_by ws (text_of l)) e ∙ ap ticks_by (number_within 1 entry_limit n text (omega arith) w)

signal_said : (l name : Bytes) (w : Written) → HasForm l (record_of.brings name w) → (said_of l ≡ line.brings name (text_of l)) × IsValue (text_of l) w
signal_said l name w (a_signal e v) = (ap (λ ws. said_by ws (text_of l)) e ∙ ap (λ b. cond b (line.brings name (text_of l)) line.no_form) (makes_one (text_of l) w v), v)

no_form_said : (l : Bytes) (f : Form) → said_of l ≡ line.no_form → HasForm l f → ⊥
no_form_said l (record_of.ticks n) e h = let p = ticks_said l n h in cc
no_form_said l (record_of.brings name w) e h = let p = (signal_said l name w h).0 in cc

-- ---- what is said has a form

ticks_number : (l w t : Bytes) (n : ℕ) (o : Option ℕ) → words l ≡ w ∷ t ∷ [] → w ≡ codes "tick" → number_in 1 entry_limit t ≡ o → ticks_by o ≡ line.ticks n → HasForm l (record_of.ticks n)
ticks_number l w t n None e f g h = cc
ticks_number l w t n (Some m) e f g h =
    let p : m ≡ n = cc in
    subst (λ n. HasForm l (record_of.ticks n)) p (some_ticks (e ∙ ap (λ w. w ∷ t ∷ []) f) (within_of 1 entry_limit m t g))

ticks_inner : (l w : Bytes) (ws : List Bytes) (n : ℕ) → words l ≡ w ∷ ws → w ≡ codes "tick" → tick_form ws ≡ line.ticks n → HasForm l (record_of.ticks n)
ticks_inner l w [] n e f h =
    let p : 1 ≡ n = cc in
    subst (λ n. HasForm l (record_of.ticks n)) p (one_tick (e ∙ ap (λ w. w ∷ []) f))
ticks_inner l w (t ∷ []) n e f h = ticks_number l w t n (number_in 1 entry_limit t) e f refl h
ticks_inner l w (t ∷ x ∷ ws) n e f h = cc

sig_ticks : (ws : List Bytes) (text : Bytes) (n : ℕ) (b : Bool) → makes_value 0 false (tokens text) ≡ b → sig_form ws text ≡ line.ticks n → ⊥
sig_ticks [] text n b e h = cc
sig_ticks (name ∷ ws) text n true e h = let p : line.brings name text ≡ line.ticks n = ap (λ b. cond b (line.brings name text) line.no_form) (sym e) ∙ h in cc
sig_ticks (name ∷ ws) text n false e h = let p : line.no_form ≡ line.ticks n = ap (λ b. cond b (line.brings name text) line.no_form) (sym e) ∙ h in cc

ticks_word : (l w : Bytes) (ws : List Bytes) (n : ℕ) (b c d : Bool) → words l ≡ w ∷ ws → bytes_eq w (codes "tick") ≡ c
    → cond b line.nothing (cond c (tick_form ws) (cond d (sig_form ws (text_of l)) line.no_form)) ≡ line.ticks n → HasForm l (record_of.ticks n)
ticks_word l w ws n true c d e f h = cc
ticks_word l w ws n false true d e f h = ticks_inner l w ws n e ((bytes_eq-Decides w (codes "tick")).0 f) h
ticks_word l w ws n false false true e f h = absurd (sig_ticks ws (text_of l) n (makes_value 0 false (tokens (text_of l))) refl h)
ticks_word l w ws n false false false e f h = cc

ticks_form : (l : Bytes) (ws : List Bytes) (n : ℕ) → words l ≡ ws → said_by ws (text_of l) ≡ line.ticks n → HasForm l (record_of.ticks n)
ticks_form l [] n e h = cc
ticks_form l (w ∷ ws) n e h = ticks_word l w ws n (begins_with 0x3B w) (bytes_eq w (codes "tick")) (bytes_eq w (codes "sig")) e refl h

-- a signal with its name, and a value that this text spells
abbrev Brings : Bytes → Bytes → Bytes → Type 0
Brings l name text = (w : Written) × HasForm l (record_of.brings name w) × IsValue text w

ticks_no_signal : (o : Option ℕ) (name text : Bytes) → ticks_by o ≡ line.brings name text → ⊥
ticks_no_signal None name text h = cc
ticks_no_signal (Some n) name text h = cc

tick_no_signal : (ws : List Bytes) (name text : Bytes) → tick_form ws ≡ line.brings name text → ⊥
tick_no_signal [] name text h = cc
tick_no_signal (t ∷ []) name text h = ticks_no_signal (number_in 1 entry_limit t) name text h
tick_no_signal (t ∷ x ∷ ws) name text h = cc

sig_value : (l w nm : Bytes) (ws : List Bytes) (name text : Bytes) (b : Bool) → words l ≡ w ∷ nm ∷ ws → w ≡ codes "sig" → makes_value 0 false (tokens (text_of l)) ≡ b → cond b (line.brings nm (text_of l)) line.no_form ≡ line.brings name text → Brings l name text
sig_value l w nm ws name text false e f g h = cc
sig_value l w nm ws name text true e f g h =
    let v = is_a_value (text_of l) g in
    let p : nm ≡ name = cc in
    let q : text_of l ≡ text = cc in
    (v.0, a_signal (e ∙ ap (λ w. w ∷ nm ∷ ws) f ∙ ap (λ nm. codes "sig" ∷ nm ∷ ws) p) v.1, subst (λ t. IsValue t v.0) q v.1)

sig_inner : (l w : Bytes) (ws : List Bytes) (name text : Bytes) → words l ≡ w ∷ ws → w ≡ codes "sig" → sig_form ws (text_of l) ≡ line.brings name text → Brings l name text
sig_inner l w [] name text e f h = cc
sig_inner l w (nm ∷ ws) name text e f h = sig_value l w nm ws name text (makes_value 0 false (tokens (text_of l))) e f refl h

signal_word : (l w : Bytes) (ws : List Bytes) (name text : Bytes) (b c d : Bool) → words l ≡ w ∷ ws → bytes_eq w (codes "sig") ≡ d
    → cond b line.nothing (cond c (tick_form ws) (cond d (sig_form ws (text_of l)) line.no_form)) ≡ line.brings name text → Brings l name text
signal_word l w ws name text true c d e f h = cc
signal_word l w ws name text false true d e f h = absurd (tick_no_signal ws name text h)
signal_word l w ws name text false false true e f h = sig_inner l w ws name text e ((bytes_eq-Decides w (codes "sig")).0 f) h
signal_word l w ws name text false false false e f h = cc

signal_form : (l : Bytes) (ws : List Bytes) (name text : Bytes) → words l ≡ ws → said_by ws (text_of l) ≡ line.brings name text → Brings l name text
signal_form l [] name text e h = cc
signal_form l (w ∷ ws) name text e h = signal_word l w ws name text (begins_with 0x3B w) (bytes_eq w (codes "tick")) (bytes_eq w (codes "sig")) e refl h

-- ---- lines

-- a line that says something is not passed over
says : (l : Bytes) (b : Bool) → say_nothing (words l) ≡ b → (said_of l ≡ line.nothing → ⊥) → b ≡ false
says l true e h = absurd (h (ap (λ b. cond b line.nothing (line.form_by (words l) (text_of l))) e))
says l false e h = refl

ticks_nothing : (o : Option ℕ) → ticks_by o ≡ line.nothing → ⊥
ticks_nothing None h = cc
ticks_nothing (Some n) h = cc

sig_nothing : (name text : Bytes) (b : Bool) → cond b (line.brings name text) line.no_form ≡ line.nothing → ⊥
sig_nothing name text true h = cc
sig_nothing name text false h = cc

inner_nothing : (ws : List Bytes) (text : Bytes) (c d m : Bool) (o : Option ℕ) → cond c (tick_form ws) (cond d (sig_form ws text) line.no_form) ≡ line.nothing → ⊥
inner_nothing [] text true d m o h = cc
inner_nothing (t ∷ []) text true d m o h = ticks_nothing (number_in 1 entry_limit t) h
inner_nothing (t ∷ x ∷ ws) text true d m o h = cc
inner_nothing [] text false true m o h = cc
inner_nothing (name ∷ ws) text false true m o h = sig_nothing name text (makes_value 0 false (tokens text)) h
inner_nothing ws text false false m o h = cc

nothing_by : (w : Bytes) (ws : List Bytes) (text : Bytes) (b : Bool) → begins_with 0x3B w ≡ b → cond b line.nothing (line.form_by (w ∷ ws) text) ≡ line.nothing → say_nothing (w ∷ ws) ≡ true
nothing_by w ws text true e h = e
nothing_by w ws text false e h = absurd (inner_nothing ws text (bytes_eq w (codes "tick")) (bytes_eq w (codes "sig")) true None h)

says_none : (ws : List Bytes) (text : Bytes) → said_by ws text ≡ line.nothing → say_nothing ws ≡ true
says_none [] text h = refl
says_none (w ∷ ws) text h = nothing_by w ws text (begins_with 0x3B w) refl h

-- the value of a signal
by_value : (arch : Arch) (l : Bytes) (new : List Entry) (name : Bytes) (w : Written) (x : ℕ) (s : Source) (o : Option Value) → HasForm l (record_of.brings name w) → signal_named arch name ≡ Some x → slice_get arch.sources x ≡ Some s → value_at (shape_of arch.records s.message) w ≡ o → judged_value x o ≡ makes new → MakesEntries arch l new
by_value arch l new name w x s None f g i v h = cc
by_value arch l new name w x s (Some u) f g i v h = let p : signal x u ∷ [] ≡ new = cc in subst (MakesEntries arch l) p (one_signal f g i v)

value_seen : (arch : Arch) (s : Source) (text : Bytes) (w : Written) → IsValue text w → value_for arch (Some s) text ≡ value_at (shape_of arch.records s.message) w
value_seen arch s text w h = value_is (shape_of arch.records s.message) text w h

by_source : (arch : Arch) (l : Bytes) (new : List Entry) (name text : Bytes) (x : ℕ) (o : Option Source) (b : Brings l name text) → signal_named arch name ≡ Some x → slice_get arch.sources x ≡ o → judged_value x (value_for arch o text) ≡ makes new → MakesEntries arch l new
by_source arch l new name text x None b g i h = cc
by_source arch l new name text x (Some s) b g i h =
    by_value arch l new name b.0 x s (value_at (shape_of arch.records s.message) b.0) b.1 g i refl (ap (judged_value x) (sym (value_seen arch s text b.0 b.2)) ∙ h)

by_signal : (arch : Arch) (l : Bytes) (new : List Entry) (name text : Bytes) (o : Option ℕ) (b : Brings l name text) → signal_named arch name ≡ o → judged_signal arch o text ≡ makes new → MakesEntries arch l new
by_signal arch l new name text None b g h = cc
by_signal arch l new name text (Some x) b g h = by_source arch l new name text x (slice_get arch.sources x) b g refl h

made_by : (arch : Arch) (l : Bytes) (new : List Entry) (s : Said) → said_of l ≡ s → judged_said arch s ≡ makes new → MakesEntries arch l new
made_by arch l new line.nothing e h = let p : [] ≡ new = cc in subst (MakesEntries arch l) p (record_of.nothing (says_none (words l) (text_of l) e))
made_by arch l new (line.ticks n) e h = let p : replicate n tick ≡ new = cc in subst (MakesEntries arch l) p (so_many_ticks (ticks_form l (words l) n refl e))
made_by arch l new (line.brings name text) e h = by_signal arch l new name text (signal_named arch name) (signal_form l (words l) name text refl e) refl h
made_by arch l new line.no_form e h = cc

signal_judged : (arch : Arch) (l name : Bytes) (w : Written) (x : ℕ) (s : Source) → HasForm l (record_of.brings name w) → signal_named arch name ≡ Some x → slice_get arch.sources x ≡ Some s → judge_entry arch l ≡ judged_value x (value_at (shape_of arch.records s.message) w)
signal_judged arch l name w x s f g i =
    let p = signal_said l name w f in
    ap (judged_said arch) p.0
    ∙ ap (λ o. judged_signal arch o (text_of l)) g
    ∙ ap (λ o. judged_value x (value_for arch o (text_of l))) i
    ∙ ap (judged_value x) (value_seen arch s (text_of l) w p.1)

judged_by : (arch : Arch) (l : Bytes) (new : List Entry) → MakesEntries arch l new → judge_entry arch l ≡ makes new
judged_by arch l new (record_of.nothing h) = ap (λ b. judged_said arch (cond b line.nothing (line.form_by (words l) (text_of l)))) h
judged_by arch l new (so_many_ticks {n = n} f) = ap (judged_said arch) (ticks_said l n f)
judged_by arch l new (one_signal {name = name} {w = w} {x = x} {s = s} {v = v} f g i h) = signal_judged arch l name w x s f g i ∙ ap (judged_value x) h

wrong_value : (arch : Arch) (l : Bytes) (k : RecordKind) (name : Bytes) (w : Written) (x : ℕ) (s : Source) (o : Option Value) → HasForm l (record_of.brings name w) → signal_named arch name ≡ Some x → slice_get arch.sources x ≡ Some s → value_at (shape_of arch.records s.message) w ≡ o → judged_value x o ≡ is_wrong k → IsWrongEntry arch l k
wrong_value arch l k name w x s None f g i v h = let p : wrong.Value ≡ k = cc in subst (IsWrongEntry arch l) p (misfit f g i v)
wrong_value arch l k name w x s (Some u) f g i v h = cc

source_there : (arch : Arch) (name : Bytes) (x : ℕ) → signal_named arch name ≡ Some x → slice_get arch.sources x ≡ None → ⊥
source_there arch name x g i = slice_there arch.sources x (position_below (record_of.names_signal name) arch.sources x g) i

wrong_source : (arch : Arch) (l : Bytes) (k : RecordKind) (name text : Bytes) (x : ℕ) (o : Option Source) (b : Brings l name text) → signal_named arch name ≡ Some x → slice_get arch.sources x ≡ o → judged_value x (value_for arch o text) ≡ is_wrong k → IsWrongEntry arch l k
wrong_source arch l k name text x None b g i h = absurd (source_there arch name x g i)
wrong_source arch l k name text x (Some s) b g i h =
    wrong_value arch l k name b.0 x s (value_at (shape_of arch.records s.message) b.0) b.1 g i refl (ap (judged_value x) (sym (value_seen arch s text b.0 b.2)) ∙ h)

wrong_signal : (arch : Arch) (l : Bytes) (k : RecordKind) (name text : Bytes) (o : Option ℕ) (b : Brings l name text) → signal_named arch name ≡ o → judged_signal arch o text ≡ is_wrong k → IsWrongEntry arch l k
wrong_signal arch l k name text None b g h = let p : wrong.Name ≡ k = cc in subst (IsWrongEntry arch l) p (no_signal b.1 g)
wrong_signal arch l k name text (Some x) b g h = wrong_source arch l k name text x (slice_get arch.sources x) b g refl h

not_nothing : (l : Bytes) → said_of l ≡ line.no_form → said_of l ≡ line.nothing → ⊥
not_nothing l e h = cc

wrong_by : (arch : Arch) (l : Bytes) (k : RecordKind) (s : Said) → said_of l ≡ s → judged_said arch s ≡ is_wrong k → IsWrongEntry arch l k
wrong_by arch l k line.nothing e h = cc
wrong_by arch l k (line.ticks n) e h = cc
wrong_by arch l k (line.brings name text) e h = wrong_signal arch l k name text (signal_named arch name) (signal_form l (words l) name text refl e) refl h
wrong_by arch l k line.no_form e h =
    let p : wrong.Line ≡ k = cc in
    subst (IsWrongEntry arch l) p (record_of.no_form (says l (say_nothing (words l)) refl (not_nothing l e)) (λ f g. no_form_said l f e g))

none_said : (l : Bytes) (s : Said) → said_of l ≡ s → say_nothing (words l) ≡ false → ((f : Form) → HasForm l f → ⊥) → s ≡ line.no_form
none_said l line.nothing e h n = let p = says_none (words l) (text_of l) e in cc
none_said l (line.ticks m) e h n = absurd (n (record_of.ticks m) (ticks_form l (words l) m refl e))
none_said l (line.brings name text) e h n = let b = signal_form l (words l) name text refl e in absurd (n (record_of.brings name b.0) b.1)
none_said l line.no_form e h n = refl

judged_wrong_by : (arch : Arch) (l : Bytes) (k : RecordKind) → IsWrongEntry arch l k → judge_entry arch l ≡ is_wrong k
judged_wrong_by arch l k (record_of.no_form h n) = ap (judged_said arch) (none_said l (said_of l) refl h n)
judged_wrong_by arch l k (no_signal {name = name} {w = w} f g) = ap (judged_said arch) (signal_said l name w f).0 ∙ ap (λ o. judged_signal arch o (text_of l)) g
judged_wrong_by arch l k (misfit {name = name} {w = w} {x = x} {s = s} f g i h) = signal_judged arch l name w x s f g i ∙ ap (judged_value x) h

many_by : (n : ℕ) (k : RecordKind) (b : Bool) → nat_lt entry_limit n ≡ b → cond b (Some wrong.Many) None ≡ Some k → AreTooManyEntries n k
many_by n k true e h = let p : k ≡ wrong.Many = cc in (ltb-true entry_limit n e, p)
many_by n k false e h = cc

over_by : (n : ℕ) (k : RecordKind) → AreTooManyEntries n k → over_entries n ≡ Some k
over_by n k h = ap (λ b. cond b (Some wrong.Many) None) (lt-ltb entry_limit n h.0) ∙ ap Some (sym h.1)

pub record_agrees : (arch : Arch) → Agrees (record_format arch) (judge_entry arch) over_entries
record_agrees arch = record {
  made = λ l new h. made_by arch l new (said_of l) refl h;
  judged = judged_by arch;
  wrong = λ l k h. wrong_by arch l k (said_of l) refl h;
  judged_wrong = judged_wrong_by arch;
  many = λ n k h. many_by n k (nat_lt entry_limit n) refl h;
  is_over = over_by;
}
