-- A text spells one list or has one fault, and never both.
use Rattle.std.proofs.Common.{◌≡◌, ◌⊎◌, inl, inr, ◌<◌, ◌≤◌, ℕ, ◌+◌, List, [], ◌∷◌, ◌++◌, length, refl, ap, sym, ◌∙◌, subst, arith, append_assoc, length-append, cond, Bool, true, false, Option, Some, None, Ok, Err}
use Rattle.std.specs.Prelude.{Result, nat_lt}
use Rattle.std.proofs.lemmas.Bool.{le-ltb, ltb-false}
use Rattle.std.proofs.lemmas.Bool.Decides.{leb_tells}
use Rattle.tower_syntax.specs.Arch.{Arch}
use Rattle.event_record.specs.declared.record.RecordKind.TheVariants as record_kind
use Rattle.event_record.specs.declared.choices.ChoiceKind.TheVariants as choice_kind
use Rattle.event_record.specs.Lines.{Bytes, lines}
use Rattle.event_record.specs.Format.{Format, byte_limit, AllMake, IsLine, Offends, a_long_text, a_wrong_line, too_many, Precedes, IsFirst, Spells}
use Rattle.event_record.specs.Judged.{Judged, makes, is_wrong, walk}
use Rattle.event_record.specs.Record.{record_format, entry_limit}
use Rattle.event_record.specs.Choices.{choices_format, choice_limit}
use Rattle.event_record.specs.Order.{order_format}
use Rattle.event_record.specs.ChoiceLine.{judge_choice, over_choices}
use Rattle.event_record.specs.OrderLine.{judge_mark, over_marks}
use Rattle.event_record.specs.RecordLine.{judge_entry, over_entries}
use Rattle.event_record.specs.Laws.{HasOneOutcome, RecordsHaveOneOutcome, ChoicesHaveOneOutcome, OrdersHaveOneOutcome}
use Rattle.event_record.proofs.Exact.{Agrees, put_first, all_made, is_made, put_none, spells, first_fault, long_first}
use Rattle.event_record.proofs.ChoicesAgree.{choices_agree}
use Rattle.event_record.proofs.OrderAgree.{order_agrees}
use Rattle.event_record.proofs.RecordAgree.{record_agrees}

-- fewer are not too many either
abbrev Falls : {K : Type 0} → (ℕ → Option K) → Type 0
Falls over = (m n : ℕ) → m ≤ n → over n ≡ None → over m ≡ None

wrong_none : {A K : Type 0} (judge : Bytes → Judged A K) (before behind : List Bytes) (l : Bytes) (k : K) → judge l ≡ is_wrong k → all_made judge (before ++ l ∷ behind) ≡ None
wrong_none judge [] behind l k e = ap (λ j. put_first j (all_made judge behind)) e
wrong_none judge (x ∷ before) behind l k e = ap (put_first (judge x)) (wrong_none judge before behind l k e) ∙ put_none (judge x)

-- what the first lines make is no more than what all make
abbrev Within : {A : Type 0} → List A → Option (List A) → Type 0
Within {A = A} xs o = (all : List A) → o ≡ Some all → length xs ≤ length all

within_by : {A K : Type 0} (j : Judged A K) (o p : Option (List A)) (xs : List A) → ((ys : List A) → o ≡ Some ys → Within ys p) → put_first j o ≡ Some xs → Within xs (put_first j p)
within_by (is_wrong k) o p xs f h all e = cc
within_by (makes new) None p xs f h all e = cc
within_by (makes new) (Some ys) None xs f h all e = cc
within_by (makes new) (Some ys) (Some zs) xs f h all e =
    let r = f ys refl zs refl in
    let a : new ++ ys ≡ xs = cc in
    let b : new ++ zs ≡ all = cc in
    omega (arith, r, ap length a, ap length b, length-append new ys, length-append new zs)

first_within : {A K : Type 0} (judge : Bytes → Judged A K) (before behind : List Bytes) (xs : List A) → all_made judge before ≡ Some xs → Within xs (all_made judge (before ++ behind))
first_within judge [] behind xs h all e = let p : [] ≡ xs = cc in omega (arith, ap length p)
first_within judge (x ∷ before) behind xs h all e = within_by (judge x) (all_made judge before) (all_made judge (before ++ behind)) xs (λ ys e. first_within judge before behind ys e) h all e

none_offends : {A K : Type 0} {f : Format A K} {judge : Bytes → Judged A K} {over : ℕ → Option K} (a : Agrees f judge over) → Falls over → (text : Bytes) (all : List A) (n : ℕ) (k : K) → Spells f text all → over (length all) ≡ None → Offends f text n k → ⊥
none_offends a d text all n k s o (a_long_text h) = omega (arith, h, s.short)
none_offends {judge = judge} a d text all n k s o (a_wrong_line {before = before} {l = l} is w) =
    let p = is_made a (lines text) all s.makes in
    let q = wrong_none judge before is.behind l k (a.judged_wrong l k w) in
    let e : all_made judge (lines text) ≡ all_made judge (before ++ l ∷ is.behind) = ap (all_made judge) is.split in
    cc
none_offends {judge = judge} {over = over} a d text all n k s o (too_many {before = before} {l = l} {made = made} is g w) =
    let p = is_made a (lines text) all s.makes in
    let q = is_made a (before ++ l ∷ []) made g in
    let e : all_made judge ((before ++ l ∷ []) ++ is.behind) ≡ Some all = ap (all_made judge) (append_assoc before (l ∷ []) is.behind ∙ sym is.split) ∙ p in
    let r : over (length made) ≡ None = d (length made) (length all) (first_within judge (before ++ l ∷ []) is.behind made q all e) o in
    let t = a.is_over (length made) k w in
    cc

none_over : {A K : Type 0} {f : Format A K} {judge : Bytes → Judged A K} {over : ℕ → Option K} (a : Agrees f judge over) (n : ℕ) (o : Option K) → over n ≡ o → ((k : K) → f.AreTooMany n k → ⊥) → o ≡ None
none_over a n None e h = refl
none_over a n (Some k) e h = absurd (h k (a.many n k e))

apart : {K : Type 0} (rank : K → ℕ) (n m : ℕ) (k j : K) → Precedes rank n k m j → Precedes rank m j n k → ⊥
apart rank n m k j (inl h) (inl g) = omega (arith, h, g)
apart rank n m k j (inl h) (inr g) = omega (arith, h, g.0)
apart rank n m k j (inr h) (inl g) = omega (arith, h.0, g)
apart rank n m k j (inr h) (inr g) = omega (arith, h.1, g.1)

same_fault : {A K : Type 0} (f : Format A K) (text : Bytes) (n m : ℕ) (k j : K) → IsFirst f text n k → IsFirst f text m j → (n ≡ m) × (k ≡ j)
same_fault f text n m k j p q =
    elim (p.precedes m j q.offends) [
      | inl e ↦ (sym e.0, sym e.1)
      | inr b ↦ elim (q.precedes n k p.offends) [ inl e ↦ (e.0, e.1) | inr c ↦ absurd (apart f.rank n m k j b c) ]
    ]

some_outcome : {A K : Type 0} {f : Format A K} {judge : Bytes → Judged A K} {over : ℕ → Option K} (a : Agrees f judge over) (text : Bytes) (r : Result (List A) (ℕ × K)) → length text ≤ byte_limit → over 0 ≡ None → walk judge over 1 [] (lines text) ≡ r
    → ((made : List A) × Spells f text made) ⊎ ((n : ℕ) × (k : K) × IsFirst f text n k)
some_outcome a text (Ok all) h z e = inl (all, spells a text all h z e)
some_outcome a text (Err (n, k)) h z e = inr (n, k, first_fault a text n k h e)

same_list : {A K : Type 0} {f : Format A K} {judge : Bytes → Judged A K} {over : ℕ → Option K} (a : Agrees f judge over) (ls : List Bytes) (xs ys : List A) → AllMake f ls xs → AllMake f ls ys → xs ≡ ys
same_list a ls xs ys g h = let p = is_made a ls xs g in let q = is_made a ls ys h in cc

one_outcome : {A K : Type 0} {f : Format A K} {judge : Bytes → Judged A K} {over : ℕ → Option K} (a : Agrees f judge over) → Falls over → over 0 ≡ None → (text : Bytes) → HasOneOutcome f text
one_outcome {f = f} {judge = judge} {over = over} a d z text = record {
  some = elim (leb_tells (length text) byte_limit) [ inl p ↦ some_outcome a text (walk judge over 1 [] (lines text)) p.1 z refl | inr p ↦ inr (0, f.long, long_first f text p.1) ];
  one_list = λ xs ys s t. same_list a (lines text) xs ys s.makes t.makes;
  one_fault = λ n m k j p q. same_fault f text n m k j p q;
  not_both = λ all n k s p. none_offends a d text all n k s (none_over a (length all) (over (length all)) refl s.few) p.offends;
}

under : {K : Type 0} (limit n : ℕ) (k : K) (b : Bool) → nat_lt limit n ≡ b → cond b (Some k) None ≡ None → n ≤ limit
under limit n k true e h = cc
under limit n k false e h = ltb-false limit n e

falls : {K : Type 0} (limit : ℕ) (k : K) → Falls (λ n. cond (nat_lt limit n) (Some k) None)
falls limit k m n h e = ap (λ b. cond b (Some k) None) (le-ltb limit m (omega (arith, h, under limit n k (nat_lt limit n) refl e)))

pub records_law : RecordsHaveOneOutcome
records_law arch text = one_outcome (record_agrees arch) (falls entry_limit record_kind.Many) refl text

pub choices_law : ChoicesHaveOneOutcome
choices_law text = one_outcome choices_agree (falls choice_limit choice_kind.Many) refl text

pub orders_law : OrdersHaveOneOutcome
orders_law arch text = one_outcome (order_agrees arch) (λ m n h e. refl) refl text
