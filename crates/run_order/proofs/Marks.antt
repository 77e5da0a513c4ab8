-- The line of a mark makes the mark, and that of an output is passed over.
use Rattle.std.proofs.Common.{◌≡◌, ◌<◌, ◌≤◌, ℕ, List, [], ◌∷◌, length, Bool, true, false, ◌&&◌, ◌||◌, eqb, nat_lt, nat_le, Some, refl, ap, sym, ◌∙◌, subst, arith, codes, decimal}
use Rattle.std.specs.Prelude.{bytes_eq}
use Rattle.std.specs.List.{flat_map}
use Rattle.std.proofs.lemmas.Bool.{ne_eqb, leb-true, ltb-true}
use Rattle.tower_syntax.specs.declared.event.Mark.{Mark}
use Rattle.tower_syntax.specs.declared.event.Mark.TheVariants as mark
use Rattle.tower_syntax.specs.Arch.{Arch}
use Rattle.arch_checks.specs.Offences.{source_name}
use Rattle.arch_types.proofs.Lists.{AllOf}
use Rattle.tower_report.specs.Bytes.{spaced, line}
use Rattle.tower_report.specs.MarkText.{IsMarkOf, mark_line}
use Rattle.event_record.specs.Lines.{Bytes, words}
use Rattle.event_record.specs.Numbers.{is_digit, are_digits, IsWithin}
use Rattle.event_record.specs.Order.{instruction_limit, is_among, begins_other_line, is_passed_over, state_lines, replay_lines, rule_lines, end_lines, Form, arrives, SpellsMark, a_arrives, s_starts, r_runs, o_puts, HasForm, numbered, MakesMarks, an_arrival, one_mark, source_named}
use Rattle.declared_names.specs.Laws.{HasNames}
use Rattle.run_order.proofs.Above.{above, is_word, are_above, both, and_true, or_false, spaced_above, word_above}
use Rattle.run_order.proofs.Digits.{is_figure, decimal_is, decimal_word}
use Rattle.run_order.proofs.Words.{are_words, words_are}
use Rattle.run_order.proofs.Found.{name_is_word, length_names, source_found}
use Rattle.run_order.proofs.Says.{Says, says_none, says_both, says_line}

-- ---- a number begins no line that is passed over

-- words whose first byte is above the digits
abbrev are_late : List Bytes → Bool
are_late [] = true
are_late ([] ∷ ws) = false
are_late ((c ∷ cs) ∷ ws) = nat_lt 57 c && are_late ws

other_first : (b c : ℕ) (bs cs : Bytes) → b ≤ 57 → 57 < c → bytes_eq (b ∷ bs) (c ∷ cs) ≡ false
other_first b c bs cs h k = ap (λ x. x && bytes_eq bs cs) (ne_eqb b c (λ e. omega (arith, e, h, k)))

none_among : (b : ℕ) (bs : Bytes) (firsts : List Bytes) → b ≤ 57 → are_late firsts ≡ true → is_among firsts (b ∷ bs) ≡ false
none_among b bs [] h late = refl
none_among b bs ([] ∷ ws) h late = cc
none_among b bs ((c ∷ cs) ∷ ws) h late =
    let p = both (nat_lt 57 c) (are_late ws) late in
    or_false (bytes_eq (b ∷ bs) (c ∷ cs)) (is_among ws (b ∷ bs)) (other_first b c bs cs h (ltb-true 57 c p.0)) (none_among b bs ws h p.1)

none_begun : (b : ℕ) (bs : Bytes) → b ≤ 57 → begins_other_line (b ∷ bs) ≡ false
none_begun b bs h =
    let w = b ∷ bs in
    or_false (is_among state_lines w || is_among replay_lines w || is_among rule_lines w) (is_among end_lines w)
    (or_false (is_among state_lines w || is_among replay_lines w) (is_among rule_lines w)
    (or_false (is_among state_lines w) (is_among replay_lines w) (none_among b bs state_lines h refl) (none_among b bs replay_lines h refl))
    (none_among b bs rule_lines h refl)) (none_among b bs end_lines h refl)

figure_stays : (w : Bytes) (ws : List Bytes) → is_figure w ≡ true → is_passed_over (w ∷ ws) ≡ false
figure_stays [] ws h = cc
figure_stays (b ∷ bs) ws h =
    let p = both (is_digit b) (are_digits bs) h in
    let least : b ≤ 57 = leb-true b 57 (both (nat_le 48 b) (nat_le b 57) p.0).1 in
    or_false (eqb b 0x3B) (begins_other_line (b ∷ bs)) (ne_eqb b 0x3B (λ e. omega (arith, e, least))) (none_begun b bs least)

-- ---- the line of a mark

module _ (arch : Arch) (n : ℕ) (few : n ≤ instruction_limit) where
  counted : IsWithin 0 instruction_limit (decimal n) n
  counted = record { spelled = refl; least = omega arith; greatest = few }

  -- the words of a number and a mark
  line_words : (ws : List Bytes) → are_words ws ≡ true → words (spaced (decimal n ∷ ws)) ≡ decimal n ∷ ws
  line_words ws h = words_are (decimal n ∷ ws) (and_true (is_word (decimal n)) (are_words ws) (decimal_word n) h)

  stays : (ws : List Bytes) → are_words ws ≡ true → is_passed_over (words (spaced (decimal n ∷ ws))) ≡ false
  stays ws h = ap is_passed_over (line_words ws h) ∙ figure_stays (decimal n) ws (decimal_is n)

  has_form : (ws : List Bytes) (f : Form) → are_words ws ≡ true → SpellsMark ws f → HasForm (words (spaced (decimal n ∷ ws))) f
  has_form ws f h s = subst (λ vs. HasForm vs f) (sym (line_words ws h)) (numbered counted s)

  all_above : (ws : List Bytes) → are_words ws ≡ true → are_above ws ≡ true
  all_above [] h = refl
  all_above (w ∷ ws) h = let p = both (is_word w) (are_words ws) h in and_true (above 10 w) (are_above ws) (word_above w p.0) (all_above ws p.1)

  said_line : (ws : List Bytes) (ms : List Mark) → are_words ws ≡ true → MakesMarks arch (spaced (decimal n ∷ ws)) ms → Says arch (line (decimal n ∷ ws)) ms
  said_line ws ms h m =
      says_line arch (decimal n ∷ ws) ms
      (spaced_above (decimal n ∷ ws) (and_true (above 10 (decimal n)) (are_above ws) (word_above (decimal n) (decimal_word n)) (all_above ws h))) m

  arrival_said : Says arch (mark_line arch n mark.Arrive) (mark.Arrive ∷ [])
  arrival_said = said_line (codes "a" ∷ []) (mark.Arrive ∷ []) refl (an_arrival (stays (codes "a" ∷ []) refl) (has_form (codes "a" ∷ []) arrives refl a_arrives))

  module _ (names : HasNames arch) (x : ℕ) (within : x < length arch.sources) where
    name_word : is_word (source_name arch x) ≡ true
    name_word =
        let short = length_names arch.sources in
        name_is_word (source_name arch x) (names.sources x [] (omega (arith, within, short))).0

    -- the word of an act, and the name
    act_said : (w : Bytes) (f : Form) (m : Mark) → is_word w ≡ true → SpellsMark (w ∷ source_name arch x ∷ []) f
        → ((l : Bytes) → is_passed_over (words l) ≡ false → HasForm (words l) f → source_named arch (source_name arch x) ≡ Some x → MakesMarks arch l (m ∷ []))
        → Says arch (line (decimal n ∷ w ∷ source_name arch x ∷ [])) (m ∷ [])
    act_said w f m h s makes =
        let ws = w ∷ source_name arch x ∷ [] in
        let k : are_words ws ≡ true = and_true (is_word w) (are_words (source_name arch x ∷ [])) h (and_true (is_word (source_name arch x)) true name_word refl) in
        said_line ws (m ∷ []) k (makes (spaced (decimal n ∷ ws)) (stays ws k) (has_form ws f k s) (source_found arch x within names.apart))

  pub mark_said : HasNames arch → (m : Mark) → IsMarkOf arch m → Says arch (mark_line arch n m) (m ∷ [])
  mark_said names mark.Arrive h = arrival_said
  mark_said names (mark.Start x) h = act_said names x h (codes "s") _ (mark.Start x) refl s_starts (λ l e f g. one_mark e f g)
  mark_said names (mark.Run x) h = act_said names x h (codes "r") _ (mark.Run x) refl r_runs (λ l e f g. one_mark e f g)
  mark_said names (mark.Out x) h = act_said names x h (codes "o") _ (mark.Out x) refl o_puts (λ l e f g. one_mark e f g)

  pub marks_said : HasNames arch → (ms : List Mark) → AllOf (IsMarkOf arch) ms → Says arch (flat_map (mark_line arch n) ms) ms
  marks_said names [] h = says_none arch
  marks_said names (m ∷ ms) h = says_both arch (mark_line arch n m) (flat_map (mark_line arch n) ms) (m ∷ []) ms (mark_said names m h.0) (marks_said names ms h.1)
