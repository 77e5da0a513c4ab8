-- What is drawn, as a function of the words that a generator gives. Each draw takes the next word.
use Rattle.std.specs.Prelude.{ℕ, zero, suc, ◌+◌, ◌*◌, ◌%◌, nat_eq, List, [], ◌∷◌, Bool, if◌then◌else◌}
use Rattle.tower_syntax.specs.declared.event.Choice.{Choice}
use Rattle.tower_syntax.specs.declared.event.Choice.TheVariants.{See, Ev}

-- the numbers that are drawn for the periods and the monitors
pub record Drawn : Type 0 where
  pub ms : ℕ → ℕ
  pub priority : ℕ → ℕ
  pub factor : ℕ → ℕ

-- two words for each of the 32 periods, and one for each of the 64 monitors
abbrev pub drawn_by : (ℕ → ℕ) → Drawn
drawn_by words = record {
  ms = λ i. 10 + words (2 * i) % 20;
  priority = λ i. words (2 * i + 1) % 256;
  factor = λ i. words (64 + i) % 1000;
}

-- by this word an entry of the record comes
abbrev pub is_entry : ℕ → Bool
is_entry word = nat_eq (word % 4) 0

-- the choice by two words, of which the second is drawn for a task alone
abbrev pub choice_by : ℕ → ℕ → Choice
choice_by word next = if is_entry word then Ev 1 else See (next % 16) 1

-- the number of the word behind a choice that begins with word k
abbrev pub past : ℕ → ℕ → ℕ
past word k = if is_entry word then k + 1 else k + 2

-- the choice that begins with word k, and the number of the word behind it
abbrev pub choice_at : (ℕ → ℕ) → ℕ → Choice
choice_at words k = choice_by (words k) (words (k + 1))

abbrev pub behind : (ℕ → ℕ) → ℕ → ℕ
behind words k = past (words k) k

-- so many choices from word k on
abbrev pub choices_from : (ℕ → ℕ) → ℕ → ℕ → List Choice
choices_from words zero k = []
choices_from words (suc n) k = choice_at words k ∷ choices_from words n (behind words k)

-- the 400 choices of a run, behind the words of periods and monitors
abbrev pub choices_by : (ℕ → ℕ) → List Choice
choices_by words = choices_from words 400 128
