-- What is made of a number, and what holds of it.
use Rattle.std.specs.Prelude.{◌≡◌, ℕ, ◌<◌, ◌≤◌, List}
use Rattle.tower_syntax.specs.declared.event.Choice.{Choice}
use Rattle.tower_syntax.specs.RawView.{raw_of}
use Rattle.tower_syntax.specs.Form.{text}
use Rattle.tower_syntax.specs.Printed.{raw_form}
use Rattle.tower_syntax.specs.Printable.{IsPrintable}
use Rattle.tower_syntax.specs.Weights.{cost, memory, code}
use Rattle.arch_checks.specs.Offences.{IsAccepted}
use Rattle.tower_gen.specs.declared.made.Made.{Made}
use Rattle.tower_gen.specs.Words.{words_of, generator_of}
use Rattle.tower_gen.specs.Draws.{Drawn, drawn_by, choices_by}
use Rattle.tower_gen.specs.File.{made}
use Rattle.tower_gen.specs.System.{system}

-- what a number draws for its file; it is opened where it is spoken of
unfoldable pub drawn_of : ℕ → Drawn
drawn_of n = drawn_by (words_of (generator_of n))

-- and for the run
unfoldable pub choices_of : ℕ → List Choice
choices_of n = choices_by (words_of (generator_of n))

-- the file, the record of 100 ticks and the choices that a number gives
pub record IsMadeOf (n : ℕ) (m : Made) : Type 0 where
  pub file : raw_of m.raw ≡ made (drawn_of n)
  pub ticks : m.ticks ≡ 100
  pub choices : m.choices.items ≡ choices_of n

-- the numbers that are drawn are in their ranges
pub record IsInRange (d : Drawn) : Type 0 where
  pub some_ms : (i : ℕ) → 10 ≤ d.ms i
  pub few_ms : (i : ℕ) → d.ms i ≤ 29
  pub priority : (i : ℕ) → d.priority i ≤ 255
  pub factor : (i : ℕ) → d.factor i ≤ 999

-- the file can be printed, its line is accepted as this system, and these are its weights
pub record IsMadeRight (d : Drawn) : Type 0 where
  pub printable : IsPrintable (made d)
  pub accepted : IsAccepted (text (raw_form (made d))) (system d)
  pub costs : (s : ℕ) → s < 32 → cost (system d) s ≡ 25550
  pub memory_is : memory (system d) ≡ 54208
  pub code_is : code (system d) ≡ 291200

-- whatever is drawn in its range, this holds
abbrev pub DrawnFilesAreRight : Type 0
DrawnFilesAreRight = (d : Drawn) → IsInRange d → IsMadeRight d

-- whatever words a generator gives, what is drawn is in its range
abbrev pub DrawsAreInRange : Type 0
DrawsAreInRange = (words : ℕ → ℕ) → IsInRange (drawn_by words)

-- so it holds of every number
abbrev pub MadeFilesAreRight : Type 0
MadeFilesAreRight = (n : ℕ) → IsMadeRight (drawn_of n)
