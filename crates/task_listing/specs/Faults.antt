-- The faults of a text: what offends, and which offence is the first.
use Rattle.std.specs.Prelude.{◌≡◌, ◌≢◌, ◌⊎◌, ◌<◌, ℕ, ◌+◌, List, [], ◌∷◌, length, true, Some}
use Rattle.task_code.specs.Rules.{most_words, most_instructions}
use Rattle.task_listing.specs.declared.fault.ListKind.{ListKind}
use Rattle.task_listing.specs.declared.fault.ListKind.TheVariants as fault
use Rattle.task_listing.specs.declared.fault.ListFault.{ListFault}
use Rattle.task_listing.specs.declared.fault.ListFault.TheVariants as list_fault
use Rattle.task_listing.specs.Lines.{Bytes, byte_limit, lines, whole_lines, words}
use Rattle.task_listing.specs.Context.{Context, start, behind_line, context}
use Rattle.task_listing.specs.Judging.{judge, breaks}

-- words in this context: they are not those of the line that is awaited, a number of them is none, no line is awaited,
-- or they break a rule of programs
abbrev pub OffendsAt : Context → List Bytes → ListKind → Type 0
OffendsAt c ws j = (judge c.awaits ws ≡ Some j) ⊎ ((breaks c.awaits c ws ≡ true) × (j ≡ fault.Place))

-- lines from line n on, each in the context of those before
abbrev pub OffendsFrom : Context → ℕ → List Bytes → ℕ → ListKind → Type 0
OffendsFrom c n [] m j = ⊥
OffendsFrom c n (l ∷ ls) m j = ((m ≡ n) × OffendsAt c (words l) j) ⊎ OffendsFrom (behind_line c l) (n + 1) ls m j

-- what offends in a text, with its line
pub data Offends (bs : Bytes) : ℕ → ListKind → Type 0 where
  a_long_text : byte_limit < length bs → Offends bs 0 fault.Long
  a_line : {m : ℕ} {j : ListKind} → OffendsFrom start 1 (lines bs) m j → Offends bs m j
  a_short_text : (context (whole_lines bs)).awaits ≢ [] → Offends bs (length (lines bs) + 1) fault.Short
  too_many_words : most_words < (context (lines bs)).words → Offends bs 0 fault.Limit
  too_many_instructions : most_instructions < (context (lines bs)).instructions → Offends bs 0 fault.Limit

-- the order of the kinds
abbrev pub rank : ListKind → ℕ
rank fault.Long = 0
rank fault.Line = 1
rank fault.Number = 1
rank fault.Short = 2
rank fault.After = 3
rank fault.Place = 4
rank fault.Limit = 5

-- by kind, and then by line
abbrev pub Precedes : ℕ → ListKind → ℕ → ListKind → Type 0
Precedes n k m j = (rank k < rank j) ⊎ ((rank k ≡ rank j) × (n < m))

-- the fault of a text: it offends, and before all else that does
pub record IsFirst (bs : Bytes) (n : ℕ) (k : ListKind) : Type 0 where
  pub offends : Offends bs n k
  pub precedes : (m : ℕ) (j : ListKind) → Offends bs m j → ((m ≡ n) × (j ≡ k)) ⊎ Precedes n k m j

-- a text with no fault
abbrev pub IsFaultless : Bytes → Type 0
IsFaultless bs = (m : ℕ) (j : ListKind) → Offends bs m j → ⊥

-- a fault is told that is the first
abbrev pub IsTold : Bytes → ListFault → Type 0
IsTold bs (list_fault.At n k) = IsFirst bs n k
IsTold bs list_fault.NoMemory = Unit {0}
