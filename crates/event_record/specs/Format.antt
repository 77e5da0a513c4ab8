-- Texts that are read line by line: what they spell, what offends in them, and which offence is the first.
use Rattle.std.specs.Prelude.{◌≡◌, ◌⊎◌, ◌<◌, ◌≤◌, ℕ, ◌+◌, List, [], ◌∷◌, ◌++◌, length, All}
use Rattle.event_record.specs.Lines.{Bytes, lines}

-- how many bytes a text may have
abbrev pub byte_limit : ℕ
byte_limit = 16777216

-- A format of texts: what a line makes, in which ways a line is wrong by itself, whether so many things are too many
-- and of which kind that fault is, of which kind a text is that is too long, and the order of the kinds.
pub record Format (A K : Type 0) : Type 1 where
  pub Makes : Bytes → List A → Type 0
  pub IsWrong : Bytes → K → Type 0
  pub AreTooMany : ℕ → K → Type 0
  pub long : K
  pub rank : K → ℕ

-- what lines make, one after another
pub data AllMake {A K : Type 0} (f : Format A K) : List Bytes → List A → Type 0 where
  no_lines : AllMake f [] []
  a_line : {l : Bytes} {ls : List Bytes} {made more : List A} → f.Makes l made → AllMake f ls more → AllMake f (l ∷ ls) (made ++ more)

-- line n of a text, counted from 1, and the lines before it
pub record IsLine (text : Bytes) (n : ℕ) (before : List Bytes) (l : Bytes) : Type 0 where
  pub behind : List Bytes
  pub split : lines text ≡ before ++ l ∷ behind
  pub number : n ≡ length before + 1

-- what offends in a text, with its line
pub data Offends {A K : Type 0} (f : Format A K) (text : Bytes) : ℕ → K → Type 0 where
  a_long_text : byte_limit < length text → Offends f text 0 f.long
  a_wrong_line : {n : ℕ} {before : List Bytes} {l : Bytes} {k : K} → IsLine text n before l → f.IsWrong l k → Offends f text n k
  too_many : {n : ℕ} {before : List Bytes} {l : Bytes} {k : K} {made : List A} → IsLine text n before l → AllMake f (before ++ l ∷ []) made → f.AreTooMany (length made) k → Offends f text n k

-- by line, and on one line by kind
abbrev pub Precedes : {K : Type 0} → (K → ℕ) → ℕ → K → ℕ → K → Type 0
Precedes rank n k m j = (n < m) ⊎ ((n ≡ m) × (rank k < rank j))

-- the fault of a text: it offends, and before all else that does
pub record IsFirst {A K : Type 0} (f : Format A K) (text : Bytes) (n : ℕ) (k : K) : Type 0 where
  pub offends : Offends f text n k
  pub precedes : (m : ℕ) (j : K) → Offends f text m j → ((m ≡ n) × (j ≡ k)) ⊎ Precedes f.rank n k m j

-- the text spells what its lines make: it is not too long, no line is wrong, and that is not too much
pub record Spells {A K : Type 0} (f : Format A K) (text : Bytes) (made : List A) : Type 0 where
  pub short : length text ≤ byte_limit
  pub makes : AllMake f (lines text) made
  pub few : (k : K) → f.AreTooMany (length made) k → ⊥
