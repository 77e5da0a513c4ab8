-- A text in pieces: blanks, comments, brackets, atoms and stray bytes.
use Rattle.std.specs.Prelude.{◌≡◌, ◌≢◌, ◌⊎◌, ℕ, ◌+◌, ◌≤◌, List, [], ◌∷◌, ◌++◌, length}
use Rattle.tower_sexp.specs.declared.token.Token.TheVariants as token
use Rattle.tower_sexp.specs.Marks.{Mark, good, stray}

-- space, tab, LF and CR
abbrev pub IsBlank : ℕ → Type 0
IsBlank b = ((b ≡ 0x20) ⊎ (b ≡ 0x09)) ⊎ ((b ≡ 0x0A) ⊎ (b ≡ 0x0D))

-- a bracket, or the `;` that begins a comment
abbrev pub IsSign : ℕ → Type 0
IsSign b = (b ≡ 0x28) ⊎ ((b ≡ 0x29) ⊎ (b ≡ 0x3B))

pub record IsOfAtom (b : ℕ) : Type 0 where
  pub low : 0x21 ≤ b
  pub high : b ≤ 0x7E
  pub no_sign : IsSign b → ⊥

-- any other byte
pub record IsStray (b : ℕ) : Type 0 where
  pub no_blank : IsBlank b → ⊥
  pub no_sign : IsSign b → ⊥
  pub no_atom : IsOfAtom b → ⊥

abbrev pub AllBytes : (ℕ → Type 0) → List ℕ → Type 0
AllBytes P [] = Unit {0}
AllBytes P (b ∷ bs) = P b × AllBytes P bs

abbrev pub BeginsNot : (ℕ → Type 0) → List ℕ → Type 0
BeginsNot P [] = Unit {0}
BeginsNot P (b ∷ bs) = P b → ⊥

-- bytes of one sort, of which the rest does not begin with another
pub record IsRun (P : ℕ → Type 0) (run rest : List ℕ) : Type 0 where
  pub all : AllBytes P run
  pub ends : BeginsNot P rest

-- what a comment may hold
abbrev pub IsInComment : ℕ → Type 0
IsInComment b = b ≢ 0x0A

-- a text from an offset on, with the marks of its pieces
pub data Splits : ℕ → List ℕ → List Mark → Type 0 where
  at_end : {at : ℕ} → Splits at [] []
  a_blank : {at b : ℕ} {bs : List ℕ} {ms : List Mark} → IsBlank b → Splits (at + 1) bs ms → Splits at (b ∷ bs) ms
  a_comment : {at : ℕ} {bs : List ℕ} {ms : List Mark} → (text : List ℕ) → IsRun IsInComment text bs → Splits (at + 1 + length text) bs ms → Splits at (0x3B ∷ (text ++ bs)) ms
  a_left : {at : ℕ} {bs : List ℕ} {ms : List Mark} → Splits (at + 1) bs ms → Splits at (0x28 ∷ bs) (good (token.Left at) ∷ ms)
  a_right : {at : ℕ} {bs : List ℕ} {ms : List Mark} → Splits (at + 1) bs ms → Splits at (0x29 ∷ bs) (good (token.Right at) ∷ ms)
  an_atom : {at b : ℕ} {text bs : List ℕ} {ms : List Mark} → IsRun IsOfAtom (b ∷ text) bs → Splits (at + length (b ∷ text)) bs ms → Splits at (b ∷ (text ++ bs)) (good (token.Atom at (b ∷ text)) ∷ ms)
  a_stray : {at b : ℕ} {bs : List ℕ} {ms : List Mark} → IsStray b → Splits (at + 1) bs ms → Splits at (b ∷ bs) (stray at ∷ ms)
