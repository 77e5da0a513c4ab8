-- The tokens of a text: blanks, comments and tokens, up to the first byte that begins none.
use Rattle.std.specs.Prelude.{◌≡◌, ◌≢◌, ◌⊎◌, ℕ, ◌+◌, ◌≤◌, List, [], ◌∷◌, ◌++◌, All, length, codes}
use Rattle.tower_syntax.specs.Words.{IsWithin}
use Rattle.aadl_profile.specs.declared.token.Token.{Token}
use Rattle.aadl_profile.specs.Pieces.{lower}

-- space, tab, LF and CR
abbrev pub IsBlank : ℕ → Type 0
IsBlank b = ((b ≡ 0x20) ⊎ (b ≡ 0x09)) ⊎ ((b ≡ 0x0A) ⊎ (b ≡ 0x0D))

abbrev pub IsLetter : ℕ → Type 0
IsLetter b = IsWithin 0x41 0x5A b ⊎ IsWithin 0x61 0x7A b

abbrev pub IsDigit : ℕ → Type 0
IsDigit b = IsWithin 0x30 0x39 b

abbrev pub IsOfWord : ℕ → Type 0
IsOfWord b = IsLetter b ⊎ (IsDigit b ⊎ (b ≡ 0x5F))

-- what a string may hold
abbrev pub IsOfString : ℕ → Type 0
IsOfString b = IsWithin 0x20 0x7E b × (b ≢ 0x22)

-- what a comment may hold
abbrev pub IsOfComment : ℕ → Type 0
IsOfComment b = b ≢ 0x0A

abbrev pub BeginsNot : (ℕ → Type 0) → List ℕ → Type 0
BeginsNot P [] = Unit {0}
BeginsNot P (b ∷ bs) = P b → ⊥

-- bytes of one sort, behind which no other stands
pub record IsRun (P : ℕ → Type 0) (run rest : List ℕ) : Type 0 where
  pub all : All P run
  pub ends : BeginsNot P rest

-- signs of one byte; a `:` is one where no second stands behind it
abbrev pub IsSign : ℕ → List ℕ → Type 0
IsSign b rest =
    (b ≡ 0x3B) ⊎ ((b ≡ 0x2C) ⊎ ((b ≡ 0x28) ⊎ ((b ≡ 0x29) ⊎ ((b ≡ 0x2E) ⊎ ((b ≡ 0x3A) × BeginsNot (λ c. c ≡ 0x3A) rest)))))

-- Whole tokens from an offset on; `end` and `left` are the offset and the bytes behind them.
pub data Splits : ℕ → List ℕ → List Token → ℕ → List ℕ → Type 0 where
  stops : {at : ℕ} {bs : List ℕ} → Splits at bs [] at bs
  a_blank : {at b end : ℕ} {bs left : List ℕ} {ts : List Token} → IsBlank b → Splits (at + 1) bs ts end left → Splits at (b ∷ bs) ts end left
  a_comment : {at end : ℕ} {bs left : List ℕ} {ts : List Token} → (text : List ℕ) → IsRun IsOfComment text bs
      → Splits (at + 2 + length text) bs ts end left → Splits at (0x2D ∷ 0x2D ∷ (text ++ bs)) ts end left
  a_word : {at b end : ℕ} {text bs left : List ℕ} {ts : List Token} → IsLetter b → IsRun IsOfWord text bs
      → Splits (at + length (b ∷ text)) bs ts end left → Splits at (b ∷ (text ++ bs)) (record { at = at; text = lower (b ∷ text) } ∷ ts) end left
  a_number : {at b end : ℕ} {text bs left : List ℕ} {ts : List Token} → IsDigit b → IsRun IsDigit text bs
      → Splits (at + length (b ∷ text)) bs ts end left → Splits at (b ∷ (text ++ bs)) (record { at = at; text = b ∷ text } ∷ ts) end left
  a_string : {at end : ℕ} {text bs left : List ℕ} {ts : List Token} → All IsOfString text
      → Splits (at + 2 + length text) bs ts end left → Splits at (0x22 ∷ (text ++ 0x22 ∷ bs)) (record { at = at; text = 0x22 ∷ text } ∷ ts) end left
  a_sign : {at b end : ℕ} {bs left : List ℕ} {ts : List Token} → IsSign b bs → Splits (at + 1) bs ts end left
      → Splits at (b ∷ bs) (record { at = at; text = b ∷ [] } ∷ ts) end left
  two_colons : {at end : ℕ} {bs left : List ℕ} {ts : List Token} → Splits (at + 2) bs ts end left
      → Splits at (0x3A ∷ 0x3A ∷ bs) (record { at = at; text = codes "::" } ∷ ts) end left
  an_arrow : {at end : ℕ} {bs left : List ℕ} {ts : List Token} → Splits (at + 2) bs ts end left
      → Splits at (0x3D ∷ 0x3E ∷ bs) (record { at = at; text = codes "=>" } ∷ ts) end left

-- a text has these tokens
abbrev pub HasTokens : List ℕ → List Token → Type 0
HasTokens bs ts = Splits 0 bs ts (length bs) []

-- nothing splits off from these bytes
abbrev pub BeginsNothing : ℕ → List ℕ → Type 0
BeginsNothing at bs = (ts : List Token) (end : ℕ) (left : List ℕ) → Splits at bs ts end left → left ≡ bs

-- the first byte that begins no token, or the quote of a string that does not end
pub record IsByteFault (bs : List ℕ) (at : ℕ) : Type 0 where
  pub tokens : List Token
  pub byte : ℕ
  pub behind : List ℕ
  pub splits : Splits 0 bs tokens at (byte ∷ behind)
  pub stuck : BeginsNothing at (byte ∷ behind)
