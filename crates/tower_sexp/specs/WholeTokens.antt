-- The tokens that the bytes of a text make whole.
use Rattle.std.specs.Prelude.{◌≡◌, ◌⊎◌, ℕ, ◌+◌, ◌-◌, List, [], ◌∷◌, ◌++◌, length, nat_lt, Option, Some, None}
use Rattle.std.specs.List.{filter}
use Rattle.tower_sexp.specs.declared.fault.SexpFault.{SexpFault}
use Rattle.tower_sexp.specs.declared.token.Token.{Token}
use Rattle.tower_sexp.specs.declared.token.Token.TheVariants as token
use Rattle.tower_sexp.specs.Marks.{marks_of, tokens_of}
use Rattle.tower_sexp.specs.Faults.{offset}
use Rattle.tower_sexp.specs.FirstFault.{first_wrong}

-- the offset of the byte that makes a token whole: a bracket itself, or the byte behind an atom
abbrev pub made_at : Token → ℕ
made_at (token.Left at) = at
made_at (token.Right at) = at
made_at (token.Atom at text) = at + length text

-- the tokens that are made whole before an offset
abbrev pub made_before : ℕ → List Token → List Token
made_before end ts = filter (λ t. nat_lt (made_at t) end) ts

-- where a text of so many bytes first goes wrong, or ends
abbrev pub end_by : Option SexpFault → ℕ → ℕ
end_by (Some f) n = offset f
end_by None n = n

abbrev pub sound_end : List ℕ → ℕ
sound_end bs = end_by (first_wrong [] (marks_of bs)) (length bs)

-- the tokens of a text that its bytes make whole, up to where it goes wrong
abbrev pub whole_tokens : List ℕ → List Token
whole_tokens bs = made_before (sound_end bs) (tokens_of bs)

-- one list grew by the same tokens as another
pub record GrowsAlike (old new before after : List Token) : Type 0 where
  pub more : List Token
  pub put : new ≡ old ++ more
  pub made : after ≡ before ++ more

-- one list is another with an atom behind it, or nothing
abbrev pub EndsInAtom : List Token → List Token → Type 0
EndsInAtom old new = (new ≡ old) ⊎ ((at : ℕ) × (text : List ℕ) × (new ≡ old ++ token.Atom at text ∷ []))

-- how many lists are unclosed behind tokens, where so many were before them
abbrev pub depth_behind : ℕ → List Token → ℕ
depth_behind n [] = n
depth_behind n (token.Left at ∷ ts) = depth_behind (n + 1) ts
depth_behind n (token.Right at ∷ ts) = depth_behind (n - 1) ts
depth_behind n (token.Atom at text ∷ ts) = depth_behind n ts
