-- A text that is read line by line: the answer, computed.
use Rattle.std.specs.Prelude.{◌≡◌, ℕ, ◌+◌, List, [], ◌∷◌, ◌++◌, length, cond, nat_lt, Option, Some, None, Result, Ok, Err}
use Rattle.event_record.specs.Lines.{Bytes, lines}
use Rattle.event_record.specs.Format.{byte_limit}

-- what a line makes, or how it is wrong
pub data Judged (A K : Type 0) : Type 0 where
  makes : List A → Judged A K
  is_wrong : K → Judged A K

-- that of a line which makes one thing or none
abbrev pub judged_of : {A K : Type 0} → Result (Option A) K → Judged A K
judged_of (Ok None) = makes []
judged_of (Ok (Some a)) = makes (a ∷ [])
judged_of (Err k) = is_wrong k

-- things, unless they are too many
abbrev pub unless_many : {A K : Type 0} → Option K → List A → Result (List A) K
unless_many None all = Ok all
unless_many (Some k) all = Err k

-- things with those of a line, where `over` says of which kind it is that so many are too many
abbrev pub with_line : {A K : Type 0} → (ℕ → Option K) → List A → Judged A K → Result (List A) K
with_line over done (makes new) = unless_many (over (length (done ++ new))) (done ++ new)
with_line over done (is_wrong k) = Err k

-- these things, or the kind of a fault
abbrev pub added_or : {A K : Type 0} → Option K → List A → Result (List A) K
added_or None all = Ok all
added_or (Some k) all = Err k

abbrev pub after_line : {A K : Type 0} → ℕ → Result (List A) K → (List A → Result (List A) (ℕ × K)) → Result (List A) (ℕ × K)
after_line n (Ok all) go = go all
after_line n (Err k) go = Err (n, k)

-- things with those of lines, of which the first is line n
abbrev pub walk : {A K : Type 0} → (Bytes → Judged A K) → (ℕ → Option K) → ℕ → List A → List Bytes → Result (List A) (ℕ × K)
walk judge over n done [] = Ok done
walk judge over n done (l ∷ ls) = after_line n (with_line over done (judge l)) (λ all. walk judge over (n + 1) all ls)

-- the answer to a text
abbrev pub verdict : {A K : Type 0} → (Bytes → Judged A K) → (ℕ → Option K) → K → Bytes → Result (List A) (ℕ × K)
verdict judge over long text = cond (nat_lt byte_limit (length text)) (Err (0, long)) (walk judge over 1 [] (lines text))
