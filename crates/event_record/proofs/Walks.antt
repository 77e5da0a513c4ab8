-- One more line of a walk, and the words of a line that were listed.
use Rattle.std.proofs.Common.{◌≡◌, ℕ, ◌+◌, List, [], ◌∷◌, refl, ap, sym, ◌∙◌, length, append-nil, Option, Some, None, Ok, Err}
use Rattle.std.specs.Prelude.{Result}
use Rattle.event_record.specs.Lines.{Bytes, lines}
use Rattle.event_record.specs.Judged.{Judged, makes, with_line, unless_many, after_line, walk}

pub walk_more : {A K : Type 0} (judge : Bytes → Judged A K) (over : ℕ → Option K) (n : ℕ) (done all : List A) (text l rest : Bytes) → lines text ≡ l ∷ lines rest → with_line over done (judge l) ≡ Ok all
    → walk judge over n done (lines text) ≡ walk judge over (n + 1) all (lines rest)
walk_more judge over n done all text l rest e h =
    ap (walk judge over n done) e ∙ ap (λ r. after_line n r (λ all. walk judge over (n + 1) all (lines rest))) h

pub walk_stops : {A K : Type 0} (judge : Bytes → Judged A K) (over : ℕ → Option K) (n : ℕ) (done : List A) (k : K) (text l rest : Bytes) → lines text ≡ l ∷ lines rest → with_line over done (judge l) ≡ Err k
    → walk judge over n done (lines text) ≡ Err (n, k)
walk_stops judge over n done k text l rest e h =
    ap (walk judge over n done) e ∙ ap (λ r. after_line n r (λ all. walk judge over (n + 1) all (lines rest))) h

-- a line that makes nothing, where the things so far are not too many
pub adds_none : {A K : Type 0} (over : ℕ → Option K) (done : List A) (j : Judged A K) → over (length done) ≡ None → makes [] ≡ j → Ok done ≡ with_line over done j
adds_none over done j h e = sym (ap (with_line over done) (sym e) ∙ ap (λ xs. unless_many (over (length xs)) xs) (append-nil done) ∙ ap (λ o. unless_many o done) h)
