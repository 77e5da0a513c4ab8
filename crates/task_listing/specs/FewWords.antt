-- The words of a line, as they are taken.
use Rattle.std.specs.Prelude.{ℕ, List, [], ◌∷◌, Bool, not, ◌==◌}
use Rattle.task_listing.specs.declared.words.Words.{Words}
use Rattle.task_listing.specs.declared.words.Words.TheVariants as few
use Rattle.task_listing.specs.Lines.{Bytes, words}

abbrev pub is_other : ℕ → ℕ → Bool
is_other b c = not (c == b)

abbrev pub listed : Words → List Bytes
listed (few.One a) = a.now ∷ []
listed (few.Two a b) = a.now ∷ b.now ∷ []
listed (few.Three a b c) = a.now ∷ b.now ∷ c.now ∷ []
listed (few.Four a b c d) = a.now ∷ b.now ∷ c.now ∷ d.now ∷ []
listed (few.Five a b c d e) = a.now ∷ b.now ∷ c.now ∷ d.now ∷ e.now ∷ []
listed (few.Six a b c d e f) = a.now ∷ b.now ∷ c.now ∷ d.now ∷ e.now ∷ f.now ∷ []
listed (few.Seven a b c d e f g) = a.now ∷ b.now ∷ c.now ∷ d.now ∷ e.now ∷ f.now ∷ g.now ∷ []
listed (few.More a b c d e f g rest) = a.now ∷ b.now ∷ c.now ∷ d.now ∷ e.now ∷ f.now ∷ g.now ∷ words rest.now
