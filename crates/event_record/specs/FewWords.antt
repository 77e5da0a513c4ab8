-- The words of a text, where they are few.
use Rattle.std.specs.Prelude.{◌≡◌, List, [], ◌∷◌}
use Rattle.event_record.specs.declared.line.Few.{Few}
use Rattle.event_record.specs.declared.line.Few.TheVariants as few
use Rattle.event_record.specs.Lines.{Bytes}

abbrev pub HasFew : List Bytes → Few → Type 0
HasFew ws few.None = ws ≡ []
HasFew ws (few.One a) = ws ≡ a.now ∷ []
HasFew ws (few.Two a b) = ws ≡ a.now ∷ b.now ∷ []
HasFew ws few.More = (a : Bytes) × (b : Bytes) × (c : Bytes) × (rest : List Bytes) × (ws ≡ a ∷ b ∷ c ∷ rest)

-- three words that stand for any three or more
abbrev pub three : List Bytes
three = [] ∷ [] ∷ [] ∷ []

abbrev pub listed : Few → List Bytes
listed few.None = []
listed (few.One a) = a.now ∷ []
listed (few.Two a b) = a.now ∷ b.now ∷ []
listed few.More = three
