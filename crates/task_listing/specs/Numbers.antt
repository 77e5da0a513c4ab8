-- Words of a line, and numbers as they are spelled.
use Rattle.std.specs.Prelude.{ℕ, [], ◌∷◌, Bool, true, false, not, ◌==◌, ◌&&◌, ◌||◌, nat_le, codes, bytes_eq}
use Rattle.task_listing.specs.Lines.{Bytes}

-- space, tab, LF and CR
abbrev pub is_blank : ℕ → Bool
is_blank b = b == 0x20 || b == 0x09 || b == 0x0A || b == 0x0D

abbrev pub has_blank : Bytes → Bool
has_blank [] = false
has_blank (b ∷ bs) = is_blank b || has_blank bs

-- bytes, at least one and no blank
abbrev pub is_word : Bytes → Bool
is_word [] = false
is_word (b ∷ bs) = not (has_blank (b ∷ bs))

abbrev pub is_digit : ℕ → Bool
is_digit b = nat_le 48 b && nat_le b 57

abbrev pub are_digits : Bytes → Bool
are_digits [] = true
are_digits (b ∷ bs) = is_digit b && are_digits bs

-- digits that do not begin with 0
abbrev pub is_positive : Bytes → Bool
is_positive [] = false
is_positive (b ∷ bs) = nat_le 49 b && nat_le b 57 && are_digits bs

-- `-` and digits that do not begin with 0
abbrev pub is_negative : Bytes → Bool
is_negative [] = false
is_negative (b ∷ bs) = b == 45 && is_positive bs

-- a number of any size
abbrev pub is_number : Bytes → Bool
is_number text = bytes_eq text (codes "0") || is_positive text || is_negative text
