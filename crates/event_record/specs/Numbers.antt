-- Numbers, as they are spelled.
use Rattle.std.specs.Prelude.{◌≡◌, ◌≤◌, ℕ, List, [], ◌∷◌, Bool, true, false, ◌==◌, ◌&&◌, ◌||◌, nat_le, codes, decimal, bytes_eq}
use Rattle.event_record.specs.Lines.{Bytes}

-- the text of a number from `low` to `high`
pub record IsWithin (low high : ℕ) (text : Bytes) (n : ℕ) : Type 0 where
  pub spelled : text ≡ decimal n
  pub least : low ≤ n
  pub greatest : n ≤ high

abbrev pub is_digit : ℕ → Bool
is_digit b = nat_le 48 b && nat_le b 57

abbrev pub are_digits : Bytes → Bool
are_digits [] = true
are_digits (b ∷ bs) = is_digit b && are_digits bs

-- digits that do not begin with 0
abbrev pub is_positive : Bytes → Bool
is_positive [] = false
is_positive (b ∷ bs) = nat_le 49 b && nat_le b 57 && are_digits bs

-- `-` and digits that do not begin with 0
abbrev pub is_negative : Bytes → Bool
is_negative [] = false
is_negative (b ∷ bs) = b == 45 && is_positive bs

-- a number of any size
abbrev pub is_number : Bytes → Bool
is_number text = bytes_eq text (codes "0") || is_positive text || is_negative text
