-- Names and numbers, as they are spelled.
use Rattle.std.specs.Prelude.{ℕ, List, [], ◌∷◌, Bool, true, false, not, ◌&&◌, ◌||◌, nat_le, ◌==◌, codes, bytes_eq}
use Rattle.std.specs.List.{list_any}

abbrev pub is_lower : ℕ → Bool
is_lower b = nat_le 97 b && nat_le b 122

abbrev pub is_digit : ℕ → Bool
is_digit b = nat_le 48 b && nat_le b 57

abbrev pub is_underscore : ℕ → Bool
is_underscore b = b == 95

-- what follows the first letter of a name: letters, digits, and single underscores between these
abbrev pub goes_on : Bool → List ℕ → Bool
goes_on after_underscore [] = not after_underscore
goes_on after_underscore (b ∷ bs) =
    (is_lower b || is_digit b || (is_underscore b && not after_underscore)) && goes_on (is_underscore b) bs

abbrev pub begins_with_letter : List ℕ → Bool
begins_with_letter [] = false
begins_with_letter (b ∷ bs) = is_lower b && goes_on false bs

-- the words that are no names
abbrev pub reserved : List (List ℕ)
reserved =
    codes "bool" ∷ codes "u8" ∷ codes "u16" ∷ codes "u32" ∷ codes "u64" ∷ codes "i8" ∷ codes "i16" ∷ codes "i32" ∷ codes "i64" ∷ codes "true" ∷ codes "false" ∷ []

abbrev pub is_reserved : List ℕ → Bool
is_reserved text = list_any (λ word. bytes_eq text word) reserved

-- a name, of any length
abbrev pub is_name : List ℕ → Bool
is_name text = begins_with_letter text && not (is_reserved text)
