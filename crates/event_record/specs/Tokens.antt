-- The tokens of a value: brackets, and atoms between brackets and blanks.
use Rattle.std.specs.Prelude.{ℕ, List, [], ◌∷◌, Bool, true, false, ◌==◌, ◌&&◌, nat_le, cond}
use Rattle.event_record.specs.declared.run.Class.{Class}
use Rattle.event_record.specs.declared.run.Class.TheVariants as class
use Rattle.event_record.specs.Lines.{Bytes, is_blank}

-- an atom's bytes are 21 to 7E but the brackets and `;`
abbrev pub class_of : ℕ → Class
class_of b =
    cond (is_blank b) class.Blank
    (cond (b == 0x28) class.Left
    (cond (b == 0x29) class.Right
    (cond (b == 0x3B) class.Stray
    (cond (nat_le 0x21 b && nat_le b 0x7E) class.Atom class.Stray))))

-- a token, or a byte that may stand nowhere in a value, as a `;`
pub data Token : Type 0 where
  left : Token
  right : Token
  atom : Bytes → Token
  stray : Token

abbrev pub is_atom : Class → Bool
is_atom class.Atom = true
is_atom class.Blank = false
is_atom class.Left = false
is_atom class.Right = false
is_atom class.Stray = false

-- a byte of an atom comes next
abbrev pub is_at_atom : Bytes → Bool
is_at_atom [] = false
is_at_atom (b ∷ bs) = is_atom (class_of b)

-- a byte of an atom before tokens: it joins an atom that comes at once, or is one alone
abbrev pub joined : ℕ → List Token → List Token
joined b (atom text ∷ ts) = atom (b ∷ text) ∷ ts
joined b ts = atom (b ∷ []) ∷ ts

abbrev pub atom_led : Bool → ℕ → List Token → List Token
atom_led true b ts = joined b ts
atom_led false b ts = atom (b ∷ []) ∷ ts

-- a byte before tokens, of which an atom comes at once or not
abbrev pub led : Class → Bool → ℕ → List Token → List Token
led class.Blank at_atom b ts = ts
led class.Left at_atom b ts = left ∷ ts
led class.Right at_atom b ts = right ∷ ts
led class.Atom at_atom b ts = atom_led at_atom b ts
led class.Stray at_atom b ts = stray ∷ ts

abbrev pub tokens : Bytes → List Token
tokens [] = []
tokens (b ∷ bs) = led (class_of b) (is_at_atom bs) b (tokens bs)
