-- The classes of bytes, by their numbers.
use Rattle.std.proofs.Common.{◌≡◌, ℕ, arith}
use Rattle.std.proofs.lemmas.Bool.Decides.{nat_tests}
use Rattle.tower_sexp.specs.declared.byte.Class.TheVariants as class
use Rattle.tower_sexp.specs.Marks.{class_of}
use Rattle.tower_sexp.specs.Pieces.{IsBlank, IsSign, IsOfAtom, IsStray}

pub blank_is : (b : ℕ) → class_of b ≡ class.Blank → IsBlank b
blank_is b h = grind (arith, nat_tests)

pub left_is : (b : ℕ) → class_of b ≡ class.Left → b ≡ 0x28
left_is b h = grind (arith, nat_tests)

pub right_is : (b : ℕ) → class_of b ≡ class.Right → b ≡ 0x29
right_is b h = grind (arith, nat_tests)

pub comment_is : (b : ℕ) → class_of b ≡ class.Comment → b ≡ 0x3B
comment_is b h = grind (arith, nat_tests)

pub atom_is : (b : ℕ) → class_of b ≡ class.Atom → IsOfAtom b
atom_is b h = record { low = grind (arith, nat_tests); high = grind (arith, nat_tests); no_sign = λ k. grind (arith, nat_tests) }

pub is_atom : (b : ℕ) → IsOfAtom b → class_of b ≡ class.Atom
is_atom b h = grind (arith, nat_tests)

pub is_stray : (b : ℕ) → IsStray b → class_of b ≡ class.Stray
is_stray b h = grind (arith, nat_tests)

pub is_blank : (b : ℕ) → IsBlank b → class_of b ≡ class.Blank
is_blank b h = grind (arith, nat_tests)

no_blank : (b : ℕ) → class_of b ≡ class.Stray → IsBlank b → ⊥
no_blank b h k = grind (arith, nat_tests)

no_sign : (b : ℕ) → class_of b ≡ class.Stray → IsSign b → ⊥
no_sign b h k = grind (arith, nat_tests)

no_atom : (b : ℕ) → class_of b ≡ class.Stray → IsOfAtom b → ⊥
no_atom b h k = let e = is_atom b k in cc

pub stray_is : (b : ℕ) → class_of b ≡ class.Stray → IsStray b
stray_is b h = record { no_blank = no_blank b h; no_sign = no_sign b h; no_atom = no_atom b h }
