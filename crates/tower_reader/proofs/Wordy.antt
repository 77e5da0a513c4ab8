-- The atoms of a node that is read are words.
use Rattle.std.proofs.Common.{◌≡◌, ℕ, ◌+◌, ◌<◌, ◌≤◌, ◌^◌, length, List, [], ◌∷◌, Bool, true, false, not, nat_le, ◌&&◌, ◌||◌, ℤ, pos, negsuc, suc, Option, Some, None, find, refl, sym, subst, arith, decimal}
use Rattle.std.specs.Prelude.{bytes_eq, ◌==◌}
use Rattle.std.specs.Fmt.{signed_decimal}
use Rattle.std.specs.List.{list_all}
use Rattle.std.specs.Str.Parse.{AllDigits}
use Rattle.std.proofs.lemmas.Bool.Decides.{nat_tests}
use Rattle.std.proofs.lemmas.Int.{ints}
use Rattle.std.proofs.lemmas.Fmt.{decimal_is_IsNumeral}
use Rattle.std.proofs.lemmas.Str.Parse.{digit_at}
use Rattle.std.proofs.lemmas.Slice.Eq.{bytes_eq-Decides}
use Rattle.tower_sexp.specs.Pieces.{IsOfAtom, AllBytes}
use Rattle.tower_sexp.specs.Trees.{Tree, atom, list, Trees, tree}
use Rattle.tower_syntax.specs.Spelling.{is_lower, is_digit, is_underscore, goes_on, begins_with_letter, is_reserved}
use Rattle.tower_syntax.specs.Words.{IsName, IsLiteral, truth_word, scalar_word}
use Rattle.tower_reader.specs.declared.table.Place.{Place}
use Rattle.tower_reader.specs.declared.table.Place.TheVariants as place
use Rattle.tower_reader.specs.declared.table.Row.{Row}
use Rattle.tower_reader.specs.Table.{head, rows, row_of}
use Rattle.tower_reader.specs.Words.{scalars}
use Rattle.tower_reader.specs.Part.{Part}
use Rattle.tower_reader.specs.Spelled.{count, fitting, row_for, Reads, names, names_place, names_record, names_value, says_scalar, says_truth, counts, counts_literal, has_row, ReadsAll, no_more, one_more}
use Rattle.tower_reader.proofs.Exact.{small}
use Rattle.tower_reader.proofs.Words.{AllOf, Found, found}
use Rattle.tower_reader.proofs.Lines.{IsWord, IsWordy, AreWordy}

-- Words that are given: their bytes are of atoms.

abbrev is_of_atom : ℕ → Bool
is_of_atom b = (nat_le 0x21 b && nat_le b 0x7E) && not (b == 0x28 || (b == 0x29 || b == 0x3B))

abbrev is_word : List ℕ → Bool
is_word [] = false
is_word (b ∷ bs) = list_all is_of_atom (b ∷ bs)

both : (a b : Bool) → a && b ≡ true → (a ≡ true) × (b ≡ true)
both true b h = (refl, h)
both false b h = cc

byte_by : (b : ℕ) → is_of_atom b ≡ true → IsOfAtom b
byte_by b h = record { low = grind (arith, nat_tests); high = grind (arith, nat_tests); no_sign = λ k. grind (arith, nat_tests) }

bytes_by : (w : List ℕ) → list_all is_of_atom w ≡ true → AllBytes IsOfAtom w
bytes_by [] h = tt
bytes_by (b ∷ w) h = let k = both (is_of_atom b) (list_all is_of_atom w) h in (byte_by b k.0, bytes_by w k.1)

word_by : (w : List ℕ) → is_word w ≡ true → IsWord w
word_by [] h = cc
word_by (b ∷ w) h = bytes_by (b ∷ w) h

-- Names.

letter_of_atom : (b : ℕ) → is_lower b ≡ true → IsOfAtom b
letter_of_atom b h = record { low = grind (arith, nat_tests); high = grind (arith, nat_tests); no_sign = λ k. grind (arith, nat_tests) }

-- whether a byte goes on in a name
abbrev goes : Bool → ℕ → Bool
goes after b = is_lower b || is_digit b || (is_underscore b && not after)

goes_of_atom : (after : Bool) (b : ℕ) → goes after b ≡ true → IsOfAtom b
goes_of_atom after b h = record { low = grind (arith, nat_tests); high = grind (arith, nat_tests); no_sign = λ k. grind (arith, nat_tests) }

goes_all : (after : Bool) (w : List ℕ) → goes_on after w ≡ true → AllBytes IsOfAtom w
goes_all after [] h = tt
goes_all after (b ∷ w) h =
    let k = both (goes after b) (goes_on (is_underscore b) w) h in
    (goes_of_atom after b k.0, goes_all (is_underscore b) w k.1)

letters_word : (w : List ℕ) → begins_with_letter w ≡ true → IsWord w
letters_word [] h = cc
letters_word (b ∷ w) h = let k = both (is_lower b) (goes_on false w) h in (letter_of_atom b k.0, goes_all false w k.1)

name_word : (w : List ℕ) → IsName w → IsWord w
name_word w h = letters_word w (both (begins_with_letter w) (not (is_reserved w)) h.0).0

-- Numbers.

digits_of_atom : (w : List ℕ) → AllDigits 10 w → AllBytes IsOfAtom w
digits_of_atom [] h = tt
digits_of_atom (b ∷ w) h =
    let r = digit_at (b ∷ w) 0 h (omega arith) in
    (record { low = omega (arith, r); high = omega (arith, r); no_sign = λ k. grind (arith, r) }, digits_of_atom w h.1)

digits_word : (w : List ℕ) → AllDigits 10 w → 0 < length w → IsWord w
digits_word [] h l = absurd (omega arith)
digits_word (b ∷ w) h l = digits_of_atom (b ∷ w) h

decimal_of_atom : (n : ℕ) → n < 2 ^ 64 → AllBytes IsOfAtom (decimal n)
decimal_of_atom n s = digits_of_atom (decimal n) (decimal_is_IsNumeral n s).0.1

decimal_word : (n : ℕ) → n < 2 ^ 64 → IsWord (decimal n)
decimal_word n s = let d = decimal_is_IsNumeral n s in digits_word (decimal n) d.0.1 d.0.0

literal_word : (z : ℤ) → IsLiteral z → IsWord (signed_decimal z)
literal_word (pos n) h = decimal_word n (omega (arith, ints, h.1))
literal_word (negsuc m) h = let l : m + 1 ≤ 2 ^ 63 = omega (arith, ints, h.0) in (byte_by 45 refl, decimal_of_atom (suc m) (omega arith))

-- The words of scalars and truths, and the heads of rows.

truth_is_word : (b : Bool) → IsWord (truth_word b)
truth_is_word true = word_by (truth_word true) refl
truth_is_word false = word_by (truth_word false) refl

every_of : {X : Type 0} (test : X → Bool) (xs : List X) → list_all test xs ≡ true → AllOf (λ x. test x ≡ true) xs
every_of test [] h = tt
every_of test (x ∷ xs) h = let k = both (test x) (list_all test xs) h in (k.0, every_of test xs k.1)

found_word : {X : Type 0} (word : X → List ℕ) (xs : List X) (x : X) (w : List ℕ) → list_all (λ x. is_word (word x)) xs ≡ true → find (λ x. bytes_eq (word x) w) xs ≡ Some x → IsWord w
found_word word xs x w a h =
    let f : Found (λ x. is_word (word x) ≡ true) (λ x. bytes_eq (word x) w) x = found (λ x. is_word (word x) ≡ true) (λ x. bytes_eq (word x) w) xs x (every_of (λ x. is_word (word x)) xs a) h in
    subst IsWord ((bytes_eq-Decides (word x) w).0 f.1) (word_by (word x) f.0)

heads_words : (p : Place) → list_all (λ r. is_word (head r)) (rows p) ≡ true
heads_words place.Tower = refl
heads_words p = refl

fitting_some : (n : ℕ) (o : Option Row) (r : Row) → fitting n o ≡ Some r → (q : Row) × (o ≡ Some q)
fitting_some n None r h = cc
fitting_some n (Some q) r h = (q, refl)

head_wordy : (p : Place) (t : Tree) (ts : Trees) (r : Row) → row_for p (tree t ts) ≡ Some r → IsWordy t
head_wordy p (list at us) ts r h = cc
head_wordy p (atom at w) ts r h = let k = fitting_some (count ts) (row_of p w) r h in found_word head (rows p) k.0 w (heads_words p) k.1

mutual
  pub read_wordy : (p : Place) (t : Tree) (x : Part) → Reads p t x → IsWordy t
  read_wordy p t x (names q at w e h) = name_word w h
  read_wordy p t x (names_place q at w e h) = name_word w h
  read_wordy p t x (names_record q at w e h) = name_word w h
  read_wordy p t x (names_value q at w e h) = name_word w h
  read_wordy p t x (says_scalar q at w s e h) = found_word scalar_word scalars s w refl h
  read_wordy p t x (says_truth q at w b e h) = subst IsWord (sym h) (truth_is_word b)
  read_wordy p t x (counts q at w low high n e h d) = subst IsWord (sym d) (decimal_word n (small q low high n e h))
  read_wordy p t x (counts_literal q at w z e h d) = subst IsWord (sym d) (literal_word z h)
  read_wordy p t x (has_row q at head ts r ps h s) = (head_wordy q head ts r h, all_wordy r 0 ts ps s)

  all_wordy : (r : Row) (i : ℕ) (ts : Trees) (xs : List Part) → ReadsAll r i ts xs → AreWordy ts
  all_wordy r i ts xs (no_more q j) = tt
  all_wordy r i ts xs (one_more q j t us p ps s more) = (read_wordy _ t p s, all_wordy q (j + 1) us ps more)
