-- The words of a program's lines are read as what they spell.
use Rattle.std.proofs.Common.{◌≡◌, ℕ, zero, suc, ◌+◌, ◌<◌, ◌≤◌, ◌^◌, ◌-◌, ℤ, pos, negsuc, neg_ℤ, List, [], ◌∷◌, length, map, Bool, true, false, not, cond, Option, Some, Ok, Err, refl, ap, subst, arith, eqb, decimal, get_or}
use Rattle.std.specs.Prelude.{codes, bytes_eq, ◌&&◌, ◌||◌, ◌≤ℤ◌, ◌<ℤ◌}
use Rattle.std.specs.Option.{option_map}
use Rattle.std.specs.Fmt.{signed_decimal}
use Rattle.std.specs.Str.Parse.{AllDigits, digits_value}
use Rattle.std.proofs.lemmas.Bool.{eqb-true, le-leb}
use Rattle.std.proofs.lemmas.Int.{ints}
use Rattle.std.proofs.lemmas.Fmt.{decimal_is_IsNumeral, decimal_digit, first_decimal}
use Rattle.std.proofs.lemmas.Str.Parse.{digit_from_value}
use Rattle.std.proofs.lemmas.Slice.Eq.{bytes_eq-Decides}
use Rattle.tower_types.specs.declared.scalar.Scalar.{Scalar}
use Rattle.tower_types.specs.declared.scalar.Scalar.TheVariants as scalars
use Rattle.tower_types.specs.declared.scalar.BinOp.{BinOp}
use Rattle.tower_types.specs.declared.scalar.BinOp.TheVariants as op
use Rattle.tower_types.specs.declared.scalar.UnOp.{UnOp}
use Rattle.tower_types.specs.declared.scalar.UnOp.TheVariants as un
use Rattle.tower_syntax.specs.Words.{binary_word, unary_word}
use Rattle.task_code.specs.declared.program.Instr.{Instr}
use Rattle.task_code.specs.declared.program.Instr.TheVariants as instr
use Rattle.task_code.specs.Rules.{most_words, IsScalar}
use Rattle.task_listing.specs.declared.fault.ListKind.TheVariants as fault
use Rattle.task_listing.specs.declared.operation.WithOne.{WithOne}
use Rattle.task_listing.specs.declared.operation.WithOne.TheVariants as one
use Rattle.task_listing.specs.declared.operation.WithTwo.{WithTwo}
use Rattle.task_listing.specs.declared.operation.WithTwo.TheVariants as two
use Rattle.task_listing.specs.declared.operation.WithThree.{WithThree}
use Rattle.task_listing.specs.declared.operation.WithThree.TheVariants as three
use Rattle.task_listing.specs.Lines.{Bytes}
use Rattle.task_listing.specs.Numbers.{is_blank, has_blank, is_word, is_digit, are_digits, is_positive, is_number}
use Rattle.task_listing.specs.Spelling.{natural, text, words_of, scalar_text}
use Rattle.task_listing.specs.Context.{numbers}
use Rattle.task_listing.specs.Answers.{Answer, number_in, or_err, count_up_to, operand, negated, unsigned, literal_in, literal, unary_named, binary_named, type, both, and_then, count_line, buffer_line, task_line, with_one, with_two, with_three, push, instr_line}
use Rattle.task_listing.proofs.Decimals.{number_of}
use Rattle.task_listing.specs.InstrRows.{IsOperands, IsSmall}
use Rattle.task_listing.proofs.Spelled.{numbers_text}

-- ---- digits

pub ne_eqb : (a b : ℕ) → (a ≡ b → ⊥) → eqb a b ≡ false
ne_eqb a b h = by (eqb a b) refl
  where
    by : (c : Bool) → eqb a b ≡ c → eqb a b ≡ false
    by true e = absurd (h (eqb-true a b e))
    by false e = e

or_two : (a b : Bool) → a ≡ false → b ≡ false → a || b ≡ false
or_two false false p q = refl
or_two false true p q = cc
or_two true b p q = cc

or_four : (a b c d : Bool) → a ≡ false → b ≡ false → c ≡ false → d ≡ false → a || b || c || d ≡ false
or_four false false false false p q r s = refl
or_four false false false true p q r s = cc
or_four false false true d p q r s = cc
or_four false true c d p q r s = cc
or_four true b c d p q r s = cc

and_two : (a b : Bool) → a ≡ true → b ≡ true → a && b ≡ true
and_two true true p q = refl
and_two true false p q = cc
and_two false b p q = cc

and_three : (a b c : Bool) → a ≡ true → b ≡ true → c ≡ true → a && b && c ≡ true
and_three true true true p q r = refl
and_three true true false p q r = cc
and_three true false c p q r = cc
and_three false b c p q r = cc

or_middle : (a b c : Bool) → b ≡ true → a || b || c ≡ true
or_middle true b c h = refl
or_middle false true c h = refl
or_middle false false c h = cc

digit_unblank : (b : ℕ) → 48 ≤ b → is_blank b ≡ false
digit_unblank b l =
    or_four (eqb b 32) (eqb b 9) (eqb b 10) (eqb b 13) (ne_eqb b 32 (λ e. omega (arith, l, e))) (ne_eqb b 9 (λ e. omega (arith, l, e)))
    (ne_eqb b 10 (λ e. omega (arith, l, e))) (ne_eqb b 13 (λ e. omega (arith, l, e)))

digits_unblank : (w : Bytes) → AllDigits 10 w → has_blank w ≡ false
digits_unblank [] h = refl
digits_unblank (b ∷ w) h = or_two (is_blank b) (has_blank w) (digit_unblank b (digit_from_value b h.0).0) (digits_unblank w h.1)

digits_are : (w : Bytes) → AllDigits 10 w → are_digits w ≡ true
digits_are [] h = refl
digits_are (b ∷ w) h =
    let r = digit_from_value b h.0 in
    and_two (is_digit b) (are_digits w) (and_two _ _ (le-leb 48 b r.0) (le-leb b 57 r.1)) (digits_are w h.1)

digits_word : (w : Bytes) → 0 < length w → AllDigits 10 w → is_word w ≡ true
digits_word [] l h = absurd (omega (arith, l))
digits_word (b ∷ w) l h = ap not (digits_unblank (b ∷ w) h)

digits_positive : (w : Bytes) → 48 < get_or w 0 0 → AllDigits 10 w → is_positive w ≡ true
digits_positive [] l h = absurd (omega (arith, l))
digits_positive (b ∷ w) l h =
    let r = digit_from_value b h.0 in
    let s : 49 ≤ b = omega (arith, l) in
    and_three _ _ (are_digits w) (le-leb 49 b s) (le-leb b 57 r.1) (digits_are w h.1)

pub decimal_unblank : (n : ℕ) → n < 2 ^ 64 → has_blank (decimal n) ≡ false
decimal_unblank n s = digits_unblank (decimal n) (decimal_is_IsNumeral n s).0.1

decimal_word : (n : ℕ) → n < 2 ^ 64 → is_word (decimal n) ≡ true
decimal_word n s = let d = decimal_is_IsNumeral n s in digits_word (decimal n) d.0.0 d.0.1

decimal_positive : (n : ℕ) → 0 < n → n < 2 ^ 64 → is_positive (decimal n) ≡ true
decimal_positive n l s = digits_positive (decimal n) (first_decimal n l s) (decimal_is_IsNumeral n s).0.1

decimal_number : (n : ℕ) → n < 2 ^ 64 → is_number (decimal n) ≡ true
decimal_number zero s = ap is_number (decimal_digit 0 (omega arith))
decimal_number (suc n) s = or_middle _ (is_positive (decimal (suc n))) _ (decimal_positive (suc n) (omega arith) s)

pub value_back : (n : ℕ) → n < 2 ^ 64 → digits_value 10 (decimal n) ≡ n
value_back n s = (decimal_is_IsNumeral n s).1

-- ---- numbers

pub count_back : (most n : ℕ) → n ≤ most → most < 2 ^ 64 → count_up_to most (decimal n) ≡ Ok n
count_back most n h s =
    let small : n < 2 ^ 64 = omega (arith, h, s) in
    λ i. cond (decimal_word n small i) (or_err fault.Number (number_of 0 most n (decimal n) small (omega arith, h) refl i)) (Err fault.Line)

operand_back : (n : ℕ) → n < 2 ^ 32 → operand (decimal n) ≡ Ok (Some n)
operand_back n h =
    let small : n < 2 ^ 64 = omega (arith, h) in
    λ i. cond (decimal_word n small i) (cond (decimal_number n small i) (Ok (number_of 0 (2 ^ 32 - 1) n (decimal n) small (omega arith, omega (arith, h)) refl i)) (Err fault.Number)) (Err fault.Line)

plain_by : (c : Bool) (b : ℕ) (bs : Bytes) (n : ℕ) → eqb b 45 ≡ c → AllDigits 10 (b ∷ bs) → number_in 0 (2 ^ 64 - 1) (b ∷ bs) ≡ Some n → cond c (negated (number_in 1 (2 ^ 63) bs)) (unsigned (number_in 0 (2 ^ 64 - 1) (b ∷ bs))) ≡ Some (pos n)
plain_by true b bs n e d h = let k : AllDigits 10 (45 ∷ bs) = subst (λ b. AllDigits 10 (b ∷ bs)) (eqb-true b 45 e) d in absurd (omega (arith, k.0))
plain_by false b bs n e d h = ap unsigned h

plain_of : (w : Bytes) (n : ℕ) → 0 < length w → AllDigits 10 w → number_in 0 (2 ^ 64 - 1) w ≡ Some n → literal_in w ≡ Some (pos n)
plain_of [] n l d h = absurd (omega (arith, l))
plain_of (b ∷ bs) n l d h = plain_by (eqb b 45) b bs n refl d h

literal_back : (z : ℤ) → (neg_ℤ (pos (2 ^ 63)) ≤ℤ z) × (z <ℤ pos (2 ^ 64)) → literal (signed_decimal z) ≡ Ok (Some z)
literal_back (pos n) h =
    let small : n < 2 ^ 64 = omega (arith, ints, h.1) in
    let d = decimal_is_IsNumeral n small in
    λ i. cond (decimal_word n small i) (cond (decimal_number n small i) (Ok (plain_of (decimal n) n d.0.0 d.0.1 (number_of 0 (2 ^ 64 - 1) n (decimal n) small (omega arith, omega arith) refl) i)) (Err fault.Number)) (Err fault.Line)
literal_back (negsuc m) h =
    let low : m + 1 ≤ 2 ^ 63 = omega (arith, ints, h.0) in
    let small : suc m < 2 ^ 64 = omega (arith, low) in
    λ i. cond (not (decimal_unblank (suc m) small i)) (cond (decimal_positive (suc m) (omega arith) small i) (Ok (negated (number_of 1 (2 ^ 63) (suc m) (decimal (suc m)) small (omega arith, omega (arith, low)) refl i))) (Err fault.Number)) (Err fault.Line)

-- ---- operations and types

type_back : (s : Scalar) → IsScalar s → type (scalar_text s) ≡ Ok s
type_back scalars.Bool h = refl
type_back scalars.U8 h = refl
type_back scalars.U16 h = refl
type_back scalars.U32 h = refl
type_back scalars.U64 h = refl
type_back scalars.I8 h = refl
type_back scalars.I16 h = refl
type_back scalars.I32 h = refl
type_back scalars.I64 h = refl
type_back (scalars.Ix n) h =
    let small : n < 2 ^ 64 = omega (arith, h.1) in
    λ i. cond (not (decimal_unblank n small i)) (or_err fault.Number (option_map scalars.Ix (number_of 1 65536 n (decimal n) small (h.0, h.1) refl i))) (Err fault.Line)

pub unary_back : (o : UnOp) → unary_named (unary_word o) ≡ Some o
unary_back un.Not = refl
unary_back un.Neg = refl

pub binary_back : (o : BinOp) → binary_named (binary_word o) ≡ Some o
binary_back op.Add = refl
binary_back op.Sub = refl
binary_back op.Mul = refl
binary_back op.Div = refl
binary_back op.Rem = refl
binary_back op.And = refl
binary_back op.Or = refl
binary_back op.Xor = refl
binary_back op.Eq = refl
binary_back op.Less = refl
binary_back op.LessEq = refl
binary_back op.Both = refl
binary_back op.Either = refl

-- ---- instructions

one_back : (o : WithOne) (a : ℕ) → a < 2 ^ 32 → and_then (operand (decimal a)) (λ n. Ok (with_one o n)) ≡ Ok (with_one o (Some a))
one_back o a h = ap (λ (x : Answer (Option ℕ)). and_then x (λ n. Ok (with_one o n))) (operand_back a h)

two_back : (o : WithTwo) (a b : ℕ) → a < 2 ^ 32 → b < 2 ^ 32 → and_then (both (operand (decimal a)) (operand (decimal b))) (λ n. Ok (with_two o n)) ≡ Ok (with_two o (Some a, Some b))
two_back o a b h g = λ i. and_then (both (operand_back a h i) (operand_back b g i)) (λ n. Ok (with_two o n))

three_back : (o : WithThree) (a b c : ℕ) → a < 2 ^ 32 → b < 2 ^ 32 → c < 2 ^ 32
    → and_then (both (operand (decimal a)) (both (operand (decimal b)) (operand (decimal c)))) (λ n. Ok (with_three o n)) ≡ Ok (with_three o (Some a, (Some b, Some c)))
three_back o a b c h g f = λ i. and_then (both (operand_back a h i) (both (operand_back b g i) (operand_back c f i))) (λ n. Ok (with_three o n))

-- an instruction's words are read as the instruction
pub instr_back : (i : Instr) → IsOperands i → IsSmall i → instr_line (map text (words_of i)) ≡ Ok (Some i)
instr_back (instr.Push n) o h = ap (λ (x : Answer (Option ℤ)). and_then x (λ n. Ok (push n))) (literal_back n o)
instr_back instr.Drop o h = refl
instr_back instr.Dup o h = refl
instr_back (instr.Ld a) o h = one_back one.Ld a h
instr_back (instr.St a) o h = one_back one.St a h
instr_back (instr.Ldx a n) o h = two_back two.Ldx a n h.0 h.1
instr_back (instr.Stx a n) o h = two_back two.Stx a n h.0 h.1
instr_back (instr.Ldm m a n) o h = three_back three.Ldm m a n h.0 h.1 h.2
instr_back (instr.Stm m a n) o h = three_back three.Stm m a n h.0 h.1 h.2
instr_back (instr.Un w t) o h = λ i. and_then (or_err fault.Line (unary_back w i)) (λ w. and_then (type_back t o i) (λ t. Ok (Some (instr.Un w t))))
instr_back (instr.Bin w t) o h = λ i. and_then (or_err fault.Line (binary_back w i)) (λ w. and_then (type_back t o i) (λ t. Ok (Some (instr.Bin w t))))
instr_back (instr.Cast t) o h = ap (λ (x : Answer Scalar). and_then x (λ t. Ok (Some (instr.Cast t)))) (type_back t o)
instr_back (instr.Jmp to) o h = one_back one.Jmp to h
instr_back (instr.Jz to) o h = one_back one.Jz to h
instr_back (instr.Call to) o h = one_back one.Call to h
instr_back instr.Ret o h = refl
instr_back (instr.Take a) o h = one_back one.Take a h
instr_back (instr.Lock m) o h = one_back one.Lock m h
instr_back (instr.Unlock m) o h = one_back one.Unlock m h
instr_back (instr.Out p a) o h = two_back two.Out p a h.0 h.1
instr_back (instr.Bclr b) o h = one_back one.Bclr b h
instr_back (instr.Bput b) o h = one_back one.Bput b h
instr_back (instr.Badd b) o h = one_back one.Badd b h
instr_back (instr.Bget b) o h = one_back one.Bget b h
instr_back (instr.Bcnt b) o h = one_back one.Bcnt b h

-- ---- lines that are no instructions

same_word : (w : Bytes) → bytes_eq w w ≡ true
same_word w = (bytes_eq-Decides w w).1 refl

pub count_line_back : (head : Bytes) (n : ℕ) → n ≤ most_words → count_line head (numbers_text head (n ∷ [])) ≡ Ok n
count_line_back head n h = λ i. cond (same_word head i) (count_back most_words n h (omega arith) i) (Err fault.Line)

pub buffer_line_back : (m n : ℕ) → m ≤ most_words → n ≤ most_words → buffer_line (numbers_text (codes "buffer") (m ∷ n ∷ [])) ≡ Ok (m, n)
buffer_line_back m n h g = λ i. both (count_back most_words m h (omega arith) i) (count_back most_words n g (omega arith) i)

pub task_line_back : (p m r b c : ℕ) → p ≤ 255 → m ≤ most_words → r ≤ most_words → b ≤ most_words → c ≤ most_words
    → task_line (numbers_text (codes "task") (p ∷ m ∷ r ∷ b ∷ c ∷ [])) ≡ Ok (p, ((m, r), (b, c)))
task_line_back p m r b c h1 h2 h3 h4 h5 =
    λ i. both (count_back 255 p h1 (omega arith) i) (both (both (count_back most_words m h2 (omega arith) i) (count_back most_words r h3 (omega arith) i)) (both (count_back most_words b h4 (omega arith) i) (count_back most_words c h5 (omega arith) i)))

-- the numbers of a line of numbers
abbrev pub AllSmall : List ℕ → Type 0
AllSmall [] = Unit {0}
AllSmall (n ∷ ns) = (n < 2 ^ 64) × AllSmall ns

values_back : (ns : List ℕ) → AllSmall ns → map (digits_value 10) (map text (map natural ns)) ≡ ns
values_back [] h = refl
values_back (n ∷ ns) h = λ i. value_back n h.0 i ∷ values_back ns h.1 i

pub numbers_back : (head : Bytes) (ns : List ℕ) → AllSmall ns → numbers (numbers_text head ns) ≡ ns
numbers_back head ns h = values_back ns h
