-- What the words of a line are that was read.
use Rattle.std.proofs.Common.{◌≡◌, ◌∙◌, ℕ, zero, suc, ◌<◌, ◌≤◌, ◌^◌, ◌-◌, ℤ, pos, neg_ℤ, List, [], ◌∷◌, map, Bool, true, false, cond, Option, Some, None, Ok, Err, refl, sym, ap, subst, arith, eqb, decimal}
use Rattle.std.specs.Prelude.{codes, bytes_eq, find, ◌&&◌, ◌≤ℤ◌, ◌<ℤ◌}
use Rattle.std.specs.Option.{option_map}
use Rattle.std.specs.Fmt.{signed_decimal}
use Rattle.std.proofs.lemmas.Bool.{eqb-true}
use Rattle.std.proofs.lemmas.Int.{ints}
use Rattle.std.proofs.lemmas.Slice.Eq.{bytes_eq-Decides}
use Rattle.tower_types.specs.declared.scalar.Scalar.{Scalar}
use Rattle.tower_types.specs.declared.scalar.Scalar.TheVariants as scalars
use Rattle.tower_types.specs.declared.scalar.BinOp.{BinOp}
use Rattle.tower_types.specs.declared.scalar.BinOp.TheVariants as op
use Rattle.tower_types.specs.declared.scalar.UnOp.{UnOp}
use Rattle.tower_types.specs.declared.scalar.UnOp.TheVariants as un
use Rattle.tower_syntax.specs.Words.{IsWithin, scalar_word, binary_word, unary_word}
use Rattle.task_code.specs.declared.program.Instr.{Instr}
use Rattle.task_code.specs.declared.program.Instr.TheVariants as instr
use Rattle.task_code.specs.Rules.{most_words, IsScalar}
use Rattle.task_listing.specs.declared.fault.ListKind.{ListKind}
use Rattle.task_listing.specs.declared.fault.ListKind.TheVariants as fault
use Rattle.task_listing.specs.declared.operation.Plain.{Plain}
use Rattle.task_listing.specs.declared.operation.Plain.TheVariants as plain
use Rattle.task_listing.specs.declared.operation.WithOne.{WithOne}
use Rattle.task_listing.specs.declared.operation.WithOne.TheVariants as one
use Rattle.task_listing.specs.declared.operation.WithTwo.{WithTwo}
use Rattle.task_listing.specs.declared.operation.WithTwo.TheVariants as two
use Rattle.task_listing.specs.declared.operation.WithThree.{WithThree}
use Rattle.task_listing.specs.declared.operation.WithThree.TheVariants as three
use Rattle.task_listing.specs.Lines.{Bytes}
use Rattle.task_listing.specs.Numbers.{is_word, is_number}
use Rattle.task_listing.specs.Spelling.{text, with_numbers, scalar_text}
use Rattle.task_listing.specs.Answers.{Answer, number_in, or_err, if_word, count_up_to, count, priority, operand, negated, unsigned, literal_in, literal, unary_named, binary_named, scalar_named, index_type, type_of, type, both, and_then, title_line, ending_line, count_line, buffer_line, plain_word, plain_named, plain_instr, one_word, one_named, one_instr, two_word, two_named, two_instr, three_word, three_named, three_instr, with_one, with_two, with_three, push, one_line, two_line, three_line, literal_line, cast_line, unary_line, binary_line, plain_line, instr_line}
use Rattle.task_listing.specs.Answers.{task_line as read_task_line}
use Rattle.task_listing.specs.InstrRows.{Spells}
use Rattle.task_listing.proofs.Decimals.{number_is}

-- ---- answers

or_err_is : {A : Type 0} (k : ListKind) (o : Option A) (a : A) → or_err k o ≡ Ok a → o ≡ Some a
or_err_is k None a h = cc
or_err_is k (Some b) a h = let e : b ≡ a = cc in ap Some e

if_word_is : {A : Type 0} (b : Bool) (r : Answer A) (a : A) → cond b r (Err fault.Line) ≡ Ok a → (b ≡ true) × (r ≡ Ok a)
if_word_is true r a h = (refl, h)
if_word_is false r a h = cc

and_then_is : {A B : Type 0} (x : Answer A) (f : A → Answer B) (b : B) → and_then x f ≡ Ok b → (a : A) × (x ≡ Ok a) × (f a ≡ Ok b)
and_then_is (Ok a) f b h = (a, refl, h)
and_then_is (Err k) f b h = cc

both_is : {A B : Type 0} (x : Answer A) (y : Answer B) (p : A × B) → both x y ≡ Ok p → (x ≡ Ok p.0) × (y ≡ Ok p.1)
both_is (Ok a) (Ok b) p h = let e : (a, b) ≡ p = cc in (ap (λ q. Ok q.0) e, ap (λ q. Ok q.1) e)
both_is (Ok a) (Err k) p h = cc
both_is (Err k) (Ok b) p h = cc
both_is (Err k) (Err j) p h = cc

abbrev right : {A : Type 0} → A → Answer A
right a = Ok a

ok_is : {A : Type 0} (a b : A) → right a ≡ right b → a ≡ b
ok_is a b h = cc

any_by : {A : Type 0} (b c : Bool) (a x : A) → cond b (cond c (Ok a) (Err fault.Number)) (Err fault.Line) ≡ Ok x → a ≡ x
any_by true true a x h = cc
any_by true false a x h = cc
any_by false c a x h = cc

-- ---- numbers

-- a word that counts is the text of its number
pub count_is : (most : ℕ) (w : Bytes) (n : ℕ) → count_up_to most w ≡ Ok n → (n ≤ most) × (w ≡ decimal n)
count_is most w n h =
    let k = number_is 0 most n w (or_err_is fault.Number (number_in 0 most w) n (if_word_is (is_word w) (or_err fault.Number (number_in 0 most w)) n h).1) in
    (k.0.1, k.1)

operand_is : (w : Bytes) (n : ℕ) → operand w ≡ Ok (Some n) → (n < 2 ^ 32) × (w ≡ decimal n)
operand_is w n h = let k = number_is 0 (2 ^ 32 - 1) n w (any_by (is_word w) (is_number w) (number_in 0 (2 ^ 32 - 1) w) (Some n) h) in (omega (arith, k.0.1), k.1)

-- what a text is that is read as a literal
record Says (z : ℤ) (w : Bytes) : Type 0 where
  low : neg_ℤ (pos (2 ^ 63)) ≤ℤ z
  high : z <ℤ pos (2 ^ 64)
  same : w ≡ signed_decimal z

minus_by : (n : ℕ) (bs : Bytes) (z : ℤ) → neg_ℤ (pos n) ≡ z → IsWithin 1 (2 ^ 63) n → bs ≡ decimal n → Says z (45 ∷ bs)
minus_by zero bs z e h d = absurd (omega (arith, h.0))
minus_by (suc m) bs z e h d = subst (λ z. Says z (45 ∷ bs)) e (record { low = omega (arith, ints, h.1); high = omega (arith, ints); same = ap (λ bs. 45 ∷ bs) d })

minus_is : (o : Option ℕ) (bs : Bytes) (z : ℤ) → number_in 1 (2 ^ 63) bs ≡ o → negated o ≡ Some z → Says z (45 ∷ bs)
minus_is None bs z e h = cc
minus_is (Some n) bs z e h =
    let k = number_is 1 (2 ^ 63) n bs e in
    let q : neg_ℤ (pos n) ≡ z = cc in
    minus_by n bs z q k.0 k.1

plain_is : (o : Option ℕ) (w : Bytes) (z : ℤ) → number_in 0 (2 ^ 64 - 1) w ≡ o → unsigned o ≡ Some z → Says z w
plain_is None w z e h = cc
plain_is (Some n) w z e h =
    let k = number_is 0 (2 ^ 64 - 1) n w e in
    let q : pos n ≡ z = cc in
    subst (λ z. Says z w) q (record { low = omega (arith, ints); high = omega (arith, ints, k.0.1); same = k.1 })

by_sign : (c : Bool) (b : ℕ) (bs : Bytes) (z : ℤ) → eqb b 45 ≡ c → cond c (negated (number_in 1 (2 ^ 63) bs)) (unsigned (number_in 0 (2 ^ 64 - 1) (b ∷ bs))) ≡ Some z → Says z (b ∷ bs)
by_sign true b bs z e h = subst (λ b. Says z (b ∷ bs)) (sym (eqb-true b 45 e)) (minus_is (number_in 1 (2 ^ 63) bs) bs z refl h)
by_sign false b bs z e h = plain_is (number_in 0 (2 ^ 64 - 1) (b ∷ bs)) (b ∷ bs) z refl h

says : (w : Bytes) (z : ℤ) → literal_in w ≡ Some z → Says z w
says [] z h = cc
says (b ∷ bs) z h = by_sign (eqb b 45) b bs z refl h

literal_is : (w : Bytes) (z : ℤ) → literal w ≡ Ok (Some z) → Says z w
literal_is w z h = says w z (any_by (is_word w) (is_number w) (literal_in w) (Some z) h)

-- ---- names

abbrev AllOf : {A : Type 0} → (A → Type 0) → List A → Type 0
AllOf P [] = Unit {0}
AllOf P (x ∷ xs) = P x × AllOf P xs

-- what is found passes, and is one of the list
find_by : {A : Type 0} (P : A → Type 0) (p : A → Bool) (xs : List A) (y x : A) → P y → (find p xs ≡ Some x → (p x ≡ true) × P x) → (b : Bool) → p y ≡ b → cond b (Some y) (find p xs) ≡ Some x → (p x ≡ true) × P x
find_by P p xs y x a ih true e h = let q : y ≡ x = cc in subst (λ z. (p z ≡ true) × P z) q (e, a)
find_by P p xs y x a ih false e h = ih h

find_is : {A : Type 0} (P : A → Type 0) (p : A → Bool) (xs : List A) (x : A) → AllOf P xs → find p xs ≡ Some x → (p x ≡ true) × P x
find_is P p [] x a h = cc
find_is P p (y ∷ ys) x a h = find_by P p ys y x a.0 (find_is P p ys x a.1) (p y) refl h

named : {A : Type 0} (word : A → Bytes) (P : A → Type 0) (xs : List A) (x : A) (w : Bytes) → AllOf P xs → find (λ o. bytes_eq (word o) w) xs ≡ Some x → (w ≡ word x) × P x
named word P xs x w a h = let f = find_is P (λ o. bytes_eq (word o) w) xs x a h in (sym ((bytes_eq-Decides (word x) w).0 f.0), f.1)

-- a word that is found in a table is that of its row
word_is : {A : Type 0} (word : A → Bytes) (xs : List A) (x : A) (w : Bytes) → find (λ o. bytes_eq (word o) w) xs ≡ Some x → w ≡ word x
word_is {A} word xs x w h = (named word (λ x. Unit {0}) xs x w (each xs) h).0
  where
    each : (xs : List A) → AllOf (λ x. Unit {0}) xs
    each [] = tt
    each (x ∷ xs) = (tt, each xs)

pub plain_is_named : (w : Bytes) (o : Plain) → plain_named w ≡ Some o → w ≡ plain_word o
plain_is_named w o h = word_is plain_word (plain.Drop ∷ plain.Dup ∷ plain.Ret ∷ []) o w h

pub one_is_named : (w : Bytes) (o : WithOne) → one_named w ≡ Some o → w ≡ one_word o
one_is_named w o h =
    word_is one_word (one.Ld ∷ one.St ∷ one.Jmp ∷ one.Jz ∷ one.Call ∷ one.Take ∷ one.Lock ∷ one.Unlock ∷ one.Bclr ∷ one.Bput ∷ one.Badd ∷ one.Bget ∷ one.Bcnt ∷ []) o w h

pub two_is_named : (w : Bytes) (o : WithTwo) → two_named w ≡ Some o → w ≡ two_word o
two_is_named w o h = word_is two_word (two.Ldx ∷ two.Stx ∷ two.Out ∷ []) o w h

pub three_is_named : (w : Bytes) (o : WithThree) → three_named w ≡ Some o → w ≡ three_word o
three_is_named w o h = word_is three_word (three.Ldm ∷ three.Stm ∷ []) o w h

pub unary_is_named : (w : Bytes) (o : UnOp) → unary_named w ≡ Some o → w ≡ unary_word o
unary_is_named w o h = word_is unary_word (un.Not ∷ un.Neg ∷ []) o w h

pub binary_is_named : (w : Bytes) (o : BinOp) → binary_named w ≡ Some o → w ≡ binary_word o
binary_is_named w o h =
    word_is binary_word (op.Add ∷ op.Sub ∷ op.Mul ∷ op.Div ∷ op.Rem ∷ op.And ∷ op.Or ∷ op.Xor ∷ op.Eq ∷ op.Less ∷ op.LessEq ∷ op.Both ∷ op.Either ∷ []) o w h

-- ---- types

-- the word of a type, which keeps its range
pub record IsType (w : Bytes) (s : Scalar) : Type 0 where
  pub same : w ≡ scalar_text s
  pub within : IsScalar s

abbrev Simple : Scalar → Type 0
Simple s = (scalar_word s ≡ scalar_text s) × IsScalar s

pub simple_is : (w : Bytes) (s : Scalar) → scalar_named w ≡ Some s → IsType w s
simple_is w s h =
    let f = named scalar_word Simple (scalars.Bool ∷ scalars.U8 ∷ scalars.U16 ∷ scalars.U32 ∷ scalars.U64 ∷ scalars.I8 ∷ scalars.I16 ∷ scalars.I32 ∷ scalars.I64 ∷ []) s w ((refl, tt), ((refl, tt), ((refl, tt), ((refl, tt), ((refl, tt), ((refl, tt), ((refl, tt), ((refl, tt), ((refl, tt), tt))))))))) h in
    record { same = f.0 ∙ f.1.0; within = f.1.1 }

three_true : (a b c : Bool) → a && b && c ≡ true → (a ≡ true) × (b ≡ true) × (c ≡ true)
three_true true true true h = (refl, refl, refl)
three_true true true false h = cc
three_true true false c h = cc
three_true false b c h = cc

index_by : (rest : Bytes) (o : Option ℕ) (s : Scalar) → number_in 1 65536 rest ≡ o → option_map scalars.Ix o ≡ Some s → IsType (105 ∷ 120 ∷ 58 ∷ rest) s
index_by rest None s e h = cc
index_by rest (Some n) s e h =
    let k = number_is 1 65536 n rest e in
    let q : scalars.Ix n ≡ s = cc in
    subst (λ s. IsType (105 ∷ 120 ∷ 58 ∷ rest) s) q (record { same = ap (λ r. 105 ∷ 120 ∷ 58 ∷ r) k.1; within = (k.0.0, k.0.1) })

index_is : (w : Bytes) (s : Scalar) → index_type w ≡ Ok s → IsType w s
index_is [] s h = cc
index_is (a ∷ []) s h = cc
index_is (a ∷ b ∷ []) s h = cc
index_is (a ∷ b ∷ c ∷ rest) s h =
    let u = if_word_is (eqb a 105 && eqb b 120 && eqb c 58) (if_word (a ∷ b ∷ c ∷ rest) (or_err fault.Number (option_map scalars.Ix (number_in 1 65536 rest)))) s h in
    let v = if_word_is (is_word (a ∷ b ∷ c ∷ rest)) (or_err fault.Number (option_map scalars.Ix (number_in 1 65536 rest))) s u.1 in
    let t = three_true (eqb a 105) (eqb b 120) (eqb c 58) u.0 in
    let r = index_by rest (number_in 1 65536 rest) s refl (or_err_is fault.Number (option_map scalars.Ix (number_in 1 65536 rest)) s v.1) in
    let w : (a ∷ b ∷ c ∷ rest) ≡ (105 ∷ 120 ∷ 58 ∷ rest) = λ i. eqb-true a 105 t.0 i ∷ eqb-true b 120 t.1 i ∷ eqb-true c 58 t.2 i ∷ rest in
    subst (λ w. IsType w s) (sym w) r

type_by : (o : Option Scalar) (w : Bytes) (s : Scalar) → scalar_named w ≡ o → type_of o w ≡ Ok s → IsType w s
type_by (Some t) w s e h = let q : t ≡ s = cc in simple_is w s (e ∙ ap Some q)
type_by None w s e h = index_is w s h

type_is : (w : Bytes) (s : Scalar) → type w ≡ Ok s → IsType w s
type_is w s h = type_by (scalar_named w) w s refl h

-- ---- instructions

plain_row : (o : Plain) → Spells (plain_word o ∷ []) (plain_instr o)
plain_row plain.Drop = record { same = refl; operands = tt; small = tt }
plain_row plain.Dup = record { same = refl; operands = tt; small = tt }
plain_row plain.Ret = record { same = refl; operands = tt; small = tt }

one_row : (o : WithOne) (a : ℕ) → a < 2 ^ 32 → Spells (one_word o ∷ decimal a ∷ []) (one_instr o a)
one_row one.Ld a h = record { same = refl; operands = tt; small = h }
one_row one.St a h = record { same = refl; operands = tt; small = h }
one_row one.Jmp a h = record { same = refl; operands = tt; small = h }
one_row one.Jz a h = record { same = refl; operands = tt; small = h }
one_row one.Call a h = record { same = refl; operands = tt; small = h }
one_row one.Take a h = record { same = refl; operands = tt; small = h }
one_row one.Lock a h = record { same = refl; operands = tt; small = h }
one_row one.Unlock a h = record { same = refl; operands = tt; small = h }
one_row one.Bclr a h = record { same = refl; operands = tt; small = h }
one_row one.Bput a h = record { same = refl; operands = tt; small = h }
one_row one.Badd a h = record { same = refl; operands = tt; small = h }
one_row one.Bget a h = record { same = refl; operands = tt; small = h }
one_row one.Bcnt a h = record { same = refl; operands = tt; small = h }

two_row : (o : WithTwo) (a b : ℕ) → a < 2 ^ 32 → b < 2 ^ 32 → Spells (two_word o ∷ decimal a ∷ decimal b ∷ []) (two_instr o a b)
two_row two.Ldx a b h g = record { same = refl; operands = tt; small = (h, g) }
two_row two.Stx a b h g = record { same = refl; operands = tt; small = (h, g) }
two_row two.Out a b h g = record { same = refl; operands = tt; small = (h, g) }

three_row : (o : WithThree) (a b c : ℕ) → a < 2 ^ 32 → b < 2 ^ 32 → c < 2 ^ 32 → Spells (three_word o ∷ decimal a ∷ decimal b ∷ decimal c ∷ []) (three_instr o a b c)
three_row three.Ldm a b c h g f = record { same = refl; operands = tt; small = (h, g, f) }
three_row three.Stm a b c h g f = record { same = refl; operands = tt; small = (h, g, f) }

some_is : {A : Type 0} (a b : A) → Some a ≡ Some b → a ≡ b
some_is a b h = cc

none_is : {A : Type 0} (a : A) {P : Type 0} → None ≡ Some a → P
none_is a h = cc

one_by : (o : WithOne) (w a : Bytes) (n : Option ℕ) (i : Instr) → w ≡ one_word o → operand a ≡ Ok n → with_one o n ≡ Some i → Spells (w ∷ a ∷ []) i
one_by o w a None i e h k = none_is i k
one_by o w a (Some n) i e h k =
    let x = operand_is a n h in
    let ws : (w ∷ a ∷ []) ≡ (one_word o ∷ decimal n ∷ []) = λ j. e j ∷ x.1 j ∷ [] in
    subst (λ i. Spells (w ∷ a ∷ []) i) (some_is (one_instr o n) i k) (subst (λ ws. Spells ws (one_instr o n)) (sym ws) (one_row o n x.0))

one_is : (w a : Bytes) (i : Instr) → one_line w a ≡ Ok (Some i) → Spells (w ∷ a ∷ []) i
one_is w a i h =
    let u = and_then_is (or_err fault.Line (one_named w)) (λ o. and_then (operand a) (λ n. Ok (with_one o n))) (Some i) h in
    let v = and_then_is (operand a) (λ n. Ok (with_one u.0 n)) (Some i) u.2 in
    one_by u.0 w a v.0 i (one_is_named w u.0 (or_err_is fault.Line (one_named w) u.0 u.1)) v.1 (ok_is (with_one u.0 v.0) (Some i) v.2)

two_by : (o : WithTwo) (w a b : Bytes) (n m : Option ℕ) (i : Instr) → w ≡ two_word o → operand a ≡ Ok n → operand b ≡ Ok m → with_two o (n, m) ≡ Some i → Spells (w ∷ a ∷ b ∷ []) i
two_by o w a b None m i e h g k = none_is i k
two_by o w a b (Some n) None i e h g k = none_is i k
two_by o w a b (Some n) (Some m) i e h g k =
    let x = operand_is a n h in
    let y = operand_is b m g in
    let ws : (w ∷ a ∷ b ∷ []) ≡ (two_word o ∷ decimal n ∷ decimal m ∷ []) = λ j. e j ∷ x.1 j ∷ y.1 j ∷ [] in
    subst (λ i. Spells (w ∷ a ∷ b ∷ []) i) (some_is (two_instr o n m) i k) (subst (λ ws. Spells ws (two_instr o n m)) (sym ws) (two_row o n m x.0 y.0))

two_is : (w a b : Bytes) (i : Instr) → two_line w a b ≡ Ok (Some i) → Spells (w ∷ a ∷ b ∷ []) i
two_is w a b i h =
    let u = and_then_is (or_err fault.Line (two_named w)) (λ o. and_then (both (operand a) (operand b)) (λ n. Ok (with_two o n))) (Some i) h in
    let v = and_then_is (both (operand a) (operand b)) (λ n. Ok (with_two u.0 n)) (Some i) u.2 in
    let x = both_is (operand a) (operand b) v.0 v.1 in
    two_by u.0 w a b v.0.0 v.0.1 i (two_is_named w u.0 (or_err_is fault.Line (two_named w) u.0 u.1)) x.0 x.1 (ok_is (with_two u.0 v.0) (Some i) v.2)

three_by : (o : WithThree) (w a b c : Bytes) (n m l : Option ℕ) (i : Instr) → w ≡ three_word o → operand a ≡ Ok n → operand b ≡ Ok m → operand c ≡ Ok l → with_three o (n, (m, l)) ≡ Some i → Spells (w ∷ a ∷ b ∷ c ∷ []) i
three_by o w a b c None m l i e h g f k = none_is i k
three_by o w a b c (Some n) None l i e h g f k = none_is i k
three_by o w a b c (Some n) (Some m) None i e h g f k = none_is i k
three_by o w a b c (Some n) (Some m) (Some l) i e h g f k =
    let x = operand_is a n h in
    let y = operand_is b m g in
    let z = operand_is c l f in
    let ws : (w ∷ a ∷ b ∷ c ∷ []) ≡ (three_word o ∷ decimal n ∷ decimal m ∷ decimal l ∷ []) = λ j. e j ∷ x.1 j ∷ y.1 j ∷ z.1 j ∷ [] in
    subst (λ i. Spells (w ∷ a ∷ b ∷ c ∷ []) i) (some_is (three_instr o n m l) i k) (subst (λ ws. Spells ws (three_instr o n m l)) (sym ws) (three_row o n m l x.0 y.0 z.0))

three_is : (w a b c : Bytes) (i : Instr) → three_line w a b c ≡ Ok (Some i) → Spells (w ∷ a ∷ b ∷ c ∷ []) i
three_is w a b c i h =
    let u = and_then_is (or_err fault.Line (three_named w)) (λ o. and_then (both (operand a) (both (operand b) (operand c))) (λ n. Ok (with_three o n))) (Some i) h in
    let v = and_then_is (both (operand a) (both (operand b) (operand c))) (λ n. Ok (with_three u.0 n)) (Some i) u.2 in
    let x = both_is (operand a) (both (operand b) (operand c)) v.0 v.1 in
    let y = both_is (operand b) (operand c) v.0.1 x.1 in
    three_by u.0 w a b c v.0.0 v.0.1.0 v.0.1.1 i (three_is_named w u.0 (or_err_is fault.Line (three_named w) u.0 u.1)) x.0 y.0 y.1 (ok_is (with_three u.0 v.0) (Some i) v.2)

plain_line_is : (w : Bytes) (i : Instr) → plain_line w ≡ Ok (Some i) → Spells (w ∷ []) i
plain_line_is w i h =
    let u = and_then_is (or_err fault.Line (plain_named w)) (λ o. Ok (Some (plain_instr o))) (Some i) h in
    let e = plain_is_named w u.0 (or_err_is fault.Line (plain_named w) u.0 u.1) in
    subst (λ i. Spells (w ∷ []) i) (some_is (plain_instr u.0) i (ok_is (Some (plain_instr u.0)) (Some i) u.2)) (subst (λ w. Spells (w ∷ []) (plain_instr u.0)) (sym e) (plain_row u.0))

push_by : (a : Bytes) (n : Option ℤ) (i : Instr) → literal a ≡ Ok n → push n ≡ Some i → Spells (codes "PUSH" ∷ a ∷ []) i
push_by a None i e k = none_is i k
push_by a (Some n) i e k =
    let s = literal_is a n e in
    subst (λ i. Spells (codes "PUSH" ∷ a ∷ []) i) (some_is (instr.Push n) i k) (record { same = ap (λ a. codes "PUSH" ∷ a ∷ []) s.same; operands = (s.low, s.high); small = tt })

push_is : (a : Bytes) (i : Instr) → literal_line a ≡ Ok (Some i) → Spells (codes "PUSH" ∷ a ∷ []) i
push_is a i h = let u = and_then_is (literal a) (λ n. Ok (push n)) (Some i) h in push_by a u.0 i u.1 (ok_is (push u.0) (Some i) u.2)

cast_is : (a : Bytes) (i : Instr) → cast_line a ≡ Ok (Some i) → Spells (codes "CAST" ∷ a ∷ []) i
cast_is a i h =
    let u = and_then_is (type a) (λ t. Ok (Some (instr.Cast t))) (Some i) h in
    let s = type_is a u.0 u.1 in
    subst (λ i. Spells (codes "CAST" ∷ a ∷ []) i) (some_is (instr.Cast u.0) i (ok_is (Some (instr.Cast u.0)) (Some i) u.2)) (record { same = ap (λ a. codes "CAST" ∷ a ∷ []) s.same; operands = s.within; small = tt })

un_is : (a b : Bytes) (i : Instr) → unary_line a b ≡ Ok (Some i) → Spells (codes "UN" ∷ a ∷ b ∷ []) i
un_is a b i h =
    let u = and_then_is (or_err fault.Line (unary_named a)) (λ o. and_then (type b) (λ t. Ok (Some (instr.Un o t)))) (Some i) h in
    let v = and_then_is (type b) (λ t. Ok (Some (instr.Un u.0 t))) (Some i) u.2 in
    let e = unary_is_named a u.0 (or_err_is fault.Line (unary_named a) u.0 u.1) in
    let s = type_is b v.0 v.1 in
    subst (λ i. Spells (codes "UN" ∷ a ∷ b ∷ []) i) (some_is (instr.Un u.0 v.0) i (ok_is (Some (instr.Un u.0 v.0)) (Some i) v.2)) (record { same = λ j. codes "UN" ∷ e j ∷ s.same j ∷ []; operands = s.within; small = tt })

bin_is : (a b : Bytes) (i : Instr) → binary_line a b ≡ Ok (Some i) → Spells (codes "BIN" ∷ a ∷ b ∷ []) i
bin_is a b i h =
    let u = and_then_is (or_err fault.Line (binary_named a)) (λ o. and_then (type b) (λ t. Ok (Some (instr.Bin o t)))) (Some i) h in
    let v = and_then_is (type b) (λ t. Ok (Some (instr.Bin u.0 t))) (Some i) u.2 in
    let e = binary_is_named a u.0 (or_err_is fault.Line (binary_named a) u.0 u.1) in
    let s = type_is b v.0 v.1 in
    subst (λ i. Spells (codes "BIN" ∷ a ∷ b ∷ []) i) (some_is (instr.Bin u.0 v.0) i (ok_is (Some (instr.Bin u.0 v.0)) (Some i) v.2)) (record { same = λ j. codes "BIN" ∷ e j ∷ s.same j ∷ []; operands = s.within; small = tt })

-- one word or another
by_word : (P : Bytes → Type 0) (b : Bool) (w v : Bytes) (r q : Answer (Option Instr)) (i : Instr) → bytes_eq w v ≡ b → cond b r q ≡ Ok (Some i) → (r ≡ Ok (Some i) → P v) → (q ≡ Ok (Some i) → P w) → P w
by_word P true w v r q i e h f g = subst P (sym ((bytes_eq-Decides w v).0 e)) (f h)
by_word P false w v r q i e h f g = g h

-- an instruction that was read is spelled by the words, and its operand is one that a program wants
pub instr_is : (ws : List Bytes) (i : Instr) → instr_line ws ≡ Ok (Some i) → Spells ws i
instr_is [] i h = cc
instr_is (w ∷ []) i h = plain_line_is w i h
instr_is (w ∷ a ∷ []) i h =
    by_word (λ w. Spells (w ∷ a ∷ []) i) (bytes_eq w (codes "PUSH")) w (codes "PUSH") (literal_line a) (cond (bytes_eq w (codes "CAST")) (cast_line a) (one_line w a)) i refl h (push_is a i)
    (λ k. by_word (λ w. Spells (w ∷ a ∷ []) i) (bytes_eq w (codes "CAST")) w (codes "CAST") (cast_line a) (one_line w a) i refl k (cast_is a i) (one_is w a i))
instr_is (w ∷ a ∷ b ∷ []) i h =
    by_word (λ w. Spells (w ∷ a ∷ b ∷ []) i) (bytes_eq w (codes "UN")) w (codes "UN") (unary_line a b) (cond (bytes_eq w (codes "BIN")) (binary_line a b) (two_line w a b)) i refl h (un_is a b i)
    (λ k. by_word (λ w. Spells (w ∷ a ∷ b ∷ []) i) (bytes_eq w (codes "BIN")) w (codes "BIN") (binary_line a b) (two_line w a b) i refl k (bin_is a b i) (two_is w a b i))
instr_is (w ∷ a ∷ b ∷ c ∷ []) i h = three_is w a b c i h
instr_is (w ∷ a ∷ b ∷ c ∷ d ∷ ws) i h = cc

-- ---- lines that are no instructions

-- a line of this word and these numbers
abbrev pub numbers_text : Bytes → List ℕ → List Bytes
numbers_text head ns = map text (with_numbers head ns)

head_is : {A : Type 0} (w head : Bytes) (r : Answer A) (a : A) → cond (bytes_eq w head) r (Err fault.Line) ≡ Ok a → (w ≡ head) × (r ≡ Ok a)
head_is w head r a h = let u = if_word_is (bytes_eq w head) r a h in ((bytes_eq-Decides w head).0 u.0, u.1)

pub count_line_is : (head : Bytes) (ws : List Bytes) (n : ℕ) → count_line head ws ≡ Ok n → (n ≤ most_words) × (ws ≡ numbers_text head (n ∷ []))
count_line_is head [] n h = cc
count_line_is head (a ∷ []) n h = cc
count_line_is head (a ∷ w ∷ []) n h =
    let u = head_is a head (count w) n h in
    let v = count_is most_words w n u.1 in
    (v.0, λ i. u.0 i ∷ v.1 i ∷ [])
count_line_is head (a ∷ w ∷ b ∷ ws) n h = cc

pub buffer_line_is : (ws : List Bytes) (m n : ℕ) → buffer_line ws ≡ Ok (m, n) → (m ≤ most_words) × (n ≤ most_words) × (ws ≡ numbers_text (codes "buffer") (m ∷ n ∷ []))
buffer_line_is [] m n h = cc
buffer_line_is (a ∷ []) m n h = cc
buffer_line_is (a ∷ w ∷ []) m n h = cc
buffer_line_is (a ∷ w ∷ v ∷ []) m n h =
    let u = head_is a (codes "buffer") (both (count w) (count v)) (m, n) h in
    let x = both_is (count w) (count v) (m, n) u.1 in
    let y = count_is most_words w m x.0 in
    let z = count_is most_words v n x.1 in
    (y.0, z.0, λ i. u.0 i ∷ y.1 i ∷ z.1 i ∷ [])
buffer_line_is (a ∷ w ∷ v ∷ b ∷ ws) m n h = cc

-- the numbers of a `task` line
pub record TaskLine (ws : List Bytes) (p m r b c : ℕ) : Type 0 where
  pub few_priority : p ≤ 255
  pub few_message : m ≤ most_words
  pub few_room : r ≤ most_words
  pub few_buffers : b ≤ most_words
  pub few_code : c ≤ most_words
  pub same : ws ≡ numbers_text (codes "task") (p ∷ m ∷ r ∷ b ∷ c ∷ [])

pub task_line_is : (ws : List Bytes) (p m r b c : ℕ) → read_task_line ws ≡ Ok (p, ((m, r), (b, c))) → TaskLine ws p m r b c
task_line_is [] p m r b c h = cc
task_line_is (w ∷ []) p m r b c h = cc
task_line_is (w ∷ x1 ∷ []) p m r b c h = cc
task_line_is (w ∷ x1 ∷ x2 ∷ []) p m r b c h = cc
task_line_is (w ∷ x1 ∷ x2 ∷ x3 ∷ []) p m r b c h = cc
task_line_is (w ∷ x1 ∷ x2 ∷ x3 ∷ x4 ∷ []) p m r b c h = cc
task_line_is (w ∷ x1 ∷ x2 ∷ x3 ∷ x4 ∷ x5 ∷ x6 ∷ xs) p m r b c h = cc
task_line_is (w ∷ x1 ∷ x2 ∷ x3 ∷ x4 ∷ x5 ∷ []) p m r b c h =
    let all = head_is w (codes "task") (both (priority x1) (both (both (count x2) (count x3)) (both (count x4) (count x5)))) (p, ((m, r), (b, c))) h in
    let u = both_is (priority x1) (both (both (count x2) (count x3)) (both (count x4) (count x5))) (p, ((m, r), (b, c))) all.1 in
    let v = both_is (both (count x2) (count x3)) (both (count x4) (count x5)) ((m, r), (b, c)) u.1 in
    let y = both_is (count x2) (count x3) (m, r) v.0 in
    let z = both_is (count x4) (count x5) (b, c) v.1 in
    let n1 = count_is 255 x1 p u.0 in
    let n2 = count_is most_words x2 m y.0 in
    let n3 = count_is most_words x3 r y.1 in
    let n4 = count_is most_words x4 b z.0 in
    let n5 = count_is most_words x5 c z.1 in
    record {
      few_priority = n1.0;
      few_message = n2.0;
      few_room = n3.0;
      few_buffers = n4.0;
      few_code = n5.0;
      same = λ i. all.0 i ∷ n1.1 i ∷ n2.1 i ∷ n3.1 i ∷ n4.1 i ∷ n5.1 i ∷ [];
    }

none_by : (b : Bool) → cond b None (Some fault.Line) ≡ None → b ≡ true
none_by true h = refl
none_by false h = cc

two_true : (a b : Bool) → a && b ≡ true → (a ≡ true) × (b ≡ true)
two_true true b h = (refl, h)
two_true false b h = cc

pub title_is : (ws : List Bytes) → title_line ws ≡ None → ws ≡ codes "tower-listing" ∷ codes "1" ∷ []
title_is [] h = cc
title_is (a ∷ []) h = cc
title_is (a ∷ b ∷ []) h =
    let u = two_true (bytes_eq a (codes "tower-listing")) (bytes_eq b (codes "1")) (none_by _ h) in
    λ i. (bytes_eq-Decides a (codes "tower-listing")).0 u.0 i ∷ (bytes_eq-Decides b (codes "1")).0 u.1 i ∷ []
title_is (a ∷ b ∷ c ∷ ws) h = cc

pub ending_is : (ws : List Bytes) → ending_line ws ≡ None → ws ≡ codes "end" ∷ []
ending_is [] h = cc
ending_is (a ∷ []) h = λ i. (bytes_eq-Decides a (codes "end")).0 (none_by _ h) i ∷ []
ending_is (a ∷ b ∷ ws) h = cc
