-- The words of a line, read: what they say, or how the line is wrong.
use Rattle.std.specs.Prelude.{ℕ, ◌-◌, ◌^◌, ℤ, pos, neg_ℤ, List, [], ◌∷◌, Bool, true, false, cond, ◌&&◌, ◌==◌, nat_le, find, codes, bytes_eq, decimal, Option, Some, None, option_map, Result, Ok, Err}
use Rattle.std.specs.Str.Parse.{digits_value}
use Rattle.tower_types.specs.declared.scalar.Scalar.{Scalar}
use Rattle.tower_types.specs.declared.scalar.Scalar.TheVariants as scalar
use Rattle.tower_types.specs.declared.scalar.BinOp.{BinOp}
use Rattle.tower_types.specs.declared.scalar.BinOp.TheVariants as op
use Rattle.tower_types.specs.declared.scalar.UnOp.{UnOp}
use Rattle.tower_types.specs.declared.scalar.UnOp.TheVariants as un
use Rattle.tower_syntax.specs.Words.{scalar_word, binary_word, unary_word}
use Rattle.task_code.specs.declared.program.Instr.{Instr}
use Rattle.task_code.specs.declared.program.Instr.TheVariants as instr
use Rattle.task_code.specs.Rules.{most_words}
use Rattle.task_listing.specs.declared.fault.ListKind.{ListKind}
use Rattle.task_listing.specs.declared.fault.ListKind.TheVariants as fault
use Rattle.task_listing.specs.declared.operation.Plain.{Plain}
use Rattle.task_listing.specs.declared.operation.Plain.TheVariants as plain
use Rattle.task_listing.specs.declared.operation.WithOne.{WithOne}
use Rattle.task_listing.specs.declared.operation.WithOne.TheVariants as one
use Rattle.task_listing.specs.declared.operation.WithTwo.{WithTwo}
use Rattle.task_listing.specs.declared.operation.WithTwo.TheVariants as two
use Rattle.task_listing.specs.declared.operation.WithThree.{WithThree}
use Rattle.task_listing.specs.declared.operation.WithThree.TheVariants as three
use Rattle.task_listing.specs.Lines.{Bytes}
use Rattle.task_listing.specs.Numbers.{is_word, is_number}

abbrev pub Answer : Type 0 → Type 0
Answer A = Result A ListKind

-- ---- words

abbrev pub when : {A : Type 0} → Bool → A → Option A
when true a = Some a
when false a = None

-- the number from `low` to `high` of which the bytes are the decimal text
abbrev pub number_in : ℕ → ℕ → Bytes → Option ℕ
number_in low high w = when (nat_le low (digits_value 10 w) && nat_le (digits_value 10 w) high && bytes_eq (decimal (digits_value 10 w)) w) (digits_value 10 w)

abbrev pub or_err : {A : Type 0} → ListKind → Option A → Answer A
or_err k None = Err k
or_err k (Some a) = Ok a

-- no word at all is worse than a wrong one
abbrev pub if_word : {A : Type 0} → Bytes → Answer A → Answer A
if_word w answer = cond (is_word w) answer (Err fault.Line)

abbrev pub count_up_to : ℕ → Bytes → Answer ℕ
count_up_to most w = if_word w (or_err fault.Number (number_in 0 most w))

abbrev pub count : Bytes → Answer ℕ
count w = count_up_to most_words w

abbrev pub priority : Bytes → Answer ℕ
priority w = count_up_to 255 w

-- an operand may be any number; `None` is one that no instruction has
abbrev pub any_number : {A : Type 0} → Bytes → A → Answer A
any_number w a = if_word w (cond (is_number w) (Ok a) (Err fault.Number))

abbrev pub operand : Bytes → Answer (Option ℕ)
operand w = any_number w (number_in 0 (2 ^ 32 - 1) w)

abbrev pub negated : Option ℕ → Option ℤ
negated None = None
negated (Some n) = Some (neg_ℤ (pos n))

abbrev pub unsigned : Option ℕ → Option ℤ
unsigned None = None
unsigned (Some n) = Some (pos n)

abbrev pub literal_in : Bytes → Option ℤ
literal_in [] = None
literal_in (b ∷ bs) = cond (b == 45) (negated (number_in 1 (2 ^ 63) bs)) (unsigned (number_in 0 (2 ^ 64 - 1) (b ∷ bs)))

abbrev pub literal : Bytes → Answer (Option ℤ)
literal w = any_number w (literal_in w)

-- ---- operations and types

abbrev pub unary_named : Bytes → Option UnOp
unary_named w = find (λ op. bytes_eq (unary_word op) w) (un.Not ∷ un.Neg ∷ [])

abbrev pub binary_named : Bytes → Option BinOp
binary_named w = find (λ op. bytes_eq (binary_word op) w)
    (op.Add ∷ op.Sub ∷ op.Mul ∷ op.Div ∷ op.Rem ∷ op.And ∷ op.Or ∷ op.Xor ∷ op.Eq ∷ op.Less ∷ op.LessEq ∷ op.Both ∷ op.Either ∷ [])

abbrev pub scalar_named : Bytes → Option Scalar
scalar_named w = find (λ s. bytes_eq (scalar_word s) w)
    (scalar.Bool ∷ scalar.U8 ∷ scalar.U16 ∷ scalar.U32 ∷ scalar.U64 ∷ scalar.I8 ∷ scalar.I16 ∷ scalar.I32 ∷ scalar.I64 ∷ [])

abbrev pub index_type : Bytes → Answer Scalar
index_type (b0 ∷ b1 ∷ b2 ∷ rest) = cond (b0 == 105 && b1 == 120 && b2 == 58)
    (if_word (b0 ∷ b1 ∷ b2 ∷ rest) (or_err fault.Number (option_map scalar.Ix (number_in 1 65536 rest))))
    (Err fault.Line)
index_type _ = Err fault.Line

abbrev pub type_of : Option Scalar → Bytes → Answer Scalar
type_of (Some s) w = Ok s
type_of None w = index_type w

abbrev pub type : Bytes → Answer Scalar
type w = type_of (scalar_named w) w

-- ---- answers together: `Line` before `Number`

abbrev pub worse : ListKind → ListKind → ListKind
worse fault.Number k = k
worse k j = k

abbrev pub both : {A B : Type 0} → Answer A → Answer B → Answer (A × B)
both (Ok a) (Ok b) = Ok (a, b)
both (Ok a) (Err k) = Err k
both (Err k) (Ok b) = Err k
both (Err k) (Err j) = Err (worse k j)

abbrev pub and_then : {A B : Type 0} → Answer A → (A → Answer B) → Answer B
and_then (Ok a) f = f a
and_then (Err k) f = Err k

-- ---- lines that are no instructions

-- how a line is wrong that says nothing but its words
abbrev pub title_line : List Bytes → Option ListKind
title_line (a ∷ b ∷ []) = cond (bytes_eq a (codes "tower-listing") && bytes_eq b (codes "1")) None (Some fault.Line)
title_line _ = Some fault.Line

abbrev pub ending_line : List Bytes → Option ListKind
ending_line (a ∷ []) = cond (bytes_eq a (codes "end")) None (Some fault.Line)
ending_line _ = Some fault.Line

abbrev pub count_line : Bytes → List Bytes → Answer ℕ
count_line head (a ∷ n ∷ []) = cond (bytes_eq a head) (count n) (Err fault.Line)
count_line head _ = Err fault.Line

abbrev pub buffer_line : List Bytes → Answer (ℕ × ℕ)
buffer_line (a ∷ m ∷ n ∷ []) = cond (bytes_eq a (codes "buffer")) (both (count m) (count n)) (Err fault.Line)
buffer_line _ = Err fault.Line

abbrev pub task_line : List Bytes → Answer (ℕ × ((ℕ × ℕ) × (ℕ × ℕ)))
task_line (a ∷ p ∷ m ∷ r ∷ b ∷ c ∷ []) =
    cond (bytes_eq a (codes "task")) (both (priority p) (both (both (count m) (count r)) (both (count b) (count c)))) (Err fault.Line)
task_line _ = Err fault.Line

-- ---- instructions

abbrev pub plain_word : Plain → Bytes
plain_word plain.Drop = codes "DROP"
plain_word plain.Dup = codes "DUP"
plain_word plain.Ret = codes "RET"

abbrev pub plain_named : Bytes → Option Plain
plain_named w = find (λ o. bytes_eq (plain_word o) w) (plain.Drop ∷ plain.Dup ∷ plain.Ret ∷ [])

abbrev pub plain_instr : Plain → Instr
plain_instr plain.Drop = instr.Drop
plain_instr plain.Dup = instr.Dup
plain_instr plain.Ret = instr.Ret

abbrev pub one_word : WithOne → Bytes
one_word one.Ld = codes "LD"
one_word one.St = codes "ST"
one_word one.Jmp = codes "JMP"
one_word one.Jz = codes "JZ"
one_word one.Call = codes "CALL"
one_word one.Take = codes "TAKE"
one_word one.Lock = codes "LOCK"
one_word one.Unlock = codes "UNLOCK"
one_word one.Bclr = codes "BCLR"
one_word one.Bput = codes "BPUT"
one_word one.Badd = codes "BADD"
one_word one.Bget = codes "BGET"
one_word one.Bcnt = codes "BCNT"

abbrev pub one_named : Bytes → Option WithOne
one_named w = find (λ o. bytes_eq (one_word o) w)
    (one.Ld ∷ one.St ∷ one.Jmp ∷ one.Jz ∷ one.Call ∷ one.Take ∷ one.Lock ∷ one.Unlock ∷ one.Bclr ∷ one.Bput ∷ one.Badd ∷ one.Bget ∷ one.Bcnt ∷ [])

abbrev pub one_instr : WithOne → ℕ → Instr
one_instr one.Ld a = instr.Ld a
one_instr one.St a = instr.St a
one_instr one.Jmp a = instr.Jmp a
one_instr one.Jz a = instr.Jz a
one_instr one.Call a = instr.Call a
one_instr one.Take a = instr.Take a
one_instr one.Lock a = instr.Lock a
one_instr one.Unlock a = instr.Unlock a
one_instr one.Bclr a = instr.Bclr a
one_instr one.Bput a = instr.Bput a
one_instr one.Badd a = instr.Badd a
one_instr one.Bget a = instr.Bget a
one_instr one.Bcnt a = instr.Bcnt a

abbrev pub two_word : WithTwo → Bytes
two_word two.Ldx = codes "LDX"
two_word two.Stx = codes "STX"
two_word two.Out = codes "OUT"

abbrev pub two_named : Bytes → Option WithTwo
two_named w = find (λ o. bytes_eq (two_word o) w) (two.Ldx ∷ two.Stx ∷ two.Out ∷ [])

abbrev pub two_instr : WithTwo → ℕ → ℕ → Instr
two_instr two.Ldx a b = instr.Ldx a b
two_instr two.Stx a b = instr.Stx a b
two_instr two.Out a b = instr.Out a b

abbrev pub three_word : WithThree → Bytes
three_word three.Ldm = codes "LDM"
three_word three.Stm = codes "STM"

abbrev pub three_named : Bytes → Option WithThree
three_named w = find (λ o. bytes_eq (three_word o) w) (three.Ldm ∷ three.Stm ∷ [])

abbrev pub three_instr : WithThree → ℕ → ℕ → ℕ → Instr
three_instr three.Ldm a b c = instr.Ldm a b c
three_instr three.Stm a b c = instr.Stm a b c

-- instructions by their operands; `None` where an operand is none that an instruction has
abbrev pub with_one : WithOne → Option ℕ → Option Instr
with_one o (Some a) = Some (one_instr o a)
with_one o None = None

abbrev pub with_two : WithTwo → Option ℕ × Option ℕ → Option Instr
with_two o (Some a, Some b) = Some (two_instr o a b)
with_two o (Some a, None) = None
with_two o (None, b) = None

abbrev pub with_three : WithThree → Option ℕ × (Option ℕ × Option ℕ) → Option Instr
with_three o (Some a, (Some b, Some c)) = Some (three_instr o a b c)
with_three o (Some a, (Some b, None)) = None
with_three o (Some a, (None, c)) = None
with_three o (None, bc) = None

abbrev pub push : Option ℤ → Option Instr
push (Some n) = Some (instr.Push n)
push None = None

abbrev pub one_line : Bytes → Bytes → Answer (Option Instr)
one_line w a = and_then (or_err fault.Line (one_named w)) (λ o. and_then (operand a) (λ n. Ok (with_one o n)))

abbrev pub two_line : Bytes → Bytes → Bytes → Answer (Option Instr)
two_line w a b = and_then (or_err fault.Line (two_named w)) (λ o. and_then (both (operand a) (operand b)) (λ n. Ok (with_two o n)))

abbrev pub three_line : Bytes → Bytes → Bytes → Bytes → Answer (Option Instr)
three_line w a b c = and_then (or_err fault.Line (three_named w)) (λ o. and_then (both (operand a) (both (operand b) (operand c))) (λ n. Ok (with_three o n)))

abbrev pub literal_line : Bytes → Answer (Option Instr)
literal_line a = and_then (literal a) (λ n. Ok (push n))

abbrev pub cast_line : Bytes → Answer (Option Instr)
cast_line a = and_then (type a) (λ t. Ok (Some (instr.Cast t)))

abbrev pub unary_line : Bytes → Bytes → Answer (Option Instr)
unary_line a b = and_then (or_err fault.Line (unary_named a)) (λ o. and_then (type b) (λ t. Ok (Some (instr.Un o t))))

abbrev pub binary_line : Bytes → Bytes → Answer (Option Instr)
binary_line a b = and_then (or_err fault.Line (binary_named a)) (λ o. and_then (type b) (λ t. Ok (Some (instr.Bin o t))))

abbrev pub plain_line : Bytes → Answer (Option Instr)
plain_line w = and_then (or_err fault.Line (plain_named w)) (λ o. Ok (Some (plain_instr o)))

abbrev pub instr_line : List Bytes → Answer (Option Instr)
instr_line (w ∷ []) = plain_line w
instr_line (w ∷ a ∷ []) = cond (bytes_eq w (codes "PUSH")) (literal_line a) (cond (bytes_eq w (codes "CAST")) (cast_line a) (one_line w a))
instr_line (w ∷ a ∷ b ∷ []) = cond (bytes_eq w (codes "UN")) (unary_line a b) (cond (bytes_eq w (codes "BIN")) (binary_line a b) (two_line w a b))
instr_line (w ∷ a ∷ b ∷ c ∷ []) = three_line w a b c
instr_line _ = Err fault.Line
