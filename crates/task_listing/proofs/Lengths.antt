-- How long the lines of a listing are.
use Rattle.std.proofs.Common.{◌≡◌, ℕ, suc, ◌+◌, ◌*◌, ◌<◌, ◌≤◌, ◌^◌, ℤ, pos, negsuc, neg_ℤ, List, [], ◌∷◌, ◌++◌, length, map, refl, sym, ap, arith, decimal, length-append}
use Rattle.std.specs.Prelude.{codes, sum, ◌≤ℤ◌, ◌<ℤ◌}
use Rattle.std.specs.Fmt.{signed_decimal}
use Rattle.std.proofs.lemmas.Fmt.{length-decimal-le}
use Rattle.std.proofs.lemmas.Int.{ints}
use Rattle.tower_types.specs.declared.scalar.Scalar.{Scalar}
use Rattle.tower_types.specs.declared.scalar.Scalar.TheVariants as scalars
use Rattle.tower_types.specs.declared.scalar.BinOp.{BinOp}
use Rattle.tower_types.specs.declared.scalar.BinOp.TheVariants as op
use Rattle.tower_types.specs.declared.scalar.UnOp.{UnOp}
use Rattle.tower_types.specs.declared.scalar.UnOp.TheVariants as un
use Rattle.tower_syntax.specs.Words.{binary_word, unary_word}
use Rattle.task_code.specs.declared.program.Buffer.{Buffer}
use Rattle.task_code.specs.declared.program.Task.{Task}
use Rattle.task_code.specs.declared.program.Instr.{Instr}
use Rattle.task_code.specs.declared.program.Instr.TheVariants as instr
use Rattle.task_code.specs.Program.{Program}
use Rattle.task_code.specs.Rules.{most_words, IsScalar}
use Rattle.task_code.proofs.Lists.{cons_sum}
use Rattle.task_listing.specs.Lines.{Bytes, texts}
use Rattle.task_listing.specs.Spelling.{Word, letters, natural, integer, unary, binary, scalar, scalar_text, text, written, with_numbers}
use Rattle.task_listing.specs.Listing.{counted, number_text, buffer_text, instr_text, task_text, task_line, listing}
use Rattle.task_listing.specs.Writing.{spaced}
use Rattle.task_listing.specs.InstrRows.{IsOperands, IsSmall}
use Rattle.task_listing.specs.Laws.{ListingIsShort}
use Rattle.task_listing.proofs.Texts.{line_is}
use Rattle.task_listing.proofs.Runs.{Known, AllFit}
use Rattle.task_listing.proofs.Items.{IsFew, put_monitor, put_output, put_buffer, FitsBuffer, put_instr, FitsInstr, begin_task, with_buffers, put_task, FitsTask}
use Rattle.task_listing.proofs.Programs.{FitsProgram, fresh, with_monitors, with_outputs}
use Rattle.task_listing.proofs.Ruled.{keeps_fits}

-- ---- a line

-- words, each behind a blank
abbrev spaced_bytes : List Word → ℕ
spaced_bytes [] = 0
spaced_bytes (v ∷ vs) = 1 + length (text v) + spaced_bytes vs

spaced_length : (ws : List Word) → length (spaced ws) ≡ spaced_bytes ws
spaced_length [] = refl
spaced_length (v ∷ vs) =
    let q : length (text v ++ spaced vs) ≡ length (text v) + length (spaced vs) = length-append (text v) (spaced vs) in
    let r = spaced_length vs in
    omega (arith, q, r)

line_length : (w : Bytes) (ws : List Word) → length (written (letters w ∷ ws)) ≡ length w + spaced_bytes ws + 1
line_length w ws =
    let e : length (written (letters w ∷ ws)) ≡ length (w ++ (spaced ws ++ 10 ∷ [])) = ap length (sym (line_is w ws)) in
    let a = length-append w (spaced ws ++ 10 ∷ []) in
    let b = length-append (spaced ws) (10 ∷ []) in
    let c = spaced_length ws in
    omega (arith, e, a, b, c)

seven : (n : ℕ) → n ≤ most_words → length (decimal n) ≤ 7
seven n h = length-decimal-le 7 n (omega arith) (omega (arith, h)) (omega (arith, h))

ten : (n : ℕ) → n < 2 ^ 32 → length (decimal n) ≤ 10
ten n h = length-decimal-le 10 n (omega arith) (omega (arith, h)) (omega (arith, h))

abbrev AreFew : List ℕ → Type 0
AreFew [] = Unit {0}
AreFew (n ∷ ns) = (n ≤ most_words) × AreFew ns

few_spaced : (ns : List ℕ) → AreFew ns → spaced_bytes (map natural ns) ≤ 8 * length ns
few_spaced [] h = omega arith
few_spaced (n ∷ ns) h =
    let d : length (decimal n) ≤ 7 = seven n h.0 in
    let r = few_spaced ns h.1 in
    omega (arith, d, r)

few_length : (w : Bytes) (ns : List ℕ) → AreFew ns → length (written (with_numbers w ns)) ≤ length w + 8 * length ns + 1
few_length w ns h =
    let l : length (written (with_numbers w ns)) ≡ length w + spaced_bytes (map natural ns) + 1 = line_length w (map natural ns) in
    let r = few_spaced ns h in
    omega (arith, l, r)

-- ---- instructions

one_long : (w : Bytes) (a : ℕ) → length w ≤ 6 → a < 2 ^ 32 → length (written (with_numbers w (a ∷ []))) ≤ 41
one_long w a k h =
    let l = line_length w (natural a ∷ []) in
    let d : length (decimal a) ≤ 10 = ten a h in
    omega (arith, l, d, k)

two_long : (w : Bytes) (a b : ℕ) → length w ≤ 6 → a < 2 ^ 32 → b < 2 ^ 32 → length (written (with_numbers w (a ∷ b ∷ []))) ≤ 41
two_long w a b k h g =
    let l = line_length w (natural a ∷ natural b ∷ []) in
    let d : length (decimal a) ≤ 10 = ten a h in
    let e : length (decimal b) ≤ 10 = ten b g in
    omega (arith, l, d, e, k)

three_long : (w : Bytes) (a b c : ℕ) → length w ≤ 6 → (a < 2 ^ 32) × (b < 2 ^ 32) × (c < 2 ^ 32) → length (written (with_numbers w (a ∷ b ∷ c ∷ []))) ≤ 41
three_long w a b c k h =
    let l = line_length w (natural a ∷ natural b ∷ natural c ∷ []) in
    let d : length (decimal a) ≤ 10 = ten a h.0 in
    let e : length (decimal b) ≤ 10 = ten b h.1 in
    let f : length (decimal c) ≤ 10 = ten c h.2 in
    omega (arith, l, d, e, f, k)

literal_long : (z : ℤ) → (neg_ℤ (pos (2 ^ 63)) ≤ℤ z) × (z <ℤ pos (2 ^ 64)) → length (signed_decimal z) ≤ 20
literal_long (pos n) h = length-decimal-le 20 n (omega arith) (omega (arith, ints, h.1)) (omega (arith, ints, h.1))
literal_long (negsuc m) h =
    let d : length (decimal (suc m)) ≤ 19 = length-decimal-le 19 (suc m) (omega arith) (omega (arith, ints, h.0)) (omega (arith, ints, h.0)) in
    omega (arith, d)

push_long : (z : ℤ) → (neg_ℤ (pos (2 ^ 63)) ≤ℤ z) × (z <ℤ pos (2 ^ 64)) → length (instr_text (instr.Push z)) ≤ 41
push_long z h =
    let l = line_length (codes "PUSH") (integer z ∷ []) in
    let d : length (signed_decimal z) ≤ 20 = literal_long z h in
    omega (arith, l, d)

scalar_long : (s : Scalar) → IsScalar s → length (scalar_text s) ≤ 8
scalar_long scalars.Bool h = omega arith
scalar_long scalars.U8 h = omega arith
scalar_long scalars.U16 h = omega arith
scalar_long scalars.U32 h = omega arith
scalar_long scalars.U64 h = omega arith
scalar_long scalars.I8 h = omega arith
scalar_long scalars.I16 h = omega arith
scalar_long scalars.I32 h = omega arith
scalar_long scalars.I64 h = omega arith
scalar_long (scalars.Ix n) h =
    let d : length (decimal n) ≤ 5 = length-decimal-le 5 n (omega arith) (omega (arith, h.1)) (omega (arith, h.1)) in
    omega (arith, d)

unary_long : (o : UnOp) → length (unary_word o) ≤ 3
unary_long un.Not = omega arith
unary_long un.Neg = omega arith

binary_long : (o : BinOp) → length (binary_word o) ≤ 3
binary_long op.Add = omega arith
binary_long op.Sub = omega arith
binary_long op.Mul = omega arith
binary_long op.Div = omega arith
binary_long op.Rem = omega arith
binary_long op.And = omega arith
binary_long op.Or = omega arith
binary_long op.Xor = omega arith
binary_long op.Eq = omega arith
binary_long op.Less = omega arith
binary_long op.LessEq = omega arith
binary_long op.Both = omega arith
binary_long op.Either = omega arith

un_long : (o : UnOp) (s : Scalar) → IsScalar s → length (instr_text (instr.Un o s)) ≤ 41
un_long o s h =
    let l = line_length (codes "UN") (unary o ∷ scalar s ∷ []) in
    let d : length (unary_word o) ≤ 3 = unary_long o in
    let e : length (scalar_text s) ≤ 8 = scalar_long s h in
    omega (arith, l, d, e)

bin_long : (o : BinOp) (s : Scalar) → IsScalar s → length (instr_text (instr.Bin o s)) ≤ 41
bin_long o s h =
    let l = line_length (codes "BIN") (binary o ∷ scalar s ∷ []) in
    let d : length (binary_word o) ≤ 3 = binary_long o in
    let e : length (scalar_text s) ≤ 8 = scalar_long s h in
    omega (arith, l, d, e)

cast_long : (s : Scalar) → IsScalar s → length (instr_text (instr.Cast s)) ≤ 41
cast_long s h =
    let l = line_length (codes "CAST") (scalar s ∷ []) in
    let e : length (scalar_text s) ≤ 8 = scalar_long s h in
    omega (arith, l, e)

instr_long : (i : Instr) → IsOperands i → IsSmall i → length (instr_text i) ≤ 41
instr_long (instr.Push z) o h = push_long z o
instr_long instr.Drop o h = omega arith
instr_long instr.Dup o h = omega arith
instr_long (instr.Ld a) o h = one_long (codes "LD") a (omega arith) h
instr_long (instr.St a) o h = one_long (codes "ST") a (omega arith) h
instr_long (instr.Ldx a n) o h = two_long (codes "LDX") a n (omega arith) h.0 h.1
instr_long (instr.Stx a n) o h = two_long (codes "STX") a n (omega arith) h.0 h.1
instr_long (instr.Ldm m a n) o h = three_long (codes "LDM") m a n (omega arith) h
instr_long (instr.Stm m a n) o h = three_long (codes "STM") m a n (omega arith) h
instr_long (instr.Un p s) o h = un_long p s o
instr_long (instr.Bin p s) o h = bin_long p s o
instr_long (instr.Cast s) o h = cast_long s o
instr_long (instr.Jmp to) o h = one_long (codes "JMP") to (omega arith) h
instr_long (instr.Jz to) o h = one_long (codes "JZ") to (omega arith) h
instr_long (instr.Call to) o h = one_long (codes "CALL") to (omega arith) h
instr_long instr.Ret o h = omega arith
instr_long (instr.Take a) o h = one_long (codes "TAKE") a (omega arith) h
instr_long (instr.Lock m) o h = one_long (codes "LOCK") m (omega arith) h
instr_long (instr.Unlock m) o h = one_long (codes "UNLOCK") m (omega arith) h
instr_long (instr.Out w a) o h = two_long (codes "OUT") w a (omega arith) h.0 h.1
instr_long (instr.Bclr b) o h = one_long (codes "BCLR") b (omega arith) h
instr_long (instr.Bput b) o h = one_long (codes "BPUT") b (omega arith) h
instr_long (instr.Badd b) o h = one_long (codes "BADD") b (omega arith) h
instr_long (instr.Bget b) o h = one_long (codes "BGET") b (omega arith) h
instr_long (instr.Bcnt b) o h = one_long (codes "BCNT") b (omega arith) h

-- ---- all lines

texts_long : {A : Type 0} (f : A → Bytes) (put : A → Known → Known) (Fits : Known → A → Type 0) → ((s : Known) (x : A) → Fits s x → length (f x) ≤ 41) → (xs : List A) (s : Known) → AllFit put Fits s xs → length (texts f xs) ≤ 41 * length xs
texts_long f put Fits each [] s h = omega arith
texts_long f put Fits each (x ∷ xs) s h =
    let a = length-append (f x) (texts f xs) in
    let b : length (f x) ≤ 41 = each s x h.0 in
    let c = texts_long f put Fits each xs (put x s) h.1 in
    omega (arith, a, b, c)

number_long : (w : Bytes) (n : ℕ) → length w ≤ 8 → n ≤ most_words → length (number_text w n) ≤ 41
number_long w n k h = let l = few_length w (n ∷ []) (h, tt) in omega (arith, l, k)

buffer_long : (b : Buffer) → b.width ≤ most_words → b.bound ≤ most_words → length (buffer_text b) ≤ 41
buffer_long b h g = let l = few_length (codes "buffer") (b.width ∷ b.bound ∷ []) (h, (g, tt)) in omega (arith, l)

head_long : (t : Task) (s : Known) → FitsTask s t → length (written (task_line t)) ≤ 41
head_long t s h =
    let rest : List ℕ = t.message ∷ t.room ∷ length t.buffers ∷ length t.code ∷ [] in
    let l = line_length (codes "task") (map natural (t.priority ∷ rest)) in
    let p : t.priority ≤ 255 = h.priority in
    let d : length (decimal t.priority) ≤ 3 = length-decimal-le 3 t.priority (omega arith) (omega (arith, p)) (omega (arith, p)) in
    let r = few_spaced rest (h.message.1, (h.room, (h.few_buffers, (h.few_code, tt)))) in
    omega (arith, l, d, r)

task_long : (t : Task) (s : Known) → FitsTask s t → length (task_text t) ≤ 41 * (1 + length t.buffers + length t.code)
task_long t s h =
    let a : length (written (task_line t)) ≤ 41 = head_long t s h in
    let b : length (texts buffer_text t.buffers) ≤ 41 * length t.buffers =
    texts_long buffer_text put_buffer FitsBuffer (λ s x g. buffer_long x g.0.1 g.1) t.buffers (begin_task t s) h.buffers in
    let c : length (texts instr_text t.code) ≤ 41 * length t.code =
    texts_long instr_text put_instr FitsInstr (λ s x g. instr_long x g.operands g.small) t.code (with_buffers t s) h.code in
    let e = length-append (written (task_line t)) (texts buffer_text t.buffers) in
    let f = length-append (written (task_line t) ++ texts buffer_text t.buffers) (texts instr_text t.code) in
    omega (arith, a, b, c, e, f)

abbrev buffers_in : List Task → ℕ
buffers_in ts = sum (map (λ t. length t.buffers) ts)

abbrev code_in : List Task → ℕ
code_in ts = sum (map (λ t. length t.code) ts)

tasks_long : (ts : List Task) (s : Known) → AllFit put_task FitsTask s ts → length (texts task_text ts) ≤ 41 * (length ts + buffers_in ts + code_in ts)
tasks_long [] s h = omega arith
tasks_long (t ∷ ts) s h =
    let a = length-append (task_text t) (texts task_text ts) in
    let b = task_long t s h.0 in
    let c = tasks_long ts (put_task t s) h.1 in
    let d : buffers_in (t ∷ ts) ≡ length t.buffers + buffers_in ts = cons_sum (length t.buffers) (map (λ t. length t.buffers) ts) in
    let e : code_in (t ∷ ts) ≡ length t.code + code_in ts = cons_sum (length t.code) (map (λ t. length t.code) ts) in
    omega (arith, a, b, c, d, e)

counted_long : {A : Type 0} (w : Bytes) (f : A → Bytes) (xs : List A) (n : ℕ) → length w ≤ 8 → length xs ≤ most_words → length (texts f xs) ≤ 41 * n → length (counted w f xs) ≤ 41 * (1 + n)
counted_long w f xs n k h g =
    let a : length (written (with_numbers w (length xs ∷ []))) ≤ 41 = number_long w (length xs) k h in
    let b = length-append (written (with_numbers w (length xs ∷ []))) (texts f xs) in
    omega (arith, a, b, g)

five_long : (a b c d e : Bytes) → length (a ++ b ++ c ++ d ++ e) ≡ length a + length b + length c + length d + length e
five_long a b c d e =
    let p = length-append a b in
    let q = length-append (a ++ b) c in
    let r = length-append (a ++ b ++ c) d in
    let s = length-append (a ++ b ++ c ++ d) e in
    omega (arith, p, q, r, s)

program_long : (p : Program) → FitsProgram p → length (listing p) ≤ 41 * (5 + length p.monitors + length p.outputs + length p.tasks + buffers_in p.tasks + code_in p.tasks)
program_long p h =
    let ms : Bytes = counted (codes "monitors") (number_text (codes "monitor")) p.monitors in
    let os : Bytes = counted (codes "outputs") (number_text (codes "output")) p.outputs in
    let ts : Bytes = counted (codes "tasks") task_text p.tasks in
    let a : length ms ≤ 41 * (1 + length p.monitors) =
    counted_long (codes "monitors") (number_text (codes "monitor")) p.monitors (length p.monitors) (omega arith) h.few_monitors
    (texts_long (number_text (codes "monitor")) put_monitor IsFew (λ s n g. number_long (codes "monitor") n (omega arith) g) p.monitors fresh h.monitors) in
    let b : length os ≤ 41 * (1 + length p.outputs) =
    counted_long (codes "outputs") (number_text (codes "output")) p.outputs (length p.outputs) (omega arith) h.few_outputs
    (texts_long (number_text (codes "output")) put_output IsFew (λ s n g. number_long (codes "output") n (omega arith) g) p.outputs (with_monitors p.monitors) h.outputs) in
    let c : length ts ≤ 41 * (1 + (length p.tasks + buffers_in p.tasks + code_in p.tasks)) =
    counted_long (codes "tasks") task_text p.tasks (length p.tasks + buffers_in p.tasks + code_in p.tasks) (omega arith) h.few_tasks
    (tasks_long p.tasks (with_outputs p.monitors p.outputs) h.tasks) in
    let d = five_long (codes "tower-listing 1\n") ms os ts (codes "end\n") in
    omega (arith, a, b, c, d)

pub listing_long : ListingIsShort
listing_long p h = program_long p (keeps_fits p h.rules h.priorities)
