-- The kinds of items: monitors, outputs, buffers, instructions, tasks.
use Rattle.std.proofs.Common.{◌≡◌, ◌∙◌, ℕ, zero, suc, ◌+◌, ◌*◌, ◌<◌, ◌≤◌, ◌^◌, ℤ, pos, negsuc, neg_ℤ, List, [], ◌∷◌, ◌++◌, length, map, Bool, true, false, not, Option, Some, None, Ok, Err, refl, sym, ap, subst, arith, eqb, replicate, slice_get, decimal, append_assoc, length-append}
use Rattle.std.specs.Prelude.{codes, ◌≤ℤ◌, ◌<ℤ◌}
use Rattle.std.specs.Fmt.{signed_decimal}
use Rattle.std.proofs.lemmas.Int.{ints}
use Rattle.std.specs.List.{join_with_byte}
use Rattle.tower_types.specs.declared.scalar.Scalar.{Scalar}
use Rattle.tower_types.specs.declared.scalar.Scalar.TheVariants as scalars
use Rattle.tower_types.specs.declared.scalar.BinOp.{BinOp}
use Rattle.tower_types.specs.declared.scalar.BinOp.TheVariants as op
use Rattle.tower_types.specs.declared.scalar.UnOp.{UnOp}
use Rattle.tower_types.specs.declared.scalar.UnOp.TheVariants as un
use Rattle.tower_syntax.specs.Words.{binary_word, unary_word}
use Rattle.task_code.specs.declared.program.Buffer.{Buffer}
use Rattle.task_code.specs.declared.program.Task.{Task}
use Rattle.task_code.specs.declared.program.Instr.{Instr}
use Rattle.task_code.specs.declared.program.Instr.TheVariants as instr
use Rattle.task_code.specs.Rules.{most_words, most_instructions, IsCount, IsScalar, IsBuffer}
use Rattle.task_listing.specs.declared.kind.Kind.{Kind}
use Rattle.task_listing.specs.declared.kind.Kind.TheVariants as kind
use Rattle.task_listing.specs.Lines.{Bytes}
use Rattle.task_listing.specs.Numbers.{has_blank}
use Rattle.task_listing.specs.Spelling.{text, scalar_text, with_numbers, words_of}
use Rattle.task_listing.specs.Listing.{task_line}
use Rattle.task_listing.specs.Context.{counted_to, numbers, behind}
use Rattle.task_listing.specs.Draft.{ended_task, begun_task, numbered, with_instr}
use Rattle.task_listing.specs.Answers.{Answer, count_line, buffer_line, instr_line}
use Rattle.task_listing.specs.Answers.{task_line as read_task_line}
use Rattle.task_listing.specs.Judging.{State, next_kind, walk, marked, fault_in, keeps, is_zero, is_misplaced}
use Rattle.task_listing.specs.InstrRows.{IsOperands, IsSmall}
use Rattle.task_listing.proofs.Spelled.{instr_is, numbers_text, count_line_is, buffer_line_is, task_line_is}
use Rattle.task_listing.proofs.Backs.{ne_eqb, decimal_unblank, instr_back, count_line_back, buffer_line_back, task_line_back, numbers_back, AllSmall}
use Rattle.task_listing.proofs.Joined.{AreClean, words_joined, AllNoLf, joined_no_lf, all_no_lf}
use Rattle.task_listing.proofs.Runs.{spelled, Known, at, IsWhole, First, first_of, line_on, Begins, Block, flat, puts, AllFit, many_on, Many, many_of, many_behind, many_clean, numbers_clean, numbers_split, Header, ok_of}

-- ---- monitors and outputs

abbrev pub number_lines : Bytes → ℕ → List Bytes
number_lines head n = spelled (with_numbers head (n ∷ [])) ∷ []

abbrev pub IsFew : Known → ℕ → Type 0
IsFew s n = n ≤ most_words

abbrev pub put_monitor : ℕ → Known → Known
put_monitor n s = record s { monitors = s.monitors ++ n ∷ []; words = counted_to most_words (s.words + n) }

abbrev pub put_output : ℕ → Known → Known
put_output n s = record s { outputs = s.outputs ++ n ∷ [] }

number_small : (n : ℕ) → n ≤ most_words → AllSmall (n ∷ [])
number_small n h = (omega (arith, h), tt)

abbrev behind_numbers : Kind → List Kind → Known → List ℕ → State
behind_numbers k ks s ns = record { context = behind k ns (at ks s).context; place = None; draft = s.draft }

pub monitor_takes : (m : ℕ) (s : Known) (ks : List Kind) (n : ℕ) (rest : List Bytes) → IsFew s m → walk (at (kind.Monitor ∷ ks) s) n (number_lines (codes "monitor") m ++ rest) ≡ walk (at ks (put_monitor m s)) (n + 1) rest
monitor_takes m s ks n rest h =
    line_on kind.Monitor ks s (at ks (put_monitor m s)) n (numbers_text (codes "monitor") (m ∷ [])) rest (numbers_split (codes "monitor") (m ∷ []) refl (number_small m h))
    (ap fault_in (count_line_back (codes "monitor") m h)) (ap (behind_numbers kind.Monitor ks s) (sym (numbers_back (codes "monitor") (m ∷ []) (number_small m h))))

number_begins : (head : Bytes) (s : Known) (ls : List Bytes) (here rest : List Bytes) → ls ≡ join_with_byte 32 here ∷ rest → fault_in (count_line head here) ≡ None → Begins (number_lines head) (IsFew s) ls
number_begins head s ls here rest same right =
    let m = ok_of (count_line head here) right in
    let c = count_line_is head here m.0 m.1 in
    record { item = m.0; rest = rest; fits = c.0; same = same ∙ ap (λ ws. join_with_byte 32 ws ∷ rest) c.1 }

pub monitor_begins : (s : Known) (ks : List Kind) (n : ℕ) (ls : List Bytes) (t : State) → walk (at (kind.Monitor ∷ ks) s) n ls ≡ Ok t → IsWhole t → Begins (number_lines (codes "monitor")) (IsFew s) ls
monitor_begins s ks n ls t h w = let f = first_of kind.Monitor ks s n ls t h w in number_begins (codes "monitor") s ls f.here f.rest f.same f.right

number_clean : (head : Bytes) (n : ℕ) → has_blank head ≡ false → n ≤ most_words → AllNoLf (number_lines head n)
number_clean head n e h = (joined_no_lf (numbers_text head (n ∷ [])) (numbers_clean head (n ∷ []) e (number_small n h)), tt)

pub monitor_clean : (s : Known) (n : ℕ) → IsFew s n → AllNoLf (number_lines (codes "monitor") n)
monitor_clean s n h = number_clean (codes "monitor") n refl h

pub output_clean : (s : Known) (n : ℕ) → IsFew s n → AllNoLf (number_lines (codes "output") n)
output_clean s n h = number_clean (codes "output") n refl h

abbrev pub monitor_block : Block kind.Monitor ℕ
monitor_block = record { lines = number_lines (codes "monitor"); Fits = IsFew; put = put_monitor; takes = monitor_takes; begins = monitor_begins; clean = monitor_clean }

pub output_takes : (m : ℕ) (s : Known) (ks : List Kind) (n : ℕ) (rest : List Bytes) → IsFew s m → walk (at (kind.Output ∷ ks) s) n (number_lines (codes "output") m ++ rest) ≡ walk (at ks (put_output m s)) (n + 1) rest
output_takes m s ks n rest h =
    line_on kind.Output ks s (at ks (put_output m s)) n (numbers_text (codes "output") (m ∷ [])) rest (numbers_split (codes "output") (m ∷ []) refl (number_small m h))
    (ap fault_in (count_line_back (codes "output") m h)) (ap (behind_numbers kind.Output ks s) (sym (numbers_back (codes "output") (m ∷ []) (number_small m h))))

pub output_begins : (s : Known) (ks : List Kind) (n : ℕ) (ls : List Bytes) (t : State) → walk (at (kind.Output ∷ ks) s) n ls ≡ Ok t → IsWhole t → Begins (number_lines (codes "output")) (IsFew s) ls
output_begins s ks n ls t h w = let f = first_of kind.Output ks s n ls t h w in number_begins (codes "output") s ls f.here f.rest f.same f.right

abbrev pub output_block : Block kind.Output ℕ
output_block = record { lines = number_lines (codes "output"); Fits = IsFew; put = put_output; takes = output_takes; begins = output_begins; clean = output_clean }

pub monitors_header : Header kind.Monitors kind.Monitor (codes "monitors")
monitors_header = record { clean = refl; judges = λ ws. refl; calls = λ m ks s n h. ap (behind_numbers kind.Monitors ks s) (sym (numbers_back (codes "monitors") (m ∷ []) (h, tt))) }

pub outputs_header : Header kind.Outputs kind.Output (codes "outputs")
outputs_header = record { clean = refl; judges = λ ws. refl; calls = λ m ks s n h. ap (behind_numbers kind.Outputs ks s) (sym (numbers_back (codes "outputs") (m ∷ []) (h, tt))) }

pub tasks_header : Header kind.Tasks kind.Task (codes "tasks")
tasks_header = record { clean = refl; judges = λ ws. refl; calls = λ m ks s n h. ap (behind_numbers kind.Tasks ks s) (sym (numbers_back (codes "tasks") (m ∷ []) (h, tt))) }

-- ---- buffers

abbrev pub buffer_lines : Buffer → List Bytes
buffer_lines b = spelled (with_numbers (codes "buffer") (b.width ∷ b.bound ∷ [])) ∷ []

abbrev pub put_buffer : Buffer → Known → Known
put_buffer b s = record s { words = counted_to most_words (s.words + b.bound * b.width); draft = record s.draft { buffers = s.draft.buffers ++ b ∷ [] } }

abbrev pub FitsBuffer : Known → Buffer → Type 0
FitsBuffer s b = IsBuffer b

abbrev behind_buffer : List Kind → Known → Bool → ℕ → List ℕ → State
behind_buffer ks s none n ns = record { context = behind kind.Buffer ns (at ks s).context; place = marked None none n; draft = numbered kind.Buffer s.head ns s.draft }

not_zero : (m : ℕ) → 1 ≤ m → eqb m 0 ≡ false
not_zero m h = ne_eqb m 0 (λ e. omega (arith, h, e))

pub buffer_takes : (b : Buffer) (s : Known) (ks : List Kind) (n : ℕ) (rest : List Bytes) → FitsBuffer s b → walk (at (kind.Buffer ∷ ks) s) n (buffer_lines b ++ rest) ≡ walk (at ks (put_buffer b s)) (n + 1) rest
buffer_takes b s ks n rest h =
    let small : AllSmall (b.width ∷ b.bound ∷ []) = (omega (arith, h.0.1), (omega (arith, h.1), tt)) in
    let e = numbers_back (codes "buffer") (b.width ∷ b.bound ∷ []) small in
    line_on kind.Buffer ks s (at ks (put_buffer b s)) n (numbers_text (codes "buffer") (b.width ∷ b.bound ∷ [])) rest (numbers_split (codes "buffer") (b.width ∷ b.bound ∷ []) refl small)
    (ap fault_in (buffer_line_back b.width b.bound h.0.1 h.1))
    (ap (λ z. behind_buffer ks s z n (b.width ∷ b.bound ∷ [])) (sym (not_zero b.width h.0.0)) ∙ ap (λ ns. behind_buffer ks s (is_zero (slice_get ns 0)) n ns) (sym e))

some_positive : (m : ℕ) → eqb m 0 ≡ false → 1 ≤ m
some_positive zero h = cc
some_positive (suc m) h = omega arith

pub buffer_begins : (s : Known) (ks : List Kind) (n : ℕ) (ls : List Bytes) (t : State) → walk (at (kind.Buffer ∷ ks) s) n ls ≡ Ok t → IsWhole t → Begins buffer_lines (FitsBuffer s) ls
buffer_begins s ks n ls t h w =
    let f = first_of kind.Buffer ks s n ls t h w in
    let m = ok_of (buffer_line f.here) f.right in
    let c = buffer_line_is f.here m.0.0 m.0.1 m.1 in
    let small : AllSmall (m.0.0 ∷ m.0.1 ∷ []) = (omega (arith, c.0), (omega (arith, c.1), tt)) in
    let e : numbers f.here ≡ m.0.0 ∷ m.0.1 ∷ [] = ap numbers c.2 ∙ numbers_back (codes "buffer") (m.0.0 ∷ m.0.1 ∷ []) small in
    let z : eqb m.0.0 0 ≡ false = ap (λ ns. is_zero (slice_get ns 0)) (sym e) ∙ f.kept in
    record {
      item = record { width = m.0.0; bound = m.0.1 };
      rest = f.rest;
      fits = ((some_positive m.0.0 z, c.0), c.1);
      same = f.same ∙ ap (λ ws. join_with_byte 32 ws ∷ f.rest) c.2;
    }

pub buffer_clean : (s : Known) (b : Buffer) → FitsBuffer s b → AllNoLf (buffer_lines b)
buffer_clean s b h =
    let small : AllSmall (b.width ∷ b.bound ∷ []) = (omega (arith, h.0.1), (omega (arith, h.1), tt)) in
    (joined_no_lf (numbers_text (codes "buffer") (b.width ∷ b.bound ∷ [])) (numbers_clean (codes "buffer") (b.width ∷ b.bound ∷ []) refl small), tt)

abbrev pub buffer_block : Block kind.Buffer Buffer
buffer_block = record { lines = buffer_lines; Fits = FitsBuffer; put = put_buffer; takes = buffer_takes; begins = buffer_begins; clean = buffer_clean }

-- ---- instructions

abbrev pub instr_lines : Instr → List Bytes
instr_lines i = spelled (words_of i) ∷ []

abbrev pub put_instr : Instr → Known → Known
put_instr i s = record s { draft = record s.draft { code = s.draft.code ++ i ∷ [] } }

pub record FitsInstr (s : Known) (i : Instr) : Type 0 where
  pub operands : IsOperands i
  pub small : IsSmall i
  pub kept : keeps s.monitors s.outputs s.head i ≡ true

scalar_clean : (s : Scalar) → IsScalar s → has_blank (scalar_text s) ≡ false
scalar_clean scalars.Bool h = refl
scalar_clean scalars.U8 h = refl
scalar_clean scalars.U16 h = refl
scalar_clean scalars.U32 h = refl
scalar_clean scalars.U64 h = refl
scalar_clean scalars.I8 h = refl
scalar_clean scalars.I16 h = refl
scalar_clean scalars.I32 h = refl
scalar_clean scalars.I64 h = refl
scalar_clean (scalars.Ix n) h = decimal_unblank n (omega (arith, h.1))

unary_clean : (o : UnOp) → has_blank (unary_word o) ≡ false
unary_clean un.Not = refl
unary_clean un.Neg = refl

binary_clean : (o : BinOp) → has_blank (binary_word o) ≡ false
binary_clean op.Add = refl
binary_clean op.Sub = refl
binary_clean op.Mul = refl
binary_clean op.Div = refl
binary_clean op.Rem = refl
binary_clean op.And = refl
binary_clean op.Or = refl
binary_clean op.Xor = refl
binary_clean op.Eq = refl
binary_clean op.Less = refl
binary_clean op.LessEq = refl
binary_clean op.Both = refl
binary_clean op.Either = refl

clean : (n : ℕ) → n < 2 ^ 32 → has_blank (decimal n) ≡ false
clean n h = decimal_unblank n (omega (arith, h))

literal_clean : (z : ℤ) → (neg_ℤ (pos (2 ^ 63)) ≤ℤ z) × (z <ℤ pos (2 ^ 64)) → has_blank (signed_decimal z) ≡ false
literal_clean (pos n) h = decimal_unblank n (omega (arith, ints, h.1))
literal_clean (negsuc m) h = decimal_unblank (suc m) (omega (arith, ints, h.0))

pub instr_clean : (i : Instr) → IsOperands i → IsSmall i → AreClean (map text (words_of i))
instr_clean (instr.Push n) o h = (refl, (literal_clean n o, tt))
instr_clean instr.Drop o h = (refl, tt)
instr_clean instr.Dup o h = (refl, tt)
instr_clean (instr.Ld a) o h = (refl, (clean a h, tt))
instr_clean (instr.St a) o h = (refl, (clean a h, tt))
instr_clean (instr.Ldx a n) o h = (refl, (clean a h.0, (clean n h.1, tt)))
instr_clean (instr.Stx a n) o h = (refl, (clean a h.0, (clean n h.1, tt)))
instr_clean (instr.Ldm m a n) o h = (refl, (clean m h.0, (clean a h.1, (clean n h.2, tt))))
instr_clean (instr.Stm m a n) o h = (refl, (clean m h.0, (clean a h.1, (clean n h.2, tt))))
instr_clean (instr.Un w t) o h = (refl, (unary_clean w, (scalar_clean t o, tt)))
instr_clean (instr.Bin w t) o h = (refl, (binary_clean w, (scalar_clean t o, tt)))
instr_clean (instr.Cast t) o h = (refl, (scalar_clean t o, tt))
instr_clean (instr.Jmp to) o h = (refl, (clean to h, tt))
instr_clean (instr.Jz to) o h = (refl, (clean to h, tt))
instr_clean (instr.Call to) o h = (refl, (clean to h, tt))
instr_clean instr.Ret o h = (refl, tt)
instr_clean (instr.Take a) o h = (refl, (clean a h, tt))
instr_clean (instr.Lock m) o h = (refl, (clean m h, tt))
instr_clean (instr.Unlock m) o h = (refl, (clean m h, tt))
instr_clean (instr.Out p a) o h = (refl, (clean p h.0, (clean a h.1, tt)))
instr_clean (instr.Bclr b) o h = (refl, (clean b h, tt))
instr_clean (instr.Bput b) o h = (refl, (clean b h, tt))
instr_clean (instr.Badd b) o h = (refl, (clean b h, tt))
instr_clean (instr.Bget b) o h = (refl, (clean b h, tt))
instr_clean (instr.Bcnt b) o h = (refl, (clean b h, tt))

abbrev behind_instr : List Kind → Known → ℕ → Answer (Option Instr) → State
behind_instr ks s n r = record { context = (at ks s).context; place = marked None (is_misplaced (at ks s).context r) n; draft = with_instr r s.draft }

pub instr_takes : (i : Instr) (s : Known) (ks : List Kind) (n : ℕ) (rest : List Bytes) → FitsInstr s i → walk (at (kind.Instruction ∷ ks) s) n (instr_lines i ++ rest) ≡ walk (at ks (put_instr i s)) (n + 1) rest
instr_takes i s ks n rest h =
    let e = instr_back i h.operands h.small in
    line_on kind.Instruction ks s (at ks (put_instr i s)) n (map text (words_of i)) rest (words_joined (map text (words_of i)) (instr_clean i h.operands h.small)) (ap fault_in e)
    (ap (λ b. record { context = (at ks s).context; place = marked None (not b) n; draft = record s.draft { code = s.draft.code ++ i ∷ [] } }) (sym h.kept) ∙ ap (behind_instr ks s n) (sym e))

-- what a line of an instruction says that keeps the rules
record Kept (s : Known) (r : Answer (Option Instr)) : Type 0 where
  read : Instr
  is : r ≡ Ok (Some read)
  kept : keeps s.monitors s.outputs s.head read ≡ true

not_false : (b : Bool) → not b ≡ false → b ≡ true
not_false true h = refl
not_false false h = cc

kept_of : (s : Known) (ks : List Kind) (r : Answer (Option Instr)) → fault_in r ≡ None → is_misplaced (at ks s).context r ≡ false → Kept s r
kept_of s ks (Ok (Some i)) h g = record { read = i; is = refl; kept = not_false _ g }
kept_of s ks (Ok None) h g = cc
kept_of s ks (Err k) h g = cc

pub instr_begins : (s : Known) (ks : List Kind) (n : ℕ) (ls : List Bytes) (t : State) → walk (at (kind.Instruction ∷ ks) s) n ls ≡ Ok t → IsWhole t → Begins instr_lines (FitsInstr s) ls
instr_begins s ks n ls t h w =
    let f = first_of kind.Instruction ks s n ls t h w in
    let k = kept_of s ks (instr_line f.here) f.right f.kept in
    let i = instr_is f.here k.read k.is in
    record { item = k.read; rest = f.rest; fits = record { operands = i.operands; small = i.small; kept = k.kept }; same = f.same ∙ ap (λ ws. join_with_byte 32 ws ∷ f.rest) i.same }

pub instr_line_clean : (s : Known) (i : Instr) → FitsInstr s i → AllNoLf (instr_lines i)
instr_line_clean s i h = (joined_no_lf (map text (words_of i)) (instr_clean i h.operands h.small), tt)

abbrev pub instr_block : Block kind.Instruction Instr
instr_block = record { lines = instr_lines; Fits = FitsInstr; put = put_instr; takes = instr_takes; begins = instr_begins; clean = instr_line_clean }

-- ---- tasks

-- a task begins with these numbers
abbrev pub begin : ℕ → ℕ → ℕ → ℕ → ℕ → Known → Known
begin p m r b c s = record s {
  head = record { message = m; room = r; buffers = b; code = c };
  words = counted_to most_words (s.words + r);
  instructions = counted_to most_instructions (s.instructions + c);
  draft = begun_task p (ended_task s.head s.draft);
}

abbrev pub begin_task : Task → Known → Known
begin_task t s = begin t.priority t.message t.room (length t.buffers) (length t.code) s

abbrev pub with_buffers : Task → Known → Known
with_buffers t s = puts put_buffer t.buffers (begin_task t s)

abbrev pub put_task : Task → Known → Known
put_task t s = puts put_instr t.code (with_buffers t s)

abbrev pub task_lines : Task → List Bytes
task_lines t = spelled (task_line t) ∷ (flat buffer_lines t.buffers ++ flat instr_lines t.code)

pub record FitsTask (s : Known) (t : Task) : Type 0 where
  pub priority : t.priority ≤ 255
  pub message : IsCount t.message
  pub room : t.room ≤ most_words
  pub few_buffers : length t.buffers ≤ most_words
  pub few_code : length t.code ≤ most_words
  pub buffers : AllFit put_buffer FitsBuffer (begin_task t s) t.buffers
  pub code : AllFit put_instr FitsInstr (with_buffers t s) t.code

abbrev behind_task : List Kind → Known → Bool → ℕ → List ℕ → State
behind_task ks s none n ns = record { context = behind kind.Task ns (at ks s).context; place = marked None none n; draft = numbered kind.Task s.head ns s.draft }

begun_is : (ks : List Kind) (s : Known) (n p m r b c : ℕ) → p ≤ 255 → 1 ≤ m → m ≤ most_words → r ≤ most_words → b ≤ most_words → c ≤ most_words
    → at ((replicate b kind.Buffer ++ replicate c kind.Instruction) ++ ks) (begin p m r b c s) ≡ next_kind kind.Task (at ks s) n (numbers_text (codes "task") (p ∷ m ∷ r ∷ b ∷ c ∷ []))
begun_is ks s n p m r b c h1 h2 h3 h4 h5 h6 =
    let e = numbers_back (codes "task") (p ∷ m ∷ r ∷ b ∷ c ∷ []) (omega (arith, h1), (omega (arith, h3), (omega (arith, h4), (omega (arith, h5), (omega (arith, h6), tt))))) in
    ap (λ z. behind_task ks s z n (p ∷ m ∷ r ∷ b ∷ c ∷ [])) (sym (not_zero m h2)) ∙ ap (λ ns. behind_task ks s (is_zero (slice_get ns 1)) n ns) (sym e)

pub task_takes : (t : Task) (s : Known) (ks : List Kind) (n : ℕ) (rest : List Bytes) → FitsTask s t → walk (at (kind.Task ∷ ks) s) n (task_lines t ++ rest) ≡ walk (at ks (put_task t s)) (n + length (task_lines t)) rest
task_takes t s ks n rest h =
    let ns = t.priority ∷ t.message ∷ t.room ∷ length t.buffers ∷ length t.code ∷ [] in
    let small : AllSmall ns = (omega (arith, h.priority), (omega (arith, h.message.1), (omega (arith, h.room), (omega (arith, h.few_buffers), (omega (arith, h.few_code), tt))))) in
    let rb = replicate (length t.buffers) kind.Buffer in
    let rc = replicate (length t.code) kind.Instruction in
    let bs = flat buffer_lines t.buffers in
    let cs = flat instr_lines t.code in
    let e : n + 1 + length bs + length cs ≡ n + length (task_lines t) = omega (arith, length-append bs cs) in
    line_on kind.Task ks s (at ((rb ++ rc) ++ ks) (begin_task t s)) n (numbers_text (codes "task") ns) ((bs ++ cs) ++ rest) (numbers_split (codes "task") ns refl small)
    (ap fault_in (task_line_back t.priority t.message t.room (length t.buffers) (length t.code) h.priority h.message.1 h.room h.few_buffers h.few_code))
    (begun_is ks s n t.priority t.message t.room (length t.buffers) (length t.code) h.priority h.message.0 h.message.1 h.room h.few_buffers h.few_code)
    ∙ (λ i. walk (at (append_assoc rb rc ks i) (begin_task t s)) (n + 1) (append_assoc bs cs rest i))
    ∙ many_on buffer_block t.buffers (begin_task t s) (rc ++ ks) (n + 1) (cs ++ rest) h.buffers
    ∙ many_on instr_block t.code (with_buffers t s) ks (n + 1 + length bs) rest h.code
    ∙ ap (λ n. walk (at ks (put_task t s)) n rest) e

-- the numbers of the first line of a task that keeps the rules
record Numbers (here : List Bytes) : Type 0 where
  p : ℕ
  m : ℕ
  r : ℕ
  b : ℕ
  c : ℕ
  few_priority : p ≤ 255
  some_message : 1 ≤ m
  few_message : m ≤ most_words
  few_room : r ≤ most_words
  few_buffers : b ≤ most_words
  few_code : c ≤ most_words
  same : here ≡ numbers_text (codes "task") (p ∷ m ∷ r ∷ b ∷ c ∷ [])

numbers_by : (here : List Bytes) (x : ℕ × ((ℕ × ℕ) × (ℕ × ℕ))) → read_task_line here ≡ Ok x → is_zero (slice_get (numbers here) 1) ≡ false → Numbers here
numbers_by here (p, ((m, r), (b, c))) h kept =
    let l = task_line_is here p m r b c h in
    let e : numbers here ≡ p ∷ m ∷ r ∷ b ∷ c ∷ [] =
    ap numbers l.same ∙ numbers_back (codes "task") (p ∷ m ∷ r ∷ b ∷ c ∷ []) (omega (arith, l.few_priority), (omega (arith, l.few_message), (omega (arith, l.few_room), (omega (arith, l.few_buffers), (omega (arith, l.few_code), tt))))) in
    let z : eqb m 0 ≡ false = ap (λ ns. is_zero (slice_get ns 1)) (sym e) ∙ kept in
    record {
      p = p;
      m = m;
      r = r;
      b = b;
      c = c;
      few_priority = l.few_priority;
      some_message = some_positive m z;
      few_message = l.few_message;
      few_room = l.few_room;
      few_buffers = l.few_buffers;
      few_code = l.few_code;
      same = l.same;
    }

-- a task of these parts
abbrev task_of : {here : List Bytes} → Numbers here → List Buffer → List Instr → Task
task_of x bs cs = record { priority = x.p; message = x.m; room = x.r; buffers = bs; code = cs }

abbrev start_of : {here : List Bytes} → Numbers here → Known → Known
start_of x s = begin x.p x.m x.r x.b x.c s

behind_first : (s : Known) (ks : List Kind) (n : ℕ) (ls : List Bytes) (t : State) → walk (at (kind.Task ∷ ks) s) n ls ≡ Ok t → (f : First kind.Task (at ks s).context ls) (x : Numbers f.here)
    → walk (at (replicate x.b kind.Buffer ++ (replicate x.c kind.Instruction ++ ks)) (start_of x s)) (n + 1) f.rest ≡ Ok t
behind_first s ks n ls t h f x =
    let new = begun_is ks s n x.p x.m x.r x.b x.c x.few_priority x.some_message x.few_message x.few_room x.few_buffers x.few_code ∙ ap (next_kind kind.Task (at ks s) n) (sym x.same) in
    ap (λ ks. walk (at ks (start_of x s)) (n + 1) f.rest) (sym (append_assoc (replicate x.b kind.Buffer) (replicate x.c kind.Instruction) ks))
    ∙ sym (line_on kind.Task ks s (at ((replicate x.b kind.Buffer ++ replicate x.c kind.Instruction) ++ ks) (start_of x s)) n f.here f.rest f.split f.right new)
    ∙ ap (walk (at (kind.Task ∷ ks) s) n) (sym f.same) ∙ h

task_by : (s : Known) (ls here rest : List Bytes) → ls ≡ join_with_byte 32 here ∷ rest → (x : Numbers here) (bs : Many buffer_lines (AllFit put_buffer FitsBuffer (start_of x s)) x.b rest)
    (cs : Many instr_lines (AllFit put_instr FitsInstr (puts put_buffer bs.items (start_of x s))) x.c bs.rest) → Begins task_lines (FitsTask s) ls
task_by s ls here rest e x bs cs = record {
  item = task_of x bs.items cs.items;
  rest = cs.rest;
  fits = record {
    priority = x.few_priority;
    message = (x.some_message, x.few_message);
    room = x.few_room;
    few_buffers = omega (arith, bs.count, x.few_buffers);
    few_code = omega (arith, cs.count, x.few_code);
    buffers = subst (λ s. AllFit put_buffer FitsBuffer s bs.items) start bs.fit;
    code = subst (λ s. AllFit put_instr FitsInstr (puts put_buffer bs.items s) cs.items) start cs.fit;
  };
  same = e ∙ (λ i. join_with_byte 32 (x.same i) ∷ rest)
      ∙ (λ i. spelled (with_numbers (codes "task") (x.p ∷ x.m ∷ x.r ∷ sym bs.count i ∷ sym cs.count i ∷ [])) ∷ bs.same i)
      ∙ ap (λ r. spelled (task_line (task_of x bs.items cs.items)) ∷ flat buffer_lines bs.items ++ r) cs.same
      ∙ ap (λ r. spelled (task_line (task_of x bs.items cs.items)) ∷ r) (sym (append_assoc (flat buffer_lines bs.items) (flat instr_lines cs.items) cs.rest));
}
  where
    start : start_of x s ≡ begin x.p x.m x.r (length bs.items) (length cs.items) s
    start = λ i. begin x.p x.m x.r (sym bs.count i) (sym cs.count i) s

code_by : (s : Known) (ks : List Kind) (n : ℕ) (ls here rest : List Bytes) (t : State) → IsWhole t → ls ≡ join_with_byte 32 here ∷ rest → (x : Numbers here)
    → walk (at (replicate x.b kind.Buffer ++ (replicate x.c kind.Instruction ++ ks)) (start_of x s)) n rest ≡ Ok t → Many buffer_lines (AllFit put_buffer FitsBuffer (start_of x s)) x.b rest → Begins task_lines (FitsTask s) ls
code_by s ks n ls here rest t w e x g bs =
    task_by s ls here rest e x bs
    (many_of instr_block x.c (puts put_buffer bs.items (start_of x s)) ks (n + length (flat buffer_lines bs.items)) bs.rest t (many_behind buffer_block x.b (start_of x s) (replicate x.c kind.Instruction ++ ks) n rest t g bs) w)

lines_by : (s : Known) (ks : List Kind) (n : ℕ) (ls : List Bytes) (t : State) → walk (at (kind.Task ∷ ks) s) n ls ≡ Ok t → IsWhole t → (f : First kind.Task (at ks s).context ls) → Numbers f.here → Begins task_lines (FitsTask s) ls
lines_by s ks n ls t h w f x =
    let g = behind_first s ks n ls t h f x in
    code_by s ks (n + 1) ls f.here f.rest t w f.same x g (many_of buffer_block x.b (start_of x s) (replicate x.c kind.Instruction ++ ks) (n + 1) f.rest t g w)

pub task_begins : (s : Known) (ks : List Kind) (n : ℕ) (ls : List Bytes) (t : State) → walk (at (kind.Task ∷ ks) s) n ls ≡ Ok t → IsWhole t → Begins task_lines (FitsTask s) ls
task_begins s ks n ls t h w =
    let f = first_of kind.Task ks s n ls t h w in
    let o = ok_of (read_task_line f.here) f.right in
    lines_by s ks n ls t h w f (numbers_by f.here o.0 o.1 f.kept)

pub task_clean : (s : Known) (t : Task) → FitsTask s t → AllNoLf (task_lines t)
task_clean s t h =
    let ns = t.priority ∷ t.message ∷ t.room ∷ length t.buffers ∷ length t.code ∷ [] in
    let small : AllSmall ns = (omega (arith, h.priority), (omega (arith, h.message.1), (omega (arith, h.room), (omega (arith, h.few_buffers), (omega (arith, h.few_code), tt))))) in (
      joined_no_lf (numbers_text (codes "task") ns) (numbers_clean (codes "task") ns refl small),
      all_no_lf (flat buffer_lines t.buffers) (flat instr_lines t.code) (many_clean buffer_block t.buffers (begin_task t s) h.buffers) (many_clean instr_block t.code (with_buffers t s) h.code),
    )

abbrev pub task_block : Block kind.Task Task
task_block = record { lines = task_lines; Fits = FitsTask; put = put_task; takes = task_takes; begins = task_begins; clean = task_clean }
